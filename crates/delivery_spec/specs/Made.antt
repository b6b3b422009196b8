-- A fresh pair is what the host's calls make: set up, then any of them but a further set-up, as many as wished.
use Rattle.std.specs.Prelude.{ℕ, ◌≡◌, List, [], length}
use Rattle.pair.specs.Calls.{Whole, HostCall, begun, called, called_all}
use Rattle.pair.specs.Calls.HostCall.{SetUp, Reset, MakeReady, AddRegion, RemoveRegion, PostEntry}
use Rattle.pair.specs.Claims.{SetupSound}
use Rattle.pair.specs.declared.Setup.{Setup}
use Rattle.delivery_spec.specs.Demand.{Fresh, All}

abbrev pub NotSetUp : HostCall → Type 0
NotSetUp (SetUp s) = ⊥
NotSetUp Reset = Unit {0}
NotSetUp MakeReady = Unit {0}
NotSetUp (AddRegion r) = Unit {0}
NotSetUp (RemoveRegion key) = Unit {0}
NotSetUp (PostEntry e) = Unit {0}

-- every call but a set-up
abbrev pub NotSetUpIs : Type 0
NotSetUpIs = (c : HostCall) → (NotSetUp c → (s : Setup) → c ≡ SetUp s → ⊥) × (((s : Setup) → c ≡ SetUp s → ⊥) → NotSetUp c)

abbrev pub NoneSetUp : List HostCall → Type 0
NoneSetUp calls = All NotSetUp calls

-- The tables may have held anything, and calls may have been refused: a pair that is Ready in the end is fresh.
abbrev pub FreshMade : Type 0
FreshMade =
    (s : Setup) (regions entries saved : List (List ℕ)) (calls : List HostCall) → SetupSound s
    → s.service ≡ 0
    → length entries ≡ 16
    → length saved ≡ 16
    → NoneSetUp calls
    → let w = called_all (begun s regions entries saved) calls in
    (w.pair.setup ≡ s) × (w.pair.state ≡ 1 → Fresh w)

-- And make ready, after whichever of them, leaves it Ready.
abbrev pub ReadyMade : Type 0
ReadyMade =
    (s : Setup) (regions entries saved : List (List ℕ)) (calls : List HostCall) → SetupSound s
    → length entries ≡ 16
    → length saved ≡ 16
    → NoneSetUp calls
    → (called (called_all (begun s regions entries saved) calls) MakeReady).pair.state ≡ 1

-- So it is after a reset, whatever the pair has received and its tables hold.
abbrev pub FreshReset : Type 0
FreshReset =
    (w : Whole) (calls : List HostCall) → SetupSound w.pair.setup
    → w.pair.setup.service ≡ 0
    → length w.entries ≡ 16
    → length w.saved ≡ 16
    → NoneSetUp calls
    → let v = called_all (called w Reset) calls in
    (v.pair.setup ≡ w.pair.setup) × (v.pair.state ≡ 1 → Fresh v)
