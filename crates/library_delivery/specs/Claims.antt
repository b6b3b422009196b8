-- Exactly once, in order, for the library: the theorems of delivery over every list of its exported calls.
use Rattle.std.specs.Prelude.{ℕ, ◌≤◌, ◌<◌, ◌^◌, ◌≡◌, List, [], ◌∷◌, ◌++◌, length, get_or, take}
use Rattle.pair.specs.Calls.{HostCall}
use Rattle.pair.specs.Calls.HostCall.{SetUp, Reset, MakeReady}
use Rattle.pair.specs.Claims.{SetupSound}
use Rattle.pair.specs.declared.Setup.{Setup}
use Rattle.responder_spec.specs.Steady.{Steady}
use Rattle.abi_spec.specs.Claims.{InRange}
use Rattle.delivery_spec.specs.Stream.{Message, stream}
use Rattle.delivery_spec.specs.Plain.{Plain, Call, AllInside, plain, start, accepted, execute_all}
use Rattle.delivery_spec.specs.Demand.{Run, run, AllPermitted, AllLongEnough, AllCallsPermitted, waiting_at, Asked}
use Rattle.delivery_spec.specs.Made.{NoneSetUp}
use Rattle.library_delivery.specs.Calls.{Holding, Caller, said, holding, hosting, hosting_all, library_run}

-- The pair's run of what a caller holds, and back.
abbrev pub run_of : Caller → Run
run_of x = record { whole = said x.held; memory = x.memory; completions = x.completions }

abbrev pub caller_of : Run → Caller
caller_of x = record { held = holding x.whole; memory = x.memory; completions = x.completions }

-- From words in range that say a sound reliable pair, whatever it has received, with the packets of a permitted stream:
-- every list of exported calls leaves the words of the pair that the same list of the pair's calls leaves, its tables,
-- memory and completions. Nothing is asked of memory, of the order of the packets, or of the entries.
abbrev pub LibraryRuns : Type 0
LibraryRuns =
    (x : Caller) (ms : List Message) (calls : List Call)
    → let w = said x.held in
    let S = stream w.pair.setup.start ms in
    InRange x.held.words
    → Steady w
    → w.pair.setup.service ≡ 0
    → AllPermitted w.pair.setup w.regions ms
    → AllInside (length S) calls
    → library_run S x calls ≡ caller_of (run S (run_of x) calls)

-- Memory, the completions told, and the words that hold MSN and expected number are the plain run's.
pub record Agrees (x : Caller) (p : Plain) : Type 0 where
  pub memory : x.memory ≡ p.memory
  pub completions : x.completions ≡ p.completions
  pub msn : get_or x.held.words 27 0 ≡ p.msn.0
  pub expected : get_or x.held.words 26 0 ≡ p.expected.0

-- After the list of calls they are the plain run's, and those of its first k packets in order.
abbrev pub DeliversAs : Holding → List Message → List ℕ → List Call → Type 0
DeliversAs h ms m calls =
    let w = said h in
    let s = w.pair.setup in
    let S = stream s.start ms in
    let y = library_run S (record { held = h; memory = m; completions = [] }) calls in
    let p = plain s w.regions S (start s m (waiting_at w)) calls in
    let entries = waiting_at w ++ accepted s w.regions S (start s m (waiting_at w)) calls in
    Agrees y p × (p.k ≤ length S) × Agrees y (execute_all w.regions (start s m entries) (take p.k S))

-- From words in range that say a fresh pair: every list of exported calls does to memory what the plain run does, tells
-- its completions, and leaves its MSN and expected number in the words: the first k packets once each, in order, with the
-- same entries. That is demand 3, for the library as a caller sees it.
abbrev pub LibraryOnce : Type 0
LibraryOnce =
    (h : Holding) (ms : List Message) (m : List ℕ) (calls : List Call)
    → InRange h.words
    → Asked (said h) ms m calls
    → DeliversAs h ms m calls

-- What is held after a set-up on any 30 words and tables of any contents, and any further calls of the host.
abbrev pub set_up_then : Setup → Holding → List HostCall → Holding
set_up_then s h hosts = hosting_all (hosting h (SetUp s)) hosts

-- If the pair is Ready then, it is fresh, and has the numbers of the set-up.
abbrev pub LibraryDelivery : Type 0
LibraryDelivery =
    (h : Holding) (s : Setup) (hosts : List HostCall) (ms : List Message) (m : List ℕ) (calls : List Call)
    → length h.words ≡ 30
    → length h.entries ≡ 16
    → length h.saved ≡ 16
    → SetupSound s
    → s.pkey < 2 ^ 16
    → s.service ≡ 0
    → NoneSetUp hosts
    → let x = set_up_then s h hosts in
    let w = said x in
    get_or x.words 28 0 ≡ 1
    → AllPermitted w.pair.setup w.regions ms
    → AllLongEnough ms (waiting_at w)
    → AllCallsPermitted w.pair.setup w.regions ms (stream w.pair.setup.start ms) (start w.pair.setup m (waiting_at w)) calls
    → (w.pair.setup ≡ s) × DeliversAs x ms m calls

-- A reset leaves what a set-up with the pair's own numbers does: so it is since a reset, whatever came before.
abbrev pub LibraryReset : Type 0
LibraryReset =
    (h : Holding) → InRange h.words → SetupSound (said h).pair.setup → hosting h Reset ≡ hosting h (SetUp (said h).pair.setup)

-- And the exported make ready, after whichever of them, leaves it Ready.
abbrev pub LibraryReady : Type 0
LibraryReady =
    (h : Holding) (s : Setup) (hosts : List HostCall)
    → length h.words ≡ 30
    → length h.entries ≡ 16
    → length h.saved ≡ 16
    → SetupSound s
    → s.pkey < 2 ^ 16
    → NoneSetUp hosts
    → get_or (hosting (set_up_then s h hosts) MakeReady).words 28 0 ≡ 1
