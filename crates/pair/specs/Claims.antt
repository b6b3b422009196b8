-- What is proved of the pair and the host's calls, each statement by a name; the proofs stand in proofs/.
use Rattle.std.specs.Prelude.{ℕ, ◌+◌, ◌%◌, ◌^◌, ◌≤◌, ◌<◌, ◌≡◌, false, cond, eqb, List, [], ◌∷◌, ◌++◌, ◌⊎◌, length, get_or, set, None}
use Rattle.pmtu.specs.Pieces.{pieces}
use Rattle.pmtu.specs.Claims.{IsPmtu}
use Rattle.table.specs.Table.{entry_slot, region_row, entry_row, no_region}
use Rattle.table.specs.View.{region_of, newest_saved}
use Rattle.table.specs.Claims.{RegionFits, EntryFits, Free, HasKey, First, RegionsSound, EntriesSound, SavedSound}
use Rattle.table.specs.declared.Region.{Region}
use Rattle.table.specs.declared.Entry.{Entry}
use Rattle.pair.specs.declared.Setup.{Setup}
use Rattle.pair.specs.declared.Pair.{Pair}
use Rattle.pair.specs.declared.HostOutcome.{HostOutcome}
use Rattle.pair.specs.declared.Status.{Status}
use Rattle.pair.specs.declared.Status.TheVariants as status
use Rattle.pair.specs.Answer.{status_number}
use Rattle.pair.specs.Pair.{blank_pair, fresh_pair, moved}
use Rattle.pair.specs.Sound.{setup_unfit, pair_unsound}
use Rattle.pair.specs.Host.{no_regions, set_up, set_up_regions, reset_to, reset_regions, made_ready, add_status, add_regions, remove_status, remove_regions, posted, post_entries}
use Rattle.pair.specs.View.{held_of, waiting_of, entries_of}
use Rattle.pair.specs.Calls.HostCall.{SetUp, Reset, MakeReady, AddRegion, RemoveRegion, PostEntry}
use Rattle.pair.specs.Calls.{Whole, HostCall, begun, called_all}

-- The answer of each number, listed once more the other way round.
unfoldable pub status_of : ℕ → Status
status_of n =
    cond (eqb n 0) status.Executed
    (cond (eqb n 1) status.Acknowledged
    (cond (eqb n 2) status.ReadAccepted
    (cond (eqb n 3) status.AtomicExecuted
    (cond (eqb n 4) status.DuplicateAnswered
    (cond (eqb n 5) status.Dropped
    (cond (eqb n 6) status.Abandoned
    (cond (eqb n 16) status.SequenceNak
    (cond (eqb n 17) status.InvalidRequestNak
    (cond (eqb n 18) status.AccessNak
    (cond (eqb n 19) status.NotReadyNak
    (cond (eqb n 32) status.ReadUnfinished
    (cond (eqb n 33) status.TableFull
    (cond (eqb n 34) status.OutOfRange
    (cond (eqb n 35) status.OutputShort
    (cond (eqb n 36) status.WrongState
    (cond (eqb n 37) status.NoSuchKey
    (cond (eqb n 38) status.KeyInUse (cond (eqb n 39) status.BadNumber status.Executed))))))))))))))))))

abbrev pub NumberBack : Type 0
NumberBack = (a : Status) → status_of (status_number a) ≡ a

-- So each number is the number of one answer.
abbrev pub OneNumber : Type 0
OneNumber = (a b : Status) → status_number a ≡ status_number b → a ≡ b

-- Numbers that a set-up accepts, listed here once more and not by the definition under test; so are the conditions of
-- soundness and what a fresh pair is.
pub record SetupFit (s : Setup) : Type 0 where
  pub pmtu : IsPmtu s.pmtu
  pub service : (s.service ≡ 0) ⊎ (s.service ≡ 1)
  pub ours : s.ours < 2 ^ 24
  pub theirs : s.theirs < 2 ^ 24
  pub start : s.start.0 < 2 ^ 24
  pub pkey : s.pkey % 2 ^ 15 ≡ 0 → ⊥
  pub timer : s.timer ≤ 31

abbrev pub SetupSound : Setup → Type 0
SetupSound s = SetupFit s × (s.memory ≤ 1048576)

-- An open message: none; a SEND, which holds an entry; a WRITE with bytes to come.
abbrev pub MessageSound : Pair → Type 0
MessageSound q =
    (q.message.kind ≡ 255)
    ⊎ (((q.message.kind ≡ 0) × (1 ≤ q.entries.count) × (q.message.stored ≤ 1048576))
    ⊎ ((q.message.kind ≡ 6)
    × (q.message.stored < q.message.length)
    × (q.message.length ≤ 1048576)
    × (q.message.address + q.message.stored < 2 ^ 64)))

-- A READ being answered: none, or bytes of memory and some of their responses still to send.
abbrev pub ReadSound : Pair → Type 0
ReadSound q =
    (q.read.remaining ≡ 0)
    ⊎ ((q.read.remaining ≤ pieces q.read.length q.setup.pmtu)
    × (q.read.offset + q.read.length ≤ q.setup.memory)
    × (q.read.psn.0 < 2 ^ 24)
    × (q.read.msn.0 < 2 ^ 24))

pub record Sound (q : Pair) : Type 0 where
  pub setup : SetupSound q.setup
  pub state : q.state ≤ 2
  pub expected : q.expected.0 < 2 ^ 24
  pub msn : q.msn.0 < 2 ^ 24
  pub entries : (q.entries.head < 16) × (q.entries.count ≤ 16)
  pub saved : (q.saved.head < 16) × (q.saved.count ≤ 16)
  pub message : MessageSound q
  pub read : ReadSound q

-- The tests that the code makes say so.
abbrev pub SetupTested : Type 0
SetupTested = (s : Setup) → (setup_unfit s ≡ false → SetupFit s) × (SetupFit s → setup_unfit s ≡ false)

abbrev pub Tested : Type 0
Tested = (q : Pair) → (pair_unsound q ≡ false → Sound q) × (Sound q → pair_unsound q ≡ false)

-- A fresh pair, field by field: Init, the numbers of the set-up, the start expected, MSN 0, no NAK mark, no message
-- open, no entry, no READ being answered, no atomic saved.
pub record AsSetUp (s : Setup) (q : Pair) : Type 0 where
  pub setup : q.setup ≡ s
  pub state : q.state ≡ 0
  pub expected : q.expected ≡ s.start
  pub msn : q.msn.0 ≡ 0
  pub nakmark : q.nakmark ≡ false
  pub message : q.message ≡ (record { kind = 255; stored = 0; address = 0; key = 0; length = 0 })
  pub entries : q.entries ≡ (record { head = 0; count = 0 })
  pub read : q.read ≡ (record { remaining = 0; offset = 0; length = 0; psn = record { 0 = 0 }; msn = record { 0 = 0 } })
  pub saved : q.saved ≡ (record { head = 0; count = 0 })

-- An outcome: the number of its answer, and the pair.
abbrev pub Answers : HostOutcome → ℕ → Pair → Type 0
Answers o number q = (status_number o.status ≡ number) × (o.pair ≡ q)

-- Set-up. 39 comes first, whatever the memory; a refused one gives the blank pair and leaves the table.
abbrev pub SetUpBad : Type 0
SetUpBad =
    (s : Setup) (rows : List (List ℕ)) → (SetupFit s → ⊥) → Answers (set_up s) 39 blank_pair × (set_up_regions s rows ≡ rows)

abbrev pub SetUpOver : Type 0
SetUpOver =
    (s : Setup) (rows : List (List ℕ)) → SetupFit s → 1048576 < s.memory
    → Answers (set_up s) 34 blank_pair × (set_up_regions s rows ≡ rows)

abbrev pub SetUpDone : Type 0
SetUpDone =
    (s : Setup) (rows : List (List ℕ)) → SetupSound s
    → (status_number (set_up s).status ≡ 0) × AsSetUp s (set_up s).pair × (set_up_regions s rows ≡ no_regions)

-- Reset, in whatever state; a pair whose set-up numbers no set-up accepts is refused.
abbrev pub ResetDone : Type 0
ResetDone =
    (q : Pair) (rows : List (List ℕ)) → SetupSound q.setup
    → (status_number (reset_to q).status ≡ 0) × AsSetUp q.setup (reset_to q).pair × (reset_regions q rows ≡ no_regions)

abbrev pub ResetNever : Type 0
ResetNever =
    (q : Pair) (rows : List (List ℕ)) → (SetupSound q.setup → ⊥) → Answers (reset_to q) 34 q × (reset_regions q rows ≡ rows)

-- Of two pairs, what neither make ready nor post entry moves, field by field.
pub record Unmoved (old new : Pair) : Type 0 where
  pub setup : new.setup ≡ old.setup
  pub expected : new.expected ≡ old.expected
  pub msn : new.msn ≡ old.msn
  pub nakmark : new.nakmark ≡ old.nakmark
  pub message : new.message ≡ old.message
  pub head : new.entries.head ≡ old.entries.head
  pub read : new.read ≡ old.read
  pub saved : new.saved ≡ old.saved

-- Make ready: the state moves, and nothing else.
abbrev pub ReadyWrong : Type 0
ReadyWrong = (q : Pair) → (q.state ≡ 0 → ⊥) → Answers (made_ready q) 36 q

abbrev pub ReadyUnsound : Type 0
ReadyUnsound = (q : Pair) → q.state ≡ 0 → (Sound q → ⊥) → Answers (made_ready q) 34 q

abbrev pub ReadyDone : Type 0
ReadyDone =
    (q : Pair) → q.state ≡ 0 → Sound q
    → (status_number (made_ready q).status ≡ 0)
    × ((made_ready q).pair.state ≡ 1)
    × ((made_ready q).pair.entries.count ≡ q.entries.count)
    × Unmoved q (made_ready q).pair

-- Add region: 36, 34, 38, 33, in this order, and a refusal leaves the table.
abbrev pub Adds : Pair → List (List ℕ) → Region → ℕ → Type 0
Adds q rows r number = (status_number (add_status q rows r) ≡ number) × (add_regions q rows r ≡ rows)

abbrev pub InUse : ℕ → List (List ℕ) → Type 0
InUse key rows = (i : ℕ) × (i < 16) × HasKey key (get_or rows i [])

abbrev pub Full : List (List ℕ) → Type 0
Full rows = (i : ℕ) → i < 16 → Free (get_or rows i []) → ⊥

-- what may be added, if the table has room
abbrev pub Addable : Pair → Region → Type 0
Addable q r = (q.state ≡ 2 → ⊥) × Sound q × RegionFits q.setup.memory r

abbrev pub AddError : Type 0
AddError = (q : Pair) (rows : List (List ℕ)) (r : Region) → q.state ≡ 2 → Adds q rows r 36

abbrev pub AddRange : Type 0
AddRange =
    (q : Pair) (rows : List (List ℕ)) (r : Region) → (q.state ≡ 2 → ⊥) → (Sound q → ⊥) ⊎ (RegionFits q.setup.memory r → ⊥)
    → Adds q rows r 34

abbrev pub AddUsed : Type 0
AddUsed =
    (q : Pair) (rows : List (List ℕ)) (r : Region) → Addable q r
    → InUse r.key rows
    → Adds q rows r 38

abbrev pub AddFull : Type 0
AddFull =
    (q : Pair) (rows : List (List ℕ)) (r : Region) → Addable q r
    → (InUse r.key rows → ⊥)
    → Full rows
    → Adds q rows r 33

-- A region added is the region of its key; every other key has the region that it had.
abbrev pub AddDone : Type 0
AddDone =
    (q : Pair) (rows : List (List ℕ)) (r : Region) → Addable q r
    → (InUse r.key rows → ⊥)
    → (Full rows → ⊥)
    → length rows ≡ 16
    → (status_number (add_status q rows r) ≡ 0)
    × (region_of r.key (add_regions q rows r) ≡ region_row r)
    × ((key : ℕ) → (key ≡ r.key → ⊥) → region_of key (add_regions q rows r) ≡ region_of key rows)

-- Remove region. In whatever table, it is the first row of the key that is emptied; in a sound one the key is then
-- gone.
abbrev pub RemoveFirst : Type 0
RemoveFirst =
    (rows : List (List ℕ)) (key i : ℕ) → i < 16 → First (HasKey key) rows i
    → (status_number (remove_status rows key) ≡ 0) × (remove_regions rows key ≡ set rows i no_region)

abbrev pub RemoveUnknown : Type 0
RemoveUnknown =
    (rows : List (List ℕ)) (key : ℕ) → (InUse key rows → ⊥)
    → (status_number (remove_status rows key) ≡ 37) × (remove_regions rows key ≡ rows)

abbrev pub RemoveDone : Type 0
RemoveDone =
    (memory : ℕ) (rows : List (List ℕ)) (key : ℕ) → RegionsSound memory rows → InUse key rows
    → (status_number (remove_status rows key) ≡ 0)
    × (region_of key (remove_regions rows key) ≡ no_region)
    × ((other : ℕ) → (other ≡ key → ⊥) → region_of other (remove_regions rows key) ≡ region_of other rows)

-- Post entry: 36, 34, 33, in this order. The 16 count the entry held with those waiting.
abbrev pub Posts : Pair → List (List ℕ) → Entry → ℕ → Type 0
Posts q rows e number = Answers (posted q e) number q × (post_entries q rows e ≡ rows)

-- what may be posted, if there is room
abbrev pub Postable : Pair → Entry → Type 0
Postable q e = (q.state ≡ 2 → ⊥) × Sound q × EntryFits q.setup.memory e

abbrev pub PostError : Type 0
PostError = (q : Pair) (rows : List (List ℕ)) (e : Entry) → q.state ≡ 2 → Posts q rows e 36

abbrev pub PostRange : Type 0
PostRange =
    (q : Pair) (rows : List (List ℕ)) (e : Entry) → (q.state ≡ 2 → ⊥) → (Sound q → ⊥) ⊎ (EntryFits q.setup.memory e → ⊥)
    → Posts q rows e 34

abbrev pub PostFull : Type 0
PostFull =
    (q : Pair) (rows : List (List ℕ)) (e : Entry) → Postable q e
    → length (held_of q rows) + length (waiting_of q rows) ≡ 16
    → Posts q rows e 33

-- An entry posted waits behind the others; the one held is as it was, and of the pair nothing else moves.
pub record PostsLast (q : Pair) (rows : List (List ℕ)) (e : Entry) : Type 0 where
  pub number : status_number (posted q e).status ≡ 0
  pub state : (posted q e).pair.state ≡ q.state
  pub unmoved : Unmoved q (posted q e).pair
  pub waiting : waiting_of (posted q e).pair (post_entries q rows e) ≡ waiting_of q rows ++ (entry_row e ∷ [])
  pub held : held_of (posted q e).pair (post_entries q rows e) ≡ held_of q rows

abbrev pub PostDone : Type 0
PostDone =
    (q : Pair) (rows : List (List ℕ)) (e : Entry) → Postable q e
    → length (held_of q rows) + length (waiting_of q rows) < 16
    → length rows ≡ 16
    → PostsLast q rows e

-- The entry held is the first of the ring, where a SEND is open, and there is none where not; the entries are the one
-- held, then those waiting.
abbrev pub HeldFirst : Type 0
HeldFirst =
    (q : Pair) (rows : List (List ℕ)) → Sound q → q.message.kind ≡ 0
    → held_of q rows ≡ get_or rows (entry_slot q.entries.head 0) [] ∷ []

abbrev pub HeldNone : Type 0
HeldNone = (q : Pair) (rows : List (List ℕ)) → (q.message.kind ≡ 0 → ⊥) → held_of q rows ≡ []

abbrev pub HeldWaiting : Type 0
HeldWaiting = (q : Pair) (rows : List (List ℕ)) → held_of q rows ++ waiting_of q rows ≡ entries_of q rows

-- A fresh pair's tables hold nothing.
abbrev pub FreshViews : Type 0
FreshViews =
    (s : Setup) (rows : List (List ℕ))
    → ((key : ℕ) → region_of key no_regions ≡ no_region)
    × (entries_of (fresh_pair s) rows ≡ [])
    × ((psn : ℕ) → newest_saved psn rows (fresh_pair s).saved ≡ None)

-- The blank pair: no number, no function, no memory, and all else as in a fresh pair, but in Error.
pub record Blank (q : Pair) : Type 0 where
  pub numbers : (q.setup.service ≡ 0) × (q.setup.pmtu ≡ 0) × (q.setup.ours ≡ 0) × (q.setup.theirs ≡ 0) × (q.setup.pkey ≡ 0)
  pub start : (q.setup.start.0 ≡ 0) × (q.setup.timer ≡ 0) × (q.setup.memory ≡ 0)
  pub functions : (q.setup.send ≡ false) × (q.setup.write ≡ false) × (q.setup.read ≡ false) × (q.setup.atomic ≡ false)
  pub state : q.state ≡ 2
  pub rest : AsSetUp q.setup (moved q 0 q.entries)

abbrev pub IsBlank : Type 0
IsBlank = Blank blank_pair

-- The blank pair is of no use: every call that takes it is refused.
abbrev pub BlankRefused : Type 0
BlankRefused =
    (rows : List (List ℕ)) (r : Region) (e : Entry)
    → Answers (reset_to blank_pair) 34 blank_pair
    × Answers (made_ready blank_pair) 36 blank_pair
    × Adds blank_pair rows r 36
    × Posts blank_pair rows e 36

abbrev pub BlankUnsound : Type 0
BlankUnsound = Sound blank_pair → ⊥

-- The pair and its tables, as calls make them.
pub record WholeSound (w : Whole) : Type 0 where
  pub pair : Sound w.pair
  pub regions : RegionsSound w.pair.setup.memory w.regions
  pub entries : EntriesSound w.pair.setup.memory w.entries w.pair.entries
  pub saved : SavedSound w.saved w.pair.saved
  pub held : w.pair.message.kind ≡ 0 → w.pair.message.stored ≤ get_or (get_or w.entries (entry_slot w.pair.entries.head 0) []) 2 0

-- Set-up makes them sound, whatever the tables held before; and so they are after every list of the host's calls in
-- which each set-up is accepted.
abbrev pub BegunSound : Type 0
BegunSound =
    (s : Setup) (regions entries saved : List (List ℕ)) → SetupSound s → length entries ≡ 16 → length saved ≡ 16
    → WholeSound (begun s regions entries saved)

abbrev pub Accepted : HostCall → Type 0
Accepted (SetUp s) = SetupSound s
Accepted Reset = Unit {0}
Accepted MakeReady = Unit {0}
Accepted (AddRegion r) = Unit {0}
Accepted (RemoveRegion key) = Unit {0}
Accepted (PostEntry e) = Unit {0}

abbrev pub AllAccepted : List HostCall → Type 0
AllAccepted [] = Unit {0}
AllAccepted (c ∷ cs) = Accepted c × AllAccepted cs

abbrev pub CallsSound : Type 0
CallsSound = (w : Whole) (calls : List HostCall) → AllAccepted calls → WholeSound w → WholeSound (called_all w calls)
