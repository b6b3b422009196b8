-- Exactly once, in order: for every list of calls the pair's run and the plain run agree.
use Rattle.std.specs.Prelude.{ℕ, ◌+◌, ◌%◌, ◌^◌, ◌≤◌, ◌<◌, ◌≡◌, Bool, true, false, List, [], ◌∷◌, ◌++◌, map, ◌⊎◌, length, take}
use Rattle.responder_spec.specs.Arrival.{Arrival, arriving_at}
use Rattle.header.specs.Check.{pkeys_match}
use Rattle.table.specs.EntryRow as EntryRow
use Rattle.table.specs.Table.{region_row}
use Rattle.table.specs.View.{region_of}
use Rattle.table.specs.declared.Region.{Region}
use Rattle.table.specs.declared.Entry.{Entry}
use Rattle.pair.specs.View.{entries_of}
use Rattle.pair.specs.Calls.HostCall.{PostEntry}
use Rattle.pair.specs.Calls.{Whole, called}
use Rattle.pair.specs.Claims.{WholeSound}
use Rattle.pair.specs.declared.Setup.{Setup}
use Rattle.cut_spec.specs.Claims.{InLimit, RequestWidths}
use Rattle.cut_spec.specs.declared.Request.{Request}
use Rattle.cut_spec.specs.declared.Request.TheVariants.{Send, SendImmediate, Write, WriteImmediate, Read, CmpSwap, FetchAdd}
use Rattle.responder_spec.specs.Inbound.{inbound}
use Rattle.responder_spec.specs.Response.{next_response}
use Rattle.responder_spec.specs.Calls.{drained, reports}
use Rattle.responder_spec.specs.declared.Completion.{Completion}
use Rattle.delivery_spec.specs.Stream.{Message, Slot, slot, stream, packet_at, number_along}
use Rattle.delivery_spec.specs.Plain.{Plain, Call, hand_refused, post_refused, plain_step, plain, start, accepted, execute_all}
use Rattle.delivery_spec.specs.Plain.Call.{Hand, Next, Post}

-- The pair's run: its tables, memory, and the completions reported so far.
pub record Run : Type 0 where
  pub whole : Whole
  pub memory : List ℕ
  pub completions : List Completion

-- the bytes p are handed in
abbrev pub handing : Run → List ℕ → List ℕ → Arrival
handing x p out = arriving_at x.whole x.memory p out

abbrev pub taken : Run → List ℕ → List ℕ → Run
taken x p out =
    record {
      whole = (inbound (handing x p out)).whole;
      memory = (inbound (handing x p out)).memory;
      completions = x.completions ++ reports (inbound (handing x p out)).completion;
    }

-- A call goes on from what the one before has left, and nothing else writes there.
unfoldable pub step : List Slot → Run → Call → Run
step S x (Hand j out) = taken x (packet_at (slot S j)) out
step S x (Next out) =
    record {
      whole = drained x.whole x.memory out;
      memory = x.memory;
      completions = x.completions ++ reports (next_response x.whole.pair x.memory out).completion;
    }
step S x (Post e) =
    record { whole = called x.whole (PostEntry e); memory = x.memory; completions = x.completions }

unfoldable pub run : List Slot → Run → List Call → Run
run S x [] = x
run S x (c ∷ cs) = run S (step S x c) cs

-- A fresh pair: made by calls, reliable, Ready, its regions added, nothing delivered. Entries may wait.
pub record Fresh (w : Whole) : Type 0 where
  pub sound : WholeSound w
  pub reliable : w.pair.setup.service ≡ 0
  pub ready : w.pair.state ≡ 1
  pub expected : w.pair.expected ≡ w.pair.setup.start
  pub msn : w.pair.msn.0 ≡ 0
  pub nakmark : w.pair.nakmark ≡ false
  pub message : w.pair.message.kind ≡ 255
  pub read : w.pair.read.remaining ≡ 0
  pub saved : w.pair.saved.count ≡ 0

-- A permitted message. Bytes named lie in the region of the R_Key, which has the right; no bytes lie anywhere.
abbrev pub LiesInRegion : List (List ℕ) → (Region → Bool) → ℕ → ℕ → ℕ → Type 0
LiesInRegion regions right key address n =
    (n ≡ 0)
    ⊎ ((r : Region) × (region_of key regions ≡ region_row r) × (right r ≡ true) × (r.address ≤ address) × (address + n ≤ r.address + r.length))

-- its function is enabled, the bytes it names are there, and an atomic is aligned
abbrev pub Allowed : Setup → List (List ℕ) → Request → ℕ → Type 0
Allowed s regions Send n = s.send ≡ true
Allowed s regions (SendImmediate v) n = s.send ≡ true
Allowed s regions (Write t) n = (s.write ≡ true) × LiesInRegion regions (λ r. r.write) t.key t.address n
Allowed s regions (WriteImmediate t v) n = (s.write ≡ true) × LiesInRegion regions (λ r. r.write) t.key t.address n
Allowed s regions (Read a) n = (s.read ≡ true) × LiesInRegion regions (λ r. r.read) a.key a.address a.length
Allowed s regions (CmpSwap a) n = (s.atomic ≡ true) × LiesInRegion regions (λ r. r.atomic) a.key a.address 8 × (a.address % 8 ≡ 0)
Allowed s regions (FetchAdd t v) n = (s.atomic ≡ true) × LiesInRegion regions (λ r. r.atomic) t.key t.address 8 × (t.address % 8 ≡ 0)

-- It comes to the pair: it is cut at the pair's PMTU, passes its header checks, is within the limits, each number
-- within its field
pub record Addressed (s : Setup) (m : Message) : Type 0 where
  pub limit : InLimit m.request (length m.bytes)
  pub service : m.connection.service ≡ s.service
  pub pmtu : m.connection.pmtu ≡ s.pmtu
  pub dest : m.connection.dest ≡ s.ours
  pub match : pkeys_match m.connection.pkey s.pkey ≡ true
  pub pkey : m.connection.pkey < 2 ^ 16
  pub widths : RequestWidths m.request

pub record Permitted (s : Setup) (regions : List (List ℕ)) (m : Message) : Type 0 where
  pub allowed : Allowed s regions m.request (length m.bytes)
  pub addressed : Addressed s m

-- of every element of a list
abbrev pub All : {A : Type 0} → (A → Type 0) → List A → Type 0
All P [] = Unit {0}
All P (x ∷ xs) = P x × All P xs

abbrev pub AllPermitted : Setup → List (List ℕ) → List Message → Type 0
AllPermitted s regions ms = All (Permitted s regions) ms

-- An entry of n bytes is not shorter than any SEND of the stream.
abbrev pub AtLeast : ℕ → Request → ℕ → Type 0
AtLeast n Send d = d ≤ n
AtLeast n (SendImmediate v) d = d ≤ n
AtLeast n (Write t) d = Unit {0}
AtLeast n (WriteImmediate t v) d = Unit {0}
AtLeast n (Read a) d = Unit {0}
AtLeast n (CmpSwap a) d = Unit {0}
AtLeast n (FetchAdd t v) d = Unit {0}

abbrev pub LongEnough : List Message → Entry → Type 0
LongEnough ms e = All (λ m. AtLeast e.length m.request (length m.bytes)) ms

abbrev pub AllLongEnough : List Message → List Entry → Type 0
AllLongEnough ms es = All (LongEnough ms) es

-- Two positions along the stream, at most 8,388,607 numbers apart.
pub record Near (x y : ℕ) : Type 0 where
  pub behind : y ≤ x + 8388607
  pub ahead : x ≤ y + 8388607

-- What is asked of a call, at the state p of the plain run. A packet handed in is one of the stream; where the call is
-- not refused, its number is near the one of packet k, which may be the next after the last.
pub record Handed (s : Setup) (S : List Slot) (p : Plain) (j : ℕ) (out : List ℕ) : Type 0 where
  pub inside : j < length S
  pub near : hand_refused s p out ≡ false → Near (number_along S j) (number_along S p.k)

-- An entry that is accepted is long enough.
pub record Posted (s : Setup) (ms : List Message) (p : Plain) (e : Entry) : Type 0 where
  pub long : post_refused s p e ≡ false → LongEnough ms e

abbrev pub CallPermitted : Setup → List Message → List Slot → Plain → Call → Type 0
CallPermitted s ms S p (Hand j out) = Handed s S p j out
CallPermitted s ms S p (Next out) = Unit {0}
CallPermitted s ms S p (Post e) = Posted s ms p e

abbrev pub AllCallsPermitted : Setup → List (List ℕ) → List Message → List Slot → Plain → List Call → Type 0
AllCallsPermitted s regions ms S p [] = Unit {0}
AllCallsPermitted s regions ms S p (c ∷ cs) = CallPermitted s ms S p c × AllCallsPermitted s regions ms S (plain_step s regions S p c) cs

-- the entries that wait at the start
abbrev pub entry_of : List ℕ → Entry
entry_of row = record { number = EntryRow.number row; offset = EntryRow.offset row; length = EntryRow.length row }

abbrev pub waiting_at : Whole → List Entry
waiting_at w = map entry_of (entries_of w.pair w.entries)

-- all of memory, the completions in order, the message count and the expected number
pub record Agree (x : Run) (p : Plain) : Type 0 where
  pub memory : x.memory ≡ p.memory
  pub completions : x.completions ≡ p.completions
  pub msn : x.whole.pair.msn ≡ p.msn
  pub expected : x.whole.pair.expected ≡ p.expected

-- What is asked: of the pair, of the stream, of the entries that wait at the start and of the calls.
pub record Asked (w : Whole) (ms : List Message) (m : List ℕ) (calls : List Call) : Type 0 where
  pub fresh : Fresh w
  pub permitted : AllPermitted w.pair.setup w.regions ms
  pub waiting : AllLongEnough ms (waiting_at w)
  pub each :
      AllCallsPermitted w.pair.setup w.regions ms (stream w.pair.setup.start ms) (start w.pair.setup m (waiting_at w))
      calls

-- After every list of calls the pair's run and the plain run agree.
abbrev pub Delivery : Type 0
Delivery =
    (w : Whole) (ms : List Message) (m : List ℕ) (calls : List Call) → Asked w ms m calls
    → let s = w.pair.setup in
    let S = stream s.start ms in
    let x = run S (record { whole = w; memory = m; completions = [] }) calls in
    let p = plain s w.regions S (start s m (waiting_at w)) calls in
    Agree x p

-- So it is the first k packets of the stream, once each, in order, with the same entries: those that wait at the start,
-- then those of the posts that are accepted. k is how often packet k was delivered, with an entry waiting if it needs one.
abbrev pub ExactlyOnce : Type 0
ExactlyOnce =
    (w : Whole) (ms : List Message) (m : List ℕ) (calls : List Call) → Asked w ms m calls
    → let s = w.pair.setup in
    let S = stream s.start ms in
    let x = run S (record { whole = w; memory = m; completions = [] }) calls in
    let p = start s m (waiting_at w) in
    let k = (plain s w.regions S p calls).k in
    let entries = waiting_at w ++ accepted s w.regions S p calls in
    (k ≤ length S) × Agree x (execute_all w.regions (start s m entries) (take k S))
