-- What demand 3 asks, and what it says, is no more than its words, and no less. Every condition is listed here once more, in plain numbers
-- and over all messages, entries and calls, and not by the definitions under test.
use Rattle.std.specs.Prelude.{ℕ, ◌+◌, ◌%◌, ◌≤◌, ◌<◌, ◌≡◌, Bool, true, false, List, ◌∷◌, ◌++◌, ◌⊎◌, length}
use Rattle.header.specs.Drops.{KeysMatch}
use Rattle.table.specs.Table.{region_row}
use Rattle.table.specs.View.{region_of}
use Rattle.table.specs.declared.Entry.{Entry}
use Rattle.table.specs.declared.Region.{Region}
use Rattle.pair.specs.Calls.{Whole}
use Rattle.pair.specs.declared.Setup.{Setup}
use Rattle.cut_spec.specs.declared.Connection.{Connection}
use Rattle.cut_spec.specs.declared.Request.{Request}
use Rattle.cut_spec.specs.declared.Request.TheVariants.{Send, SendImmediate, Write, WriteImmediate, Read, CmpSwap, FetchAdd}
use Rattle.delivery_spec.specs.Stream.{Message, Slot, stream, number_along}
use Rattle.delivery_spec.specs.Plain.{Plain, Call, hand_refused, next_refused, post_refused, plain, start}
use Rattle.delivery_spec.specs.Plain.Call.{Hand, Next, Post}
use Rattle.delivery_spec.specs.Demand.{Fresh, Permitted, AllPermitted, AllLongEnough, Near, Handed, Posted, CallPermitted, AllCallsPermitted, Run, waiting_at, Agree, Asked}

-- the one says the other, both ways
abbrev pub Says : Type 0 → Type 0 → Type 0
Says A B = (A → B) × (B → A)

-- x stands in the list, behind these and before those
abbrev pub Among : {A : Type 0} → A → List A → Type 0
Among {A} x xs = (before : List A) × ((after : List A) × (xs ≡ before ++ (x ∷ after)))

-- Two places are near exactly if they are at most 8,388,607 apart, wherever they are and whichever is ahead.
abbrev pub NearIs : Type 0
NearIs = (x d : ℕ) → Says (Near x (x + d)) (d ≤ 8388607) × Says (Near (x + d) x) (d ≤ 8388607)

-- Which call the plain run takes: all others are refused.
pub record HandTaken (s : Setup) (p : Plain) (out : List ℕ) : Type 0 where
  pub room : 24 ≤ length out
  pub memory : length p.memory ≡ s.memory
  pub idle : p.r ≡ 0

pub record NextTaken (s : Setup) (p : Plain) (out : List ℕ) : Type 0 where
  pub some : 1 ≤ p.r
  pub room : 16 + s.pmtu ≤ length out
  pub memory : length p.memory ≡ s.memory

pub record PostTaken (s : Setup) (p : Plain) (e : Entry) : Type 0 where
  pub inside : e.offset + e.length ≤ s.memory
  pub free : length p.held + length p.waiting < 16

abbrev pub TakenIs : Type 0
TakenIs =
    (s : Setup) (p : Plain) (out : List ℕ) (e : Entry)
    → Says (hand_refused s p out ≡ false) (HandTaken s p out)
    × Says (next_refused s p out ≡ false) (NextTaken s p out)
    × Says (post_refused s p e ≡ false) (PostTaken s p e)

-- A packet handed in is one of the stream and, where the call is taken, at most 8,388,607 numbers from packet k, as k is
-- before the call. Of a call that is refused nothing else is asked.
abbrev pub HandedIs : Type 0
HandedIs =
    (s : Setup) (S : List Slot) (p : Plain) (j : ℕ) (out : List ℕ)
    → Says (Handed s S p j out)
    ((j < length S)
    × (HandTaken s p out → (number_along S j ≤ number_along S p.k + 8388607) × (number_along S p.k ≤ number_along S j + 8388607)))

abbrev pub RefusedFree : Type 0
RefusedFree =
    (s : Setup) (S : List Slot) (p : Plain) (j : ℕ) (out : List ℕ) → j < length S
    → (length out < 24) ⊎ ((length p.memory ≡ s.memory → ⊥) ⊎ (1 ≤ p.r))
    → Handed s S p j out

-- An entry is long enough if no SEND of the stream has more bytes.
abbrev pub IsSend : Request → Type 0
IsSend Send = Unit {0}
IsSend (SendImmediate v) = Unit {0}
IsSend (Write t) = ⊥
IsSend (WriteImmediate t v) = ⊥
IsSend (Read a) = ⊥
IsSend (CmpSwap a) = ⊥
IsSend (FetchAdd t v) = ⊥

abbrev pub NoSendLonger : List Message → ℕ → Type 0
NoSendLonger ms n = (m : Message) → Among m ms → IsSend m.request → length m.bytes ≤ n

abbrev pub PostedIs : Type 0
PostedIs =
    (s : Setup) (ms : List Message) (p : Plain) (e : Entry)
    → Says (Posted s ms p e) (PostTaken s p e → NoSendLonger ms e.length)

abbrev pub WaitingIs : Type 0
WaitingIs = (ms : List Message) (es : List Entry) → Says (AllLongEnough ms es) ((e : Entry) → Among e es → NoSendLonger ms e.length)

-- Each call is asked at the state that the plain run has reached before it.
abbrev pub CallsAre : Type 0
CallsAre =
    (s : Setup) (regions : List (List ℕ)) (ms : List Message) (S : List Slot) (p : Plain) (calls : List Call)
    → Says (AllCallsPermitted s regions ms S p calls)
    ((before : List Call) (c : Call) (after : List Call) → calls ≡ before ++ (c ∷ after)
    → CallPermitted s ms S (plain s regions S p before) c)

-- What is asked of a call is what is asked of its packet or its entry; of next response nothing is.
abbrev pub CallIs : Type 0
CallIs =
    (s : Setup) (ms : List Message) (S : List Slot) (p : Plain) (j : ℕ) (out : List ℕ) (e : Entry)
    → Says (CallPermitted s ms S p (Hand j out)) (Handed s S p j out)
    × CallPermitted s ms S p (Next out)
    × Says (CallPermitted s ms S p (Post e)) (Posted s ms p e)

-- A permitted message comes to the pair: by its service, at its PMTU, to its number, with a P_Key that matches.
pub record Comes (s : Setup) (c : Connection) : Type 0 where
  pub service : c.service ≡ s.service
  pub pmtu : c.pmtu ≡ s.pmtu
  pub dest : c.dest ≡ s.ours
  pub keys : KeysMatch c.pkey s.pkey
  pub width : c.pkey < 65536

-- n bytes from the address on lie in the region of the key, which has the right; if there are none, no matter where
abbrev pub InRegion : List (List ℕ) → (Region → Bool) → ℕ → ℕ → ℕ → Type 0
InRegion regions right key address n =
    (1 ≤ n → (r : Region) × (region_of key regions ≡ region_row r) × (right r ≡ true) × (r.address ≤ address) × (address + n ≤ r.address + r.length))
    × ((address < 18446744073709551616) × (key < 4294967296))

-- its function is enabled, it has at most 2^20 bytes, those that it names lie in a region, and an atomic is aligned
abbrev pub MayBe : Setup → List (List ℕ) → Request → ℕ → Type 0
MayBe s regions Send n = (s.send ≡ true) × (n ≤ 1048576)
MayBe s regions (SendImmediate v) n = (s.send ≡ true) × (n ≤ 1048576) × (v < 4294967296)
MayBe s regions (Write t) n = (s.write ≡ true) × (n ≤ 1048576) × InRegion regions (λ r. r.write) t.key t.address n
MayBe s regions (WriteImmediate t v) n = (s.write ≡ true) × (n ≤ 1048576) × InRegion regions (λ r. r.write) t.key t.address n × (v < 4294967296)
MayBe s regions (Read a) n = (s.read ≡ true) × (a.length ≤ 1048576) × InRegion regions (λ r. r.read) a.key a.address a.length
MayBe s regions (CmpSwap a) n =
    (s.atomic ≡ true) × (a.address % 8 ≡ 0) × InRegion regions (λ r. r.atomic) a.key a.address 8
    × (a.swap < 18446744073709551616) × (a.compare < 18446744073709551616)
MayBe s regions (FetchAdd t v) n =
    (s.atomic ≡ true) × (t.address % 8 ≡ 0) × InRegion regions (λ r. r.atomic) t.key t.address 8 × (v < 18446744073709551616)

abbrev pub PermittedIs : Type 0
PermittedIs =
    (s : Setup) (regions : List (List ℕ)) (m : Message)
    → Says (Permitted s regions m) (Comes s m.connection × MayBe s regions m.request (length m.bytes))

abbrev pub StreamIs : Type 0
StreamIs =
    (s : Setup) (regions : List (List ℕ)) (ms : List Message)
    → Says (AllPermitted s regions ms) ((m : Message) → Among m ms → Permitted s regions m)

-- Nothing is asked but this.
abbrev pub AskedIs : Type 0
AskedIs =
    (w : Whole) (ms : List Message) (m : List ℕ) (calls : List Call)
    → Says (Asked w ms m calls)
    (Fresh w
    × AllPermitted w.pair.setup w.regions ms
    × AllLongEnough ms (waiting_at w)
    × AllCallsPermitted w.pair.setup w.regions ms (stream w.pair.setup.start ms) (start w.pair.setup m (waiting_at w)) calls)

-- And this is what follows: of all of memory, of every completion and their order, of the message count and of the
-- expected number.
abbrev pub AgreeIs : Type 0
AgreeIs =
    (x : Run) (p : Plain)
    → Says (Agree x p)
    ((x.memory ≡ p.memory)
    × (x.completions ≡ p.completions)
    × (x.whole.pair.msn.0 ≡ p.msn.0)
    × (x.whole.pair.expected.0 ≡ p.expected.0))
