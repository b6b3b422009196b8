-- Which answer the inbound call gives on the unreliable connection, UC, which is service 1, and what it never does
-- there; the proofs stand in proofs/. The conditions are in plain numbers, those of the checks as in the claims of
-- request_spec.
use Rattle.std.specs.Prelude.{ℕ, ◌%◌, ◌≤◌, ◌≡◌, false, List, [], ◌∷◌, ◌++◌, ◌⊎◌, length, get_or, Ok, Err}
use Rattle.pair.specs.Calls.{Whole}
use Rattle.responder_spec.specs.Arrival.{Arrival, Left}
use Rattle.header.specs.Read.{header_of}
use Rattle.header.specs.declared.Header.{Header}
use Rattle.header.specs.declared.Reason.{Reason}
use Rattle.packet.specs.Packet.{payload_of}
use Rattle.table.specs.View.{region_of}
use Rattle.pair.specs.Answer.{status_number}
use Rattle.pair.specs.View.{held_of, waiting_of}
use Rattle.pair.specs.declared.OpenMessage.{OpenMessage}
use Rattle.pair.specs.declared.Pair.{Pair}
use Rattle.request_spec.specs.Packet.{packet_of}
use Rattle.request_spec.specs.Claims.{Begins, GoesOn, Carries, IsCurrent}
use Rattle.request_spec.specs.declared.Packet.{Packet}
use Rattle.responder_spec.specs.Inbound.{inbound}
use Rattle.effect_laws.specs.Effects.{AnswersWith}
use Rattle.answer_laws.specs.Answers.{JudgedIn, Willing, header_by, entry_at_head, InEntry, Completes}
use Rattle.request_spec.specs.Packet.{packet_in}

-- Only SENDs and WRITEs pass the header checks: UC has no other opcode.
abbrev pub UcKinds : Type 0
UcKinds =
    (a : Arrival) (h : Header) → a.whole.pair.setup.service ≡ 1 → header_by a ≡ Ok h
    → Carries (packet_of h (length a.packet)).kind

-- A packet that does not go on with the open message: its PSN is not the expected one, or its kind is another.
abbrev pub Strays : Pair → Packet → Type 0
Strays q k = (k.psn.0 % 16777216 ≡ q.expected.0 % 16777216 → ⊥) ⊎ (q.message.kind ≡ k.kind → ⊥)

-- The message that a packet meets when it is checked. A First or Only has closed what was open, so it meets none, and
-- the entry that was held waits for it; a Middle or Last that does not stray meets the open message.
pub data CheckedUnder (q : Pair) (k : Packet) : OpenMessage → Type 0 where
  begins : Begins k.place → CheckedUnder q k (record { kind = 255; stored = 0; address = 0; key = 0; length = 0 })
  onward : GoesOn k.place → k.psn.0 % 16777216 ≡ q.expected.0 % 16777216 → q.message.kind ≡ k.kind → CheckedUnder q k q.message

-- The checks that a packet can fail; 8 is not one: it says that no call made the entry.
abbrev pub Fails : ℕ → Type 0
Fails check = (1 ≤ check) × (check ≤ 7)

-- The request checks of a packet that meets the message `opened`. What fails, by whichever check, is 6 if a message was
-- open when the packet came, and 5 if none was.
pub record UcChecked (w : Whole) (opened : OpenMessage) (k : Packet) (t : OpenMessage) (number : ℕ) : Type 0 where
  pub check : ℕ
  pub judged : JudgedIn w opened k t check
  pub good : check ≡ 0 → number ≡ 0
  pub outside : check ≡ 8 → number ≡ 34
  pub closes : Fails check → (w.pair.message.kind ≡ 255 → ⊥) → number ≡ 6
  pub drops : Fails check → w.pair.message.kind ≡ 255 → number ≡ 5

-- Of a packet k whose header passes, which is of the message t: a Middle or Last with none open is 5, whatever its PSN,
-- and one that strays 6; all others are checked.
pub record UcComes (w : Whole) (k : Packet) (t : OpenMessage) (number : ℕ) : Type 0 where
  pub orphan : GoesOn k.place → w.pair.message.kind ≡ 255 → number ≡ 5
  pub stray : GoesOn k.place → (w.pair.message.kind ≡ 255 → ⊥) → Strays w.pair k → number ≡ 6
  pub checked : (opened : OpenMessage) → CheckedUnder w.pair k opened → UcChecked w opened k t number

abbrev pub UcPassed : Type 0
UcPassed =
    (a : Arrival) → Willing a → a.whole.pair.setup.service ≡ 1
    → (h : Header) → header_by a ≡ Ok h
    → (t : OpenMessage) → IsCurrent a.whole.pair.message (packet_of h (length a.packet)) t
    → UcComes a.whole (packet_of h (length a.packet)) t (inbound a).number

-- a packet that is checked, and the check that fails
pub record UcExamined (a : Arrival) (t : OpenMessage) (check : ℕ) : Type 0 where
  pub passes : header_by a ≡ Ok (header_of a.packet)
  pub opened : OpenMessage
  pub meets : CheckedUnder a.whole.pair (packet_in a.packet) opened
  pub judged : JudgedIn a.whole opened (packet_in a.packet) t check

-- The reasons, each by the number of its answer.
pub data UcCause (a : Arrival) (t : OpenMessage) : ℕ → Type 0 where
  unread : (why : Reason) → header_by a ≡ Err why → UcCause a t 5
  orphan : header_by a ≡ Ok (header_of a.packet) → GoesOn (packet_in a.packet).place → a.whole.pair.message.kind ≡ 255 → UcCause a t 5
  stray : header_by a ≡ Ok (header_of a.packet) → GoesOn (packet_in a.packet).place
      → (a.whole.pair.message.kind ≡ 255 → ⊥)
      → Strays a.whole.pair (packet_in a.packet)
      → UcCause a t 6
  dropped : (check : ℕ) → UcExamined a t check → Fails check → a.whole.pair.message.kind ≡ 255 → UcCause a t 5
  closed : (check : ℕ) → UcExamined a t check → Fails check → (a.whole.pair.message.kind ≡ 255 → ⊥) → UcCause a t 6
  outside : UcExamined a t 8 → UcCause a t 34
  executed : UcExamined a t 0 → Carries (packet_in a.packet).kind → UcCause a t 0

-- And back: each answer of a call that is not refused has one of them.
abbrev pub UcReason : Type 0
UcReason =
    (a : Arrival) → Willing a → a.whole.pair.setup.service ≡ 1
    → (t : OpenMessage) → IsCurrent a.whole.pair.message (packet_in a.packet) t
    → UcCause a t (inbound a).number

-- What no call does on UC, whatever the pair, the tables, memory, packet and output: it sends nothing, sets no NAK mark
-- and never the Error state, begins no READ and saves no atomic.
pub record UcKeeps (a : Arrival) (l : Left) : Type 0 where
  pub setup : l.whole.pair.setup ≡ a.whole.pair.setup
  pub state : l.whole.pair.state ≡ a.whole.pair.state
  pub nakmark : a.whole.pair.nakmark ≡ false → l.whole.pair.nakmark ≡ false
  pub read : l.whole.pair.read ≡ a.whole.pair.read
  pub ring : l.whole.pair.saved ≡ a.whole.pair.saved
  pub saved : l.whole.saved ≡ a.whole.saved
  pub outgoing : l.outgoing ≡ 0
  pub out : l.out ≡ a.out

abbrev pub UcLeaves : Type 0
UcLeaves =
    (a : Arrival) → a.whole.pair.setup.service ≡ 1
    → UcKeeps a (inbound a)

-- Answer 6, which comes on UC alone: the entry that was held is first of those that wait again. Abandons has all else.
abbrev pub EntryBack : Type 0
EntryBack =
    (a : Arrival) → AnswersWith a 6
    → (held_of (inbound a).whole.pair a.whole.entries ≡ [])
    × (waiting_of (inbound a).whole.pair a.whole.entries ≡ held_of a.whole.pair a.whole.entries ++ waiting_of a.whole.pair a.whole.entries)

-- A SEND that begins over an open one takes the entry that was held, from its first byte on: a First holds it again, an
-- Only completes it. Those that wait stay. On RC no such SEND is executed.
pub record TakesHeldEntry (a : Arrival) (l : Left) : Type 0 where
  pub held : held_of a.whole.pair a.whole.entries ≡ entry_at_head a.whole ∷ []
  pub stands : InEntry (entry_at_head a.whole) a.whole.pair.setup.memory 0 (payload_of a.packet) a.memory l.memory
  pub waiting : waiting_of l.whole.pair a.whole.entries ≡ waiting_of a.whole.pair a.whole.entries
  pub first : (packet_in a.packet).place ≡ 0 → held_of l.whole.pair a.whole.entries ≡ held_of a.whole.pair a.whole.entries
  pub only : (packet_in a.packet).place ≡ 4
      → (held_of l.whole.pair a.whole.entries ≡ [])
      × Completes (packet_in a.packet) (get_or (entry_at_head a.whole) 0 0) (length (payload_of a.packet)) l.completion

abbrev pub HeldEntryTaken : Type 0
HeldEntryTaken =
    (a : Arrival) → a.whole.pair.message.kind ≡ 0 → (packet_in a.packet).kind ≡ 0
    → Begins (packet_in a.packet).place
    → AnswersWith a 0
    → TakesHeldEntry a (inbound a)
