-- Which answer the inbound call gives, and where the bytes of a message went; the proofs stand in proofs/.
-- The conditions are those of the claims of request_spec, in plain numbers.
use Rattle.std.specs.Prelude.{ℕ, ◌+◌, ◌-◌, ◌≤◌, ◌<◌, ◌≡◌, Bool, true, false, List, [], ◌⊎◌, eqb, length, get_or, Some, None, Result, Ok, Err}
use Rattle.pair.specs.Calls.{Whole}
use Rattle.responder_spec.specs.Arrival.{Arrival, Left}
use Rattle.sequence.specs.Sequence.{distance, psn_class}
use Rattle.sequence.specs.declared.Class.{Class}
use Rattle.sequence.specs.declared.Class.TheVariants as class
use Rattle.header.specs.Read.{header_of}
use Rattle.header.specs.Check.{admitted}
use Rattle.header.specs.declared.Header.{Header}
use Rattle.header.specs.declared.Reason as header
use Rattle.memory.specs.Memory.{store}
use Rattle.memory.specs.Word.{word_at, fetch_added, swapped}
use Rattle.memory.specs.Claims.{OnlyBytes}
use Rattle.packet.specs.Packet.{payload_of}
use Rattle.pmtu.specs.Pieces.{pieces}
use Rattle.table.specs.View.{region_of, newest_saved, saved_rows}
use Rattle.pair.specs.Answer.{status_number}
use Rattle.pair.specs.Claims.{Sound}
use Rattle.pair.specs.declared.OpenMessage.{OpenMessage}
use Rattle.pair.specs.declared.Pair.{Pair}
use Rattle.request_spec.specs.Packet.{packet_of, packet_in}
use Rattle.request_spec.specs.Claims.{HasMore, Ends, Carries, IsAtomic, Served, Gives, GivesRest, IsCurrent, JudgedBy, AnswerOf}
use Rattle.request_spec.specs.declared.Packet.{Packet}
use Rattle.responder_spec.specs.declared.Completion.{Completion}
use Rattle.responder_spec.specs.Inbound.{inbound}
use Rattle.effect_laws.specs.Effects.{Silent, AnswersWith}

-- A call that is not refused.
pub record Willing (a : Arrival) : Type 0 where
  pub room : 24 ≤ length a.out
  pub memory : length a.memory ≡ a.whole.pair.setup.memory
  pub sound : Sound a.whole.pair
  pub idle : a.whole.pair.read.remaining ≡ 0

-- What the header checks of this pair make of a packet. It is Ready in state 1.
abbrev pub header_by : Arrival → Result Header header.Reason
header_by a = admitted a.whole.pair.setup.service a.whole.pair.setup.ours a.whole.pair.setup.pkey (eqb a.whole.pair.state 1) a.packet

-- A header that does not pass: 5.
abbrev pub HeaderDropped : Type 0
HeaderDropped =
    (a : Arrival) → Willing a
    → (why : header.Reason) → header_by a ≡ Err why
    → AnswersWith a 5

-- The entry that a message takes: the first of the ring.
abbrev pub entry_at_head : Whole → List ℕ
entry_at_head w = get_or w.entries w.pair.entries.head []

-- The request checks of a packet k of the message t, while `opened` is open: the check that fails.
abbrev pub JudgedIn : Whole → OpenMessage → Packet → OpenMessage → ℕ → Type 0
JudgedIn w opened k t check =
    JudgedBy w.pair.setup opened k t w.pair.entries.count (entry_at_head w) (region_of t.key w.regions) check

-- The expected PSN: by the request check that fails, and where none does, which is 0, by kind and AckReq.
pub record Expects (w : Whole) (k : Packet) (t : OpenMessage) (number : ℕ) : Type 0 where
  pub check : ℕ
  pub judged : JudgedIn w w.pair.message k t check
  pub fails : (check ≡ 0 → ⊥) → AnswerOf check number
  pub reads : check ≡ 0 → k.kind ≡ 12 → number ≡ 2
  pub swaps : check ≡ 0 → IsAtomic k.kind → number ≡ 3
  pub asked : check ≡ 0 → Carries k.kind → k.ackreq ≡ true → number ≡ 1
  pub unasked : check ≡ 0 → Carries k.kind → k.ackreq ≡ false → number ≡ 0

-- A PSN ahead: quiet where the NAK mark stands, else a sequence NAK.
pub record Aheads (marked : Bool) (number : ℕ) : Type 0 where
  pub quiet : marked ≡ true → number ≡ 5
  pub naks : marked ≡ false → number ≡ 16

-- A duplicate READ that is answered: reading is on, no more bytes are named than may be, none are carried, the key
-- still gives them, and none of the responses has the expected PSN or a later one.
pub record ReadAnswerable (w : Whole) (k : Packet) (t : OpenMessage) : Type 0 where
  pub on : w.pair.setup.read ≡ true
  pub limit : t.length ≤ 1048576
  pub body : k.body ≡ 0
  pub pad : k.pad ≡ 0
  pub key : GivesRest (region_of t.key w.regions) 5 w.pair.setup.memory t
  pub before : pieces t.length w.pair.setup.pmtu ≤ distance w.pair.expected.0 k.psn.0

-- A duplicate: SEND and WRITE 4, a READ that is answered 4, an atomic whose value is saved 4; all else 5.
pub record DuplicateAnswers (w : Whole) (k : Packet) (t : OpenMessage) (number : ℕ) : Type 0 where
  pub carried : Carries k.kind → number ≡ 4
  pub reads : k.kind ≡ 12 → ReadAnswerable w k t → number ≡ 4
  pub unread : k.kind ≡ 12 → (ReadAnswerable w k t → ⊥) → number ≡ 5
  pub found : IsAtomic k.kind → (v : ℕ) → newest_saved k.psn.0 w.saved w.pair.saved ≡ Some v → number ≡ 4
  pub lost : IsAtomic k.kind → newest_saved k.psn.0 w.saved w.pair.saved ≡ None → number ≡ 5
  pub other : (Served k.kind → ⊥) → number ≡ 5

-- On RC, service 0: by the class of the PSN, of a packet k whose header passes, which is of the message t.
pub record Classed (w : Whole) (k : Packet) (t : OpenMessage) (number : ℕ) : Type 0 where
  pub expected : psn_class k.psn.0 w.pair.expected.0 ≡ class.Expected → Expects w k t number
  pub ahead : psn_class k.psn.0 w.pair.expected.0 ≡ class.Ahead → Aheads w.pair.nakmark number
  pub duplicate : psn_class k.psn.0 w.pair.expected.0 ≡ class.Duplicate → DuplicateAnswers w k t number

abbrev pub HeaderPassed : Type 0
HeaderPassed =
    (a : Arrival) → Willing a → a.whole.pair.setup.service ≡ 0
    → (h : Header) → header_by a ≡ Ok h
    → (t : OpenMessage) → IsCurrent a.whole.pair.message (packet_of h (length a.packet)) t
    → Classed a.whole (packet_of h (length a.packet)) t (inbound a).number

-- What a duplicate is answered with, by its kind: an ACK of 16 bytes, nothing but responses to come, a
-- saved value in 24 bytes. InboundReplies says what stands in them.
pub record DuplicateReplies (w : Whole) (k : Packet) (outgoing : ℕ) : Type 0 where
  pub carried : Carries k.kind → outgoing ≡ 16
  pub reads : k.kind ≡ 12 → outgoing ≡ 0
  pub found : IsAtomic k.kind → (v : ℕ) → newest_saved k.psn.0 w.saved w.pair.saved ≡ Some v → outgoing ≡ 24

abbrev pub DuplicateSent : Type 0
DuplicateSent =
    (a : Arrival) → Willing a → a.whole.pair.setup.service ≡ 0
    → (h : Header) → header_by a ≡ Ok h
    → psn_class (packet_of h (length a.packet)).psn.0 a.whole.pair.expected.0 ≡ class.Duplicate
    → DuplicateReplies a.whole (packet_of h (length a.packet)) (inbound a).outgoing

-- Why a duplicate is answered, and how a packet comes: its header passes, and the class of its PSN.
abbrev pub Recalled : Whole → Packet → OpenMessage → Type 0
Recalled w k t =
    Carries k.kind
    ⊎ (((k.kind ≡ 12) × ReadAnswerable w k t)
    ⊎ (IsAtomic k.kind × ((v : ℕ) × (newest_saved k.psn.0 w.saved w.pair.saved ≡ Some v))))

abbrev pub Comes : Arrival → Class → Type 0
Comes a c = (header_by a ≡ Ok (header_of a.packet)) × (psn_class (packet_in a.packet).psn.0 a.whole.pair.expected.0 ≡ c)

-- a packet with the expected PSN, and the check that fails
pub record Examined (a : Arrival) (t : OpenMessage) (check : ℕ) : Type 0 where
  pub comes : Comes a class.Expected
  pub judged : JudgedIn a.whole a.whole.pair.message (packet_in a.packet) t check

pub data Reason (a : Arrival) (t : OpenMessage) : ℕ → Type 0 where
  unread : (why : header.Reason) → header_by a ≡ Err why → Reason a t 5
  marked : Comes a class.Ahead → a.whole.pair.nakmark ≡ true → Reason a t 5
  ahead : Comes a class.Ahead → a.whole.pair.nakmark ≡ false → Reason a t 16
  again : Comes a class.Duplicate → Recalled a.whole (packet_in a.packet) t → Reason a t 4
  forgotten : Comes a class.Duplicate → (Recalled a.whole (packet_in a.packet) t → ⊥) → Reason a t 5
  refused : (check answer : ℕ) → Examined a t check → (check ≡ 0 → ⊥) → AnswerOf check answer → Reason a t answer
  executed : Examined a t 0 → Carries (packet_in a.packet).kind → (packet_in a.packet).ackreq ≡ false → Reason a t 0
  acknowledged : Examined a t 0 → Carries (packet_in a.packet).kind → (packet_in a.packet).ackreq ≡ true → Reason a t 1
  accepted : Examined a t 0 → (packet_in a.packet).kind ≡ 12 → Reason a t 2
  exchanged : Examined a t 0 → IsAtomic (packet_in a.packet).kind → Reason a t 3

-- And back: each answer of a call that is not refused has its reason.
abbrev pub InboundReason : Type 0
InboundReason =
    (a : Arrival) → Willing a → a.whole.pair.setup.service ≡ 0
    → (t : OpenMessage) → IsCurrent a.whole.pair.message (packet_in a.packet) t
    → Reason a t (inbound a).number

-- A SEND's payload stands in its entry, behind the bytes already stored, and nothing outside the entry changed.
pub record InEntry (entry : List ℕ) (memory done : ℕ) (payload old new : List ℕ) : Type 0 where
  pub lies : get_or entry 1 0 + get_or entry 2 0 ≤ memory
  pub fits : done + length payload ≤ get_or entry 2 0
  pub stands : new ≡ store old (get_or entry 1 0 + done) payload
  pub only : OnlyBytes old new (get_or entry 1 0) (get_or entry 2 0)

-- A WRITE's stands in the region of its key, which has the right to write and holds all the bytes still to come, at its
-- address; nothing outside the region changed.
pub record InRegion (region : List ℕ) (memory address rest : ℕ) (payload old new : List ℕ) : Type 0 where
  pub gives : Gives region 4 memory address rest
  pub fits : length payload ≤ rest
  pub stands : new ≡ store old (get_or region 3 0 + (address - get_or region 1 0)) payload
  pub only : OnlyBytes old new (get_or region 3 0) (get_or region 2 0)

-- The report to the host: an entry's number, so many bytes, and the packet's immediate.
pub record Completes (k : Packet) (number n : ℕ) (c : Completion) : Type 0 where
  pub some : c.some ≡ true
  pub entry : c.number ≡ number
  pub length : c.length ≡ n
  pub immediate : c.immediate ≡ k.operands.immediate
  pub value : c.value ≡ k.operands.value

-- Answers 0 and 1, on both services: where the payload went, what completes, and the message that is open behind First
-- and Middle.
pub record StoresPayload (a : Arrival) (k : Packet) (t : OpenMessage) (l : Left) : Type 0 where
  pub kind : Carries k.kind
  pub carried : length (payload_of a.packet) ≡ k.body - k.pad
  pub sends : k.kind ≡ 0 → InEntry (entry_at_head a.whole) a.whole.pair.setup.memory t.stored (payload_of a.packet) a.memory l.memory
  pub writes : k.kind ≡ 6 → 0 < t.length - t.stored
      → InRegion (region_of t.key a.whole.regions) a.whole.pair.setup.memory (t.address + t.stored) (t.length - t.stored)
      (payload_of a.packet) a.memory l.memory
  pub nothing : k.kind ≡ 6 → t.length - t.stored ≡ 0 → l.memory ≡ a.memory
  pub sent-whole : k.kind ≡ 0 → Ends k.place
      → Completes k (get_or (entry_at_head a.whole) 0 0) (t.stored + length (payload_of a.packet)) l.completion
  pub written : k.kind ≡ 6 → Ends k.place → k.operands.immediate ≡ true
      → Completes k (get_or (entry_at_head a.whole) 0 0) t.length l.completion
  pub unreported : k.kind ≡ 6 → k.operands.immediate ≡ false → Silent l.completion
  pub onward : HasMore k.place → Silent l.completion
  pub opens : HasMore k.place
      → l.whole.pair.message
      ≡ (record { kind = k.kind; stored = t.stored + length (payload_of a.packet); address = t.address; key = t.key; length = t.length })

abbrev pub InboundStores : Type 0
InboundStores =
    (a : Arrival) (t : OpenMessage) → IsCurrent a.whole.pair.message (packet_in a.packet) t
    → AnswersWith a 0 ⊎ AnswersWith a 1
    → StoresPayload a (packet_in a.packet) t (inbound a)

-- Answer 3: the word lies in the region of the atomic's key, which has the right, at the atomic's address, a multiple
-- of 8. What it was is saved with the PSN, so by InboundReplies it is also what was answered.
pub record OnRegion (region : List ℕ) (q : Pair) (k : Packet) (old new : List ℕ) (rows kept : List (List ℕ)) : Type 0 where
  pub kind : IsAtomic k.kind
  pub gives : Gives region 6 q.setup.memory k.operands.address 8
  pub fetch : k.kind ≡ 20
      → new ≡ fetch_added old (get_or region 3 0 + (k.operands.address - get_or region 1 0)) k.operands.swap
  pub swap : k.kind ≡ 19
      → new ≡ swapped old (get_or region 3 0 + (k.operands.address - get_or region 1 0)) k.operands.compare k.operands.swap
  pub saved :
      kept ≡ saved_rows rows q.saved k.psn.0 (word_at old (get_or region 3 0 + (k.operands.address - get_or region 1 0)))
  pub only : OnlyBytes old new (get_or region 3 0) (get_or region 2 0)

abbrev pub InboundSwaps : Type 0
InboundSwaps =
    (a : Arrival) → AnswersWith a 3
    → OnRegion (region_of (packet_in a.packet).operands.key a.whole.regions) a.whole.pair (packet_in a.packet)
    a.memory (inbound a).memory a.whole.saved (inbound a).whole.saved
