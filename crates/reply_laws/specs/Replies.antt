-- The packet of an answer, read back; and what stands behind it in the output.
use Rattle.std.specs.Prelude.{ℕ, ◌+◌, ◌-◌, ◌^◌, ◌<◌, ◌≡◌, List, [], ◌⊎◌, take, drop, Some, Ok}
use Rattle.responder_spec.specs.Arrival.{Arrival, Left}
use Rattle.responder_spec.specs.Inbound.{inbound}
use Rattle.sequence.specs.Sequence.{psn_after}
use Rattle.sequence.specs.declared.Psn.{Psn}
use Rattle.header.specs.Bytes.{Bytes}
use Rattle.header.specs.Read.{bth_of, read_header}
use Rattle.header.specs.declared.Extension.TheVariants.{Acknowledge, AtomicAcknowledge}
use Rattle.memory.specs.Word.{word_at}
use Rattle.table.specs.Claims.{SavedSound}
use Rattle.table.specs.View.{newest_saved, saved_rows}
use Rattle.pmtu.specs.Pieces.{pieces}
use Rattle.pair.specs.declared.Setup.{Setup}
use Rattle.pair.specs.declared.Pair.{Pair}
use Rattle.responder_spec.specs.declared.Reply.{Reply}
use Rattle.responder_spec.specs.Reply.{response_bytes, reply_bytes}
use Rattle.response_laws.specs.Responses.{plain_header}

-- The packet of any reply: the kind is its opcode, an Acknowledge's or an Atomic Acknowledge's, and the record says the
-- rest; of a READ it is the first response of those that are left; any other kind has none.
pub record Packets (s : Setup) (r : Reply) (bytes : List ℕ) : Type 0 where
  pub ack : r.kind ≡ 17
      → read_header (reply_bytes s r bytes) ≡ Ok (plain_header s 17 0 r.psn (Acknowledge (record { syndrome = r.syndrome; msn = r.msn })))
  pub atomic : r.kind ≡ 18
      → read_header (reply_bytes s r bytes)
      ≡ Ok (plain_header s 18 0 r.psn (AtomicAcknowledge (record { syndrome = r.syndrome; msn = r.msn }) r.value))
  pub response : r.kind ≡ 13 → reply_bytes s r bytes ≡ response_bytes s r bytes (pieces r.length s.pmtu - r.remaining)
  pub none : (r.kind ≡ 13 → ⊥) → (r.kind ≡ 17 → ⊥) → (r.kind ≡ 18 → ⊥) → reply_bytes s r bytes ≡ []

abbrev pub ReplyPackets : Type 0
ReplyPackets =
    (s : Setup) (r : Reply) (m : List ℕ) → s.pkey < 2 ^ 16 → s.theirs < 2 ^ 24
    → (r.psn.0 < 2 ^ 24) × (r.syndrome < 2 ^ 8) × (r.msn.0 < 2 ^ 24) × (r.value < 2 ^ 64)
    → Packets s r m

-- 16 bytes: an Acknowledge, opcode 17, with the MSN of the pair as it is now. Output past it is unchanged.
pub record AckSent (a : Arrival) (l : Left) (psn : Psn) (syndrome : ℕ) : Type 0 where
  pub outgoing : l.outgoing ≡ 16
  pub packet : read_header (take 16 l.out)
      ≡ Ok (plain_header a.whole.pair.setup 17 0 psn (Acknowledge (record { syndrome = syndrome; msn = l.whole.pair.msn })))
  pub behind : drop 16 l.out ≡ drop 16 a.out

-- 24 bytes: an Atomic Acknowledge, opcode 18, of an ACK and a value.
pub record ValueSent (a : Arrival) (l : Left) (psn : Psn) (value : ℕ) : Type 0 where
  pub outgoing : l.outgoing ≡ 24
  pub packet : read_header (take 24 l.out)
      ≡ Ok (plain_header a.whole.pair.setup 18 0 psn (AtomicAcknowledge (record { syndrome = 31; msn = l.whole.pair.msn }) value))
  pub behind : drop 24 l.out ≡ drop 24 a.out

-- By the answer's number: syndrome and PSN; an atomic answers the word that it found, and saves it; a duplicate one
-- answers the value saved.
pub record Replies (a : Arrival) (l : Left) : Type 0 where
  pub acknowledged : l.number ≡ 1 → AckSent a l (bth_of a.packet).psn 31
  pub swapped : l.number ≡ 3
      → (at : ℕ) × ValueSent a l (bth_of a.packet).psn (word_at a.memory at)
      × (l.whole.saved ≡ saved_rows a.whole.saved a.whole.pair.saved (bth_of a.packet).psn.0 (word_at a.memory at))
  pub duplicate : l.number ≡ 4
      → AckSent a l (psn_after a.whole.pair.expected 16777215) 31
      ⊎ (((v : ℕ) × (newest_saved (bth_of a.packet).psn.0 a.whole.saved a.whole.pair.saved ≡ Some v)
      × ValueSent a l (bth_of a.packet).psn v)
      ⊎ (l.outgoing ≡ 0))
  pub sequence : l.number ≡ 16 → AckSent a l a.whole.pair.expected 96
  pub invalid : l.number ≡ 17 → AckSent a l (bth_of a.packet).psn 97
  pub access : l.number ≡ 18 → AckSent a l (bth_of a.packet).psn 98
  pub unready : l.number ≡ 19 → AckSent a l (bth_of a.packet).psn (32 + a.whole.pair.setup.timer)

-- Nothing but widths is asked for: bytes are bytes, a P_Key has 16 bits, saved values have 64.
abbrev pub InboundReplies : Type 0
InboundReplies =
    (a : Arrival) → a.whole.pair.setup.pkey < 2 ^ 16 → Bytes a.memory → Bytes a.packet
    → SavedSound a.whole.saved a.whole.pair.saved
    → Replies a (inbound a)
