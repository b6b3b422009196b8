-- A stream of messages, cut into packets and numbered one after the other.
use Rattle.std.specs.Prelude.{ℕ, zero, suc, ◌+◌, List, [], ◌∷◌, ◌++◌, length, get_or}
use Rattle.sequence.specs.declared.Psn.{Psn}
use Rattle.opcode.specs.Service as Service
use Rattle.pmtu.specs.Pieces.{pieces}
use Rattle.cut_spec.specs.Message.{packets_of}
use Rattle.cut_spec.specs.Next.{next_psn}
use Rattle.cut_spec.specs.Cut.{cut_bytes}
use Rattle.cut_spec.specs.declared.Connection.{Connection}
use Rattle.cut_spec.specs.declared.Request.{Request}
use Rattle.cut_spec.specs.declared.Request.TheVariants.{Send, SendImmediate, Write, WriteImmediate, Read, CmpSwap, FetchAdd}

-- what is sent, to whom, and the bytes, if it has any
pub record Message : Type 0 where
  pub connection : Connection
  pub request : Request
  pub bytes : List ℕ

-- how many packets it has
abbrev pub packet_count : Message → ℕ
packet_count m = packets_of m.request (length m.bytes) m.connection.pmtu

-- a packet of the stream: its message, the PSN of the message's first packet, and which packet of the message it is
pub record Slot : Type 0 where
  pub message : Message
  pub first : Psn
  pub index : ℕ

-- n packets of a message from packet i on
unfoldable pub slots_from : Message → Psn → ℕ → ℕ → List Slot
slots_from m first i zero = []
slots_from m first i (suc n) = record { message = m; first = first; index = i } ∷ slots_from m first (suc i) n

-- the packets of all messages, the first of which has the PSN given, and each next one that of the cutting rules
unfoldable pub stream : Psn → List Message → List Slot
stream first [] = []
stream first (m ∷ ms) =
    slots_from m first 0 (packet_count m)
    ++ stream (next_psn m.request (length m.bytes) m.connection.pmtu first) ms

-- Past the end a message would begin: after the last packet, as before the first of a message, none is open. So the
-- index is 0; nothing else of it is ever looked at, since only packets of the stream are handed in.
abbrev pub past : Slot
past =
    record {
      message = record { connection = record { service = Service.rc; pmtu = 0; pkey = 0; dest = 0 }; request = Send; bytes = [] };
      first = record { 0 = 0 };
      index = 0;
    }

abbrev pub slot : List Slot → ℕ → Slot
slot S j = get_or S j past

-- the bytes of a packet: what the cutting call writes
unfoldable pub packet_at : Slot → List ℕ
packet_at t = cut_bytes t.message.connection t.message.request t.message.bytes t.first t.index

-- how many numbers a packet takes: a READ as many as it has responses
abbrev pub psn_count_of : Request → ℕ → ℕ
psn_count_of Send pmtu = 1
psn_count_of (SendImmediate v) pmtu = 1
psn_count_of (Write t) pmtu = 1
psn_count_of (WriteImmediate t v) pmtu = 1
psn_count_of (Read a) pmtu = pieces a.length pmtu
psn_count_of (CmpSwap a) pmtu = 1
psn_count_of (FetchAdd t v) pmtu = 1

abbrev pub psn_count : Slot → ℕ
psn_count t = psn_count_of t.message.request t.message.connection.pmtu

-- how far along the stream packet j is, or would be: not wrapped
unfoldable pub number_along : List Slot → ℕ → ℕ
number_along [] j = 0
number_along (t ∷ S) zero = 0
number_along (t ∷ S) (suc j) = psn_count t + number_along S j
