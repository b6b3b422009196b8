-- The packets that a responder sends: ACKs and NAKs, Atomic Acknowledges, READ responses. One record says which.
use Rattle.std.specs.Prelude.{ℕ, ◌+◌, ◌-◌, false, cond, List, [], ◌++◌, eqb, length, take, drop}
use Rattle.sequence.specs.Sequence.{psn_after}
use Rattle.sequence.specs.declared.Psn.{Psn}
use Rattle.sequence.specs.declared.Msn.{Msn}
use Rattle.opcode.specs.Kind as Kind
use Rattle.opcode.specs.Low as Low
use Rattle.opcode.specs.Place as Place
use Rattle.opcode.specs.Length as Length
use Rattle.header.specs.Write.{header_bytes}
use Rattle.header.specs.declared.Aeth.{Aeth}
use Rattle.header.specs.declared.Bth.{Bth}
use Rattle.header.specs.declared.Extension.{Extension}
use Rattle.header.specs.declared.Extension.TheVariants.{Bare, Acknowledge, AtomicAcknowledge}
use Rattle.header.specs.declared.Header.{Header}
use Rattle.packet.specs.Packet.{pad_of, packet_bytes}
use Rattle.pmtu.specs.Pieces.{pieces, place_at, piece_at}
use Rattle.pair.specs.declared.Setup.{Setup}
use Rattle.pair.specs.declared.ReadAnswer.{ReadAnswer}
use Rattle.responder_spec.specs.declared.Reply.{Reply}
use Rattle.responder_spec.specs.Syndrome as Syndrome

-- the kind of a reply that has no packet
abbrev pub no_packet : ℕ
no_packet = 255

abbrev pub no_psn : Psn
no_psn = record { 0 = 0 }

abbrev pub no_msn : Msn
no_msn = record { 0 = 0 }

-- one packet of this kind, or none
abbrev pub sending : ℕ → Psn → ℕ → ℕ → Reply
sending kind psn syndrome value =
    record {
      kind = kind;
      psn = psn;
      syndrome = syndrome;
      msn = no_msn;
      value = value;
      offset = 0;
      length = 0;
      remaining = 0;
    }

abbrev pub nothing_sent : Reply
nothing_sent = sending no_packet no_psn 0 0

-- the responses of a READ that is being answered; the AETH of those that have one is an ACK's
abbrev pub read_reply : ReadAnswer → Reply
read_reply a =
    record {
      kind = Kind.read_response;
      psn = a.psn;
      syndrome = Syndrome.ack;
      msn = a.msn;
      value = 0;
      offset = a.offset;
      length = a.length;
      remaining = a.remaining;
    }

-- the same of a READ that begins to be answered; its MSN is known when that is done
abbrev pub read_begun : ℕ → ℕ → ℕ → Psn → Reply
read_begun offset length remaining psn =
    read_reply (record { remaining = remaining; offset = offset; length = length; psn = psn; msn = no_msn })

-- the lengths of an Acknowledge and of an Atomic Acknowledge
abbrev pub ack_length : ℕ
ack_length = Length.bth + Length.aeth

abbrev pub atomic_ack_length : ℕ
atomic_ack_length = ack_length + Length.atomic_ack_eth

-- Our P_Key, their queue pair number; SE, MigReq, AckReq, TVer and reserved bits 0. RC's opcodes are the low five bits
abbrev pub reply_bth : Setup → ℕ → ℕ → Psn → Bth
reply_bth s opcode pad psn =
    record {
      opcode = opcode;
      se = false;
      migreq = false;
      pad = pad;
      tver = 0;
      pkey = s.pkey;
      reserved8 = 0;
      dest = s.theirs;
      ackreq = false;
      reserved7 = 0;
      psn = psn;
    }

unfoldable pub reply_header : Setup → ℕ → ℕ → Psn → Extension → Header
reply_header s opcode pad psn extension = record { bth = reply_bth s opcode pad psn; extension = extension }

abbrev pub reply_aeth : Reply → Aeth
reply_aeth r = record { syndrome = r.syndrome; msn = r.msn }

-- the opcode of either is the number of its kind
unfoldable pub ack_header : Setup → Reply → Header
ack_header s r = reply_header s Kind.acknowledge 0 r.psn (Acknowledge (reply_aeth r))

unfoldable pub atomic_header : Setup → Reply → Header
atomic_header s r = reply_header s Kind.atomic_acknowledge 0 r.psn (AtomicAcknowledge (reply_aeth r) r.value)

-- an ACK or a NAK, an Atomic Acknowledge, or none
unfoldable pub ack_bytes : Setup → Reply → List ℕ
ack_bytes s r =
    cond (eqb r.kind Kind.acknowledge) (header_bytes (ack_header s r))
    (cond (eqb r.kind Kind.atomic_acknowledge) (header_bytes (atomic_header s r)) [])

-- From here to response_bytes: response i of a READ.

-- kind plus place; an Only has an opcode of its own
unfoldable pub response_opcode : ℕ → ℕ
response_opcode place = cond (eqb place Place.only) Low.read_response_only (Kind.read_response + place)

-- AETH on all but Middles, with the MSN as at acceptance
unfoldable pub response_extension : ℕ → Reply → Extension
response_extension place r = cond (eqb place Place.middle) Bare (Acknowledge (reply_aeth r))

-- the bytes that it carries, out of memory as it is now
unfoldable pub response_payload : Reply → ℕ → List ℕ → ℕ → List ℕ
response_payload r pmtu m i = piece_at (take r.length (drop r.offset m)) pmtu i

-- its header, with n bytes to carry
unfoldable pub response_header : Setup → Reply → ℕ → ℕ → Header
response_header s r i n =
    reply_header s (response_opcode (place_at (pieces r.length s.pmtu) i)) (pad_of n) (psn_after r.psn i)
    (response_extension (place_at (pieces r.length s.pmtu) i) r)

unfoldable pub response_bytes : Setup → Reply → List ℕ → ℕ → List ℕ
response_bytes s r m i =
    packet_bytes (response_header s r i (length (response_payload r s.pmtu m i))) (response_payload r s.pmtu m i)

-- which response is next
unfoldable pub index_of : Reply → ℕ → ℕ
index_of r pmtu = pieces r.length pmtu - r.remaining

-- the packet of a reply, of a READ the next one
unfoldable pub reply_bytes : Setup → Reply → List ℕ → List ℕ
reply_bytes s r m =
    cond (eqb r.kind Kind.read_response) (response_bytes s r m (index_of r s.pmtu)) (ack_bytes s r)

-- output past the packet is unchanged
unfoldable pub over : List ℕ → List ℕ → List ℕ
over packet out = packet ++ drop (length packet) out
