-- Packet i of a message.
use Rattle.std.specs.Prelude.{ℕ, ◌+◌, ◌-◌, ◌*◌, Bool, false, cond, not, ◌&&◌, ◌||◌, List, ◌++◌, Result, Ok, Err, is_ok, leb, ltb, eqb, length, drop, ⊤}
use Rattle.std.specs.Result.{result_and}
use Rattle.sequence.specs.Sequence.{space, psn_after}
use Rattle.sequence.specs.declared.Psn.{Psn}
use Rattle.opcode.specs.Opcode.{per_service}
use Rattle.opcode.specs.Kind as Kind
use Rattle.opcode.specs.Service as Service
use Rattle.header.specs.Read.{other_service}
use Rattle.header.specs.Refusal.{out_of_range, bad_number}
use Rattle.header.specs.Write.{qpn_space}
use Rattle.header.specs.declared.Bth.{Bth}
use Rattle.header.specs.declared.Reth.{Reth}
use Rattle.header.specs.declared.AtomicEth.{AtomicEth}
use Rattle.header.specs.declared.Extension.{Extension}
use Rattle.header.specs.declared.Extension.TheVariants.{Bare, Remote, RemoteImmediate, Immediate, Atomic}
use Rattle.header.specs.declared.Header.{Header}
use Rattle.header.specs.declared.Refusal.{Refusal}
use Rattle.header.specs.declared.Refusal.TheVariants.{OutOfRange, BadNumber}
use Rattle.packet.specs.Packet.{pad_of, packet_bytes, packet_length, packet_written, packet_answer}
use Rattle.opcode.specs.Place.{starts, ends}
use Rattle.pmtu.specs.Pieces.{pmtu_fits, place_at, piece_at, part_at}
use Rattle.cut_spec.specs.Message.{carries, carried, carried_length, message_length, message_limit, packets_of}
use Rattle.cut_spec.specs.declared.Connection.{Connection}
use Rattle.cut_spec.specs.declared.Target.{Target}
use Rattle.cut_spec.specs.declared.Request.{Request}
use Rattle.cut_spec.specs.declared.Request.TheVariants.{Send, SendImmediate, Write, WriteImmediate, Read, CmpSwap, FetchAdd}

-- an Imm form is one more than the form without
unfoldable pub with_immediate : ℕ → ℕ
with_immediate place = cond (ends place) (place + 1) place

-- the opcode's low five bits: kind plus place; of a SEND, whose kind is 0, the place alone
unfoldable pub low_for : Request → ℕ → ℕ
low_for Send place = place
low_for (SendImmediate v) place = with_immediate place
low_for (Write t) place = Kind.write + place
low_for (WriteImmediate t v) place = Kind.write + with_immediate place
low_for (Read a) place = Kind.read
low_for (CmpSwap a) place = Kind.cmp_swap
low_for (FetchAdd t v) place = Kind.fetch_add

-- an Immediate stands on the packet that ends a message
unfoldable pub send_extension : ℕ → ℕ → Extension
send_extension v place = cond (ends place) (Immediate v) Bare

-- a WRITE's RETH, on the packet that begins it, has the length of the message; an Immediate stands behind it
unfoldable pub reth_for : Target → ℕ → Reth
reth_for t n = record { address = t.address; key = t.key; length = n }

unfoldable pub write_extension : Reth → ℕ → Extension
write_extension a place = cond (starts place) (Remote a) Bare

unfoldable pub write_end : Reth → ℕ → Bool → Extension
write_end a v begins = cond begins (RemoteImmediate a v) (Immediate v)

unfoldable pub write_immediate_extension : Reth → ℕ → ℕ → Extension
write_immediate_extension a v place = cond (ends place) (write_end a v (starts place)) (write_extension a place)

-- A FetchAdd has one operand: its compare field is sent as 0
unfoldable pub fetch_add_eth : Target → ℕ → AtomicEth
fetch_add_eth t v = record { address = t.address; key = t.key; swap = v; compare = 0 }

-- the headers after the BTH, by the request, the length n of the message and the packet's place in it
unfoldable pub extension_for : Request → ℕ → ℕ → Extension
extension_for Send n place = Bare
extension_for (SendImmediate v) n place = send_extension v place
extension_for (Write t) n place = write_extension (reth_for t n) place
extension_for (WriteImmediate t v) n place = write_immediate_extension (reth_for t n) v place
extension_for (Read a) n place = Remote a
extension_for (CmpSwap a) n place = Atomic a
extension_for (FetchAdd t v) n place = Atomic (fetch_add_eth t v)

-- the BTH of packet i of count, which carries size bytes: AckReq on the last packet only; SE, MigReq, TVer and reserved
-- bits 0; PSNs one after the other from the first
unfoldable pub bth_at : Connection → ℕ → Psn → ℕ → ℕ → ℕ → Bth
bth_at c low first i count size =
    record {
      opcode = c.service * per_service + low;
      se = false;
      migreq = false;
      pad = pad_of size;
      tver = 0;
      pkey = c.pkey;
      reserved8 = 0;
      dest = c.dest;
      ackreq = eqb (i + 1) count;
      reserved7 = 0;
      psn = psn_after first i;
    }

-- how many bytes packet i carries
unfoldable pub size_at : Request → ℕ → ℕ → ℕ → ℕ
size_at r n pmtu i =
    (part_at (carried_length r n) pmtu i).end - (part_at (carried_length r n) pmtu i).start

-- the headers of packet i of a message of n lent bytes
unfoldable pub header_at : Connection → Request → ℕ → Psn → ℕ → Header
header_at c r n first i =
    record {
      bth = bth_at c (low_for r (place_at (packets_of r n c.pmtu) i)) first i (packets_of r n c.pmtu) (size_at r n c.pmtu i);
      extension = extension_for r (message_length r n) (place_at (packets_of r n c.pmtu) i);
    }

-- the bytes it carries: those of the message d from byte i x PMTU on
unfoldable pub payload_at : Connection → Request → List ℕ → ℕ → List ℕ
payload_at c r d i = piece_at (carried r d) c.pmtu i

-- packet i of the message d
unfoldable pub cut_bytes : Connection → Request → List ℕ → Psn → ℕ → List ℕ
cut_bytes c r d first i = packet_bytes (header_at c r (length d) first i) (payload_at c r d i)

-- READs and atomics, which carry no bytes, are not for UC
unfoldable pub unserved : Bool → ℕ → Bool
unserved carrying service = not carrying && eqb service Service.uc

-- no such PMTU, a service that is neither RC nor UC, a number over 24 bits, a READ or atomic on UC
unfoldable pub cut_unfit : Connection → Bool → ℕ → Bool
cut_unfit c carrying psn =
    not (pmtu_fits c.pmtu)
    || (other_service c.service || (leb qpn_space c.dest || (leb space psn || unserved carrying c.service)))

-- the refusals of a cut before its output is looked at: as above; a message over the limit, or no packet i in it
unfoldable pub check_cut : Connection → Request → ℕ → ℕ → ℕ → Result ⊤ Refusal
check_cut c r n psn i =
    cond (cut_unfit c (carries r) psn) (Err BadNumber)
    (cond (ltb message_limit (message_length r n)) (Err OutOfRange)
    (cond (leb (packets_of r n c.pmtu) i) (Err OutOfRange) (Ok tt)))

-- the answer: the one that applies, or what the packet writer answers, which refuses a packet that does not fit the output
unfoldable pub cut_written : Connection → Request → List ℕ → Psn → ℕ → ℕ → Result ℕ Refusal
cut_written c r d first i room =
    result_and (check_cut c r (length d) first.0 i)
    (packet_written (header_at c r (length d) first i) (length (payload_at c r d i)) room)

-- the number of the refusal before the output is looked at, by the rules, or 0
unfoldable pub cut_refusal : Connection → Request → ℕ → ℕ → ℕ → ℕ
cut_refusal c r n psn i =
    cond (cut_unfit c (carries r) psn) bad_number
    (cond (ltb message_limit (message_length r n)) out_of_range
    (cond (leb (packets_of r n c.pmtu) i) out_of_range 0))

-- the answer's number: that, or the packet writer's
unfoldable pub cut_answer : Connection → Request → List ℕ → Psn → ℕ → ℕ → ℕ
cut_answer c r d first i room =
    cond (eqb (cut_refusal c r (length d) first.0 i) 0)
    (packet_answer (header_at c r (length d) first i) (length (payload_at c r d i)) room)
    (cut_refusal c r (length d) first.0 i)

-- the output: packet i and what stood behind it, or, refused, as it was
unfoldable pub cut_out : Connection → Request → List ℕ → Psn → ℕ → List ℕ → List ℕ
cut_out c r d first i out =
    cond (is_ok (cut_written c r d first i (length out)))
    (cut_bytes c r d first i ++ drop (packet_length (header_at c r (length d) first i) (length (payload_at c r d i))) out)
    out
