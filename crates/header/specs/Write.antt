-- Writing a header.
use Rattle.std.specs.Prelude.{ℕ, ◌+◌, ◌*◌, ◌%◌, ◌^◌, Bool, true, cond, not, ◌&&◌, List, [], ◌∷◌, ◌++◌, Result, Ok, Err, is_ok, ltb, eqb, length, drop}
use Rattle.sequence.specs.Sequence.{space, msn_space}
use Rattle.opcode.specs.Opcode.{class_of, service_of}
use Rattle.opcode.specs.Follows as Follows
use Rattle.std.specs.Result.{result_unwrap_or}
use Rattle.header.specs.Refusal.{output_short, bad_number, refusal_number}
use Rattle.header.specs.Bytes.{two, three, four, eight, bit}
use Rattle.header.specs.Read.{other_service}
use Rattle.header.specs.declared.Bth.{Bth}
use Rattle.header.specs.declared.Reth.{Reth}
use Rattle.header.specs.declared.AtomicEth.{AtomicEth}
use Rattle.header.specs.declared.Aeth.{Aeth}
use Rattle.header.specs.declared.Extension.{Extension}
use Rattle.header.specs.declared.Extension.TheVariants.{Bare, Remote, RemoteImmediate, Immediate, Atomic, Acknowledge, AtomicAcknowledge}
use Rattle.header.specs.declared.Header.{Header}
use Rattle.header.specs.declared.Refusal.{Refusal}
use Rattle.header.specs.declared.Refusal.TheVariants.{OutputShort, BadNumber}

-- the bytes of each header, its fields in wire order
abbrev pub flags_byte : Bth → ℕ
flags_byte b = bit b.se * 128 + bit b.migreq * 64 + b.pad % 4 * 16 + b.tver % 16

abbrev pub ack_byte : Bth → ℕ
ack_byte b = bit b.ackreq * 128 + b.reserved7 % 128

unfoldable pub bth_bytes : Bth → List ℕ
bth_bytes b =
    (b.opcode ∷ flags_byte b ∷ two b.pkey)
    ++ ((b.reserved8 ∷ three b.dest) ++ (ack_byte b ∷ three b.psn.0))

unfoldable pub reth_bytes : Reth → List ℕ
reth_bytes r = eight r.address ++ (four r.key ++ four r.length)

unfoldable pub atomic_bytes : AtomicEth → List ℕ
atomic_bytes a = eight a.address ++ (four a.key ++ (eight a.swap ++ eight a.compare))

unfoldable pub aeth_bytes : Aeth → List ℕ
aeth_bytes a = a.syndrome ∷ three a.msn.0

unfoldable pub extension_bytes : Extension → List ℕ
extension_bytes Bare = []
extension_bytes (Remote r) = reth_bytes r
extension_bytes (RemoteImmediate r i) = reth_bytes r ++ four i
extension_bytes (Immediate i) = four i
extension_bytes (Atomic a) = atomic_bytes a
extension_bytes (Acknowledge a) = aeth_bytes a
extension_bytes (AtomicAcknowledge a v) = aeth_bytes a ++ eight v

unfoldable pub header_bytes : Header → List ℕ
header_bytes h = bth_bytes h.bth ++ extension_bytes h.extension

-- how many queue pair numbers there are
abbrev pub qpn_space : ℕ
qpn_space = 2 ^ 24

-- each field within its width, TVer 0, a service that is RC or UC
unfoldable pub bth_fits : Bth → Bool
bth_fits b =
    ltb b.opcode (2 ^ 8)
    && (not (other_service (service_of b.opcode))
    && (ltb b.pad (2 ^ 2)
    && (eqb b.tver 0
    && (ltb b.pkey (2 ^ 16)
    && (ltb b.reserved8 (2 ^ 8)
    && (ltb b.dest qpn_space && (ltb b.reserved7 (2 ^ 7) && ltb b.psn.0 space)))))))

unfoldable pub reth_fits : Reth → Bool
reth_fits r = ltb r.address (2 ^ 64) && (ltb r.key (2 ^ 32) && ltb r.length (2 ^ 32))

unfoldable pub atomic_fits : AtomicEth → Bool
atomic_fits a =
    ltb a.address (2 ^ 64)
    && (ltb a.key (2 ^ 32) && (ltb a.swap (2 ^ 64) && ltb a.compare (2 ^ 64)))

unfoldable pub aeth_fits : Aeth → Bool
aeth_fits a = ltb a.syndrome (2 ^ 8) && ltb a.msn.0 msn_space

unfoldable pub immediate_fits : ℕ → Bool
immediate_fits i = ltb i (2 ^ 32)

unfoldable pub reth_immediate_fits : Reth → ℕ → Bool
reth_immediate_fits r i = reth_fits r && immediate_fits i

unfoldable pub aeth_value_fits : Aeth → ℕ → Bool
aeth_value_fits a v = aeth_fits a && ltb v (2 ^ 64)

unfoldable pub widths_fit : Extension → Bool
widths_fit Bare = true
widths_fit (Remote r) = reth_fits r
widths_fit (RemoteImmediate r i) = reth_immediate_fits r i
widths_fit (Immediate i) = immediate_fits i
widths_fit (Atomic a) = atomic_fits a
widths_fit (Acknowledge a) = aeth_fits a
widths_fit (AtomicAcknowledge a v) = aeth_value_fits a v

-- which headers these are, by the number that an opcode's class gives them
unfoldable pub follows_by : Extension → ℕ
follows_by Bare = Follows.none
follows_by (Remote r) = Follows.reth
follows_by (RemoteImmediate r i) = Follows.reth_immediate
follows_by (Immediate i) = Follows.immediate
follows_by (Atomic a) = Follows.atomic_eth
follows_by (Acknowledge a) = Follows.aeth
follows_by (AtomicAcknowledge a v) = Follows.aeth_atomic_ack

-- the headers are those of the opcode's class, and each field is within its width
unfoldable pub extension_fits : ℕ → Extension → Bool
extension_fits follows e = eqb follows (follows_by e) && widths_fit e

unfoldable pub header_fits : Header → Bool
header_fits h = bth_fits h.bth && extension_fits (class_of h.bth.opcode).follows h.extension

unfoldable pub header_length : Header → ℕ
header_length h = (class_of h.bth.opcode).length

-- the answer: how many bytes are written, or why none are
unfoldable pub written : Header → ℕ → Result ℕ Refusal
written h n = cond (header_fits h) (cond (ltb n (header_length h)) (Err OutputShort) (Ok (header_length h))) (Err BadNumber)

-- the number of an answer: its refusal's, or 0
unfoldable pub answer_number : {A : Type 0} → Result A Refusal → ℕ
answer_number (Ok x) = 0
answer_number (Err refusal) = refusal_number refusal

-- the number that writing has by the rules, from its tests alone: the refusal's, or 0
unfoldable pub write_answer : Header → ℕ → ℕ
write_answer h n = cond (header_fits h) (cond (ltb n (header_length h)) output_short 0) bad_number

-- how many bytes an answer counts, 0 where it is refused
abbrev pub done_bytes : Result ℕ Refusal → ℕ
done_bytes answer = result_unwrap_or answer 0

-- the output: the header's bytes and what stood behind them, or, refused, as it was
unfoldable pub written_out : Header → List ℕ → List ℕ
written_out h out = cond (is_ok (written h (length out))) (header_bytes h ++ drop (header_length h) out) out
