-- Reading a header: any bytes in.
use Rattle.std.specs.Prelude.{ℕ, ◌/◌, ◌%◌, Bool, true, cond, not, List, Result, Ok, Err, leb, ltb, eqb, length, get_or}
use Rattle.opcode.specs.Opcode.{class_of, service_of}
use Rattle.opcode.specs.Service as Service
use Rattle.opcode.specs.Follows as Follows
use Rattle.opcode.specs.Length as Length
use Rattle.header.specs.Reason as Number
use Rattle.header.specs.Bytes.{be2, be3, be4, be8}
use Rattle.header.specs.declared.Bth.{Bth}
use Rattle.header.specs.declared.Reth.{Reth}
use Rattle.header.specs.declared.AtomicEth.{AtomicEth}
use Rattle.header.specs.declared.Aeth.{Aeth}
use Rattle.header.specs.declared.Extension.{Extension}
use Rattle.header.specs.declared.Extension.TheVariants.{Bare, Remote, RemoteImmediate, Immediate, Atomic, Acknowledge, AtomicAcknowledge}
use Rattle.header.specs.declared.Header.{Header}
use Rattle.header.specs.declared.Reason.{Reason}
use Rattle.header.specs.declared.Reason.TheVariants as reason

-- BTH, bytes 0 to 11. Byte 0 opcode; byte 1, from the top bit down, SE, MigReq, PadCnt in 2 bits and TVer in 4;
-- P_Key in 2 bytes; a reserved byte; DestQP in 3; byte 8 AckReq, and 7 reserved bits; PSN in 3
unfoldable pub bth_of : List ℕ → Bth
bth_of p =
    record {
      opcode = get_or p 0 0;
      se = leb 128 (get_or p 1 0);
      migreq = leb 64 (get_or p 1 0 % 128);
      pad = get_or p 1 0 / 16 % 4;
      tver = get_or p 1 0 % 16;
      pkey = be2 p 2;
      reserved8 = get_or p 4 0;
      dest = be3 p 5;
      ackreq = leb 128 (get_or p 8 0);
      reserved7 = get_or p 8 0 % 128;
      psn = record { 0 = be3 p 9 };
    }

-- RETH, from byte 12 on: an address of 8 bytes, an R_Key of 4, a DMA length of 4
unfoldable pub reth_of : List ℕ → Reth
reth_of p = record { address = be8 p 12; key = be4 p 20; length = be4 p 24 }

-- AtomicETH, from byte 12 on: an address of 8 bytes, an R_Key of 4, what to swap in or add in 8, what to compare in 8
unfoldable pub atomic_of : List ℕ → AtomicEth
atomic_of p = record { address = be8 p 12; key = be4 p 20; swap = be8 p 24; compare = be8 p 32 }

-- AETH, from byte 12 on: a syndrome of 1 byte, an MSN of 3
unfoldable pub aeth_of : List ℕ → Aeth
aeth_of p = record { syndrome = get_or p 12 0; msn = record { 0 = be3 p 13 } }

-- the headers after the BTH, by the opcode's class; Immediate stands last, AtomicAckETH after the AETH
unfoldable pub extension_of : ℕ → List ℕ → Extension
extension_of follows p =
    cond (eqb follows Follows.reth) (Remote (reth_of p))
    (cond (eqb follows Follows.reth_immediate) (RemoteImmediate (reth_of p) (be4 p 28))
    (cond (eqb follows Follows.immediate) (Immediate (be4 p 12))
    (cond (eqb follows Follows.atomic_eth) (Atomic (atomic_of p))
    (cond (eqb follows Follows.aeth) (Acknowledge (aeth_of p))
    (cond (eqb follows Follows.aeth_atomic_ack) (AtomicAcknowledge (aeth_of p) (be8 p 16)) Bare)))))

unfoldable pub header_of : List ℕ → Header
header_of p = record { bth = bth_of p; extension = extension_of (class_of (bth_of p).opcode).follows p }

-- the bytes of the longest packet: a payload of 4,096 behind the BTH, a RETH and an Immediate
abbrev pub packet_limit : ℕ
packet_limit = 4128

-- a packet has a BTH at least, and words of 4 bytes
unfoldable pub bad_length : ℕ → Bool
bad_length n = cond (ltb n Length.bth) true (cond (ltb packet_limit n) true (not (eqb (n % 4) 0)))

-- service bits that are neither RC's nor UC's
unfoldable pub other_service : ℕ → Bool
other_service service = ltb Service.uc service

-- a header check by its number among all nine
abbrev pub check_number : Reason → ℕ
check_number reason.Length = Number.length
check_number reason.Version = Number.version
check_number reason.Number = Number.number
check_number reason.Key = Number.key
check_number reason.Service = Number.service
check_number reason.Response = Number.response
check_number reason.Unserved = Number.unserved
check_number reason.Short = Number.short
check_number reason.NotReady = Number.not_ready

-- the number of the check that failed, or 0
unfoldable pub read_check : {A : Type 0} → Result A Reason → ℕ
read_check (Ok x) = 0
read_check (Err why) = check_number why

-- reading alone makes four of the header checks: the first that fails
unfoldable pub read_checks : List ℕ → Result (Unit {0}) Reason
read_checks p =
    cond (bad_length (length p)) (Err reason.Length)
    (cond (not (eqb (bth_of p).tver 0)) (Err reason.Version)
    (cond (other_service (service_of (bth_of p).opcode)) (Err reason.Service)
    (cond (ltb (length p) (class_of (bth_of p).opcode).length) (Err reason.Short) (Ok tt))))

-- its number, or 0
unfoldable pub read_reason : List ℕ → ℕ
read_reason p = read_check (read_checks p)

-- what the checks make of a packet
unfoldable pub read_by : Result (Unit {0}) Reason → List ℕ → Result Header Reason
read_by (Ok passed) p = Ok (header_of p)
read_by (Err why) p = Err why

-- the answer's number in the rules: a packet whose header does not read is a quiet drop
abbrev pub quiet_drop : ℕ
quiet_drop = 5

unfoldable pub read_number : Result Header Reason → ℕ
read_number (Ok h) = 0
read_number (Err why) = quiet_drop

-- the number by the check that failed first, or 0
abbrev pub reason_number : ℕ → ℕ
reason_number reason = cond (eqb reason 0) 0 quiet_drop

unfoldable pub read_header : List ℕ → Result Header Reason
read_header p = read_by (read_checks p) p
