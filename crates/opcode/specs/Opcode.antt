-- Opcodes: bits 7 to 5 are the service; bits 4 to 0 say kind, place and headers.
use Rattle.std.specs.Prelude.{ℕ, ◌+◌, ◌-◌, ◌/◌, ◌%◌, Bool, cond, eqb, ltb}
use Rattle.opcode.specs.Kind as Kind
use Rattle.opcode.specs.Place as Place
use Rattle.opcode.specs.Service as Service
use Rattle.opcode.specs.Low as Low
use Rattle.opcode.specs.Follows as Follows
use Rattle.opcode.specs.Length as Length
use Rattle.opcode.specs.declared.OpcodeClass.{OpcodeClass}

-- how many opcodes a service has
abbrev pub per_service : ℕ
per_service = 32

abbrev pub service_of : ℕ → ℕ
service_of opcode = opcode / per_service

abbrev pub low_of : ℕ → ℕ
low_of opcode = opcode % per_service

-- a kind's number is the first opcode that has it
unfoldable pub kind_of : ℕ → ℕ
kind_of low =
    cond (ltb low Kind.write) Kind.send
    (cond (ltb low Kind.read) Kind.write
    (cond (eqb low Kind.read) Kind.read
    (cond (ltb low Kind.acknowledge) Kind.read_response
    (cond (eqb low Kind.acknowledge) Kind.acknowledge
    (cond (eqb low Kind.atomic_acknowledge) Kind.atomic_acknowledge
    (cond (eqb low Kind.cmp_swap) Kind.cmp_swap
    (cond (eqb low Kind.fetch_add) Kind.fetch_add Kind.reserved)))))))

-- counted from a First: the number after a Last's, and after an Only's, is the same place with an immediate
unfoldable pub place_in : ℕ → ℕ
place_in n =
    cond (eqb n Place.first) Place.first
    (cond (eqb n Place.middle) Place.middle (cond (ltb n Place.only) Place.last Place.only))

-- a SEND's and a WRITE's are counted from their First, READ responses have one opcode for each place; all else is one
-- packet, so Only
unfoldable pub place_of : ℕ → ℕ
place_of low =
    cond (ltb low Kind.write) (place_in low)
    (cond (ltb low Kind.read) (place_in (low - Kind.write))
    (cond (eqb low Low.read_response_first) Place.first
    (cond (eqb low Low.read_response_middle) Place.middle
    (cond (eqb low Low.read_response_last) Place.last Place.only))))

-- SENDs and WRITEs have an Immediate in the Imm forms, and a WRITE that begins a message a RETH before it
unfoldable pub send_write_follows : ℕ → ℕ
send_write_follows low =
    cond (eqb low Low.send_last_immediate) Follows.immediate
    (cond (eqb low Low.send_only_immediate) Follows.immediate
    (cond (eqb low Low.write_first) Follows.reth
    (cond (eqb low Low.write_last_immediate) Follows.immediate
    (cond (eqb low Low.write_only) Follows.reth
    (cond (eqb low Low.write_only_immediate) Follows.reth_immediate Follows.none)))))

-- a READ request has a RETH, atomics an AtomicETH, and of the responses all but a READ's Middle an AETH
unfoldable pub follows_of : ℕ → ℕ
follows_of low =
    cond (ltb low Kind.read) (send_write_follows low)
    (cond (eqb low Kind.read) Follows.reth
    (cond (eqb low Low.read_response_first) Follows.aeth
    (cond (eqb low Low.read_response_last) Follows.aeth
    (cond (eqb low Low.read_response_only) Follows.aeth
    (cond (eqb low Kind.acknowledge) Follows.aeth
    (cond (eqb low Kind.atomic_acknowledge) Follows.aeth_atomic_ack
    (cond (eqb low Kind.cmp_swap) Follows.atomic_eth
    (cond (eqb low Kind.fetch_add) Follows.atomic_eth Follows.none))))))))

-- the bytes of all headers
unfoldable pub length_of : ℕ → ℕ
length_of follows =
    cond (eqb follows Follows.reth) (Length.bth + Length.reth)
    (cond (eqb follows Follows.reth_immediate) (Length.bth + Length.reth + Length.immediate)
    (cond (eqb follows Follows.immediate) (Length.bth + Length.immediate)
    (cond (eqb follows Follows.atomic_eth) (Length.bth + Length.atomic_eth)
    (cond (eqb follows Follows.aeth) (Length.bth + Length.aeth)
    (cond (eqb follows Follows.aeth_atomic_ack) (Length.bth + Length.aeth + Length.atomic_ack_eth) Length.bth)))))

unfoldable pub low_class : ℕ → OpcodeClass
low_class low =
    record { kind = kind_of low; place = place_of low; follows = follows_of low; length = length_of (follows_of low) }

-- a reserved opcode: the BTH alone
unfoldable pub reserved_class : OpcodeClass
reserved_class = record { kind = Kind.reserved; place = Place.only; follows = Follows.none; length = Length.bth }

-- UC has SENDs and WRITEs, whose opcodes come first
unfoldable pub uc_has : ℕ → Bool
uc_has low = ltb low Kind.read

-- all other opcodes, and those of other services, are reserved
unfoldable pub class_of : ℕ → OpcodeClass
class_of opcode =
    cond (eqb (service_of opcode) Service.rc) (low_class (low_of opcode))
    (cond (eqb (service_of opcode) Service.uc) (cond (uc_has (low_of opcode)) (low_class (low_of opcode)) reserved_class) reserved_class)
