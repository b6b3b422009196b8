-- A request packet as numbers.
use Rattle.std.specs.Prelude.{ℕ, ◌-◌, Bool, true, false, List, Result, Ok, Err, length}
use Rattle.opcode.specs.Opcode.{class_of}
use Rattle.opcode.specs.declared.OpcodeClass.{OpcodeClass}
use Rattle.header.specs.declared.Reth.{Reth}
use Rattle.header.specs.declared.AtomicEth.{AtomicEth}
use Rattle.header.specs.declared.Extension.{Extension}
use Rattle.header.specs.declared.Extension.TheVariants.{Bare, Remote, RemoteImmediate, Immediate, Atomic, Acknowledge, AtomicAcknowledge}
use Rattle.header.specs.declared.Header.{Header}
use Rattle.header.specs.declared.Reason.{Reason}
use Rattle.header.specs.Read.{header_of, quiet_drop}
use Rattle.request_spec.specs.declared.Operands.{Operands}
use Rattle.request_spec.specs.declared.Packet.{Packet}

-- a RETH's address, R_Key and DMA length, with or without an immediate behind it
abbrev pub remote : Reth → Bool → ℕ → Operands
remote a immediate value =
    record { address = a.address; key = a.key; length = a.length; swap = 0; compare = 0; immediate = immediate; value = value }

abbrev pub alone : Bool → ℕ → Operands
alone immediate value =
    record { address = 0; key = 0; length = 0; swap = 0; compare = 0; immediate = immediate; value = value }

-- an atomic names 8 bytes
abbrev pub atomic_length : ℕ
atomic_length = 8

abbrev pub exchanging : AtomicEth → Operands
exchanging a =
    record { address = a.address; key = a.key; length = atomic_length; swap = a.swap; compare = a.compare; immediate = false; value = 0 }

-- responses do not come to a responder
unfoldable pub operands_of : Extension → Operands
operands_of Bare = alone false 0
operands_of (Remote a) = remote a false 0
operands_of (RemoteImmediate a v) = remote a true v
operands_of (Immediate v) = alone true v
operands_of (Atomic a) = exchanging a
operands_of (Acknowledge a) = alone false 0
operands_of (AtomicAcknowledge a v) = alone false 0

-- the packet of n bytes that has this header, by the class of its opcode
abbrev pub packet_by : OpcodeClass → Header → ℕ → Packet
packet_by c h n =
    record {
      kind = c.kind;
      place = c.place;
      ackreq = h.bth.ackreq;
      pad = h.bth.pad;
      psn = h.bth.psn;
      start = c.length;
      body = n - c.length;
      operands = operands_of h.extension;
    }

unfoldable pub packet_of : Header → ℕ → Packet
packet_of h n = packet_by (class_of h.bth.opcode) h n

-- what the header checks of a pair find, of a packet of n bytes: the packet, or the check that failed first
abbrev pub admission : Result Header Reason → ℕ → Result Packet Reason
admission (Ok h) n = Ok (packet_of h n)
admission (Err why) n = Err why

-- its number: 0, or that of the quiet drop
abbrev pub admission_number : Result Packet Reason → ℕ
admission_number (Ok p) = 0
admission_number (Err why) = quiet_drop

-- the packet that bytes have, whether or not their header passes the checks
abbrev pub packet_in : List ℕ → Packet
packet_in p = packet_of (header_of p) (length p)
