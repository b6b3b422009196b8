-- The layout of headers on the wire, byte by byte; the proofs stand in proofs/.
-- Every place is listed here once more, by its number, and not by the definitions that read and write.
use Rattle.std.specs.Prelude.{ℕ, ◌+◌, ◌-◌, ◌/◌, ◌%◌, ◌^◌, ◌≤◌, ◌<◌, ◌≡◌, Bool, true, false, List, [], ◌∷◌, ◌++◌, ◌⊎◌, length, get_or, replicate}
use Rattle.opcode.specs.Opcode.{class_of}
use Rattle.header.specs.Bytes.{Bytes}
use Rattle.header.specs.Read.{bth_of, header_of}
use Rattle.header.specs.Write.{header_bytes, follows_by}
use Rattle.header.specs.declared.Bth.{Bth}
use Rattle.header.specs.declared.Reth.{Reth}
use Rattle.header.specs.declared.AtomicEth.{AtomicEth}
use Rattle.header.specs.declared.Aeth.{Aeth}
use Rattle.header.specs.declared.Extension.{Extension}
use Rattle.header.specs.declared.Extension.TheVariants.{Bare, Remote, RemoteImmediate, Immediate, Atomic, Acknowledge, AtomicAcknowledge}
use Rattle.header.specs.declared.Header.{Header}

-- a number in n bytes from byte at on, high byte first: byte i of them weighs 256 ^ (n - 1 - i)
abbrev pub BigEndianAt : List ℕ → ℕ → ℕ → ℕ → Type 0
BigEndianAt p at n value = (i : ℕ) → i < n → get_or p (at + i) 0 ≡ value / 256 ^ (n - 1 - i) % 256

-- a flag and its bit
abbrev pub BitOf : Bool → ℕ → Type 0
BitOf true bit = bit ≡ 1
BitOf false bit = bit ≡ 0

-- The BTH: bytes 0 to 11.
pub record BthAt (b : Bth) (p : List ℕ) : Type 0 where
  pub opcode : get_or p 0 0 ≡ b.opcode
  pub se : BitOf b.se (get_or p 1 0 / 128)
  pub migreq : BitOf b.migreq (get_or p 1 0 / 64 % 2)
  pub pad : get_or p 1 0 / 16 % 4 ≡ b.pad % 4
  pub tver : get_or p 1 0 % 16 ≡ b.tver % 16
  pub pkey : BigEndianAt p 2 2 b.pkey
  pub reserved8 : get_or p 4 0 ≡ b.reserved8
  pub dest : BigEndianAt p 5 3 b.dest
  pub ackreq : BitOf b.ackreq (get_or p 8 0 / 128)
  pub reserved7 : get_or p 8 0 % 128 ≡ b.reserved7 % 128
  pub psn : BigEndianAt p 9 3 b.psn.0

-- The RETH: bytes 12 to 27.
pub record RethAt (r : Reth) (p : List ℕ) : Type 0 where
  pub address : BigEndianAt p 12 8 r.address
  pub key : BigEndianAt p 20 4 r.key
  pub size : BigEndianAt p 24 4 r.length

-- The AtomicETH: bytes 12 to 39.
pub record AtomicAt (a : AtomicEth) (p : List ℕ) : Type 0 where
  pub address : BigEndianAt p 12 8 a.address
  pub key : BigEndianAt p 20 4 a.key
  pub swap : BigEndianAt p 24 8 a.swap
  pub compare : BigEndianAt p 32 8 a.compare

-- The AETH: bytes 12 to 15.
pub record AethAt (a : Aeth) (p : List ℕ) : Type 0 where
  pub syndrome : get_or p 12 0 ≡ a.syndrome
  pub msn : BigEndianAt p 13 3 a.msn.0

-- The headers after the BTH: an Immediate stands last, an AtomicAckETH after the AETH.
abbrev pub ExtensionAt : Extension → List ℕ → Type 0
ExtensionAt Bare p = Unit {0}
ExtensionAt (Remote r) p = RethAt r p
ExtensionAt (RemoteImmediate r i) p = RethAt r p × BigEndianAt p 28 4 i
ExtensionAt (Immediate i) p = BigEndianAt p 12 4 i
ExtensionAt (Atomic a) p = AtomicAt a p
ExtensionAt (Acknowledge a) p = AethAt a p
ExtensionAt (AtomicAcknowledge a v) p = AethAt a p × BigEndianAt p 16 8 v

-- what may stand after the BTH, and how many bytes all headers then have
pub data After : Type 0 where
  none reth reth_immediate immediate atomic_eth aeth aeth_atomic_ack : After

abbrev pub whole_length : After → ℕ
whole_length none = 12
whole_length reth = 28
whole_length reth_immediate = 32
whole_length immediate = 16
whole_length atomic_eth = 40
whole_length aeth = 16
whole_length aeth_atomic_ack = 24

abbrev pub after_in : Extension → After
after_in Bare = none
after_in (Remote r) = reth
after_in (RemoteImmediate r i) = reth_immediate
after_in (Immediate i) = immediate
after_in (Atomic a) = atomic_eth
after_in (Acknowledge a) = aeth
after_in (AtomicAcknowledge a v) = aeth_atomic_ack

pub record LaidOut (h : Header) (p : List ℕ) : Type 0 where
  pub bth : BthAt h.bth p
  pub extension : ExtensionAt h.extension p

-- So every header is written.
abbrev pub WrittenInPlace : Type 0
WrittenInPlace = (h : Header) → LaidOut h (header_bytes h) × (length (header_bytes h) ≡ whole_length (after_in h.extension))

-- SENDs, 0 to 5, and WRITEs, 6 to 11: First, Middle, Last, Last Imm, Only, Only Imm
abbrev pub sends_after : List After
sends_after = none ∷ none ∷ none ∷ immediate ∷ none ∷ immediate ∷ []

abbrev pub writes_after : List After
writes_after = reth ∷ none ∷ none ∷ immediate ∷ reth ∷ reth_immediate ∷ []

-- READ request, 12; READ response First, Middle, Last, Only, 13 to 16; Acknowledge, 17; Atomic Acknowledge, 18; CmpSwap,
-- 19; FetchAdd, 20
abbrev pub others_after : List After
others_after = reth ∷ aeth ∷ none ∷ aeth ∷ aeth ∷ aeth ∷ aeth_atomic_ack ∷ atomic_eth ∷ atomic_eth ∷ []

-- RC's opcodes are 0 to 31, of which 21 to 31 are reserved; UC's are 32 to 63, of which 44 to 63 are reserved. A reserved
-- opcode, and one of another service, has the BTH alone.
abbrev pub opcodes_after : List After
opcodes_after =
    sends_after ++ (writes_after ++ (others_after ++ (replicate 11 none ++ (sends_after ++ (writes_after ++ replicate 20 none)))))

abbrev pub after_opcode : ℕ → After
after_opcode opcode = get_or opcodes_after opcode none

-- So every packet is read, whether it is then dropped or not; byte 0, the opcode, says what stands after the BTH. The
-- checks look at the same BTH.
abbrev pub ReadInPlace : Type 0
ReadInPlace =
    (p : List ℕ) → Bytes p
    → LaidOut (header_of p) p × (after_opcode (get_or p 0 0) ≡ after_in (header_of p).extension) × ((header_of p).bth ≡ bth_of p)

-- The opcode's class says the same headers, and their bytes.
pub record ByOpcode (opcode : ℕ) : Type 0 where
  pub headers : (e : Extension) → (class_of opcode).follows ≡ follows_by e → after_opcode opcode ≡ after_in e
  pub only : (e : Extension) → after_opcode opcode ≡ after_in e → (class_of opcode).follows ≡ follows_by e
  pub bytes : (class_of opcode).length ≡ whole_length (after_opcode opcode)

abbrev pub HeadersByOpcode : Type 0
HeadersByOpcode = (opcode : ℕ) → ByOpcode opcode

-- Reserved, by their numbers: 21 to 31 on RC, 44 to 63 on UC, and all of other services. They and no others are of the
-- kind reserved, 21, and they have the BTH alone.
abbrev pub Reserved : ℕ → Type 0
Reserved opcode = ((21 ≤ opcode) × (opcode ≤ 31)) ⊎ (44 ≤ opcode)

pub record ReservedAs (opcode : ℕ) : Type 0 where
  pub kind : Reserved opcode → (class_of opcode).kind ≡ 21
  pub only : (class_of opcode).kind ≡ 21 → Reserved opcode
  pub alone : Reserved opcode → ((class_of opcode).follows ≡ follows_by Bare) × ((class_of opcode).length ≡ 12)

abbrev pub ReservedAlone : Type 0
ReservedAlone = (opcode : ℕ) → ReservedAs opcode
