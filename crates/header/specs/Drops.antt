-- Which packets the header checks drop, by which number and in which order; the proofs stand in proofs/.
-- Every condition is listed here once more, by numbers, and not by the test that the checks make.
use Rattle.std.specs.Prelude.{ℕ, ◌/◌, ◌%◌, ◌≤◌, ◌<◌, Bool, true, ◌≡◌, List, ◌⊎◌, Ok, Err, length, get_or}
use Rattle.opcode.specs.Opcode.{class_of}
use Rattle.header.specs.Read.{bth_of, header_of, check_number, read_reason, read_header}
use Rattle.header.specs.Check.{header_reason, admitted}
use Rattle.header.specs.Layout.{whole_length, after_opcode}
use Rattle.header.specs.declared.Bth.{Bth}
use Rattle.header.specs.declared.Reason.{Reason}

-- First: 12 to 4,128 bytes, in words of 4.
pub record LengthGood (n : ℕ) : Type 0 where
  pub least : 12 ≤ n
  pub most : n ≤ 4128
  pub words : n % 4 ≡ 0

-- Fourth: the 15 low bits of the two P_Keys agree and are not all 0, and one top bit is set.
pub record KeysMatch (theirs ours : ℕ) : Type 0 where
  pub same : theirs % 32768 ≡ ours % 32768
  pub some : theirs % 32768 ≡ 0 → ⊥
  pub full : (32768 ≤ theirs) ⊎ (32768 ≤ ours)

-- Fifth: bits 7 to 5 of the opcode are the pair's service, and that is RC, 0, or UC, 1.
pub record ServiceOurs (opcode service : ℕ) : Type 0 where
  pub same : opcode / 32 ≡ service
  pub known : (service ≡ 0) ⊎ (service ≡ 1)

-- Sixth: bits 4 to 0 are not those of a response, 13 to 18.
abbrev pub NoResponse : ℕ → Type 0
NoResponse opcode = (opcode % 32 < 13) ⊎ (18 < opcode % 32)

-- Seventh: on UC they are those of a SEND or a WRITE, 0 to 11.
abbrev pub OnService : ℕ → ℕ → Type 0
OnService opcode service = service ≡ 1 → opcode % 32 < 12

-- The number of nine conditions, in this order: the first that fails decides, whatever the later ones are; 0 if none
-- does. And back: each number says what held and what did not, and no other number comes.
pub record FirstOf (Length Version Number Key Service Request Served Whole Ready : Type 0) (reason : ℕ) : Type 0 where
  pub length : (Length → ⊥) → reason ≡ 1
  pub version : Length → (Version → ⊥) → reason ≡ 2
  pub number : Length → Version → (Number → ⊥) → reason ≡ 3
  pub key : Length → Version → Number → (Key → ⊥) → reason ≡ 4
  pub service : Length → Version → Number → Key → (Service → ⊥) → reason ≡ 5
  pub request : Length → Version → Number → Key → Service → (Request → ⊥) → reason ≡ 6
  pub served : Length → Version → Number → Key → Service → Request → (Served → ⊥) → reason ≡ 7
  pub whole : Length → Version → Number → Key → Service → Request → Served → (Whole → ⊥) → reason ≡ 8
  pub ready : Length → Version → Number → Key → Service → Request → Served → Whole → (Ready → ⊥) → reason ≡ 9
  pub good : Length → Version → Number → Key → Service → Request → Served → Whole → Ready → reason ≡ 0
  pub only : reason ≡ 0 → Length × Version × Number × Key × Service × Request × Served × Whole × Ready
  pub only1 : reason ≡ 1 → Length → ⊥
  pub only2 : reason ≡ 2 → Length × (Version → ⊥)
  pub only3 : reason ≡ 3 → Length × Version × (Number → ⊥)
  pub only4 : reason ≡ 4 → Length × Version × Number × (Key → ⊥)
  pub only5 : reason ≡ 5 → Length × Version × Number × Key × (Service → ⊥)
  pub only6 : reason ≡ 6 → Length × Version × Number × Key × Service × (Request → ⊥)
  pub only7 : reason ≡ 7 → Length × Version × Number × Key × Service × Request × (Served → ⊥)
  pub only8 : reason ≡ 8 → Length × Version × Number × Key × Service × Request × Served × (Whole → ⊥)
  pub only9 : reason ≡ 9 → Length × Version × Number × Key × Service × Request × Served × Whole × (Ready → ⊥)
  pub numbers : reason ≤ 9

-- The header checks of a pair, of a packet of n bytes with this BTH. Second: TVer 0; third: DestQP our number; eighth:
-- room for all headers of the opcode, whose bytes HeadersByOpcode lists; ninth: the pair is Ready.
abbrev pub CheckedBy : ℕ → ℕ → ℕ → Bool → ℕ → Bth → ℕ → Type 0
CheckedBy service ours pkey ready n b =
    FirstOf (LengthGood n) (b.tver ≡ 0) (b.dest ≡ ours) (KeysMatch b.pkey pkey) (ServiceOurs b.opcode service)
    (NoResponse b.opcode) (OnService b.opcode service) ((class_of b.opcode).length ≤ n) (ready ≡ true)

-- Of every pair and any bytes.
abbrev pub FirstFails : Type 0
FirstFails =
    (service ours pkey : ℕ) (ready : Bool) (p : List ℕ)
    → CheckedBy service ours pkey ready (length p) (bth_of p) (header_reason service ours pkey ready p)

-- By this number the packet is dropped, or with 0 its header taken.
abbrev pub DroppedBy : Type 0
DroppedBy =
    (service ours pkey : ℕ) (ready : Bool) (p : List ℕ) (reason : ℕ) → header_reason service ours pkey ready p ≡ reason
    → (reason ≡ 0 → admitted service ours pkey ready p ≡ Ok (header_of p))
    × ((reason ≡ 0 → ⊥) → (why : Reason) × (check_number why ≡ reason) × (admitted service ours pkey ready p ≡ Err why))

-- Reading alone, of any bytes, has four of the nine conditions, in the same order: the length; TVer, the low half of
-- byte 1, is 0; the service, bits 7 to 5 of byte 0, is RC or UC; there is room for all headers of the opcode.
abbrev pub ReadFails : Type 0
ReadFails =
    (p : List ℕ)
    → FirstOf (LengthGood (length p)) (get_or p 1 0 % 16 ≡ 0) (Unit {0}) (Unit {0}) (get_or p 0 0 / 32 ≤ 1) (Unit {0}) (Unit {0})
    (whole_length (after_opcode (get_or p 0 0)) ≤ length p) (Unit {0}) (read_reason p)

abbrev pub ReadDroppedBy : Type 0
ReadDroppedBy =
    (p : List ℕ) (reason : ℕ) → read_reason p ≡ reason
    → (reason ≡ 0 → read_header p ≡ Ok (header_of p))
    × ((reason ≡ 0 → ⊥) → (why : Reason) × (check_number why ≡ reason) × (read_header p ≡ Err why))
