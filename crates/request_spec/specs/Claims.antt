-- What is proved of the request checks, each statement by a name; the proofs stand in proofs/.
-- Every condition is listed here once more, by numbers, and not by the test that the checks make.
use Rattle.std.specs.Prelude.{ℕ, ◌+◌, ◌-◌, ◌%◌, ◌^◌, ◌≤◌, ◌<◌, ◌≡◌, Bool, true, false, cond, List, ◌⊎◌, Result, eqb, get_or}
use Rattle.header.specs.Bytes.{be4}
use Rattle.header.specs.Read.{bth_of, reth_of, atomic_of, header_of, read_check, read_by}
use Rattle.header.specs.declared.Reason.{Reason}
use Rattle.opcode.specs.Opcode.{class_of}
use Rattle.pair.specs.declared.Setup.{Setup}
use Rattle.pair.specs.declared.OpenMessage.{OpenMessage}
use Rattle.request_spec.specs.declared.Operands.{Operands}
use Rattle.request_spec.specs.declared.Packet.{Packet}
use Rattle.request_spec.specs.Packet.{packet_of, admission, admission_number}
use Rattle.request_spec.specs.Verdict.{out_of_sequence, not_enabled, pad_early, over_limit, none_waiting, entry_outside, key_fails, lengths_off, current, expected_check, check_answer}

-- Places: 0 First, 1 Middle, 2 Last, 4 Only. First and Only begin a message, Middle and Last go on with one; First and
-- Middle are followed by more, Last and Only end it.
abbrev pub Begins : ℕ → Type 0
Begins place = (place ≡ 0) ⊎ (place ≡ 4)

abbrev pub GoesOn : ℕ → Type 0
GoesOn place = (place ≡ 1) ⊎ (place ≡ 2)

abbrev pub HasMore : ℕ → Type 0
HasMore place = (place ≡ 0) ⊎ (place ≡ 1)

abbrev pub Ends : ℕ → Type 0
Ends place = (place ≡ 2) ⊎ (place ≡ 4)

abbrev pub Place : ℕ → Type 0
Place place = Begins place ⊎ GoesOn place

-- Kinds: 0 SEND, 6 WRITE, 12 READ, 19 CmpSwap, 20 FetchAdd. These are all that are ever served.
abbrev pub Carries : ℕ → Type 0
Carries kind = (kind ≡ 0) ⊎ (kind ≡ 6)

abbrev pub IsAtomic : ℕ → Type 0
IsAtomic kind = (kind ≡ 19) ⊎ (kind ≡ 20)

abbrev pub Served : ℕ → Type 0
Served kind = Carries kind ⊎ ((kind ≡ 12) ⊎ IsAtomic kind)

-- In sequence: what begins a message comes with none open, 255, and what goes on with one comes in one of its kind.
pub record InSequence (opened kind place : ℕ) : Type 0 where
  pub begins : Begins place → opened ≡ 255
  pub onward : GoesOn place → opened ≡ kind

-- The function is one of four, and it is on.
abbrev pub Enabled : Setup → ℕ → Type 0
Enabled s kind =
    ((kind ≡ 0) × (s.send ≡ true))
    ⊎ (((kind ≡ 6) × (s.write ≡ true))
    ⊎ (((kind ≡ 12) × (s.read ≡ true))
    ⊎ (IsAtomic kind × (s.atomic ≡ true))))

-- There is pad at the end of a message only.
abbrev pub PadAtEnd : ℕ → ℕ → Type 0
PadAtEnd place pad = HasMore place → pad ≡ 0

abbrev pub WithinLimit : ℕ → Type 0
WithinLimit length = length ≤ 1048576

-- A SEND takes an entry when it begins, a WRITE with its immediate; no other kind has an immediate.
abbrev pub TakesEntry : ℕ → ℕ → Bool → Type 0
TakesEntry kind place immediate = ((kind ≡ 0) × Begins place) ⊎ ((kind ≡ 0 → ⊥) × (immediate ≡ true))

-- An entry waits: one, or where an open SEND holds one, another.
pub record Waits (opened count : ℕ) : Type 0 where
  pub held : opened ≡ 0 → 2 ≤ count
  pub free : (opened ≡ 0 → ⊥) → 1 ≤ count

abbrev pub EntryWaits : ℕ → ℕ → Bool → ℕ → ℕ → Type 0
EntryWaits kind place immediate opened count = TakesEntry kind place immediate → Waits opened count

-- The entry of a SEND, or of an immediate, lies in memory. A row is number, offset, length.
abbrev pub EntryInMemory : ℕ → Bool → List ℕ → ℕ → Type 0
EntryInMemory kind immediate entry memory =
    (kind ≡ 0) ⊎ (immediate ≡ true)
    → get_or entry 1 0 + get_or entry 2 0 ≤ memory

-- A region gives n bytes at an address: the right in that column is there, the region lies in memory and ends below
-- 2^64, the bytes lie in it. A row is key, address, length, offset and the rights to write, 4, to read, 5, and to
-- atomics, 6.
pub record Gives (region : List ℕ) (right memory address n : ℕ) : Type 0 where
  pub granted : 0 < get_or region right 0
  pub within : get_or region 3 0 + get_or region 2 0 ≤ memory
  pub top : get_or region 1 0 + get_or region 2 0 < 2 ^ 64
  pub from : get_or region 1 0 ≤ address
  pub to : address + n ≤ get_or region 1 0 + get_or region 2 0

-- So it does for a message's bytes still to come, if there are any.
abbrev pub GivesRest : List ℕ → ℕ → ℕ → OpenMessage → Type 0
GivesRest region right memory m =
    0 < m.length - m.stored
    → Gives region right memory (m.address + m.stored) (m.length - m.stored)

-- The key is good: a SEND has none.
pub record KeyGood (kind memory : ℕ) (m : OpenMessage) (region : List ℕ) : Type 0 where
  pub writes : kind ≡ 6 → GivesRest region 4 memory m
  pub reads : kind ≡ 12 → GivesRest region 5 memory m
  pub atomics : IsAtomic kind → GivesRest region 6 memory m

-- The lengths are good. The bytes carried are those there are but the pad; a SEND's entry has room for most.
pub record LengthsGood (p : Packet) (pmtu : ℕ) (m : OpenMessage) (most : ℕ) : Type 0 where
  pub pad : p.pad ≤ p.body
  pub full : Carries p.kind → HasMore p.place → p.body - p.pad ≡ pmtu
  pub last : Carries p.kind → p.place ≡ 2 → (1 ≤ p.body - p.pad) × (p.body - p.pad ≤ pmtu)
  pub only : Carries p.kind → p.place ≡ 4 → p.body - p.pad ≤ pmtu
  pub fits : p.kind ≡ 0 → m.stored + (p.body - p.pad) ≤ most
  pub more : p.kind ≡ 6 → HasMore p.place → m.stored + (p.body - p.pad) < m.length
  pub whole : p.kind ≡ 6 → Ends p.place → m.stored + (p.body - p.pad) ≡ m.length
  pub bare : (p.kind ≡ 12) ⊎ IsAtomic p.kind → p.body ≡ 0
  pub aligned : IsAtomic p.kind → m.address % 8 ≡ 0

-- The message that a packet is of, before the packet: its own operands with nothing stored, or the open one.
pub record IsCurrent (opened : OpenMessage) (p : Packet) (m : OpenMessage) : Type 0 where
  pub own : Begins p.place
      → m
      ≡ (record { kind = p.kind; stored = 0; address = p.operands.address; key = p.operands.key; length = p.operands.length })
  pub old : GoesOn p.place → m ≡ opened

-- Each test says its condition, both ways.
abbrev pub Tells : Bool → Type 0 → Type 0
Tells failing Good = (failing ≡ false → Good) × (Good → failing ≡ false)

abbrev pub CurrentTested : Type 0
CurrentTested = (opened : OpenMessage) (p : Packet) → Place p.place → IsCurrent opened p (current opened p)

abbrev pub SequenceTested : Type 0
SequenceTested =
    (opened kind place : ℕ) → Place place → Tells (out_of_sequence opened kind place) (InSequence opened kind place)

abbrev pub EnabledTested : Type 0
EnabledTested = (s : Setup) (kind : ℕ) → Tells (not_enabled s kind) (Enabled s kind)

abbrev pub PadTested : Type 0
PadTested = (place pad : ℕ) → Place place → Tells (pad_early place pad) (PadAtEnd place pad)

abbrev pub LimitTested : Type 0
LimitTested = (length : ℕ) → Tells (over_limit length) (WithinLimit length)

abbrev pub EntryTested : Type 0
EntryTested =
    (kind place : ℕ) (immediate : Bool) (opened count : ℕ)
    → Tells (none_waiting kind place immediate opened count) (EntryWaits kind place immediate opened count)

abbrev pub InsideTested : Type 0
InsideTested =
    (kind : ℕ) (immediate : Bool) (entry : List ℕ) (memory : ℕ)
    → Tells (entry_outside kind immediate entry memory) (EntryInMemory kind immediate entry memory)

-- Of kinds that are not served these two tests say more; but such a packet does not come so far.
abbrev pub KeyTested : Type 0
KeyTested =
    (kind memory : ℕ) (m : OpenMessage) (region : List ℕ) → Served kind
    → Tells (key_fails memory kind m region) (KeyGood kind memory m region)

abbrev pub LengthsTested : Type 0
LengthsTested =
    (p : Packet) (pmtu : ℕ) (m : OpenMessage) (most : ℕ) → Place p.place → Served p.kind
    → Tells (lengths_off p pmtu m most) (LengthsGood p pmtu m most)

-- A number is n where a case holds, and nowhere else.
abbrev pub Means : ℕ → ℕ → Type 0 → Type 0
Means number n Case = (number ≡ n → Case) × (Case → number ≡ n)

-- The check that fails, of eight with these conditions: n where those before it hold and its own does not, whatever the
-- later ones are; 0 where all hold. The entry's row, 8, comes between 5 and 6; no other number comes.
pub record Judged (Sequence Function Pad Limit Waiting Inside Key Lengths : Type 0) (check : ℕ) : Type 0 where
  pub none : Means check 0 (Sequence × Function × Pad × Limit × Waiting × Inside × Key × Lengths)
  pub sequence : Means check 1 (Sequence → ⊥)
  pub function : Means check 2 (Sequence × (Function → ⊥))
  pub pad : Means check 3 (Sequence × Function × (Pad → ⊥))
  pub limit : Means check 4 (Sequence × Function × Pad × (Limit → ⊥))
  pub waiting : Means check 5 (Sequence × Function × Pad × Limit × (Waiting → ⊥))
  pub inside : Means check 8 (Sequence × Function × Pad × Limit × Waiting × (Inside → ⊥))
  pub key : Means check 6 (Sequence × Function × Pad × Limit × Waiting × Inside × (Key → ⊥))
  pub lengths : Means check 7 (Sequence × Function × Pad × Limit × Waiting × Inside × Key × (Lengths → ⊥))
  pub most : check ≤ 8

-- The request checks, of a packet of the message m.
abbrev pub JudgedBy : Setup → OpenMessage → Packet → OpenMessage → ℕ → List ℕ → List ℕ → ℕ → Type 0
JudgedBy s opened p m count entry region =
    Judged (InSequence opened.kind p.kind p.place) (Enabled s p.kind) (PadAtEnd p.place p.pad)
    (WithinLimit p.operands.length) (EntryWaits p.kind p.place p.operands.immediate opened.kind count)
    (EntryInMemory p.kind p.operands.immediate entry s.memory) (KeyGood p.kind s.memory m region)
    (LengthsGood p s.pmtu m (get_or entry 2 0))

abbrev pub Order : Type 0
Order =
    (s : Setup) (opened : OpenMessage) (p : Packet) (m : OpenMessage) (count : ℕ) (entry region : List ℕ) → Place p.place
    → IsCurrent opened p m
    → JudgedBy s opened p m count entry region (expected_check s opened p count entry region)

-- The answer that a check has.
pub record AnswerOf (check answer : ℕ) : Type 0 where
  pub executed : Means answer 0 (check ≡ 0)
  pub invalid : Means answer 17 ((check ≡ 1) ⊎ ((check ≡ 2) ⊎ ((check ≡ 3) ⊎ ((check ≡ 4) ⊎ (check ≡ 7)))))
  pub access : Means answer 18 (check ≡ 6)
  pub unready : Means answer 19 (check ≡ 5)
  pub outside : Means answer 34 (check ≡ 8)

abbrev pub CheckAnswered : Type 0
CheckAnswered = (check : ℕ) → check ≤ 8 → AnswerOf check (check_answer check)

-- What is taken from a packet's bytes. From the BTH, of every packet; the bytes behind the headers are the rest.
pub record FromBth (bytes : List ℕ) (n : ℕ) (p : Packet) : Type 0 where
  pub ackreq : p.ackreq ≡ (bth_of bytes).ackreq
  pub pad : p.pad ≡ (bth_of bytes).pad
  pub psn : p.psn ≡ (bth_of bytes).psn
  pub body : p.body ≡ n - p.start
  pub place : Place p.place

abbrev pub BthTaken : Type 0
BthTaken = (bytes : List ℕ) (n : ℕ) → FromBth bytes n (packet_of (header_of bytes) n)

-- Kind, place and length of the headers, and an immediate and its value.
pub record Form (p : Packet) (kind place start : ℕ) (immediate : Bool) (value : ℕ) : Type 0 where
  pub kinds : p.kind ≡ kind
  pub places : p.place ≡ place
  pub starts : p.start ≡ start
  pub flag : p.operands.immediate ≡ immediate
  pub values : p.operands.value ≡ value

-- no address, no bytes
pub record NoOperands (o : Operands) : Type 0 where
  pub address : o.address ≡ 0
  pub key : o.key ≡ 0
  pub length : o.length ≡ 0
  pub swap : o.swap ≡ 0
  pub compare : o.compare ≡ 0

pub record FromReth (bytes : List ℕ) (o : Operands) : Type 0 where
  pub address : o.address ≡ (reth_of bytes).address
  pub key : o.key ≡ (reth_of bytes).key
  pub length : o.length ≡ (reth_of bytes).length
  pub swap : o.swap ≡ 0
  pub compare : o.compare ≡ 0

pub record FromAtomic (bytes : List ℕ) (o : Operands) : Type 0 where
  pub address : o.address ≡ (atomic_of bytes).address
  pub key : o.key ≡ (atomic_of bytes).key
  pub length : o.length ≡ 8
  pub swap : o.swap ≡ (atomic_of bytes).swap
  pub compare : o.compare ≡ (atomic_of bytes).compare

-- By the opcode. An Immediate stands behind a BTH at byte 12, behind a RETH at 28.
pub record Taken (bytes : List ℕ) (opcode : ℕ) (p : Packet) : Type 0 where
  pub send_first : opcode ≡ 0 → Form p 0 0 12 false 0 × NoOperands p.operands
  pub send_middle : opcode ≡ 1 → Form p 0 1 12 false 0 × NoOperands p.operands
  pub send_last : opcode ≡ 2 → Form p 0 2 12 false 0 × NoOperands p.operands
  pub send_last_imm : opcode ≡ 3 → Form p 0 2 16 true (be4 bytes 12) × NoOperands p.operands
  pub send_only : opcode ≡ 4 → Form p 0 4 12 false 0 × NoOperands p.operands
  pub send_only_imm : opcode ≡ 5 → Form p 0 4 16 true (be4 bytes 12) × NoOperands p.operands
  pub write_first : opcode ≡ 6 → Form p 6 0 28 false 0 × FromReth bytes p.operands
  pub write_middle : opcode ≡ 7 → Form p 6 1 12 false 0 × NoOperands p.operands
  pub write_last : opcode ≡ 8 → Form p 6 2 12 false 0 × NoOperands p.operands
  pub write_last_imm : opcode ≡ 9 → Form p 6 2 16 true (be4 bytes 12) × NoOperands p.operands
  pub write_only : opcode ≡ 10 → Form p 6 4 28 false 0 × FromReth bytes p.operands
  pub write_only_imm : opcode ≡ 11 → Form p 6 4 32 true (be4 bytes 28) × FromReth bytes p.operands
  pub read : opcode ≡ 12 → Form p 12 4 28 false 0 × FromReth bytes p.operands
  pub cmp_swap : opcode ≡ 19 → Form p 19 4 40 false 0 × FromAtomic bytes p.operands
  pub fetch_add : opcode ≡ 20 → Form p 20 4 40 false 0 × FromAtomic bytes p.operands
  pub reserved : 21 ≤ opcode → opcode < 32 → Form p 21 4 12 false 0 × NoOperands p.operands

abbrev pub OpcodeTaken : Type 0
OpcodeTaken = (bytes : List ℕ) (n : ℕ) → Taken bytes (bth_of bytes).opcode (packet_of (header_of bytes) n)

-- UC's opcodes are RC's first twelve, from 32 on.
abbrev pub UcAlike : Type 0
UcAlike = (low : ℕ) → low < 12 → class_of (32 + low) ≡ class_of low

-- So the same is taken from a packet of UC as from one of RC with the same low five bits.
abbrev pub UcTaken : Type 0
UcTaken =
    (bytes : List ℕ) (n low : ℕ) → (bth_of bytes).opcode ≡ 32 + low → low < 12
    → Taken bytes low (packet_of (header_of bytes) n)

-- What the header checks of a pair find has the number that reading has: 0, or 5.
abbrev pub AdmissionNumbers : Type 0
AdmissionNumbers =
    (found : Result (Unit {0}) Reason) (bytes : List ℕ) (n : ℕ)
    → admission_number (admission (read_by found bytes) n) ≡ cond (eqb (read_check found) 0) 0 5
