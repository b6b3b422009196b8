-- What is proved of reading and writing, each statement by a name; the proofs stand in proofs/.
use Rattle.std.specs.Prelude.{ℕ, ◌+◌, ◌%◌, ◌^◌, ◌≤◌, ◌<◌, Bool, true, cond, ◌≡◌, List, ◌++◌, ◌⊎◌, Result, Ok, eqb, length, get_or, take, drop, Err}
use Rattle.opcode.specs.Opcode.{class_of, service_of, low_of}
use Rattle.header.specs.Bytes.{Bytes}
use Rattle.header.specs.Read.{header_of, check_number, read_by, read_number, read_check, read_header}
use Rattle.header.specs.Write.{header_fits, header_length, header_bytes, write_answer, written, answer_number, written_out}
use Rattle.header.specs.Check.{pkeys_match, admitted}
use Rattle.header.specs.Layout.{whole_length, after_in, after_opcode}
use Rattle.header.specs.declared.Bth.{Bth}
use Rattle.header.specs.declared.Reth.{Reth}
use Rattle.header.specs.declared.Aeth.{Aeth}
use Rattle.header.specs.declared.Extension.{Extension}
use Rattle.header.specs.declared.Extension.TheVariants.{Bare, Remote, RemoteImmediate, Immediate, Atomic, Acknowledge, AtomicAcknowledge}
use Rattle.header.specs.declared.Header.{Header}
use Rattle.header.specs.declared.Reason.{Reason}
use Rattle.header.specs.Refusal.{refusal_number}
use Rattle.header.specs.declared.Refusal.{Refusal}
use Rattle.header.specs.declared.Refusal.TheVariants.{OutOfRange, OutputShort, BadNumber}

-- What writing makes of a header, in any output, reading turns into that header again.
abbrev pub ReadBack : Type 0
ReadBack =
    (h : Header) (out : List ℕ) (n : ℕ) → written h (length out) ≡ Ok n
    → read_header (take n (written_out h out)) ≡ Ok h

-- So it is with a payload behind it, up to the longest packet.
abbrev pub ReadPacket : Type 0
ReadPacket =
    (h : Header) (payload : List ℕ) → header_fits h ≡ true → length payload % 4 ≡ 0
    → header_length h + length payload ≤ 4128
    → read_header (header_bytes h ++ payload) ≡ Ok h

-- What reading makes of a packet, writing turns into the packet's first bytes again, in any output with room.
abbrev pub WriteBack : Type 0
WriteBack =
    (p : List ℕ) → Bytes p → (h : Header) → read_header p ≡ Ok h
    → (out : List ℕ) → header_length h ≤ length out
    → (written h (length out) ≡ Ok (header_length h))
    × (written_out h out ≡ take (header_length h) p ++ drop (header_length h) out)

-- The two are about something. A packet is read if its length is good, its TVer is 0, its service is RC or UC and
-- it is long enough for its headers.
abbrev pub Reads : Type 0
Reads =
    (p : List ℕ) → 12 ≤ length p → length p ≤ 4128 → length p % 4 ≡ 0 → get_or p 1 0 % 16 ≡ 0 → get_or p 0 0 < 64
    → (class_of (get_or p 0 0)).length ≤ length p
    → read_header p ≡ Ok (header_of p)

-- the widths of a BTH's fields, and of those of the headers after it
pub record BthWidths (b : Bth) : Type 0 where
  pub opcode : b.opcode < 64
  pub pad : b.pad < 4
  pub tver : b.tver ≡ 0
  pub pkey : b.pkey < 2 ^ 16
  pub reserved8 : b.reserved8 < 2 ^ 8
  pub dest : b.dest < 2 ^ 24
  pub reserved7 : b.reserved7 < 2 ^ 7
  pub psn : b.psn.0 < 2 ^ 24

abbrev pub RethWidths : Reth → Type 0
RethWidths r = (r.address < 2 ^ 64) × (r.key < 2 ^ 32) × (r.length < 2 ^ 32)

abbrev pub AethWidths : Aeth → Type 0
AethWidths a = (a.syndrome < 2 ^ 8) × (a.msn.0 < 2 ^ 24)

abbrev pub Widths : Extension → Type 0
Widths Bare = Unit {0}
Widths (Remote r) = RethWidths r
Widths (RemoteImmediate r i) = RethWidths r × (i < 2 ^ 32)
Widths (Immediate i) = i < 2 ^ 32
Widths (Atomic a) = (a.address < 2 ^ 64) × (a.key < 2 ^ 32) × (a.swap < 2 ^ 64) × (a.compare < 2 ^ 64)
Widths (Acknowledge a) = AethWidths a
Widths (AtomicAcknowledge a v) = AethWidths a × (v < 2 ^ 64)

-- a header that can be written: each field within its width, TVer 0, RC or UC, and the very headers of the opcode
pub record Writable (h : Header) : Type 0 where
  pub bth : BthWidths h.bth
  pub headers : after_opcode h.bth.opcode ≡ after_in h.extension
  pub widths : Widths h.extension

-- The answer and the output. A header that cannot be written is 39, whatever the output is; then an output too short for
-- it is 35; both leave the output. Else the header stands at its start, and the bytes behind it stay. And back: each
-- answer says what held, and no other comes.
pub record WritesBy (h : Header) (out : List ℕ) (size : ℕ) (answer : Result ℕ Refusal) (new : List ℕ) : Type 0 where
  pub unfit : (Writable h → ⊥) → (answer ≡ Err BadNumber) × (new ≡ out)
  pub short : Writable h → length out < size → (answer ≡ Err OutputShort) × (new ≡ out)
  pub done : Writable h → size ≤ length out → (answer ≡ Ok size) × (new ≡ header_bytes h ++ drop size out)
  pub only39 : answer ≡ Err BadNumber → Writable h → ⊥
  pub only35 : answer ≡ Err OutputShort → Writable h × (length out < size)
  pub only : (n : ℕ) → answer ≡ Ok n → Writable h × (size ≤ length out) × (n ≡ size)
  pub answers : (answer ≡ Err BadNumber) ⊎ ((answer ≡ Err OutputShort) ⊎ (answer ≡ Ok size))

abbrev pub Writes : Type 0
Writes =
    (h : Header) (out : List ℕ)
    → WritesBy h out (whole_length (after_in h.extension)) (written h (length out)) (written_out h out)

-- The widths are those of the wire: a header can be written exactly if some packet reads as it.
abbrev pub WritableReads : Type 0
WritableReads = (h : Header) → Writable h → Bytes (header_bytes h) × (read_header (header_bytes h) ≡ Ok h)

abbrev pub ReadsWritable : Type 0
ReadsWritable = (p : List ℕ) → Bytes p → (h : Header) → read_header p ≡ Ok h → Writable h

-- The numbers of the answers: a packet that is dropped for any reason is the quiet drop, with that reason beside it.
abbrev pub ReadNumbers : Type 0
ReadNumbers =
    (found : Result (Unit {0}) Reason) (p : List ℕ)
    → (read_number (read_by found p) ≡ cond (eqb (read_check found) 0) 0 5)
    × (read_check (read_by found p) ≡ read_check found)
    × (read_check (read_by (Ok tt) p) ≡ 0)
    × ((why : Reason) → read_check (read_by (Err why) p) ≡ check_number why)

-- Each refusal has the number of the rules.
abbrev pub RefusalNumbers : Type 0
RefusalNumbers = (refusal_number OutOfRange ≡ 34) × (refusal_number OutputShort ≡ 35) × (refusal_number BadNumber ≡ 39)

abbrev pub WriteNumbers : Type 0
WriteNumbers = (h : Header) (n : ℕ) → answer_number (written h n) ≡ write_answer h n

-- A packet that passes the checks of a pair has a header that reads.
abbrev pub CheckedReads : Type 0
CheckedReads =
    (service ours pkey : ℕ) (ready : Bool) (p : List ℕ) (h : Header) → admitted service ours pkey ready p ≡ Ok h
    → read_header p ≡ Ok h

-- A packet whose header reads passes the checks of a pair that is Ready, if it is for the pair's queue pair number,
-- P_Key and service, and a request that the service has.
abbrev pub Admits : Type 0
Admits =
    (service ours pkey : ℕ) (p : List ℕ) (h : Header) → read_header p ≡ Ok h
    → service_of h.bth.opcode ≡ service → h.bth.dest ≡ ours → pkeys_match h.bth.pkey pkey ≡ true
    → (low_of h.bth.opcode < 13) ⊎ (18 < low_of h.bth.opcode)
    → (service ≡ 1 → low_of h.bth.opcode < 12)
    → admitted service ours pkey true p ≡ Ok h

-- Two P_Keys match exactly if their 15 low bits agree and are not all 0, and one top bit is set.
abbrev pub Matches : Type 0
Matches =
    (a b : ℕ) → a % 32768 ≡ b % 32768 → (a % 32768 ≡ 0 → ⊥) → (32768 ≤ a) ⊎ (32768 ≤ b) → pkeys_match a b ≡ true

abbrev pub MatchesOnly : Type 0
MatchesOnly =
    (a b : ℕ) → pkeys_match a b ≡ true
    → (a % 32768 ≡ b % 32768) × (a % 32768 ≡ 0 → ⊥) × ((32768 ≤ a) ⊎ (32768 ≤ b))
