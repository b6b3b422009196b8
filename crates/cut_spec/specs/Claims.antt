-- What is proved of cut messages, each statement by a name; the proofs stand in proofs/.
use Rattle.std.specs.Prelude.{ℕ, suc, ◌+◌, ◌*◌, ◌^◌, ◌≤◌, ◌<◌, ◌≡◌, true, false, List, [], ◌++◌, ◌⊎◌, length, take, drop, Ok, Err}
use Rattle.sequence.specs.declared.Psn.{Psn}
use Rattle.opcode.specs.Opcode.{class_of, service_of}
use Rattle.header.specs.Check.{pkeys_match, admitted}
use Rattle.header.specs.Write.{follows_by, answer_number}
use Rattle.header.specs.Claims.{RethWidths, Widths}
use Rattle.header.specs.declared.Reth.{Reth}
use Rattle.header.specs.declared.AtomicEth.{AtomicEth}
use Rattle.header.specs.declared.Extension.TheVariants.{Bare, Remote, RemoteImmediate, Immediate, Atomic}
use Rattle.header.specs.declared.Refusal.{Refusal}
use Rattle.header.specs.declared.Refusal.TheVariants.{OutOfRange, OutputShort, BadNumber}
use Rattle.packet.specs.Packet.{pad_of, payload_of}
use Rattle.packet.specs.Claims.{Found}
use Rattle.pmtu.specs.Pieces.{pieces, place_at, joined}
use Rattle.pmtu.specs.Claims.{IsPmtu}
use Rattle.cut_spec.specs.Message.{message_length, packets_of, length_refusal, packets_answer, responses_answer}
use Rattle.cut_spec.specs.Cut.{low_for, header_at, payload_at, cut_bytes, cut_answer, cut_written, cut_out}
use Rattle.cut_spec.specs.declared.Connection.{Connection}
use Rattle.cut_spec.specs.declared.Target.{Target}
use Rattle.cut_spec.specs.declared.Request.{Request}
use Rattle.cut_spec.specs.declared.Request.TheVariants.{Send, SendImmediate, Write, WriteImmediate, Read, CmpSwap, FetchAdd}

-- The requests whose packets carry the message, listed here once more and not by the definition under test; so are the
-- limit, the kinds and the RETH below.
abbrev pub Carrier : Request → Type 0
Carrier Send = Unit {0}
Carrier (SendImmediate v) = Unit {0}
Carrier (Write t) = Unit {0}
Carrier (WriteImmediate t v) = Unit {0}
Carrier (Read a) = ⊥
Carrier (CmpSwap a) = ⊥
Carrier (FetchAdd t v) = ⊥

abbrev pub InLimit : Request → ℕ → Type 0
InLimit Send n = n ≤ 1048576
InLimit (SendImmediate v) n = n ≤ 1048576
InLimit (Write t) n = n ≤ 1048576
InLimit (WriteImmediate t v) n = n ≤ 1048576
InLimit (Read a) n = a.length ≤ 1048576
InLimit (CmpSwap a) n = Unit {0}
InLimit (FetchAdd t v) n = Unit {0}

-- each number within the width of its type
abbrev pub TargetWidths : Target → Type 0
TargetWidths t = (t.address < 2 ^ 64) × (t.key < 2 ^ 32)

abbrev pub RequestWidths : Request → Type 0
RequestWidths Send = Unit {0}
RequestWidths (SendImmediate v) = v < 2 ^ 32
RequestWidths (Write t) = TargetWidths t
RequestWidths (WriteImmediate t v) = TargetWidths t × (v < 2 ^ 32)
RequestWidths (Read a) = RethWidths a
RequestWidths (CmpSwap a) = Widths (Atomic a)
RequestWidths (FetchAdd t v) = TargetWidths t × (v < 2 ^ 64)

-- They are the widths of the headers, each way: a request with a message of no bytes is one packet, and its headers have
-- all of the request's numbers.
abbrev pub WidthsOfHeaders : Type 0
WidthsOfHeaders =
    (c : Connection) (r : Request) (first : Psn) → (RequestWidths r → Widths (header_at c r 0 first 0).extension)
    × (Widths (header_at c r 0 first 0).extension → RequestWidths r)

-- a PMTU, a service that has the request, numbers of 24 bits
pub record Fit (c : Connection) (r : Request) (psn : ℕ) : Type 0 where
  pub pmtu : IsPmtu c.pmtu
  pub service : (c.service ≡ 0) ⊎ ((c.service ≡ 1) × Carrier r)
  pub dest : c.dest < 2 ^ 24
  pub first : psn < 2 ^ 24

-- a message of n bytes that can be cut, all its numbers within their types
pub record Cuttable (c : Connection) (r : Request) (n psn : ℕ) : Type 0 where
  pub fit : Fit c r psn
  pub limit : InLimit r n
  pub pkey : c.pkey < 2 ^ 16
  pub widths : RequestWidths r

-- a refusal: it is the answer, and the output stays as it was
pub record Refuses (c : Connection) (r : Request) (d : List ℕ) (first : Psn) (i : ℕ) (out : List ℕ) (why : Refusal) : Type 0 where
  pub answer : cut_written c r d first i (length out) ≡ Err why
  pub output : cut_out c r d first i out ≡ out

-- 39 comes first, whatever else is wrong; then 34, whatever the output is.
abbrev pub CutUnfit : Type 0
CutUnfit =
    (c : Connection) (r : Request) (d : List ℕ) (first : Psn) (i : ℕ) (out : List ℕ) → (Fit c r first.0 → ⊥)
    → Refuses c r d first i out BadNumber

abbrev pub CutOver : Type 0
CutOver =
    (c : Connection) (r : Request) (d : List ℕ) (first : Psn) (i : ℕ) (out : List ℕ) → Fit c r first.0
    → (InLimit r (length d) → ⊥) ⊎ (packets_of r (length d) c.pmtu ≤ i)
    → Refuses c r d first i out OutOfRange

-- Each packet of a sound message is refused with 35 if there is no room for it, and is written if there is.
abbrev pub CutShort : Type 0
CutShort =
    (c : Connection) (r : Request) (d : List ℕ) (first : Psn) (i : ℕ) (out : List ℕ) → Cuttable c r (length d) first.0
    → i < packets_of r (length d) c.pmtu
    → length out < length (cut_bytes c r d first i)
    → Refuses c r d first i out OutputShort

abbrev pub Cuts : Type 0
Cuts =
    (c : Connection) (r : Request) (d : List ℕ) (first : Psn) (i : ℕ) (out : List ℕ) → Cuttable c r (length d) first.0
    → i < packets_of r (length d) c.pmtu
    → length (cut_bytes c r d first i) ≤ length out
    → (cut_written c r d first i (length out) ≡ Ok (length (cut_bytes c r d first i)))
    × (cut_out c r d first i out ≡ cut_bytes c r d first i ++ drop (length (cut_bytes c r d first i)) out)

-- The number of an answer.
abbrev pub CutNumbers : Type 0
CutNumbers =
    (c : Connection) (r : Request) (d : List ℕ) (first : Psn) (i room : ℕ)
    → answer_number (cut_written c r d first i room) ≡ cut_answer c r d first i room

-- Reading a cut packet finds its header and its payload.
abbrev pub CutReads : Type 0
CutReads =
    (c : Connection) (r : Request) (d : List ℕ) (first : Psn) (i : ℕ) → Cuttable c r (length d) first.0
    → i < packets_of r (length d) c.pmtu
    → Found (header_at c r (length d) first i) (payload_at c r d i) (cut_bytes c r d first i)

-- It passes the header checks of the pair that it is for.
abbrev pub CutAdmitted : Type 0
CutAdmitted =
    (c : Connection) (r : Request) (d : List ℕ) (first : Psn) (i pkey : ℕ) → Cuttable c r (length d) first.0
    → i < packets_of r (length d) c.pmtu
    → pkeys_match c.pkey pkey ≡ true
    → admitted c.service c.dest pkey true (cut_bytes c r d first i) ≡ Ok (header_at c r (length d) first i)

-- Packet i carries PMTU bytes, or as many as are left, from byte i x PMTU on; its PadCnt is their pad.
abbrev pub CutPayload : Type 0
CutPayload =
    (c : Connection) (r : Request) (d : List ℕ) (first : Psn) (i : ℕ) → Carrier r → Cuttable c r (length d) first.0
    → payload_of (cut_bytes c r d first i) ≡ take c.pmtu (drop (i * c.pmtu) d)

abbrev pub CutPad : Type 0
CutPad =
    (c : Connection) (r : Request) (d : List ℕ) (first : Psn) (i : ℕ) → Cuttable c r (length d) first.0
    → (header_at c r (length d) first i).bth.pad ≡ pad_of (length (payload_of (cut_bytes c r d first i)))

-- The payloads of all packets, in order and without pad, are the message.
abbrev pub CutJoins : Type 0
CutJoins =
    (c : Connection) (r : Request) (d : List ℕ) (first : Psn) → Carrier r → Cuttable c r (length d) first.0
    → joined (λ i. payload_of (cut_bytes c r d first i)) 0 (packets_of r (length d) c.pmtu) ≡ d

-- All packets but the last carry a full PMTU, and bytes are to come; the last carries no more, of several at least 1
-- byte, and ends the message.
abbrev pub CutFull : Type 0
CutFull =
    (c : Connection) (r : Request) (d : List ℕ) (first : Psn) (i : ℕ) → Cuttable c r (length d) first.0
    → suc i < packets_of r (length d) c.pmtu
    → (length (payload_of (cut_bytes c r d first i)) ≡ c.pmtu) × (i * c.pmtu + c.pmtu < length d)

abbrev pub CutLast : Type 0
CutLast =
    (c : Connection) (r : Request) (d : List ℕ) (first : Psn) (i : ℕ) → Cuttable c r (length d) first.0
    → suc i ≡ packets_of r (length d) c.pmtu
    → (length (payload_of (cut_bytes c r d first i)) ≤ c.pmtu) × (0 < i → 0 < length (payload_of (cut_bytes c r d first i)))
    × (Carrier r → i * c.pmtu + length (payload_of (cut_bytes c r d first i)) ≡ length d)

-- A SEND or WRITE has as many packets as its bytes have pieces; a READ or atomic request is one packet, which carries
-- nothing.
abbrev pub CutMany : Type 0
CutMany = (r : Request) (n pmtu : ℕ) → Carrier r → packets_of r n pmtu ≡ pieces n pmtu

abbrev pub CutOne : Type 0
CutOne = (r : Request) (n pmtu : ℕ) → (Carrier r → ⊥) → packets_of r n pmtu ≡ 1

abbrev pub CutEmpty : Type 0
CutEmpty =
    (c : Connection) (r : Request) (d : List ℕ) (first : Psn) (i : ℕ) → (Carrier r → ⊥) → Cuttable c r (length d) first.0
    → payload_of (cut_bytes c r d first i) ≡ []

-- the kinds, by the numbers of their classes
abbrev pub kind_number : Request → ℕ
kind_number Send = 0
kind_number (SendImmediate v) = 0
kind_number (Write t) = 6
kind_number (WriteImmediate t v) = 6
kind_number (Read a) = 12
kind_number (CmpSwap a) = 19
kind_number (FetchAdd t v) = 20

-- The opcode says the service, the kind, the place and the headers; AckReq is set on the last packet and on no other;
-- P_Key and DestQP are the connection's; SE, MigReq, TVer and reserved bits are 0.
pub record Marked (c : Connection) (r : Request) (n : ℕ) (first : Psn) (i : ℕ) : Type 0 where
  pub service : service_of (header_at c r n first i).bth.opcode ≡ c.service
  pub kind : (class_of (header_at c r n first i).bth.opcode).kind ≡ kind_number r
  pub place : (class_of (header_at c r n first i).bth.opcode).place ≡ place_at (packets_of r n c.pmtu) i
  pub follows : (class_of (header_at c r n first i).bth.opcode).follows ≡ follows_by (header_at c r n first i).extension
  pub pkey : (header_at c r n first i).bth.pkey ≡ c.pkey
  pub dest : (header_at c r n first i).bth.dest ≡ c.dest
  pub plain : ((header_at c r n first i).bth.se ≡ false) × ((header_at c r n first i).bth.migreq ≡ false)
  pub zeros : ((header_at c r n first i).bth.tver ≡ 0) × ((header_at c r n first i).bth.reserved8 ≡ 0) × ((header_at c r n first i).bth.reserved7 ≡ 0)
  pub asks : suc i ≡ packets_of r n c.pmtu → (header_at c r n first i).bth.ackreq ≡ true
  pub silent : suc i < packets_of r n c.pmtu → (header_at c r n first i).bth.ackreq ≡ false

abbrev pub CutMarked : Type 0
CutMarked =
    (c : Connection) (r : Request) (n : ℕ) (first : Psn) (i : ℕ) → Fit c r first.0
    → i < packets_of r n c.pmtu
    → Marked c r n first i

-- The opcodes at First, Middle, Last and Only, and those of the requests that are one packet.
pub record Opcodes (t : Target) (v w : ℕ) (a : Reth) (b : AtomicEth) : Type 0 where
  pub is : (c : Connection) (r : Request) (n : ℕ) (first : Psn) (i : ℕ) → (header_at c r n first i).bth.opcode ≡ c.service * 32 + low_for r (place_at (packets_of r n c.pmtu) i)
  pub send : (low_for Send 0 ≡ 0) × (low_for Send 1 ≡ 1) × (low_for Send 2 ≡ 2) × (low_for Send 4 ≡ 4)
  pub send-imm : (low_for (SendImmediate v) 0 ≡ 0) × (low_for (SendImmediate v) 1 ≡ 1) × (low_for (SendImmediate v) 2 ≡ 3) × (low_for (SendImmediate v) 4 ≡ 5)
  pub write : (low_for (Write t) 0 ≡ 6) × (low_for (Write t) 1 ≡ 7) × (low_for (Write t) 2 ≡ 8) × (low_for (Write t) 4 ≡ 10)
  pub write-imm : (low_for (WriteImmediate t v) 0 ≡ 6) × (low_for (WriteImmediate t v) 1 ≡ 7) × (low_for (WriteImmediate t v) 2 ≡ 9) × (low_for (WriteImmediate t v) 4 ≡ 11)
  pub one : (low_for (Read a) 4 ≡ 12) × (low_for (CmpSwap b) 4 ≡ 19) × (low_for (FetchAdd t w) 4 ≡ 20)

abbrev pub CutOpcodes : Type 0
CutOpcodes = (t : Target) (v w : ℕ) (a : Reth) (b : AtomicEth) → Opcodes t v w a b

-- A WRITE begins with its RETH, whose DMA length is the message's; an immediate stands on the last packet; no other
-- packet of a SEND or WRITE has a header after the BTH.
abbrev pub whole_reth : Target → ℕ → Reth
whole_reth t n = record { address = t.address; key = t.key; length = n }

pub record Extended (c : Connection) (t : Target) (v n : ℕ) (first : Psn) : Type 0 where
  pub send : (i : ℕ) → (header_at c Send n first i).extension ≡ Bare
  pub send-more : (i : ℕ) → suc i < pieces n c.pmtu → (header_at c (SendImmediate v) n first i).extension ≡ Bare
  pub send-last : (i : ℕ) → suc i ≡ pieces n c.pmtu → (header_at c (SendImmediate v) n first i).extension ≡ Immediate v
  pub write : (header_at c (Write t) n first 0).extension ≡ Remote (whole_reth t n)
  pub write-more : (i : ℕ) → 0 < i → suc i ≤ pieces n c.pmtu → (header_at c (Write t) n first i).extension ≡ Bare
  pub write-first : 1 < pieces n c.pmtu → (header_at c (WriteImmediate t v) n first 0).extension ≡ Remote (whole_reth t n)
  pub write-only : pieces n c.pmtu ≡ 1 → (header_at c (WriteImmediate t v) n first 0).extension ≡ RemoteImmediate (whole_reth t n) v
  pub write-middle : (i : ℕ) → 0 < i → suc i < pieces n c.pmtu → (header_at c (WriteImmediate t v) n first i).extension ≡ Bare
  pub write-last : (i : ℕ) → 0 < i → suc i ≡ pieces n c.pmtu → (header_at c (WriteImmediate t v) n first i).extension ≡ Immediate v
  pub read : (a : Reth) → (header_at c (Read a) n first 0).extension ≡ Remote a
  pub cmp-swap : (a : AtomicEth) → (header_at c (CmpSwap a) n first 0).extension ≡ Atomic a
  pub fetch-add : (w : ℕ) → (header_at c (FetchAdd t w) n first 0).extension ≡ Atomic (record { address = t.address; key = t.key; swap = w; compare = 0 })

abbrev pub CutExtended : Type 0
CutExtended = (c : Connection) (t : Target) (v n : ℕ) (first : Psn) → Extended c t v n first

-- The counts: 39 without a PMTU, then 34 over the limit, else the count.
pub record Answered (r : Request) (n pmtu : ℕ) : Type 0 where
  pub unfit : (IsPmtu pmtu → ⊥) → (packets_answer r n pmtu ≡ Err BadNumber) × (responses_answer n pmtu ≡ Err BadNumber)
  pub over : IsPmtu pmtu → (InLimit r n → ⊥) → packets_answer r n pmtu ≡ Err OutOfRange
  pub packets : IsPmtu pmtu → InLimit r n → packets_answer r n pmtu ≡ Ok (packets_of r n pmtu)
  pub long : IsPmtu pmtu → 1048576 < n → responses_answer n pmtu ≡ Err OutOfRange
  pub responses : IsPmtu pmtu → n ≤ 1048576 → responses_answer n pmtu ≡ Ok (pieces n pmtu)

abbrev pub CountAnswers : Type 0
CountAnswers = (r : Request) (n pmtu : ℕ) → Answered r n pmtu

abbrev pub CountNumbers : Type 0
CountNumbers =
    (r : Request) (n pmtu : ℕ) → (answer_number (packets_answer r n pmtu) ≡ length_refusal (message_length r n) pmtu)
    × (answer_number (responses_answer n pmtu) ≡ length_refusal n pmtu)
