-- What is proved of packets, each statement by a name; the proofs stand in proofs/.
use Rattle.std.specs.Prelude.{ℕ, ◌+◌, ◌%◌, ◌≤◌, ◌<◌, ◌≡◌, true, false, List, ◌++◌, Ok, Err, ◌⊎◌, length, take, drop, replicate}
use Rattle.header.specs.Read.{read_header}
use Rattle.header.specs.Write.{header_fits, header_length, answer_number}
use Rattle.header.specs.declared.Header.{Header}
use Rattle.header.specs.declared.Refusal.{Refusal}
use Rattle.header.specs.declared.Refusal.TheVariants.{OutOfRange, OutputShort, BadNumber}
use Rattle.packet.specs.Packet.{pad_of, payload_out, packet_bytes, packet_length, packet_answer, packet_written, packet_out, payload_of}

-- The pad fills up the last word, and no smaller one does.
abbrev pub PadFills : Type 0
PadFills = (n : ℕ) → (n + pad_of n) % 4 ≡ 0

abbrev pub PadLeast : Type 0
PadLeast = (n k : ℕ) → (n + k) % 4 ≡ 0 → pad_of n ≤ k

-- Behind headers that end at an index: payload and pad, where both fit, and no other byte; nothing where the payload does
-- not fit.
abbrev pub PayloadWritten : Type 0
PayloadWritten =
    (out d : List ℕ) (at : ℕ) → at + (length d + pad_of (length d)) ≤ length out
    → payload_out out at d ≡ take at out ++ ((d ++ replicate (pad_of (length d)) 0) ++ drop (at + (length d + pad_of (length d))) out)

abbrev pub PayloadLeftOut : Type 0
PayloadLeftOut = (out d : List ℕ) (at : ℕ) → length out < at + length d → payload_out out at d ≡ out

-- What is written, in any output, reads as the header and the payload it was made of; behind them stands the pad, in
-- zero bytes.
pub record Found (h : Header) (d p : List ℕ) : Type 0 where
  pub header : read_header p ≡ Ok h
  pub payload : payload_of p ≡ d
  pub bytes : take (length d) (drop (header_length h) p) ≡ d
  pub zeros : drop (header_length h + length d) p ≡ replicate h.bth.pad 0

abbrev pub ReadBack : Type 0
ReadBack =
    (h : Header) (d out : List ℕ) (n : ℕ) → packet_written h (length d) (length out) ≡ Ok n
    → Found h d (take n (packet_out h d out))

-- A refusal: it is the answer, and the output stays as it was.
pub record Refuses (h : Header) (d out : List ℕ) (why : Refusal) : Type 0 where
  pub answer : packet_written h (length d) (length out) ≡ Err why
  pub output : packet_out h d out ≡ out

-- 39 comes first, whatever else is wrong; then 34 for a packet over 4,128 bytes; then 35 for want of room.
abbrev pub Unfit : Type 0
Unfit =
    (h : Header) (d out : List ℕ) → (header_fits h ≡ false) ⊎ (h.bth.pad ≡ pad_of (length d) → ⊥) → Refuses h d out BadNumber

abbrev pub TooLong : Type 0
TooLong =
    (h : Header) (d out : List ℕ) → header_fits h ≡ true → h.bth.pad ≡ pad_of (length d)
    → 4128 < packet_length h (length d) → Refuses h d out OutOfRange

abbrev pub TooShort : Type 0
TooShort =
    (h : Header) (d out : List ℕ) → header_fits h ≡ true → h.bth.pad ≡ pad_of (length d)
    → packet_length h (length d) ≤ 4128 → length out < packet_length h (length d) → Refuses h d out OutputShort

-- Else the packet is written, and what stood behind it stays.
abbrev pub Writes : Type 0
Writes =
    (h : Header) (d out : List ℕ) → header_fits h ≡ true → h.bth.pad ≡ pad_of (length d)
    → packet_length h (length d) ≤ 4128 → packet_length h (length d) ≤ length out
    → (packet_written h (length d) (length out) ≡ Ok (packet_length h (length d)))
    × (packet_out h d out ≡ packet_bytes h d ++ drop (packet_length h (length d)) out)

-- The number of an answer.
abbrev pub Numbers : Type 0
Numbers = (h : Header) (n room : ℕ) → answer_number (packet_written h n room) ≡ packet_answer h n room
