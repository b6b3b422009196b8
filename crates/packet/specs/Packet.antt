-- A packet: the headers, the payload, and the pad, which ends it.
use Rattle.std.specs.Prelude.{ℕ, ◌+◌, ◌-◌, ◌%◌, Bool, cond, not, List, ◌++◌, Result, Ok, Err, is_ok, ltb, eqb, length, take, drop, replicate}
use Rattle.memory.specs.Memory.{store}
use Rattle.header.specs.Read.{header_of, packet_limit}
use Rattle.header.specs.Refusal.{out_of_range, output_short, bad_number}
use Rattle.header.specs.Write.{header_bytes, header_fits, header_length}
use Rattle.header.specs.declared.Header.{Header}
use Rattle.header.specs.declared.Refusal.{Refusal}
use Rattle.header.specs.declared.Refusal.TheVariants.{OutOfRange, OutputShort, BadNumber}

-- the pad of n bytes: the least count that makes them a multiple of 4
unfoldable pub pad_of : ℕ → ℕ
pad_of n = (4 - n % 4) % 4

-- a payload and its pad, written into an output from an index on; pad bytes are zero
unfoldable pub payload_out : List ℕ → ℕ → List ℕ → List ℕ
payload_out out at d = store (store out at d) (at + length d) (replicate (pad_of (length d)) 0)

-- the bytes of a packet
unfoldable pub packet_bytes : Header → List ℕ → List ℕ
packet_bytes h d = header_bytes h ++ (d ++ replicate (pad_of (length d)) 0)

-- and how many they are, of a payload of n bytes
unfoldable pub packet_length : Header → ℕ → ℕ
packet_length h n = header_length h + (n + pad_of n)

-- How many bytes, or the refusal: no such header, or a PadCnt that is not the pad of the n bytes; over the longest
-- packet; output too short
unfoldable pub checked_size : Bool → ℕ → ℕ → ℕ → ℕ → Result ℕ Refusal
checked_size unfit padcnt headers n room =
    cond unfit (Err BadNumber)
    (cond (not (eqb padcnt (pad_of n))) (Err BadNumber)
    (cond (ltb packet_limit (headers + (n + pad_of n))) (Err OutOfRange)
    (cond (ltb room (headers + (n + pad_of n))) (Err OutputShort) (Ok (headers + (n + pad_of n))))))

-- the same of a header: the answer
unfoldable pub packet_written : Header → ℕ → ℕ → Result ℕ Refusal
packet_written h n room = checked_size (not (header_fits h)) h.bth.pad (header_length h) n room

-- the number of the refusal that applies, by the rules, or 0
unfoldable pub refusal_by : Bool → ℕ → ℕ → ℕ → ℕ → ℕ
refusal_by unfit padcnt headers n room =
    cond unfit bad_number
    (cond (not (eqb padcnt (pad_of n))) bad_number
    (cond (ltb packet_limit (headers + (n + pad_of n))) out_of_range
    (cond (ltb room (headers + (n + pad_of n))) output_short 0)))

-- the same of a header: the answer's number
unfoldable pub packet_answer : Header → ℕ → ℕ → ℕ
packet_answer h n room = refusal_by (not (header_fits h)) h.bth.pad (header_length h) n room

-- the output: the packet and what stood behind it, or, refused, as it was
unfoldable pub packet_out : Header → List ℕ → List ℕ → List ℕ
packet_out h d out =
    cond (is_ok (packet_written h (length d) (length out))) (packet_bytes h d ++ drop (packet_length h (length d)) out) out

-- what a packet carries: the bytes after its headers, without the pad
unfoldable pub payload_of : List ℕ → List ℕ
payload_of p =
    take (length p - header_length (header_of p) - (header_of p).bth.pad) (drop (header_length (header_of p)) p)
