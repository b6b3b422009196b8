-- The rules' cases W1 to W12, in one table: what the definitions give, and the figures that the rules state.
use Rattle.std.specs.Prelude.{ℕ, zero, suc, ◌+◌, ◌-◌, ◌*◌, ◌^◌, ◌≡◌, true, List, [], ◌∷◌, ◌++◌, Result, Ok, Err, length, replicate}
use Rattle.responder_spec.specs.Arrival.{Left, arriving_at}
use Rattle.sequence.specs.Sequence.{space, distance, psn_class}
use Rattle.sequence.specs.declared.Psn.{Psn}
use Rattle.sequence.specs.declared.Class.{Class}
use Rattle.sequence.specs.declared.Class.TheVariants.{Expected, Ahead, Duplicate}
use Rattle.opcode.specs.Opcode.{class_of}
use Rattle.opcode.specs.Service as Service
use Rattle.header.specs.Bytes.{bit}
use Rattle.header.specs.Check.{pkeys_match}
use Rattle.header.specs.declared.Refusal.{Refusal}
use Rattle.memory.specs.Word.{word_at, fetch_added}
use Rattle.table.specs.Table.{no_region}
use Rattle.table.specs.View.{region_of}
use Rattle.table.specs.declared.Region.{Region}
use Rattle.table.specs.declared.Entry.{Entry}
use Rattle.pair.specs.Answer.{status_number}
use Rattle.pair.specs.declared.Setup.{Setup}
use Rattle.pair.specs.Calls.HostCall.{MakeReady, AddRegion, PostEntry}
use Rattle.pair.specs.Calls.{Whole, HostCall, begun, called_all}
use Rattle.cut_spec.specs.Message.{packets_answer, responses_answer}
use Rattle.cut_spec.specs.Next.{next_answer}
use Rattle.cut_spec.specs.Cut.{header_at, payload_at, cut_bytes}
use Rattle.cut_spec.specs.declared.Connection.{Connection}
use Rattle.cut_spec.specs.declared.Request.TheVariants.{Send, Read}
use Rattle.responder_spec.specs.Inbound.{inbound}
use Rattle.responder_spec.specs.declared.Completion.{Completion}

pub data Case : Type 0 where
  W1 W2 W3 W4 W5 W6 W7 W8 W9 W10 W11 W12 : Case

-- Answers as numbers. A class: 0 expected, 1 ahead, 2 duplicate
unfoldable pub class_number : Class → ℕ
class_number Expected = 0
class_number Ahead = 1
class_number Duplicate = 2

-- a count of packets; a refusal is 0, which no message has
unfoldable pub count : Result ℕ Refusal → ℕ
count (Ok n) = n
count (Err refusal) = 0

-- the next message's PSN; a refusal is a number that no PSN has
unfoldable pub next : Result Psn Refusal → ℕ
next (Ok psn) = psn.0
next (Err refusal) = space

-- a packet number
abbrev pub at : ℕ → Psn
at n = record { 0 = n }

-- W5 to W9: messages of RC at PMTU 256, to queue pair 0x12 under P_Key FFFF
abbrev pub link : Connection
link = record { service = Service.rc; pmtu = 256; pkey = 65535; dest = 18 }

-- W10: a word whose 64 bits are all set
abbrev pub ones : List ℕ
ones = replicate 8 255

-- W12: the packet, its payload, and its ACK
abbrev pub abc : List ℕ
abc = 97 ∷ 98 ∷ 99 ∷ []

abbrev pub packet : List ℕ
packet = 4 ∷ 16 ∷ 255 ∷ 255 ∷ 0 ∷ 0 ∷ 0 ∷ 18 ∷ 128 ∷ 0 ∷ 0 ∷ 7 ∷ abc ++ (0 ∷ [])

abbrev pub ack : List ℕ
ack = 17 ∷ 0 ∷ 255 ∷ 255 ∷ 0 ∷ 0 ∷ 0 ∷ 52 ∷ 0 ∷ 0 ∷ 0 ∷ 7 ∷ 31 ∷ 0 ∷ 0 ∷ 1 ∷ []

-- the pair of the replay: ours 0x12, theirs 0x34, all functions, 4,096 bytes of memory
abbrev pub setup : Setup
setup =
    record {
      service = Service.rc;
      pmtu = 256;
      ours = 18;
      theirs = 52;
      pkey = 65535;
      start = at 7;
      timer = 0;
      send = true;
      write = true;
      read = true;
      atomic = true;
      memory = 4096;
    }

-- its region: key 0x1000, address 0x10000
abbrev pub region : Region
region = record { key = 4096; address = 65536; length = 1024; offset = 0; write = true; read = true; atomic = true }

-- its entries, of 128 bytes each, one behind the other from 2,048 on; n of them from number i on
abbrev pub entry : ℕ → Entry
entry i = record { number = i; offset = 2048 + i * 128; length = 128 }

unfoldable pub posts : ℕ → ℕ → List HostCall
posts i zero = []
posts i (suc n) = PostEntry (entry i) ∷ posts (suc i) n

-- set up with empty tables; then its region is added, its entries are posted, and it is made ready
unfoldable pub ready : Whole
ready =
    called_all (begun setup (replicate 16 no_region) (replicate 16 (replicate 3 0)) (replicate 16 (replicate 2 0)))
    (AddRegion region ∷ posts 0 16 ++ (MakeReady ∷ []))

-- how it stands before the packet: state, entries, the row of its region
unfoldable pub standing : Whole → List ℕ
standing w = w.pair.state ∷ w.pair.entries.count ∷ region_of region.key w.regions

-- memory of zeros, and an output whose bytes differ from those of an answer
unfoldable pub zeros : List ℕ
zeros = replicate 4096 0

abbrev pub output : List ℕ
output = replicate 24 170

-- a completion: is there one, its entry, its bytes, has it an immediate, and which
unfoldable pub completion_numbers : Completion → List ℕ
completion_numbers c = bit c.some ∷ c.number ∷ c.length ∷ bit c.immediate ∷ c.value ∷ []

-- what is left: number, expected PSN, MSN, which are the replay's line; bytes sent; completion
unfoldable pub left_numbers : Left → List ℕ
left_numbers l =
    l.number ∷ l.whole.pair.expected.0 ∷ l.whole.pair.msn.0 ∷ l.outgoing ∷ completion_numbers l.completion

-- what is left: its numbers, output and memory
unfoldable pub given : Left → List ℕ
given l = left_numbers l ++ (l.out ++ l.memory)

-- the packet given to the pair
unfoldable pub once : Left
once = inbound (arriving_at ready zeros packet output)

-- What the definitions give.
unfoldable pub found : Case → List ℕ
-- the class of a PSN beside the expected one; in W4 how far ahead it is, too
found W1 = class_number (psn_class 16777215 0) ∷ []
found W2 = class_number (psn_class 8388608 0) ∷ []
found W3 = class_number (psn_class 8388609 0) ∷ []
found W4 = class_number (psn_class 0 16777215) ∷ distance 0 16777215 ∷ []
-- packets; in W5 the place of the one, in W7 payload and PadCnt of the last
found W5 = count (packets_answer Send 0 256) ∷ (class_of (header_at link Send 0 (at 0) 0).bth.opcode).place ∷ []
found W6 = count (packets_answer Send 256 256) ∷ []
found W7 =
    count (packets_answer Send 257 256)
    ∷ length (payload_at link Send (replicate 257 0) 1) ∷ (header_at link Send 257 (at 0) 1).bth.pad ∷ []
-- responses, and the next message's PSN
found W8 = count (responses_answer 1025 256) ∷ next (next_answer (Read (record { address = 0; key = 0; length = 1025 })) 0 256 (at 24)) ∷ []
found W9 = count (packets_answer Send 1048576 256) ∷ []
-- the word before and after, and its bytes after
found W10 = word_at ones 0 ∷ word_at (fetch_added ones 0 2) 0 ∷ fetch_added ones 0 2
-- theirs and ours: 7FFF and FFFF, either way round, and 7FFF twice
found W11 = bit (pkeys_match 32767 65535) ∷ bit (pkeys_match 65535 32767) ∷ bit (pkeys_match 32767 32767) ∷ []
-- abc cut as a SEND of PSN 7; the pair; the packet given to it, and given to what that left
found W12 =
    cut_bytes link Send abc (at 7) 0
    ++ (standing ready ++ (given once ++ given (inbound (arriving_at once.whole once.memory packet output))))

-- What the rules say.
unfoldable pub said : Case → List ℕ
said W1 = 2 ∷ []
said W2 = 1 ∷ []
said W3 = 2 ∷ []
said W4 = 1 ∷ 1 ∷ []
said W5 = 1 ∷ 4 ∷ []
said W6 = 1 ∷ []
said W7 = 2 ∷ 1 ∷ 3 ∷ []
said W8 = 5 ∷ 29 ∷ []
said W9 = 4096 ∷ []
said W10 = (2 ^ 64 - 1) ∷ 1 ∷ 1 ∷ 0 ∷ 0 ∷ 0 ∷ 0 ∷ 0 ∷ 0 ∷ 0 ∷ []
said W11 = 1 ∷ 1 ∷ 0 ∷ []
said W12 =
    packet
    -- Ready, 16 entries, the region with all rights
    ++ (1 ∷ 16 ∷ 4096 ∷ 65536 ∷ 1024 ∷ 0 ∷ 1 ∷ 1 ∷ 1 ∷ []
    -- 1 8 1; entry 0 completed with 3 bytes and no immediate; the ACK; abc where it lies, and nothing else
    ++ (1 ∷ 8 ∷ 1 ∷ 16 ∷ 1 ∷ 0 ∷ 3 ∷ 0 ∷ 0 ∷ []
    ++ (ack ++ replicate 8 170 ++ replicate 2048 0 ++ abc ++ replicate 2045 0
    -- 4 8 1; no completion; the same ACK; memory as it was
    ++ (4 ∷ 8 ∷ 1 ∷ 16 ∷ 0 ∷ 0 ∷ 0 ∷ 0 ∷ 0 ∷ []
    ++ (ack ++ replicate 8 170 ++ replicate 2048 0 ++ abc ++ replicate 2045 0)))))

-- In every case what the definitions give is what the rules say.
abbrev pub Cases : Type 0
Cases = (c : Case) → found c ≡ said c
