-- The responses of a READ, as packets: each reads back, and together they carry the bytes asked for.
use Rattle.std.specs.Prelude.{ℕ, suc, ◌+◌, ◌*◌, ◌^◌, ◌≤◌, ◌<◌, ◌≡◌, false, List, ◌∷◌, ◌++◌, ◌⊎◌, length, take, drop, Ok}
use Rattle.sequence.specs.Sequence.{psn_after}
use Rattle.sequence.specs.declared.Psn.{Psn}
use Rattle.header.specs.Read.{read_header}
use Rattle.header.specs.declared.Extension.{Extension}
use Rattle.header.specs.declared.Extension.TheVariants.{Bare, Acknowledge}
use Rattle.header.specs.declared.Header.{Header}
use Rattle.packet.specs.Packet.{pad_of, payload_of}
use Rattle.pmtu.specs.Pieces.{pieces, joined}
use Rattle.pair.specs.Claims.{Sound}
use Rattle.pair.specs.declared.Setup.{Setup}
use Rattle.pair.specs.declared.Pair.{Pair}
use Rattle.pair.specs.declared.ReadAnswer.{ReadAnswer}
use Rattle.responder_spec.specs.Reply.{read_reply, response_bytes}

-- A header of ours, every field written out: our P_Key, their queue pair number, all flags clear.
abbrev pub plain_header : Setup → ℕ → ℕ → Psn → Extension → Header
plain_header s opcode pad psn extension =
    record {
      bth =
          record {
            opcode = opcode;
            se = false;
            migreq = false;
            pad = pad;
            tver = 0;
            pkey = s.pkey;
            reserved8 = 0;
            dest = s.theirs;
            ackreq = false;
            reserved7 = 0;
            psn = psn;
          };
      extension = extension;
    }

-- A sound pair, in the midst of answering a READ, with the memory of its set-up.
pub record Answering (q : Pair) (bytes : List ℕ) : Type 0 where
  pub sound : Sound q
  pub pkey : q.setup.pkey < 2 ^ 16
  pub some : 0 < q.read.remaining
  pub memory : length bytes ≡ q.setup.memory

-- the bytes asked for
abbrev pub asked : ReadAnswer → List ℕ → List ℕ
asked a m = take a.length (drop a.offset m)

-- the AETH of a response: an ACK, with the MSN as at acceptance
abbrev pub acceptance : ReadAnswer → Extension
acceptance a = Acknowledge (record { syndrome = 31; msn = a.msn })

-- Response i reads as a packet with this opcode and these headers, and carries piece i of the bytes.
pub record ReadsAs (q : Pair) (bytes : List ℕ) (i opcode : ℕ) (extension : Extension) : Type 0 where
  pub payload : payload_of (response_bytes q.setup (read_reply q.read) bytes i) ≡ take q.setup.pmtu (drop (i * q.setup.pmtu) (asked q.read bytes))
  pub header : read_header (response_bytes q.setup (read_reply q.read) bytes i)
      ≡ Ok (plain_header q.setup opcode (pad_of (length (payload_of (response_bytes q.setup (read_reply q.read) bytes i)))) (psn_after q.read.psn i) extension)
  pub room : length (response_bytes q.setup (read_reply q.read) bytes i) ≤ 16 + q.setup.pmtu

-- First, Middle, Last and Only are opcodes 13 to 16; a Middle has no AETH.
pub record Responses (q : Pair) (bytes : List ℕ) (count : ℕ) : Type 0 where
  pub only : count ≡ 1 → ReadsAs q bytes 0 16 (acceptance q.read)
  pub first : 1 < count → ReadsAs q bytes 0 13 (acceptance q.read)
  pub middle : (i : ℕ) → 0 < i → suc i < count → ReadsAs q bytes i 14 Bare
  pub last : (i : ℕ) → 0 < i → suc i ≡ count → ReadsAs q bytes i 15 (acceptance q.read)

abbrev pub ResponsesRead : Type 0
ResponsesRead = (q : Pair) (m : List ℕ) → Answering q m → Responses q m (pieces q.read.length q.setup.pmtu)

-- All payloads in order, put together, are the bytes asked for, and as many as were asked for.
abbrev pub ResponsesJoin : Type 0
ResponsesJoin =
    (q : Pair) (m : List ℕ) → Answering q m
    → (joined (λ i. payload_of (response_bytes q.setup (read_reply q.read) m i)) 0 (pieces q.read.length q.setup.pmtu) ≡ asked q.read m)
    × (length (asked q.read m) ≡ q.read.length)
