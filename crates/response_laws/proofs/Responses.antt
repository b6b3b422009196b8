-- The responses of a READ read back.
use Prim.Native.Nat.{ℕ, zero, suc, ◌+◌, ◌%◌, ◌^◌, ◌≤◌, ◌<◌, min}
use mathlib.Core.Path.{◌≡◌, refl, sym, ap, ◌∙◌}
use mathlib.Core.Bool.{Bool, true, false, cond}
use mathlib.Core.List.{List, ◌++◌}
use mathlib.Core.Logic.{◌⊎◌, inl, inr}
use native.Mathlib.Omega.{arith}
use lib.Dec.{eqb}
use lib.ListN.{length, drop, length-take, length-drop}
use Rattle.sequence.specs.Sequence.{psn_after}
use Rattle.sequence.proofs.Circle.{after-below}
use Rattle.opcode.specs.Opcode.{follows_of, length_of, low_class, class_of}
use Rattle.header.specs.Write.{follows_by, header_fits, header_length}
use Rattle.header.specs.Claims.{Widths}
use Rattle.header.specs.declared.Header.{Header}
use Rattle.std.specs.Prelude.{Ok}
use Rattle.header.proofs.Widths.{bth-fits, extension-fits}
use Rattle.header.proofs.Writes.{both-fit}
use Rattle.packet.specs.Packet.{pad_of, packet_length, payload_of}
use Rattle.packet.specs.Claims.{Found}
use Rattle.packet.proofs.Bytes.{length-packet}
use Rattle.packet.proofs.Pads.{pad-small}
use Rattle.packet.proofs.ReadBack.{found}
use Rattle.pmtu.specs.Pieces.{pieces, place_at, piece_at, joined}
use Rattle.pmtu.proofs.Counting.{bounds}
use Rattle.pmtu.proofs.Cuts.{joins, at_most, places}
use Rattle.pair.specs.Claims.{Sound}
use Rattle.pair.specs.declared.Pair.{Pair}
use Rattle.pair.specs.declared.ReadAnswer.{ReadAnswer}
use Rattle.responder_spec.specs.Reply.{read_reply, reply_header, response_opcode, response_extension, response_payload, response_header, response_bytes}
use Rattle.response_laws.specs.Responses.{plain_header, Answering, asked, ReadsAs, ResponsesRead, ResponsesJoin}

-- a place is First, Middle, Last or Only
by_place : (P : ℕ → Type 0) → P 0 → P 1 → P 2 → P 4 → (count i : ℕ) → P (place_at count i)
unfolding place_at
by_place P first middle last only count i = go (eqb count 1) (eqb i 0) (eqb (i + 1) count)
  where
    go : (a b c : Bool) → P (cond a 4 (cond b 0 (cond c 2 1)))
    go true b c = only
    go false true c = first
    go false false true = last
    go false false false = middle

-- what opcode and headers have in common at a place
record Shape (a : ReadAnswer) (place : ℕ) : Type 0 where
  small : response_opcode place < 64
  follows : (class_of (response_opcode place)).follows ≡ follows_by (response_extension place (read_reply a))
  size : (class_of (response_opcode place)).length ≤ 16
  widths : a.msn.0 < 2 ^ 24 → Widths (response_extension place (read_reply a))

shape : (a : ReadAnswer) (count i : ℕ) → Shape a (place_at count i)
unfolding response_opcode response_extension class_of low_class follows_of length_of follows_by
shape a count i =
    by_place (Shape a)
    (record { small = omega arith; follows = refl; size = omega arith; widths = λ h. (omega arith, h) })
    (record { small = omega arith; follows = refl; size = omega arith; widths = λ h. tt })
    (record { small = omega arith; follows = refl; size = omega arith; widths = λ h. (omega arith, h) })
    (record { small = omega arith; follows = refl; size = omega arith; widths = λ h. (omega arith, h) })
    count i

-- a READ with responses remaining: its numbers are within their widths, its bytes within memory
pub record Live (q : Pair) : Type 0 where
  pub within : q.read.offset + q.read.length ≤ q.setup.memory
  pub psn : q.read.psn.0 < 2 ^ 24
  pub msn : q.read.msn.0 < 2 ^ 24

pub live : (q : Pair) → Sound q → 0 < q.read.remaining → Live q
live q S h = go S.read
  where
    go : (q.read.remaining ≡ 0)
        ⊎ ((q.read.remaining ≤ pieces q.read.length q.setup.pmtu) × (q.read.offset + q.read.length ≤ q.setup.memory) × (q.read.psn.0 < 2 ^ 24) × (q.read.msn.0 < 2 ^ 24))
        → Live q
    go (inl z) = absurd (omega arith)
    go (inr z) = record { within = z.1; psn = z.2; msn = z.3 }

header-fits : (q : Pair) (m : List ℕ) → Answering q m → (i n : ℕ) → header_fits (response_header q.setup (read_reply q.read) i n) ≡ true
unfolding response_header reply_header
header-fits q m A i n =
    let H = shape q.read (pieces q.read.length q.setup.pmtu) i in
    let h = response_header q.setup (read_reply q.read) i n in
    both-fit h
    (bth-fits h.bth (record {
      opcode = H.small;
      pad = pad-small n;
      tver = refl;
      pkey = A.pkey;
      reserved8 = omega arith;
      dest = A.sound.setup.0.theirs;
      reserved7 = omega arith;
      psn = after-below _ _;
    }))
    (extension-fits (class_of h.bth.opcode).follows h.extension H.follows (H.widths (live q A.sound A.some).msn))

-- bytes up to a PMTU and their pad are no more than the PMTU, which is a multiple of 4
body : (n pmtu : ℕ) → n ≤ pmtu → pmtu % 4 ≡ 0 → n + pad_of n ≤ pmtu
unfolding pad_of
body n pmtu h e = omega arith

module _ (q : Pair) (m : List ℕ) (A : Answering q m) (i : ℕ) where
  payload : List ℕ
  payload = response_payload (read_reply q.read) q.setup.pmtu m i

  h : Header
  h = response_header q.setup (read_reply q.read) i (length payload)

  good : header_fits h ≡ true
  unfolding h
  good = header-fits q m A i (length payload)

  pad : h.bth.pad ≡ pad_of (length payload)
  unfolding h response_header reply_header
  pad = refl

  size : packet_length h (length payload) ≤ 16 + q.setup.pmtu
  unfolding h packet_length header_length response_header reply_header payload response_payload
  size =
      let H = shape q.read (pieces q.read.length q.setup.pmtu) i in
      let B = bounds q.setup.pmtu A.sound.setup.0.pmtu in
      let l : length payload ≤ q.setup.pmtu = at_most _ _ _ in
      omega (arith, H.size, body (length payload) q.setup.pmtu l B.2)

  short : packet_length h (length payload) ≤ 4128
  short = omega (arith, size, (bounds q.setup.pmtu A.sound.setup.0.pmtu).1)

  reads : Found h payload (response_bytes q.setup (read_reply q.read) m i)
  unfolding h payload response_bytes
  reads = found h payload good pad short

  pub payload-is : payload_of (response_bytes q.setup (read_reply q.read) m i) ≡ piece_at (asked q.read m) q.setup.pmtu i
  unfolding payload response_payload
  payload-is = reads.payload

  pub room_for : length (response_bytes q.setup (read_reply q.read) m i) ≤ 16 + q.setup.pmtu
  unfolding h payload response_bytes
  room_for = omega (arith, length-packet h payload good, size)

  -- by its place
  reads_as : (place : ℕ) → place_at (pieces q.read.length q.setup.pmtu) i ≡ place
      → ReadsAs q m i (response_opcode place) (response_extension place (read_reply q.read))
  unfolding h payload response_header reply_header piece_at
  reads_as place e =
      record {
        payload = payload-is;
        header =
            reads.header
            ∙ (ap (λ x. Ok (plain_header q.setup (response_opcode x) (pad_of (length payload)) (psn_after q.read.psn i) (response_extension x (read_reply q.read)))) e
            ∙ ap (λ d. Ok (plain_header q.setup (response_opcode place) (pad_of (length d)) (psn_after q.read.psn i) (response_extension place (read_reply q.read)))) (sym reads.payload));
        room = room_for;
      }

pub responses-read : ResponsesRead
unfolding response_opcode response_extension
responses-read q m A =
    let P = places (pieces q.read.length q.setup.pmtu) in
    record {
      only = λ e. reads_as q m A 0 4 (P.only e);
      first = λ e. reads_as q m A 0 0 (P.first e);
      middle = λ i a b. reads_as q m A i 1 (P.middle i a b);
      last = λ i a b. reads_as q m A i 2 (P.last i a b);
    }

pub same-joined : (f g : ℕ → List ℕ) → ((i : ℕ) → f i ≡ g i) → (i k : ℕ) → joined f i k ≡ joined g i k
unfolding joined
same-joined f g e i zero = refl
same-joined f g e i (suc k) = λ z. e i z ++ same-joined f g e (suc i) k z

-- as many bytes as were asked for
asked-length : (q : Pair) (m : List ℕ) → Answering q m → length (asked q.read m) ≡ q.read.length
asked-length q m A =
    let w : q.read.offset + q.read.length ≤ q.setup.memory = (live q A.sound A.some).within in
    let e : length m ≡ q.setup.memory = A.memory in
    length-take q.read.length (drop q.read.offset m) ∙ (ap (min q.read.length) (length-drop q.read.offset m) ∙ omega arith)

pub responses-join : ResponsesJoin
responses-join q m A =
    let n : length (asked q.read m) ≡ q.read.length = asked-length q m A in
    let B : 256 ≤ q.setup.pmtu = (bounds q.setup.pmtu A.sound.setup.0.pmtu).0 in
    let pos : 0 < q.setup.pmtu = omega arith in (
      same-joined (λ i. payload_of (response_bytes q.setup (read_reply q.read) m i)) (piece_at (asked q.read m) q.setup.pmtu) (payload-is q m A) 0 (pieces q.read.length q.setup.pmtu)
          ∙ (ap (λ k. joined (piece_at (asked q.read m) q.setup.pmtu) 0 (pieces k q.setup.pmtu)) (sym n)
          ∙ joins (asked q.read m) q.setup.pmtu pos),
      n,
    )
