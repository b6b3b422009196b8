-- A packet written part by part.
use Prim.Native.Nat.{ℕ, ◌+◌, ◌-◌, ◌%◌, ◌≤◌}
use mathlib.Core.Path.{◌≡◌, refl, sym, ap, subst, ◌∙◌}
use mathlib.Core.Bool.{Bool, true, false, cond, not, ◌||◌, true≢false}
use mathlib.Core.List.{List, [], ◌++◌, append_assoc}
use native.Mathlib.Omega.{arith}
use lib.Dec.{eqb, ltb}
use lib.ListN.{length, take, drop, replicate, length-append, length-replicate, length-take, length-drop}
use borrow.Author.Tests.{ltb-false, eq-eqb, ne_eqb, eqb-true}
use Rattle.sequence.specs.Sequence.{psn_after}
use Rattle.header.specs.Bytes.{eight}
use Rattle.header.specs.Write.{bth_bytes, aeth_bytes, extension_bytes, header_bytes}
use Rattle.header.specs.declared.Bth.{Bth}
use Rattle.header.specs.declared.Extension.TheVariants.{Bare, Acknowledge}
use Rattle.memory.specs.Memory.{store}
use Rattle.memory.proofs.Overwrite.{store-overwrite, store-twice, overwrite-start}
use Rattle.packet.specs.Packet.{pad_of, payload_out, packet_bytes}
use Rattle.packet.proofs.Pads.{pad-least}
use Rattle.pmtu.specs.Pieces.{pmtu_fits, pieces, place_at, part_at}
use Rattle.pmtu.specs.declared.Range.{Range}
use Rattle.pmtu.proofs.Cuts.{parts_within, part_of, at_most}
use Rattle.pmtu.proofs.Counting.{pmtus, bounds}
use Rattle.pair.specs.declared.Setup.{Setup}
use Rattle.responder_spec.specs.declared.Reply.{Reply}
use Rattle.responder_spec.specs.Reply.{reply_bth, reply_header, reply_aeth, ack_header, atomic_header, ack_bytes, response_opcode, response_extension, response_payload, response_header, response_bytes, index_of, over}
use Rattle.acknowledge.specs.Sendable.{unsendable_response}

-- the packet at the start, and what the output had past it
pub at-start : (out d : List ℕ) → length d ≤ length out → store out 0 d ≡ over d out
unfolding over
at-start out d h = store-overwrite out 0 d (omega arith) ∙ overwrite-start out d

-- bytes at the start of an output, and more behind them
pub more : (out d e w v : List ℕ) (n : ℕ) → w ≡ over d out → length d ≡ n → v ≡ store w n e → n + length e ≤ length out → v ≡ over (d ++ e) out
more out d e w v n first l next h =
    let at : 0 + length d ≡ n = omega arith in
    next ∙ (ap (λ z. store z n e) (first ∙ sym (at-start out d (omega arith)))
    ∙ (subst (λ k. store (store out 0 d) k e ≡ store out 0 (d ++ e)) at (store-twice out 0 d e (omega arith))
    ∙ at-start out (d ++ e) (omega (arith, length-append d e))))

-- BTH and AETH, and a value behind them if the kind has one
pub acked : (s : Setup) (r : Reply) (out w v : List ℕ) (n : ℕ) → (eqb r.kind 17 || eqb r.kind 18) ≡ true
    → w ≡ over (bth_bytes (reply_bth s r.kind 0 r.psn) ++ aeth_bytes (reply_aeth r)) out
    → n ≡ cond (eqb r.kind 18) 24 16 → v ≡ cond (eqb r.kind 18) (store w 16 (eight r.value)) w → 24 ≤ length out
    → (n ≡ length (ack_bytes s r)) × (v ≡ over (ack_bytes s r) out)
unfolding ack_bytes ack_header atomic_header reply_header header_bytes bth_bytes extension_bytes aeth_bytes
acked s r out w v n some first size next room = go (eqb r.kind 17) (eqb r.kind 18) refl refl
  where
    head : ℕ → List ℕ
    head k = bth_bytes (reply_bth s k 0 r.psn) ++ aeth_bytes (reply_aeth r)

    go : (a b : Bool) → eqb r.kind 17 ≡ a → eqb r.kind 18 ≡ b → (n ≡ length (ack_bytes s r)) × (v ≡ over (ack_bytes s r) out)
    go true b x y =
        let k = eqb-true r.kind 17 x in
        let z : eqb r.kind 18 ≡ false = ap (λ j. eqb j 18) k in
        let is-n : n ≡ 16 = size ∙ ap (λ c. cond c 24 16) z in
        let is-v : v ≡ over (head 17) out = next ∙ (ap (λ c. cond c (store w 16 (eight r.value)) w) z ∙ (first ∙ ap (λ j. over (head j) out) k)) in
        rw x (is-n, is-v)
    go false true x y =
        let k = eqb-true r.kind 18 y in
        let is-n : n ≡ 24 = size ∙ ap (λ c. cond c 24 16) y in
        let is-v : v ≡ store w 16 (eight r.value) = next ∙ ap (λ c. cond c (store w 16 (eight r.value)) w) y in
        rw (x, y) (is-n, more out (head 18) (eight r.value) w v 16 (first ∙ ap (λ j. over (head j) out) k) refl is-v room)
    go false false x y = absurd (true≢false (sym some ∙ rw (x, y)))

pub none : (s : Setup) (r : Reply) → (eqb r.kind 17 || eqb r.kind 18) ≡ false → ack_bytes s r ≡ []
unfolding ack_bytes
none s r e = go (eqb r.kind 17) (eqb r.kind 18) e
  where
    go : (a b : Bool) → (a || b) ≡ false → cond a (header_bytes (ack_header s r)) (cond b (header_bytes (atomic_header s r)) []) ≡ []
    go true b f = absurd (true≢false f)
    go false true f = absurd (true≢false f)
    go false false f = refl

-- a payload and its pad behind headers
behind : (out d e w v : List ℕ) (n : ℕ) → w ≡ over d out → length d ≡ n → v ≡ payload_out w n e → n + (length e + pad_of (length e)) ≤ length out
    → v ≡ over (d ++ (e ++ replicate (pad_of (length e)) 0)) out
unfolding payload_out
behind out d e w v n first l next h =
    let z = replicate {A = ℕ} (pad_of (length e)) 0 in
    let lz : length z ≡ pad_of (length e) = length-replicate (pad_of (length e)) 0 in
    more out (d ++ e) z (store w n e) v (n + length e) (more out d e w (store w n e) n first l refl (omega arith)) (omega (arith, length-append d e)) next (omega arith)
    ∙ ap (λ x. over x out) (append_assoc d e z)

-- BTH, and AETH but on a Middle
pub head-length : (s : Setup) (r : Reply) (i n : ℕ) → length (header_bytes (response_header s r i n)) ≤ 16
unfolding response_header reply_header response_extension header_bytes bth_bytes extension_bytes aeth_bytes
head-length s r i n = omega (arith, go (eqb (place_at (pieces r.length s.pmtu) i) 1))
  where
    go : (b : Bool) → length (extension_bytes (cond b Bare (Acknowledge (reply_aeth r)))) ≤ 4
    go true = omega arith
    go false = omega arith

module _ (s : Setup) (r : Reply) (i n place : ℕ) (at : place ≡ place_at (pieces r.length s.pmtu) i)
    (bth : Bth) (is : bth ≡ reply_bth s (response_opcode place) (pad_of n) (psn_after r.psn i)) where
  abbrev bytes : ℕ → List ℕ
  bytes x = header_bytes (reply_header s (response_opcode x) (pad_of n) (psn_after r.psn i) (response_extension x r))

  pub middle : place ≡ 1 → bth_bytes bth ≡ header_bytes (response_header s r i n)
  unfolding response_header reply_header response_extension header_bytes bth_bytes extension_bytes
  middle h = ap bth_bytes is ∙ (same ∙ ap bytes at)
    where
      same : bth_bytes (reply_bth s (response_opcode place) (pad_of n) (psn_after r.psn i)) ≡ bytes place
      same = rw (eq-eqb place 1 h)

  pub others : (place ≡ 1 → ⊥) → bth_bytes bth ++ aeth_bytes (reply_aeth r) ≡ header_bytes (response_header s r i n)
  unfolding response_header reply_header response_extension header_bytes bth_bytes extension_bytes aeth_bytes
  others h = ap (λ x. bth_bytes x ++ aeth_bytes (reply_aeth r)) is ∙ (same ∙ ap bytes at)
    where
      same : bth_bytes (reply_bth s (response_opcode place) (pad_of n) (psn_after r.psn i)) ++ aeth_bytes (reply_aeth r) ≡ bytes place
      same = rw (ne_eqb place 1 h)

-- a response that can be sent
pub record Sendable (s : Setup) (r : Reply) (memory room : ℕ) : Type 0 where
  pub fits : pmtu_fits s.pmtu ≡ true
  pub output : 16 + s.pmtu ≤ room
  pub within : r.offset + r.length ≤ memory

pub sendable : (s : Setup) (r : Reply) (memory room : ℕ) → unsendable_response s r memory room ≡ false → Sendable s r memory room
unfolding unsendable_response
sendable s r memory room e = go (pmtu_fits s.pmtu) (ltb room (16 + s.pmtu)) (ltb memory (r.offset + r.length)) refl refl refl e
  where
    go : (a b c : Bool) → pmtu_fits s.pmtu ≡ a → ltb room (16 + s.pmtu) ≡ b → ltb memory (r.offset + r.length) ≡ c
        → (not a || (b || c)) ≡ false → Sendable s r memory room
    go true true c x y z f = absurd (true≢false f)
    go true false true x y z f = absurd (true≢false f)
    go true false false x y z f = record { fits = x; output = ltb-false room (16 + s.pmtu) y; within = ltb-false memory (r.offset + r.length) z }
    go false b c x y z f = absurd (true≢false f)

-- the next response, from what each function answered
module _ (s : Setup) (r : Reply) (m out : List ℕ) (S : Sendable s r (length m) (length out)) (i : ℕ) (at : i ≡ index_of r s.pmtu)
    (x : Range) (part : x ≡ part_at r.length s.pmtu i) where
  pub inside : (x.start ≤ x.end) × (r.offset + x.end ≤ length m)
  inside =
      let P = subst (λ y. (y.start ≤ y.end) × (y.end ≤ r.length)) (sym part) (parts_within r.length s.pmtu i) in
      (P.0, omega (arith, S.within, P.1))

  abbrev carried : List ℕ
  carried = take (r.offset + x.end - (r.offset + x.start)) (drop (r.offset + x.start) m)

  is-payload : carried ≡ response_payload r s.pmtu m i
  unfolding response_payload
  is-payload = part_of m r.offset r.length s.pmtu i S.within x part

  many : length carried ≡ x.end - x.start
  many =
      let a : ℕ = r.offset + x.start in
      let k : ℕ = r.offset + x.end - a in
      omega (arith, length-take k (drop a m), length-drop a m, inside.0, inside.1)

  -- no more than the PMTU, with their pad too
  pub short : x.end - x.start + pad_of (x.end - x.start) ≤ s.pmtu
  unfolding response_payload
  short =
      let n : ℕ = x.end - x.start in
      let k : ℕ = s.pmtu - n in
      let l : n ≤ s.pmtu = omega (arith, many, ap length is-payload, at_most (take r.length (drop r.offset m)) s.pmtu i) in
      let e : (n + k) % 4 ≡ 0 = ap (λ z. z % 4) (omega arith) ∙ (bounds s.pmtu ((pmtus s.pmtu).0 S.fits)).2 in
      omega (arith, pad-least n k e)

  pub written : (n : ℕ) → n ≡ x.end - x.start → (headers : ℕ) → headers ≡ length (header_bytes (response_header s r i n))
      → (w : List ℕ) → w ≡ over (header_bytes (response_header s r i n)) out
      → (v : List ℕ) → v ≡ payload_out w headers carried
      → (pad : ℕ) → pad ≡ pad_of n
      → (headers + n + pad ≡ length (response_bytes s r m (index_of r s.pmtu))) × (v ≡ over (response_bytes s r m (index_of r s.pmtu)) out)
  unfolding response_bytes packet_bytes
  written n is-n headers size w first v next pad padding =
      let d = response_payload r s.pmtu m i in
      let H = header_bytes (response_header s r i n) in
      let z = replicate {A = ℕ} (pad_of (length d)) 0 in
      let ld : length d ≡ n = sym (ap length is-payload) ∙ (many ∙ sym is-n) in
      let lz : length z ≡ pad_of (length d) = length-replicate (pad_of (length d)) 0 in
      let pd : pad_of (length d) ≡ pad = ap pad_of ld ∙ sym padding in
      let sp : n + pad_of n ≤ s.pmtu = subst (λ k. k + pad_of k ≤ s.pmtu) (sym is-n) short in
      let ls : length (H ++ (d ++ z)) ≡ headers + n + pad =
      omega (arith, length-append H (d ++ z), length-append d z, size, ld, lz, pd) in
      let same : H ++ (d ++ z) ≡ response_bytes s r m (index_of r s.pmtu) =
      ap (λ k. header_bytes (response_header s r i k) ++ (d ++ z)) (sym ld) ∙ ap (λ k. response_bytes s r m k) at in
      let all : v ≡ over (H ++ (d ++ z)) out =
      behind out H d w v headers first (sym size) (next ∙ ap (payload_out w headers) is-payload)
      (omega (arith, size, head-length s r i n, ld, pd, padding, sp, S.output)) in
      (sym ls ∙ ap length same, all ∙ ap (λ y. over y out) same)
