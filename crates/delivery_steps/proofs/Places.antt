-- The place of packet i of count: what begins and ends there, and how many bytes it may carry.
use Prim.Native.Nat.{ℕ, suc, ◌+◌, ◌*◌, ◌%◌, ◌≤◌, ◌<◌}
use mathlib.Core.Path.{◌≡◌, refl, sym, ap}
use mathlib.Core.Bool.{Bool, true, false, cond, not, ◌&&◌, ◌||◌}
use native.Mathlib.Omega.{arith}
use lib.Dec.{eqb, leb, ltb}
use borrow.Author.Tests.{eq-eqb, ne_eqb, le-ltb}
use Rattle.lemmas.proofs.Auto.{tests}
use Rattle.opcode.specs.Place.{starts, ends}
use Rattle.pmtu.specs.Pieces.{place_at}
use Rattle.packet.specs.Packet.{pad_of}
use Rattle.request_spec.specs.Verdict.{size_off, pad_early}

-- the bytes of packet i: a full PMTU and some to come, or the rest
pub record Sizes (i count size pmtu n : ℕ) : Type 0 where
  pub more : suc i < count → (size ≡ pmtu) × (i * pmtu + pmtu < n)
  pub last : suc i ≡ count → (size ≤ pmtu) × (0 < i → 0 < size) × (i * pmtu + size ≡ n)

module _ (count i : ℕ) (h : i < count) where
  pub starts-at : starts (place_at count i) ≡ eqb i 0
  unfolding place_at starts
  starts-at = go (eqb count 1) (eqb i 0) (eqb (i + 1) count) refl refl
    where
      go : (a b c : Bool) → eqb count 1 ≡ a → eqb i 0 ≡ b
          → (eqb (cond a 4 (cond b 0 (cond c 2 1))) 0 || eqb (cond a 4 (cond b 0 (cond c 2 1))) 4) ≡ b
      go true true c e f = refl
      go true false c e f = absurd (omega (arith, tests))
      go false true c e f = refl
      go false false true e f = refl
      go false false false e f = refl

  pub ends_at : ends (place_at count i) ≡ eqb (suc i) count
  unfolding place_at ends
  ends_at = go (eqb count 1) (eqb i 0) (eqb (i + 1) count) refl refl refl
    where
      go : (a b c : Bool) → eqb count 1 ≡ a → eqb i 0 ≡ b → eqb (i + 1) count ≡ c
          → leb 2 (cond a 4 (cond b 0 (cond c 2 1))) ≡ eqb (suc i) count
      go true b c e f g = sym (eq-eqb (suc i) count (omega (arith, tests)))
      go false true c e f g = sym (ne_eqb (suc i) count (λ z. absurd (omega (arith, tests))))
      go false false true e f g = sym (eq-eqb (suc i) count (omega (arith, tests)))
      go false false false e f g = sym (ne_eqb (suc i) count (λ z. absurd (omega (arith, tests))))

  module _ (size pmtu n : ℕ) (z : Sizes i count size pmtu n) where
    pub size_fits : size_off (place_at count i) pmtu size ≡ false
    unfolding place_at ends size_off
    size_fits = go (eqb count 1) (eqb i 0) (eqb (i + 1) count) refl refl refl
      where
        rest : suc i ≡ count → ltb pmtu size ≡ false
        rest e = le-ltb pmtu size (z.last e).0

        some : suc i ≡ count → 0 < i → eqb size 0 ≡ false
        some e o = ne_eqb size 0 (λ q. absurd (omega (arith, (z.last e).1 o)))

        go : (a b c : Bool) → eqb count 1 ≡ a → eqb i 0 ≡ b → eqb (i + 1) count ≡ c
            → cond (leb 2 (cond a 4 (cond b 0 (cond c 2 1))))
            ((eqb (cond a 4 (cond b 0 (cond c 2 1))) 2 && eqb size 0) || ltb pmtu size)
            (not (eqb size pmtu))
            ≡ false
        go true b c e f g = rest (omega (arith, tests))
        go false true c e f g = ap not (eq-eqb size pmtu (z.more (omega (arith, tests))).0)
        go false false true e f g = rw (some (omega (arith, tests)) (omega (arith, tests))) (rest (omega (arith, tests)))
        go false false false e f g = ap not (eq-eqb size pmtu (z.more (omega (arith, tests))).0)

    pub pad-late : pmtu % 4 ≡ 0 → pad_early (place_at count i) (pad_of size) ≡ false
    unfolding pad_early pad_of
    pad-late q = rw ends_at (go (eqb (suc i) count) refl)
      where
        go : (b : Bool) → eqb (suc i) count ≡ b → (not b && not (eqb (pad_of size) 0)) ≡ false
        go true e = refl
        go false e =
            let l : suc i < count = omega (arith, tests) in
            let w : size ≡ pmtu = (z.more l).0 in
            ap not (eq-eqb (pad_of size) 0 (omega arith))
