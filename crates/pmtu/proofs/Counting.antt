-- How many pieces there are.
use Prim.Native.Nat.{ℕ, zero, suc, ◌+◌, ◌*◌, ◌/◌, ◌%◌, ◌≤◌, ◌<◌}
use mathlib.Core.Path.{◌≡◌, refl, sym, subst}
use mathlib.Core.Bool.{Bool, true, false, cond, ◌||◌}
use mathlib.Core.Logic.{inl, inr}
use native.Mathlib.Omega.{arith}
use native.Mathlib.Nat.{mod-add-div', mod-lt, mul-le-mul_right, le_of_mul-le-mul_right}
use lib.Dec.{ltb, eqb}
use borrow.Author.Tests.{ltb-true, ltb-false, eqb-true, eqb-false}
use Rattle.pmtu.specs.Pieces.{pmtu_fits, pieces}
use Rattle.pmtu.specs.Claims.{Counted, Counts, IsPmtu, Pmtus, PmtuBounds}

-- fewer multiples of p make less
less : (p q k : ℕ) → q * p < k * p → q < k
less p q k h = go (ltb q k) refl
  where
    go : (b : Bool) → ltb q k ≡ b → q < k
    go true e = ltb-true q k e
    go false e = absurd (omega (arith, mul-le-mul_right {m = k} {n = q} p (ltb-false q k e)))

-- by the quotient q and the remainder r
by-quotient : (n p q r : ℕ) → 0 < p → r + q * p ≡ n → r < p
    → (a b : Bool) → eqb n 0 ≡ a → eqb r 0 ≡ b → Counted n p (cond a 1 (q + cond b 0 1))
by-quotient n p q r w e l true b x y =
    let z : n ≡ 0 = eqb-true n 0 x in
    record { some = omega arith; enough = omega arith; least = λ k s h. s }
by-quotient n p zero r w e l false true x y =
    let z : r ≡ 0 = eqb-true r 0 y in
    absurd (eqb-false n 0 x (omega arith))
by-quotient n p (suc q) r w e l false true x y =
    let z : r ≡ 0 = eqb-true r 0 y in
    let s : suc q + 0 ≡ suc q = omega arith in
    subst (Counted n p) (sym s)
    (record { some = omega arith; enough = omega arith; least = λ k u h. le_of_mul-le-mul_right {m = suc q} {n = k} {k = p} (omega arith) w })
by-quotient n p q r w e l false false x y =
    let z : 0 < r = omega (arith, eqb-false r 0 y) in
    record { some = omega arith; enough = omega arith; least = λ k u h. omega (arith, less p q k (omega arith)) }

pub counts : Counts
unfolding pieces
counts n p w = by-quotient n p (n / p) (n % p) w (mod-add-div' n p) (mod-lt n w) (eqb n 0) (eqb (n % p) 0) refl refl

-- before the last piece there are bytes to come
pub more : (n p count i : ℕ) → Counted n p count → suc i < count → i * p + p < n
more n p count i C h = go (ltb (i * p + p) n) refl
  where
    go : (b : Bool) → ltb (i * p + p) n ≡ b → i * p + p < n
    go true e = ltb-true (i * p + p) n e
    go false e =
        let m : n ≤ suc i * p = omega (arith, ltb-false (i * p + p) n e) in
        absurd (omega (arith, C.least (suc i) (omega arith) m))

-- a piece begins within the bytes, and one after the first before their end
pub begins : (n p count i : ℕ) → Counted n p count → suc i ≤ count → i * p ≤ n
begins n p count zero C h = omega arith
begins n p count (suc i) C h = omega (arith, more n p count i C h)

pub begins-inside : (n p count i : ℕ) → Counted n p count → suc i ≤ count → 0 < i → i * p < n
begins-inside n p count zero C h g = absurd (omega arith)
begins-inside n p count (suc i) C h g = omega (arith, more n p count i C h)

-- the PMTUs
is-pmtu : (p : ℕ) → pmtu_fits p ≡ true → IsPmtu p
unfolding pmtu_fits
is-pmtu p h = go (eqb p 256) (eqb p 512) (eqb p 1024) (eqb p 2048) refl refl refl refl h
  where
    go : (a b c d : Bool) → eqb p 256 ≡ a → eqb p 512 ≡ b → eqb p 1024 ≡ c → eqb p 2048 ≡ d
        → (a || (b || (c || (d || eqb p 4096)))) ≡ true → IsPmtu p
    go true b c d x y z w q = inl (eqb-true p 256 x)
    go false true c d x y z w q = inr (inl (eqb-true p 512 y))
    go false false true d x y z w q = inr (inr (inl (eqb-true p 1024 z)))
    go false false false true x y z w q = inr (inr (inr (inl (eqb-true p 2048 w))))
    go false false false false x y z w q = inr (inr (inr (inr (eqb-true p 4096 q))))

fits-pmtu : (p : ℕ) → IsPmtu p → pmtu_fits p ≡ true
unfolding pmtu_fits
fits-pmtu p (inl e) = rw e
fits-pmtu p (inr (inl e)) = rw e
fits-pmtu p (inr (inr (inl e))) = rw e
fits-pmtu p (inr (inr (inr (inl e)))) = rw e
fits-pmtu p (inr (inr (inr (inr e)))) = rw e

pub pmtus : Pmtus
pmtus p = (is-pmtu p, fits-pmtu p)

-- the smallest and the largest; all are words
pub bounds : PmtuBounds
bounds p (inl e) = (omega arith, omega arith, omega arith)
bounds p (inr (inl e)) = (omega arith, omega arith, omega arith)
bounds p (inr (inr (inl e))) = (omega arith, omega arith, omega arith)
bounds p (inr (inr (inr (inl e)))) = (omega arith, omega arith, omega arith)
bounds p (inr (inr (inr (inr e)))) = (omega arith, omega arith, omega arith)

pub pmtu-bounds : (p : ℕ) → pmtu_fits p ≡ true → (256 ≤ p) × (p ≤ 4096)
pmtu-bounds p h = let b = bounds p (is-pmtu p h) in (b.0, b.1)
