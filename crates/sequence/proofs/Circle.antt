-- The laws of the number circle, for every layer above.
use Prim.Native.Nat.{ℕ, zero, suc, ◌+◌, ◌-◌, ◌%◌, ◌^◌, ◌≤◌, ◌<◌}
use mathlib.Core.Path.{◌≡◌, refl}
use mathlib.Core.Bool.{Bool, true, false, cond}
use native.Mathlib.Omega.{arith}
use lib.Dec.{eqb, ltb}
use borrow.Author.Tests.{eq-eqb, ne_eqb, le-leb, lt-leb, eqb-true, eqb-false, ltb-true, ltb-false}
use Rattle.sequence.specs.Sequence.{space, half, distance, after, msn_next, class_at, psn_class}
use Rattle.sequence.specs.Claims.{order, msn_of, ClassIsOrder, TooFarBehind, DistanceAfter, AfterDistance, AfterAfter, AlongStream, AfterBelow, AfterNone, MsnCounts}
use Rattle.sequence.specs.declared.Msn.{Msn}
use Rattle.sequence.specs.declared.Class.TheVariants.{Expected, Ahead, Duplicate}

-- summing remainders, which no machine word overflows, is going on
pub reduced : (number n : ℕ) → (number % 16777216 + n % 16777216) % 16777216 ≡ after number n
reduced number n = omega arith

pub after-below : AfterBelow
after-below psn n = omega arith

pub after_none : AfterNone
after_none psn h = let e : after psn.0 0 ≡ psn.0 = omega arith in λ i. record { 0 = e i }

sum : (a m n : ℕ) → after (after a m) n ≡ after a (m + n)
sum a m n = omega arith

pub after-after : AfterAfter
after-after psn m n = λ i. record { 0 = sum psn.0 m n i }

pub along-stream : AlongStream
along-stream psn x n = λ i. record { 0 = sum psn.0 x n i }

measured : (a n : ℕ) → distance (after a n) a ≡ n % space
measured a n = omega arith

pub distance-after : DistanceAfter
distance-after psn n = measured psn.0 n

reached : (p e : ℕ) → after e (distance p e) ≡ p % space
reached p e = omega arith

pub after-distance : AfterDistance
after-distance psn expected = reached psn.0 expected.0

one_more_lem : (m : Msn) (n : ℕ) → m.0 ≡ n % 2 ^ 24 → (msn_next m).0 ≡ suc n % 2 ^ 24
one_more_lem m n h = omega arith

pub msn-counts : MsnCounts
unfolding msn_of
msn-counts zero = refl
msn-counts (suc n) = one_more_lem (msn_of n) n (msn-counts n)

-- a remainder is its own remainder
again : (n : ℕ) → n % space % space ≡ n % space
again n = omega arith

-- the distance between two positions of a stream: the first ahead, or behind
forward : (s x y : ℕ) → y ≤ x → x ≤ y + 8388607 → distance (after s x) (after s y) ≡ x - y
forward s x y h k = rw (again (s + x), again (s + y)) (omega arith)

back : (s x y : ℕ) → x < y → y ≤ x + 8388607 → distance (after s x) (after s y) ≡ 16777216 - (y - x)
back s x y h k = rw (again (s + x), again (s + y)) (omega arith)

-- the class, by the distance
some : (d : ℕ) → 0 < d → d ≤ half → class_at d ≡ Ahead
unfolding class_at
some d h k = rw (ne_eqb d 0 (λ z. omega arith), le-leb d half k)

most : (d : ℕ) → half < d → class_at d ≡ Duplicate
unfolding class_at
most d h = rw (ne_eqb d 0 (λ z. omega arith), lt-leb d half h)

none : (d : ℕ) → d ≡ 0 → class_at d ≡ Expected
unfolding class_at
none d h = rw (eq-eqb d 0 h)

past : (x y : ℕ) → y < x → x ≤ y + 8388607 → class_at (x - y) ≡ Ahead
past x y h k = some (x - y) (omega arith) (omega arith)

behind : (x y : ℕ) → x < y → y ≤ x + 8388607 → class_at (16777216 - (y - x)) ≡ Duplicate
behind x y h k = most (16777216 - (y - x)) (omega arith)

pub class-is-order : ClassIsOrder
unfolding psn_class order
class-is-order s x y near far = go (eqb x y) (ltb y x) refl refl
  where
    go : (same later : Bool) → eqb x y ≡ same → ltb y x ≡ later
        → class_at (distance (after s x) (after s y)) ≡ cond same Expected (cond later Ahead Duplicate)
    go true later e f =
        let same : x ≡ y = eqb-true x y e in
        rw (forward s x y (omega arith) near) (none (x - y) (omega arith))
    go false true e f =
        let less : y < x = ltb-true y x f in
        rw (forward s x y (omega arith) near) (past x y less near)
    go false false e f =
        let other : x ≡ y → ⊥ = eqb-false x y e in
        let least : x ≤ y = ltb-false y x f in
        let less : x < y = omega arith in
        rw (back s x y less far) (behind x y less far)

pub too-far-behind : TooFarBehind
unfolding psn_class class_at
too-far-behind start =
    let d : distance (after start 0) (after start 8388608) ≡ 8388608 = omega arith in
    rw d
