-- Laws of the Boolean tests on numbers.
use Prim.Native.Nat.{ℕ, ◌+◌, ◌-◌, ◌≤◌, ◌<◌}
use mathlib.Core.Path.{◌≡◌, refl, sym, ap, ◌∙◌}
use mathlib.Core.Bool.{Bool, true, false, cond, not, ◌&&◌, ◌||◌, true≢false}
use native.Mathlib.Omega.{arith}
use lib.Dec.{leb, ltb}
use borrow.Author.Tests.{ltb-true, ltb-false, lt-ltb, le-ltb, lt-leb, le-leb}

-- not below is at least
pub not-ltb : (a b : ℕ) → not (ltb a b) ≡ leb b a
not-ltb a b = go (ltb a b) refl
  where
    go : (t : Bool) → ltb a b ≡ t → not t ≡ leb b a
    go true e = sym (lt-leb b a (ltb-true a b e))
    go false e = sym (le-leb b a (ltb-false a b e))

-- more than is left is more in all: a test of a sum, made by a difference so that no sum wraps
pub over-left : (most stored size : ℕ) → stored ≤ most → ltb (most - stored) size ≡ ltb most (stored + size)
over-left most stored size h = go (ltb (most - stored) size) refl
  where
    go : (t : Bool) → ltb (most - stored) size ≡ t → t ≡ ltb most (stored + size)
    go true e = let l : most - stored < size = ltb-true (most - stored) size e in sym (lt-ltb most (stored + size) (omega arith))
    go false e = let l : size ≤ most - stored = ltb-false (most - stored) size e in sym (le-ltb most (stored + size) (omega arith))

pub and-true : (b : Bool) → (b && true) ≡ b
and-true true = refl
and-true false = refl

-- both of two tests hold
pub and_left : (a b : Bool) → (a && b) ≡ true → a ≡ true
and_left true b h = refl
and_left false b h = h

pub and_right : (a b : Bool) → (a && b) ≡ true → b ≡ true
and_right true b h = h
and_right false b h = absurd (true≢false (sym h))

-- a flag that names a failing test
pub not-true : (f u : Bool) → u ≡ not f → u ≡ true → f ≡ false
not-true true u e h = sym h ∙ e
not-true false u e h = refl

pub not-false : (f u : Bool) → u ≡ not f → u ≡ false → f ≡ true
not-false true u e h = refl
not-false false u e h = absurd (true≢false (sym e ∙ h))

-- a choice of two numbers is bounded by what bounds both
pub cond-le : (b : Bool) {x y n : ℕ} → x ≤ n → y ≤ n → cond b x y ≤ n
cond-le true h k = h
cond-le false h k = k

pub unnot : (b : Bool) → not b ≡ true → b ≡ false
unnot true h = sym h
unnot false h = refl

-- neither of two tests holds
pub or_left : (a b : Bool) → (a || b) ≡ false → a ≡ false
or_left true b h = h
or_left false b h = refl

pub or_right : (a b : Bool) → (a || b) ≡ false → b ≡ false
or_right true b h = absurd (true≢false h)
or_right false b h = h

pub neither : {a b : Bool} → a ≡ false → b ≡ false → (a || b) ≡ false
neither {a} {b} h k = ap (λ x. x || b) h ∙ k
