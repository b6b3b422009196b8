-- What holds at each number below a bound, from one test of all of them that is computed.
use Prim.Native.Nat.{ℕ, zero, suc, ◌≤◌, ◌<◌}
use mathlib.Core.Path.{◌≡◌, refl, sym, subst}
use mathlib.Core.Bool.{Bool, true, false, ◌&&◌}
use native.Mathlib.Omega.{arith}
use lib.Dec.{eqb, leb}
use borrow.Author.Tests.{eqb-true, eqb-false, leb-true, leb-false}
use Rattle.lemmas.proofs.Tests.{and_left, and_right}

-- the test passes at every number below n, and so at each
unfoldable pub passes : (ℕ → Bool) → ℕ → Bool
passes test zero = true
passes test (suc n) = test n && passes test n

pub each : (test : ℕ → Bool) (n : ℕ) → passes test n ≡ true → (k : ℕ) → k < n → test k ≡ true
unfolding passes
each test zero h k l = absurd (omega arith)
each test (suc n) h k l = go (eqb k n) refl (each test n (and_right (test n) (passes test n) h) k)
  where
    go : (b : Bool) → eqb k n ≡ b → (k < n → test k ≡ true) → test k ≡ true
    go true e r = subst (λ x. test x ≡ true) (sym (eqb-true k n e)) (and_left (test n) (passes test n) h)
    go false e r = let d = eqb-false k n e in r (omega (arith, d))

-- two functions of numbers agree on all below n
abbrev pub agree : (ℕ → ℕ) → (ℕ → ℕ) → ℕ → Bool
agree f g n = passes (λ k. eqb (f k) (g k)) n

-- and, if they do on all others, everywhere
pub everywhere : (f g : ℕ → ℕ) (n : ℕ) → agree f g n ≡ true → ((k : ℕ) → n ≤ k → f k ≡ g k) → (k : ℕ) → f k ≡ g k
everywhere f g n h other k = go (leb n k) refl
  where
    go : (b : Bool) → leb n k ≡ b → f k ≡ g k
    go true e = other k (leb-true n k e)
    go false e = eqb-true (f k) (g k) (each (λ k. eqb (f k) (g k)) n h k (leb-false n k e))
