-- Laws of the P_Key test.
use Prim.Native.Nat.{ℕ, ◌%◌, ◌≤◌}
use mathlib.Core.Path.{◌≡◌, refl}
use mathlib.Core.Bool.{Bool, true, false, not, ◌&&◌, ◌||◌}
use mathlib.Core.Logic.{◌⊎◌, inl, inr, ⊎_elim}
use native.Mathlib.Omega.{arith}
use lib.Dec.{eqb}
use borrow.Author.Tests.{eqb-true, eqb-false, eq-eqb, ne_eqb, le-leb, leb-true}
use Rattle.lemmas.proofs.Tests.{and_left, and_right, unnot}
use Rattle.header.specs.Check.{full_member, pkeys_match}
use Rattle.header.specs.Claims.{Matches, MatchesOnly}

-- the top bit
full : (a : ℕ) → 32768 ≤ a → full_member a ≡ true
unfolding full_member
full a h = omega (arith, le-leb)

is-full : (a : ℕ) → full_member a ≡ true → 32768 ≤ a
unfolding full_member
is-full a h = omega (arith, leb-true)

pub matches : Matches
unfolding pkeys_match
matches a b same some top =
    rw (eq-eqb (a % 32768) (b % 32768) same, ne_eqb (a % 32768) 0 some)
    (⊎_elim (λ h. rw (full a h)) (λ h. rw (full b h) (either (full_member a))) top)
  where
    either : (x : Bool) → (x || true) ≡ true
    either true = refl
    either false = refl

pub matches-only : MatchesOnly
unfolding pkeys_match
matches-only a b h =
    let r = and_right (eqb (a % 32768) (b % 32768)) (not (eqb (a % 32768) 0) && (full_member a || full_member b)) h in
    let same = and_left (eqb (a % 32768) (b % 32768)) (not (eqb (a % 32768) 0) && (full_member a || full_member b)) h in
    let some = and_left (not (eqb (a % 32768) 0)) (full_member a || full_member b) r in
    let top = and_right (not (eqb (a % 32768) 0)) (full_member a || full_member b) r in
    (eqb-true (a % 32768) (b % 32768) same, eqb-false (a % 32768) 0 (unnot (eqb (a % 32768) 0) some), one (full_member a) refl top)
  where
    one : (x : Bool) → full_member a ≡ x → (x || full_member b) ≡ true → (32768 ≤ a) ⊎ (32768 ≤ b)
    one true e f = inl (is-full a e)
    one false e f = inr (is-full b f)
