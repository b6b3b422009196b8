-- What a packet's numbers tell when no refusal applies, and back.
use Prim.Native.Nat.{ℕ, ◌+◌, ◌≤◌, ◌<◌}
use mathlib.Core.Path.{◌≡◌, refl, sym}
use mathlib.Core.Bool.{Bool, true, false, cond, not, true≢false}
use mathlib.Core.Logic.{◌⊎◌, inl, inr}
use lib.Dec.{ltb, eqb}
use borrow.Author.Tests.{lt-ltb, le-ltb, ltb-false, eq-eqb, ne_eqb, eqb-true}
use Rattle.std.specs.Prelude.{Ok, Err}
use Rattle.header.specs.declared.Refusal.TheVariants.{OutOfRange, OutputShort, BadNumber}
use Rattle.packet.specs.Packet.{pad_of, checked_size}

pub record Passed (unfit : Bool) (padcnt headers n m : ℕ) : Type 0 where
  pub good : unfit ≡ false
  pub pad : padcnt ≡ pad_of n
  pub short : headers + (n + pad_of n) ≤ 4128
  pub room : headers + (n + pad_of n) ≤ m

pub passed : (u : Bool) (p h n m s : ℕ) → checked_size u p h n m ≡ Ok s → Passed u p h n m × (s ≡ h + (n + pad_of n))
unfolding checked_size
passed u p h n m s e = go u (eqb p (pad_of n)) (ltb 4128 (h + (n + pad_of n))) (ltb m (h + (n + pad_of n))) refl refl refl refl e
  where
    go : (a b c d : Bool) → u ≡ a → eqb p (pad_of n) ≡ b → ltb 4128 (h + (n + pad_of n)) ≡ c → ltb m (h + (n + pad_of n)) ≡ d
        → cond a (Err BadNumber) (cond (not b) (Err BadNumber) (cond c (Err OutOfRange) (cond d (Err OutputShort) (Ok (h + (n + pad_of n)))))) ≡ Ok s
        → Passed u p h n m × (s ≡ h + (n + pad_of n))
    go true b c d x y z w q = absurd cc
    go false false c d x y z w q = absurd cc
    go false true true d x y z w q = absurd cc
    go false true false true x y z w q = absurd cc
    go false true false false x y z w q = (
      record {
        good = x;
        pad = eqb-true p (pad_of n) y;
        short = ltb-false 4128 (h + (n + pad_of n)) z;
        room = ltb-false m (h + (n + pad_of n)) w;
      },
      cc,
    )

pub passes : (u : Bool) (p h n m : ℕ) → Passed u p h n m → checked_size u p h n m ≡ Ok (h + (n + pad_of n))
unfolding checked_size
passes u p h n m P =
    rw (
      P.good,
      eq-eqb p (pad_of n) P.pad,
      le-ltb 4128 (h + (n + pad_of n)) P.short,
      le-ltb m (h + (n + pad_of n)) P.room,
    )

-- the refusals
pub unfit : (u : Bool) (p h n m : ℕ) → (u ≡ true) ⊎ (p ≡ pad_of n → ⊥) → checked_size u p h n m ≡ Err BadNumber
unfolding checked_size
unfit true p h n m e = refl
unfit false p h n m (inl e) = absurd (true≢false (sym e))
unfit false p h n m (inr e) = rw (ne_eqb p (pad_of n) e)

module _ (u : Bool) (p h n m : ℕ) (good : u ≡ false) (pad : p ≡ pad_of n) where
  pub too_long : 4128 < h + (n + pad_of n) → checked_size u p h n m ≡ Err OutOfRange
  unfolding checked_size
  too_long l = rw (good, eq-eqb p (pad_of n) pad, lt-ltb 4128 (h + (n + pad_of n)) l)

  pub too_short : h + (n + pad_of n) ≤ 4128 → m < h + (n + pad_of n) → checked_size u p h n m ≡ Err OutputShort
  unfolding checked_size
  too_short short few =
      rw (good, eq-eqb p (pad_of n) pad, le-ltb 4128 (h + (n + pad_of n)) short, lt-ltb m (h + (n + pad_of n)) few)
