-- What the exported functions leave, over plain values: each step takes what its callees answered.
use Prim.Native.Nat.{ℕ}
use mathlib.Core.Path.{◌≡◌, refl, sym, ap, ◌∙◌}
use mathlib.Core.Bool.{Bool, true, false, cond, not}
use mathlib.Core.List.{List}
use lib.Dec.{eqb}
use lib.ListN.{length}
use borrow.Author.Tests.{eqb-true, eq-eqb, ne_eqb}
use Rattle.lemmas.proofs.Tests.{not-false}
use Rattle.pair.specs.declared.Pair.{Pair}
use Rattle.abi_spec.specs.Pair.{other_length, strays, pair_of, pair_words}
use Rattle.abi_spec.proofs.Laws.{ranges-tested, words-said}

-- a test that is false leads to the second, one that is true to the first
pub second : {A : Type 0} (b : Bool) (x y : A) → b ≡ false → y ≡ cond b x y
second b x y e = ap (λ t. cond t x y) (sym e)

pub first : {A : Type 0} (b : Bool) (x y : A) → b ≡ true → x ≡ cond b x y
first b x y e = ap (λ t. cond t x y) (sym e)

-- the number of words, and its test
pub many : (w : List ℕ) → length w ≡ 30 → other_length w ≡ false
unfolding other_length
many w h = ap not (eq-eqb (length w) 30 h)

pub few : (w : List ℕ) → (length w ≡ 30 → ⊥) → other_length w ≡ true
unfolding other_length
few w h = ap not (ne_eqb (length w) 30 h)

pub counted : (w : List ℕ) → other_length w ≡ false → length w ≡ 30
unfolding other_length
counted w h = eqb-true (length w) 30 (not-false (eqb (length w) 30) (not (eqb (length w) 30)) refl h)

pub few-stray : (w : List ℕ) → other_length w ≡ true → strays w ≡ true
unfolding strays
few-stray w e = rw e

pub as_many : (w : List ℕ) → strays w ≡ false → other_length w ≡ false
as_many w e = many w ((ranges-tested w).0 e).words

-- words in range are those of the pair that they say
pub own-words : (w : List ℕ) → strays w ≡ false → w ≡ pair_words (pair_of w)
own-words w e = words-said w ((ranges-tested w).0 e)

-- words that are left, of a call whose pair is new only where the call is done: as they were, or those of its new pair
pub left-as-they-were : (w : List ℕ) (q : Pair) → q ≡ pair_of w → w ≡ cond (strays w) w (pair_words q)
left-as-they-were w q e = go (strays w) refl
  where
    go : (b : Bool) → strays w ≡ b → w ≡ cond b w (pair_words q)
    go true f = refl
    go false f = own-words w f ∙ ap pair_words (sym e)
