-- The test of two lists of words: the library's, and lists of other lengths.
use Rattle.std.proofs.Common.{◌≡◌, ℕ, suc, Bool, true, false, cond, ◌&&◌, List, [], ◌∷◌, eqb, length, refl, ap, ◌∙◌}
use Rattle.std.specs.Cmp.Lexicographic.{pointwise}
use Rattle.abi_spec.specs.Words.{eq_words}

pub pointwise_words : (a b : List ℕ) → pointwise eqb a b ≡ eq_words a b
unfolding eq_words
pointwise_words [] [] = refl
pointwise_words [] (y ∷ ys) = refl
pointwise_words (x ∷ xs) [] = refl
pointwise_words (x ∷ xs) (y ∷ ys) = go (eqb x y) ∙ ap (λ t. cond (eqb x y) t false) (pointwise_words xs ys)
  where
    go : (b : Bool) → (b && pointwise eqb xs ys) ≡ cond b (pointwise eqb xs ys) false
    go true = refl
    go false = refl

-- lists of other lengths are not the same
pub other_length_lem : (a b : List ℕ) → (length a ≡ length b → ⊥) → eq_words a b ≡ false
unfolding eq_words
other_length_lem [] [] n = absurd (n refl)
other_length_lem [] (y ∷ ys) n = refl
other_length_lem (x ∷ xs) [] n = refl
other_length_lem (x ∷ xs) (y ∷ ys) n = ap (λ b. cond (eqb x y) b false) (other_length_lem xs ys (λ e. n (ap suc e))) ∙ either (eqb x y)
  where
    either : (b : Bool) → cond b false false ≡ false
    either true = refl
    either false = refl
