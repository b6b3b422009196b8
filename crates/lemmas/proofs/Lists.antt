-- The first elements of a list, one by one.
use Prim.Native.Nat.{ℕ, zero, suc, ◌+◌, ◌≤◌}
use mathlib.Core.Path.{◌≡◌, refl, ap, ◌∙◌}
use mathlib.Core.List.{List, [], ◌∷◌, ◌++◌}
use native.Mathlib.Omega.{arith}
use lib.ListN.{length, take, drop, get_or}
use lib.Seq.{drop-cons}

-- the n elements of l from i on, by their indices
unfoldable pub elements : List ℕ → ℕ → ℕ → List ℕ
elements l i zero = []
elements l i (suc n) = get_or l i 0 ∷ elements l (suc i) n

pub take-elements : (l : List ℕ) (i n : ℕ) → i + n ≤ length l → take n (drop i l) ≡ elements l i n
unfolding elements
take-elements l i zero h = refl
take-elements l i (suc n) h =
    rw (drop-cons l i 0 (omega arith)) (ap (λ x. get_or l i 0 ∷ x) (take-elements l (suc i) n (omega arith)))

pub elements-join : (l : List ℕ) (i m n : ℕ) → elements l i m ++ elements l (i + m) n ≡ elements l i (m + n)
unfolding elements
elements-join l i zero n =
    let a : i + 0 ≡ i = omega arith in
    let b : n ≡ 0 + n = omega arith in
    ap (λ k. elements l k n) a ∙ ap (elements l i) b
elements-join l i (suc m) n =
    let a : i + suc m ≡ suc i + m = omega arith in
    let b : suc (m + n) ≡ suc m + n = omega arith in
    ap (λ k. get_or l i 0 ∷ (elements l (suc i) m ++ elements l k n)) a
    ∙ (ap (λ x. get_or l i 0 ∷ x) (elements-join l (suc i) m n) ∙ ap (elements l i) b)
