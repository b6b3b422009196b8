-- The pieces, and that they make up the bytes.
use Prim.Native.Nat.{ℕ, zero, suc, ◌+◌, ◌-◌, ◌*◌, ◌≤◌, ◌<◌, min}
use mathlib.Core.Path.{◌≡◌, refl, sym, ap, subst, ◌∙◌}
use mathlib.Core.Bool.{Bool, true, false}
use mathlib.Core.List.{List, [], ◌∷◌, ◌++◌}
use native.Mathlib.Omega.{arith}
use lib.Dec.{leb, eqb}
use lib.ListN.{length, take, drop, length-take, length-drop, take-append-drop, drop_of_length-le}
use lib.Seq.{drop-drop, take_all, take-nil, take-take}
use borrow.Author.Tests.{leb-true, leb-false, eq-eqb, ne_eqb}
use Rattle.lemmas.proofs.Tests.{cond-le}
use Rattle.pmtu.specs.declared.Range.{Range}
use Rattle.pmtu.specs.Pieces.{pieces, place_at, piece_at, part_at, joined}
use Rattle.pmtu.specs.Claims.{Joins, Full, Rest, AtMost, Parts, PartsWithin, Places}
use Rattle.pmtu.proofs.Counting.{counts, more, begins, begins-inside}

size : (d : List ℕ) (p i : ℕ) → length (piece_at d p i) ≡ min p (length d - i * p)
unfolding piece_at
size d p i = length-take p (drop (i * p) d) ∙ ap (min p) (length-drop (i * p) d)

pub full : Full
full d p i w h =
    let m : i * p + p < length d = more (length d) p (pieces (length d) p) i (counts (length d) p w) h in
    (omega (arith, size d p i), m)

pub rest : Rest
rest d p i w h =
    let C = counts (length d) p w in
    let n = pieces (length d) p in
    let b : i * p ≤ length d = begins (length d) p n i C (omega arith) in
    let e : length d ≤ suc i * p = subst (λ k. length d ≤ k * p) (sym h) C.enough in (
      omega (arith, size d p i),
      λ g. let x : i * p < length d = begins-inside (length d) p n i C (omega arith) g in omega (arith, size d p i),
    )

pub at_most : AtMost
at_most d p i = omega (arith, size d p i)

-- the pieces from i on are the bytes from there on
from : (d : List ℕ) (p i k : ℕ) → length d ≤ i * p + k * p → joined (piece_at d p) i k ≡ drop (i * p) d
unfolding joined piece_at
from d p i zero h = sym (drop_of_length-le d {i = i * p} (omega arith))
from d p i (suc k) h =
    let n : i * p + p ≡ suc i * p = omega arith in
    let next : joined (piece_at d p) (suc i) k ≡ drop p (drop (i * p) d) =
    from d p (suc i) k (omega arith) ∙ (ap (λ m. drop m d) (sym n) ∙ sym (drop-drop p (i * p) d)) in
    ap (λ x. take p (drop (i * p) d) ++ x) next ∙ take-append-drop p (drop (i * p) d)

pub joins : Joins
joins d p w =
    let n = pieces (length d) p in
    let e : length d ≤ n * p = (counts (length d) p w).enough in
    let z : 0 * p ≡ 0 = omega arith in
    from d p 0 n (omega arith) ∙ ap (λ k. drop k d) z

-- a part of the bytes from s on, cut off at their end
pub part-is : (d : List ℕ) (s p : ℕ) → take (min (s + p) (length d) - min s (length d)) (drop (min s (length d)) d) ≡ take p (drop s d)
part-is d s p = go (leb s (length d)) (leb (s + p) (length d)) refl refl
  where
    go : (a b : Bool) → leb s (length d) ≡ a → leb (s + p) (length d) ≡ b
        → take (min (s + p) (length d) - min s (length d)) (drop (min s (length d)) d) ≡ take p (drop s d)
    go true true x y =
        let h : s + p ≤ length d = leb-true (s + p) (length d) y in
        let m : min s (length d) ≡ s = omega arith in
        let n : min (s + p) (length d) - min s (length d) ≡ p = omega arith in
        ap (λ k. take (min (s + p) (length d) - min s (length d)) (drop k d)) m ∙ ap (λ k. take k (drop s d)) n
    go true false x y =
        let h : s ≤ length d = leb-true s (length d) x in
        let g : length d < s + p = leb-false (s + p) (length d) y in
        let l : length (drop s d) ≡ length d - s = length-drop s d in
        let m : min s (length d) ≡ s = omega arith in
        let n : min (s + p) (length d) - min s (length d) ≡ length d - s = omega arith in
        ap (λ k. take (min (s + p) (length d) - min s (length d)) (drop k d)) m
        ∙ (ap (λ k. take k (drop s d)) n
        ∙ (take_all (length d - s) (drop s d) (omega arith) ∙ sym (take_all p (drop s d) (omega arith))))
    go false b x y =
        let g : length d < s = leb-false s (length d) x in
        let m : min s (length d) ≡ length d = omega arith in
        let a : drop (length d) d ≡ [] = drop_of_length-le d {i = length d} (omega arith) in
        let c : drop s d ≡ [] = drop_of_length-le d {i = s} (omega arith) in
        let k = min (s + p) (length d) - min s (length d) in
        ap (λ n. take k (drop n d)) m ∙ (ap (take k) a ∙ (take-nil k ∙ (sym (take-nil p) ∙ ap (take p) (sym c))))

pub parts : Parts
unfolding piece_at part_at
parts d p i = part-is d (i * p) p

pub parts_within : PartsWithin
unfolding part_at
parts_within n p i = (omega arith, omega arith)

pub places : Places
unfolding place_at
places count =
    record {
      only = λ h. rw (eq-eqb count 1 h);
      first = λ h. let n : count ≡ 1 → ⊥ = λ e. omega arith in rw (ne_eqb count 1 n);
      middle = λ i g h.
          let n : count ≡ 1 → ⊥ = λ e. omega arith in
          let z : i ≡ 0 → ⊥ = λ e. omega arith in
          let m : i + 1 ≡ count → ⊥ = λ e. omega arith in
          rw (ne_eqb count 1 n, ne_eqb i 0 z, ne_eqb (i + 1) count m);
      last = λ i g h.
          let n : count ≡ 1 → ⊥ = λ e. omega arith in
          let z : i ≡ 0 → ⊥ = λ e. omega arith in
          let m : i + 1 ≡ count = omega arith in
          rw (ne_eqb count 1 n, ne_eqb i 0 z, eq-eqb (i + 1) count m);
    }

pub place-bound : (count i : ℕ) → place_at count i ≤ 4
unfolding place_at
place-bound count i =
    cond-le (eqb count 1) (omega arith) (cond-le (eqb i 0) (omega arith) (cond-le (eqb (i + 1) count) (omega arith) (omega arith)))

-- a part of the first n bytes, that ends among them, is that part of all
part-first : (s k n : ℕ) (l : List ℕ) → s + k ≤ n → take k (drop s (take n l)) ≡ take k (drop s l)
part-first zero k n l h = take-take k n l (omega arith)
part-first (suc s) k n [] h = ap (λ x. take k (drop (suc s) x)) (take-nil n)
part-first (suc s) k zero (x ∷ l) h = absurd (omega arith)
part-first (suc s) k (suc n) (x ∷ l) h = part-first s k n l (omega arith)

-- piece i of the n bytes from o on, by where it begins and ends in all of them
pub part_of : (l : List ℕ) (o n p i : ℕ) → o + n ≤ length l → (x : Range) → x ≡ part_at n p i
    → take (o + x.end - (o + x.start)) (drop (o + x.start) l) ≡ piece_at (take n (drop o l)) p i
unfolding part_at
part_of l o n p i h x e =
    let d = take n (drop o l) in
    let c : length d ≡ n = length-take n (drop o l) ∙ (ap (min n) (length-drop o l) ∙ omega arith) in
    let s = min (i * p) n in
    let k = min (i * p + p) n - min (i * p) n in
    let a : o + min (i * p + p) n - (o + min (i * p) n) ≡ k = omega arith in
    let w : s + k ≤ n = omega arith in
    ap (λ y. take (o + y.end - (o + y.start)) (drop (o + y.start) l)) e
    ∙ (ap (λ z. take z (drop (o + s) l)) a
    ∙ (ap (take k) (sym (drop-drop s o l))
    ∙ (sym (part-first s k n (drop o l) w)
    ∙ (ap (λ z. take (min (i * p + p) z - min (i * p) z) (drop (min (i * p) z) d)) (sym c) ∙ parts d p i))))
