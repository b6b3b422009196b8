-- The search for a row: that it is the search of a list, and what a row found says.
use Rattle.std.proofs.Common.{◌≡◌, ◌&&◌, ◌==◌, slice_index, ℕ, zero, suc, ◌+◌, ◌<◌, ◌≤◌, Bool, true, false, cond, not, ltb, List, [], length, get_or, drop, position, Some, None, is_some, sym, refl, ◌∙◌, add-zero, arith, drop-cons, ltb-false, ltb-true}
use Rattle.std.specs.List.{position_or_len}
use Rattle.std.proofs.lemmas.List.{drop_all}
use Rattle.table.specs.Table.{region_capacity, sought, first_from, row_found}

-- the search for a row is the search of the list, by any test that says the same of a row
module _ (free : Bool) (key : ℕ) (rows : List (List ℕ)) (p : List ℕ → Bool)
    (same : (row : List ℕ) → p row ≡ sought free key (get_or row 0 0) (get_or row 2 0)) where
  from-position : (i n : ℕ) → i + n ≡ length rows → first_from free key rows i n ≡ i + position_or_len p (drop i rows)
  unfolding first_from
  from-position i zero e = rw (drop_all i rows (omega arith)) (sym (add-zero i))
  from-position i (suc n) e =
      rw (drop-cons rows i [] (omega arith), ← same (get_or rows i []))
      (go (p (get_or rows i [])) (from-position (suc i) n (omega arith)))
    where
      go : (t : Bool) → first_from free key rows (suc i) n ≡ suc i + position_or_len p (drop (suc i) rows)
          → cond t i (first_from free key rows (suc i) n) ≡ i + cond (not t) (1 + position_or_len p (drop (suc i) rows)) 0
      go true h = sym (add-zero i)
      go false h = h ∙ omega arith

  pub found-position : length rows ≡ region_capacity → position p rows ≡ row_found (first_from free key rows 0 region_capacity)
  found-position l =
      let e : first_from free key rows 0 region_capacity ≡ position_or_len p rows = from-position 0 region_capacity (sym l) ∙ omega arith in
      rw (e, l)

-- the test of a key as the search makes it
abbrev pub has_key : ℕ → List ℕ → Bool
has_key key row = not (slice_index row 2 == 0) && (slice_index row 0 == key)

pub key-sought : (key : ℕ) (row : List ℕ) → has_key key row ≡ sought false key (slice_index row 0) (slice_index row 2)
unfolding sought
key-sought key row = go (slice_index row 2 == 0)
  where
    go : (t : Bool) → (not t && (slice_index row 0 == key)) ≡ cond t false (slice_index row 0 == key)
    go true = refl
    go false = refl

-- what a row found says of its number, and what none does
pub found-some : (n i : ℕ) → Some i ≡ row_found n → (n ≡ i) × (i < region_capacity)
found-some n i = go (ltb n region_capacity) refl
  where
    go : (t : Bool) → ltb n region_capacity ≡ t → Some i ≡ cond t (Some n) None → (n ≡ i) × (i < region_capacity)
    go true e h =
        let same : n ≡ i = cc in
        (same, omega (arith, ltb-true n region_capacity e))
    go false e h = cc

pub found-none : (n : ℕ) → None ≡ row_found n → region_capacity ≤ n
found-none n = go (ltb n region_capacity) refl
  where
    go : (t : Bool) → ltb n region_capacity ≡ t → None ≡ cond t (Some n) None → region_capacity ≤ n
    go true e h = cc
    go false e h = ltb-false n region_capacity e

pub found-is : (n : ℕ) → is_some (row_found n) ≡ ltb n region_capacity
found-is n = go (ltb n region_capacity)
  where
    go : (t : Bool) → is_some (cond t (Some n) None) ≡ t
    go true = refl
    go false = refl
