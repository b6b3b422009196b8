-- Regions: what the tests and the search mean, and a region more or less in a table.
use Rattle.std.proofs.Common.{◌≡◌, ℕ, zero, suc, ◌+◌, ◌<◌, ◌≤◌, Bool, true, false, cond, ◌||◌, eqb, ltb, leb, List, [], length, get_or, set, sym, refl, ◌∙◌, subst, inl, inr, true≢false, arith, length-set, get_or-set_other, get_or-set_same, ltb-false, ltb-true, le-ltb, lt-ltb, ne_eqb, eqb-true, leb-false}
use lib.Seq.{set_out}
use borrow.Author.Tests.{lt-leb, eqb-false}
use Rattle.lemmas.proofs.Tests.{or_left, or_right}
use Rattle.table.specs.declared.Region.{Region}
use Rattle.table.specs.Table.{region_capacity, addresses, outside, past_top, region_outside, region_row, no_region, sought, first_from, key_row, free_row, entry_row}
use Rattle.table.specs.View.{region_of}
use Rattle.table.specs.Claims.{RegionRows, EntryRows, RegionFits, RegionTested, EntryTested, Free, HasKey}
use Rattle.table.specs.Claims.{First, KeyFound, FreeFound, RowSound, RegionsSound, Added, Removed, AddedSound}
use Rattle.table.specs.Claims.{RemovedSound}

pub entry-tested : EntryTested
unfolding outside
entry-tested memory e =
    (λ h. ltb-false memory (e.offset + e.length) h, λ h. le-ltb memory (e.offset + e.length) h)

pub region-tested : RegionTested
unfolding region_outside outside past_top
region-tested memory r = (fits, passes)
  where
    fits : (eqb r.length 0 || (ltb memory (r.offset + r.length) || leb addresses (r.address + r.length))) ≡ false → RegionFits memory r
    fits h =
        let a : eqb r.length 0 ≡ false = or_left (eqb r.length 0) _ h in
        let b : (ltb memory (r.offset + r.length) || leb addresses (r.address + r.length)) ≡ false = or_right (eqb r.length 0) _ h in
        let ne : r.length ≡ 0 → ⊥ = eqb-false r.length 0 a in
        record {
          some = omega arith;
          within = ltb-false memory (r.offset + r.length) (or_left (ltb memory (r.offset + r.length)) _ b);
          below = leb-false addresses (r.address + r.length) (or_right (ltb memory (r.offset + r.length)) _ b);
        }

    passes : RegionFits memory r → (eqb r.length 0 || (ltb memory (r.offset + r.length) || leb addresses (r.address + r.length))) ≡ false
    passes f =
        let ne : r.length ≡ 0 → ⊥ = λ e. omega (arith, f.some) in
        rw (ne_eqb r.length 0 ne, le-ltb memory (r.offset + r.length) f.within, lt-leb addresses (r.address + r.length) f.below)

pub region-rows : RegionRows
unfolding region_row
region-rows r =
    (record { key = refl; address = refl; bytes = refl; offset = refl; write = refl; read = refl; atomic = refl }, refl)

pub entry-rows : EntryRows
unfolding entry_row
entry-rows e = (refl, refl, refl, refl)

-- the test of a row, and what it means
abbrev meets : Bool → ℕ → List ℕ → Bool
meets free key row = sought free key (get_or row 0 0) (get_or row 2 0)

free_meets : (key : ℕ) (row : List ℕ) → meets true key row ≡ true → Free row
unfolding sought
free_meets key row h = eqb-true (get_or row 2 0) 0 h

meets-free : (key : ℕ) (row : List ℕ) → meets true key row ≡ false → Free row → ⊥
unfolding sought
meets-free key row h e = eqb-false (get_or row 2 0) 0 h e

key_meets : (key : ℕ) (row : List ℕ) → meets false key row ≡ true → HasKey key row
unfolding sought
key_meets key row h = go (eqb (get_or row 2 0) 0) refl h
  where
    go : (t : Bool) → eqb (get_or row 2 0) 0 ≡ t → cond t false (eqb (get_or row 0 0) key) ≡ true → HasKey key row
    go true e h = absurd (true≢false (sym h))
    go false e h =
        let ne : get_or row 2 0 ≡ 0 → ⊥ = eqb-false (get_or row 2 0) 0 e in
        (omega arith, eqb-true (get_or row 0 0) key h)

meets-key : (key : ℕ) (row : List ℕ) → meets false key row ≡ false → HasKey key row → ⊥
unfolding sought
meets-key key row h (some, same) =
    let ne : get_or row 2 0 ≡ 0 → ⊥ = λ e. omega arith in
    eqb-false (get_or row 0 0) key (sym (rw (ne_eqb (get_or row 2 0) 0 ne)) ∙ h) same

-- the search finds the first
record Finds (free : Bool) (key : ℕ) (rows : List (List ℕ)) (i n f : ℕ) : Type 0 where
  low : i ≤ f
  high : f ≤ i + n
  hit : f < i + n → meets free key (get_or rows f []) ≡ true
  none : (j : ℕ) → i ≤ j → j < f → meets free key (get_or rows j []) ≡ false

-- row i is not the one sought, and the rest was searched
past : (free : Bool) (key : ℕ) (rows : List (List ℕ)) (i n f : ℕ) → meets free key (get_or rows i []) ≡ false
    → Finds free key rows (suc i) n f → Finds free key rows i (suc n) f
past free key rows i n f e F =
    let low : suc i ≤ f = F.low in
    let high : f ≤ suc i + n = F.high in
    record {
      low = omega arith;
      high = omega arith;
      hit = λ h. F.hit (omega arith);
      none = λ j a b. go j (eqb i j) refl a b;
    }
  where
    go : (j : ℕ) (t : Bool) → eqb i j ≡ t → i ≤ j → j < f → meets free key (get_or rows j []) ≡ false
    go j true d a b = subst (λ k. meets free key (get_or rows k []) ≡ false) (eqb-true i j d) e
    go j false d a b =
        let ne : i ≡ j → ⊥ = eqb-false i j d in
        F.none j (omega arith) b

finds : (free : Bool) (key : ℕ) (rows : List (List ℕ)) (i n : ℕ) → Finds free key rows i n (first_from free key rows i n)
unfolding first_from
finds free key rows i zero =
    record { low = omega arith; high = omega arith; hit = λ h. absurd (omega arith); none = λ j a b. absurd (omega arith) }
finds free key rows i (suc n) = go (meets free key (get_or rows i [])) refl (finds free key rows (suc i) n)
  where
    go : (t : Bool) → meets free key (get_or rows i []) ≡ t → Finds free key rows (suc i) n (first_from free key rows (suc i) n)
        → Finds free key rows i (suc n) (cond t i (first_from free key rows (suc i) n))
    go true e F =
        record { low = omega arith; high = omega arith; hit = λ h. e; none = λ j a b. absurd (omega arith) }
    go false e F = past free key rows i n (first_from free key rows (suc i) n) e F

pub key-found : KeyFound
key-found key rows =
    let F = finds false key rows 0 region_capacity in
    record {
      bound = omega (arith, F.high);
      found = λ h. key_meets key (get_or rows (key_row key rows) []) (F.hit (omega arith));
      before = λ j h. meets-key key (get_or rows j []) (F.none j (omega arith) h);
    }

pub free-found : FreeFound
free-found rows =
    let F = finds true 0 rows 0 region_capacity in
    record {
      bound = omega (arith, F.high);
      found = λ h. free_meets 0 (get_or rows (free_row rows) []) (F.hit (omega arith));
      before = λ j h. meets-free 0 (get_or rows j []) (F.none j (omega arith) h);
    }

-- there is one first
pub first_one : (good : List ℕ → Type 0) (rows : List (List ℕ)) (i j : ℕ) → First good rows i → First good rows j → i ≡ j
first_one good rows i j F G = go (ltb i j) refl (ltb j i) refl
  where
    go : (a : Bool) → ltb i j ≡ a → (b : Bool) → ltb j i ≡ b → i ≡ j
    go true e b d =
        let l : i < j = ltb-true i j e in
        let k : j ≤ 16 = G.bound in
        absurd (G.before i l (F.found (omega arith)))
    go false e true d =
        let l : j < i = ltb-true j i d in
        let k : i ≤ 16 = F.bound in
        absurd (F.before j l (G.found (omega arith)))
    go false e false d =
        let a : j ≤ i = ltb-false i j e in
        let b : i ≤ j = ltb-false j i d in
        omega arith

-- a row stored in a table of 16
module _ (rows : List (List ℕ)) (i : ℕ) (row : List ℕ) (l : length rows ≡ 16) (h : i < 16) where
  here : get_or (set rows i row) i [] ≡ row
  here = get_or-set_same rows i row [] (omega arith)

  -- what holds of the row stored, and of every other row there was, holds of every row
  each_row : (P : ℕ → List ℕ → Type 0) → P i row → ((j : ℕ) → (j ≡ i → ⊥) → P j (get_or rows j []))
      → (j : ℕ) → P j (get_or (set rows i row) j [])
  each_row P new old j = go (eqb j i) refl
    where
      go : (t : Bool) → eqb j i ≡ t → P j (get_or (set rows i row) j [])
      go true e = subst (λ k. P k (get_or (set rows i row) k [])) (sym (eqb-true j i e)) (subst (P i) (sym here) new)
      go false e = subst (P j) (sym (get_or-set_other rows i j row [] (eqb-false j i e))) (old j (eqb-false j i e))

  -- a key that the row neither had nor has keeps its region
  other-kept : (key : ℕ) → (HasKey key (get_or rows i []) → ⊥) → (HasKey key row → ⊥)
      → region_of key (set rows i row) ≡ region_of key rows
  unfolding region_of
  other-kept key was is = rw same (go (ltb (key_row key rows) 16) refl)
    where
      F : First (HasKey key) rows (key_row key rows)
      F = key-found key rows

      off : key_row key rows < 16 → key_row key rows ≡ i → ⊥
      off b e = was (subst (λ k. HasKey key (get_or rows k [])) e (F.found b))

      same : key_row key (set rows i row) ≡ key_row key rows
      same =
          first_one (HasKey key) (set rows i row) (key_row key (set rows i row)) (key_row key rows) (key-found key (set rows i row))
          (record {
            bound = F.bound;
            found = λ b. subst (HasKey key) (sym (get_or-set_other rows i (key_row key rows) row [] (off b))) (F.found b);
            before = each_row (λ j x. j < key_row key rows → HasKey key x → ⊥) (λ b. is) (λ j n b. F.before j b);
          })

      go : (t : Bool) → ltb (key_row key rows) 16 ≡ t
          → cond t (get_or (set rows i row) (key_row key rows) []) no_region ≡ cond t (get_or rows (key_row key rows) []) no_region
      go true e = get_or-set_other rows i (key_row key rows) row [] (off (ltb-true (key_row key rows) 16 e))
      go false e = refl

  -- the first row of a key is the one stored, or there is none
  is_found : (key : ℕ) → First (HasKey key) (set rows i row) i → region_of key (set rows i row) ≡ row
  unfolding region_of
  is_found key F =
      let same : key_row key (set rows i row) ≡ i = first_one (HasKey key) (set rows i row) (key_row key (set rows i row)) i (key-found key (set rows i row)) F in
      rw (same, lt-ltb i 16 h) here

  is-gone : (key : ℕ) → First (HasKey key) (set rows i row) 16 → region_of key (set rows i row) ≡ no_region
  unfolding region_of
  is-gone key F =
      let same : key_row key (set rows i row) ≡ 16 = first_one (HasKey key) (set rows i row) (key_row key (set rows i row)) 16 (key-found key (set rows i row)) F in
      rw same

  -- a sound row whose key no other row has keeps the table sound
  stored-sound : (memory : ℕ) → RowSound memory row → ((j key : ℕ) → j < 16 → (j ≡ i → ⊥) → HasKey key (get_or rows j []) → HasKey key row → ⊥)
      → RegionsSound memory rows → RegionsSound memory (set rows i row)
  stored-sound memory sound alone S =
      record {
        rows16 = length-set rows i row ∙ l;
        each = each_row (λ j x. j < 16 → RowSound memory x) (λ b. sound) (λ j n b. S.each j b);
        once = λ j k key a b x y. twice key j a x k b y;
      }
    where
      twice : (key j : ℕ) → j < 16 → HasKey key (get_or (set rows i row) j []) → (k : ℕ) → k < 16 → HasKey key (get_or (set rows i row) k []) → j ≡ k
      twice key =
          each_row (λ j x. j < 16 → HasKey key x → (k : ℕ) → k < 16 → HasKey key (get_or (set rows i row) k []) → j ≡ k)
          (λ a x. each_row (λ k y. k < 16 → HasKey key y → i ≡ k) (λ b y. refl) (λ k n b y. absurd (alone k key b n y x)))
          (λ j m a x. each_row (λ k y. k < 16 → HasKey key y → j ≡ k) (λ b y. absurd (alone j key a m x y)) (λ k n b y. S.once j k key a b x y))

-- the row of a region has the region's key and no other
own_key : (r : Region) → 1 ≤ r.length → HasKey r.key (region_row r)
unfolding region_row
own_key r h = (h, refl)

only-key : (r : Region) (key : ℕ) → HasKey key (region_row r) → r.key ≡ key
unfolding region_row
only-key r key (some, same) = same

-- an empty row has none
pub no_key : (key : ℕ) → HasKey key no_region → ⊥
no_key key (some, same) = omega arith

free-key : (row : List ℕ) (key : ℕ) → Free row → HasKey key row → ⊥
free-key row key f (some, same) = omega arith

unused : (rows : List (List ℕ)) (key : ℕ) → key_row key rows ≡ 16 → (j : ℕ) → j < 16 → HasKey key (get_or rows j []) → ⊥
unused rows key e j h = (key-found key rows).before j (omega arith)

pub added : Added
added rows r l some new free =
    let i = free_row rows in
    let f : Free (get_or rows i []) = (free-found rows).found free in (
      is_found rows i (region_row r) l free r.key
          (record {
            bound = omega arith;
            found = λ b. subst (HasKey r.key) (sym (here rows i (region_row r) l free)) (own_key r some);
            before = each_row rows i (region_row r) l free (λ j x. j < i → HasKey r.key x → ⊥) (λ b. absurd (omega arith)) (λ j n b. unused rows r.key new j (omega arith));
          }),
      λ key ne. other-kept rows i (region_row r) l free key (free-key (get_or rows i []) key f) (λ k. ne (sym (only-key r key k))),
    )

pub removed : Removed
removed memory rows key S used =
    let i = key_row key rows in
    let k : HasKey key (get_or rows i []) = (key-found key rows).found used in (
      is-gone rows i no_region S.rows16 used key
          (record {
            bound = omega arith;
            found = λ b. absurd (omega arith);
            before = each_row rows i no_region S.rows16 used (λ j x. j < 16 → HasKey key x → ⊥) (λ b. no_key key) (λ j n b x. n (S.once j i key b used x k));
          }),
      λ other ne. other-kept rows i no_region S.rows16 used other (λ x. ne (sym x.1 ∙ k.1)) (no_key other),
    )

pub added-sound : AddedSound
added-sound memory rows r S fits new free =
    stored-sound rows (free_row rows) (region_row r) S.rows16 free memory (inr (r, refl, fits))
    (λ j key h n x y. unused rows r.key new j h (subst (λ k. HasKey k (get_or rows j [])) (sym (only-key r key y)) x)) S

pub removed-sound : RemovedSound
removed-sound memory rows key S = go (ltb (key_row key rows) 16) refl
  where
    go : (t : Bool) → ltb (key_row key rows) 16 ≡ t → RegionsSound memory (set rows (key_row key rows) no_region)
    go true e =
        stored-sound rows (key_row key rows) no_region S.rows16 (ltb-true (key_row key rows) 16 e) memory (inl refl) (λ j k h n x. no_key k) S
    go false e =
        let l : length rows ≡ 16 = S.rows16 in
        let b : 16 ≤ key_row key rows = ltb-false (key_row key rows) 16 e in
        subst (RegionsSound memory) (sym (set_out rows (key_row key rows) no_region (omega arith))) S
