-- Rings, whatever the capacity: a row more at the end, a row less at the head, the oldest overwritten. Then the rings
-- of a pair, and the search of the saved atomics.
use Rattle.std.proofs.Common.{◌≡◌, ℕ, zero, suc, ◌+◌, ◌-◌, ◌*◌, ◌/◌, ◌%◌, ◌<◌, ◌≤◌, Bool, true, false, cond, eqb, ltb, List, [], ◌∷◌, ◌++◌, length, get_or, drop, set, sym, refl, ap, ◌∙◌, subst, add-zero, mul-le-mul_right, mod-lt, mod-eq_of_lt, div-add-mod', add-one, arith, length-set, get_or-set_other, get_or-set_same, ltb-false, ltb-true, le-ltb, lt-ltb, eq-eqb, ne_eqb, eqb-true, Option, Some, None}
use native.Mathlib.Nat.{mod-add-mod, add-mod_right}
use borrow.Author.Tests.{eqb-false}
use Rattle.table.specs.declared.Ring.{Ring}
use Rattle.table.specs.Table.{entry_capacity, saved_capacity, entry_slot, saved_slot, entry_row}
use Rattle.table.specs.View.{ring_from, in_ring, one_more, turned, overwritten, later, newest, newest_saved, saved_ring, saved_rows}
use Rattle.table.specs.Claims.{SlotLaws, SlotsAre, Capacities, EntrySlots, SavedSlots, RingSound, RingLaws, EntryRing, SavedRing, EntrySound, SavedNumbers, PostedSound}
use Rattle.table.specs.Claims.{Saves, SavesFull, SavesSound, Newest, NewestNone, NewestSaved, NewestOver, SavedFound, SavedOther, SavedOtherFull}

-- numbers less than n apart have different remainders
remainders : (n a b : ℕ) → a < b → b < a + n → a % n ≡ b % n → ⊥
remainders n a b h k e = go (ltb (a / n) (b / n)) refl
  where
    go : (t : Bool) → ltb (a / n) (b / n) ≡ t → ⊥
    go true t =
        let m : suc (a / n) * n ≤ b / n * n = mul-le-mul_right {m = suc (a / n)} {n = b / n} n (ltb-true (a / n) (b / n) t) in
        omega (arith, div-add-mod' a n, div-add-mod' b n)
    go false t =
        let m : b / n * n ≤ a / n * n = mul-le-mul_right {m = b / n} {n = a / n} n (ltb-false (a / n) (b / n) t) in
        omega (arith, div-add-mod' a n, div-add-mod' b n)

-- The remainder is the slot of a ring, at every capacity but 0.
pub slot_laws : (capacity n : ℕ) → 0 < capacity → capacity ≡ n → SlotLaws n (λ head i. (head + i) % capacity)
slot_laws capacity n some same =
    subst (λ n. SlotLaws n (λ head i. (head + i) % capacity)) same
    (record {
      apart = λ head i n h k e. remainders capacity (head + i) (head + n) (omega arith) (omega arith) e;
      next = λ head i. mod-add-mod (head + 1) capacity i ∙ ap (λ k. k % capacity) (onward head i);
      below = λ head i. mod-lt (head + i) some;
      start = λ head h. ap (λ k. k % capacity) (add-zero head) ∙ mod-eq_of_lt h;
      around = λ head. add-mod_right head capacity ∙ ap (λ k. k % capacity) (sym (add-zero head));
    })
  where
    onward : (head i : ℕ) → head + 1 + i ≡ head + suc i
    onward head i = omega arith

module _ (slot : ℕ → ℕ → ℕ) (rows : List (List ℕ)) (head : ℕ) where
  -- the last row apart
  last_row : (i k : ℕ) → ring_from slot rows head i (suc k) ≡ ring_from slot rows head i k ++ (get_or rows (slot head (i + k)) [] ∷ [])
  unfolding ring_from
  last_row i zero =
      let e : i ≡ i + 0 = omega arith in
      ap (λ n. get_or rows (slot head n) [] ∷ []) e
  last_row i (suc k) =
      let e : suc i + k ≡ i + suc k = omega arith in
      ap (λ l. get_or rows (slot head i) [] ∷ l) (last_row (suc i) k ∙ ap (λ n. ring_from slot rows head (suc i) k ++ (get_or rows (slot head n) [] ∷ [])) e)

  pub ring-length : (i k : ℕ) → length (ring_from slot rows head i k) ≡ k
  unfolding ring_from
  ring-length i zero = refl
  ring-length i (suc k) = ap suc (ring-length (suc i) k)

module _ (capacity : ℕ) (slot : ℕ → ℕ → ℕ) (w : SlotLaws capacity slot) where
  module _ (rows : List (List ℕ)) (head : ℕ) where
    -- a store in another row
    elsewhere : (row : List ℕ) (n i k : ℕ) → i + k ≤ n → n < i + capacity
        → ring_from slot (set rows (slot head n) row) head i k ≡ ring_from slot rows head i k
    unfolding ring_from
    elsewhere row n i zero h b = refl
    elsewhere row n i (suc k) h b =
        rw (get_or-set_other rows (slot head n) (slot head i) row [] (w.apart head i n (omega arith) (omega arith)))
        (ap (λ l. get_or rows (slot head i) [] ∷ l) (elsewhere row n (suc i) k (omega arith) (omega arith)))

    from_next : (i n : ℕ) → ring_from slot rows (slot head 1) i n ≡ ring_from slot rows head (suc i) n
    unfolding ring_from
    from_next i zero = refl
    from_next i (suc n) = rw (w.next head i) (ap (λ l. get_or rows (slot head (suc i)) [] ∷ l) (from_next (suc i) n))

    -- a row stored behind k rows
    behind : (row : List ℕ) (i k n : ℕ) → length rows ≡ capacity → k < capacity → n ≡ i + k
        → ring_from slot (set rows (slot head n) row) head i (suc k) ≡ ring_from slot rows head i k ++ (row ∷ [])
    behind row i k n l h e =
        let new = set rows (slot head n) row in
        let there : slot head n < length rows = omega (arith, l, w.below head n) in
        last_row slot new head i k
        ∙ (ap (λ x. x ++ (get_or new (slot head (i + k)) [] ∷ [])) (elsewhere row n i k (omega arith) (omega arith))
        ∙ (ap (λ x. ring_from slot rows head i k ++ (get_or new (slot head x) [] ∷ [])) (sym e)
        ∙ ap (λ x. ring_from slot rows head i k ++ (x ∷ [])) (get_or-set_same rows (slot head n) row [] there)))

    -- what holds of the rows from position j to n, and of the row stored behind them, holds of all
    each-behind : (good : List ℕ → Type 0) (row : List ℕ) (j n : ℕ) → length rows ≡ capacity → n < j + capacity → good row
        → ((i : ℕ) → j ≤ i → i < n → good (get_or rows (slot head i) []))
        → (i : ℕ) → j ≤ i → i < n + 1 → good (get_or (set rows (slot head n) row) (slot head i) [])
    each-behind good row j n l h new old i a b = go (eqb i n) refl
      where
        there : slot head n < length rows
        there = omega (arith, l, w.below head n)

        go : (t : Bool) → eqb i n ≡ t → good (get_or (set rows (slot head n) row) (slot head i) [])
        go true e =
            subst (λ k. good (get_or (set rows (slot head n) row) (slot head k) [])) (sym (eqb-true i n e))
            (subst good (sym (get_or-set_same rows (slot head n) row [] there)) new)
        go false e =
            let ne : i ≡ n → ⊥ = eqb-false i n e in
            let c : i < n = omega arith in
            subst good (sym (get_or-set_other rows (slot head n) (slot head i) row [] (w.apart head i n c (omega arith)))) (old i a c)

  -- what holds of the ring with a row more, if there is room, and else of the ring from the next row on, holds after a
  -- store
  by-room : (P : Ring → Type 0) (r : Ring) → (r.count < capacity → P (one_more r))
      → (capacity ≤ r.count → P (turned slot r))
      → P (overwritten capacity slot r)
  by-room P r more full = go (ltb r.count capacity) refl
    where
      go : (t : Bool) → ltb r.count capacity ≡ t → P (cond t (one_more r) (turned slot r))
      go true e = more (ltb-true r.count capacity e)
      go false e = full (ltb-false r.count capacity e)

  -- the oldest of suc k rows overwritten
  oldest-gone : (rows : List (List ℕ)) (head : ℕ) (row : List ℕ) (k : ℕ) → length rows ≡ capacity → suc k ≡ capacity
      → ring_from slot (set rows (slot head (suc k)) row) (slot head 1) 0 (suc k) ≡ drop 1 (ring_from slot rows head 0 (suc k)) ++ (row ∷ [])
  unfolding ring_from
  oldest-gone rows head row k l h =
      from_next (set rows (slot head (suc k)) row) head 0 (suc k) ∙ behind rows head row 1 k (suc k) l (omega arith) (omega arith)

  grown-sound : (good : List ℕ → Type 0) (rows : List (List ℕ)) (r : Ring) (row : List ℕ) → RingSound capacity slot good rows r
      → r.count < capacity
      → good row
      → RingSound capacity slot good (set rows (slot r.head r.count) row) (one_more r)
  grown-sound good rows r row S h new =
      record {
        sized = length-set rows (slot r.head r.count) row ∙ S.sized;
        each = λ i b. each-behind rows r.head good row 0 r.count S.sized (omega arith) new (λ k z c. S.each k c) i (omega arith) b;
      }

  pub ring-laws : RingLaws capacity slot
  unfolding ring_from
  ring-laws =
      record {
        appends =
            λ rows r row l h. ap (ring_from slot (set rows (slot r.head r.count) row) r.head 0) (add-one r.count)
            ∙ behind rows r.head row 0 r.count r.count l h (omega arith);
        keeps =
            λ rows r row i h b.
            get_or-set_other rows (slot r.head r.count) (slot r.head i) row [] (w.apart r.head i r.count b (omega arith));
        takes = λ rows head n. from_next rows head 0 n;
        overwrites =
            λ rows r row l h.
            let n : suc (r.count - 1) ≡ r.count = omega (arith, w.below 0 0) in
            by-room (λ x. in_ring slot (set rows (slot r.head r.count) row) x ≡ drop 1 (in_ring slot rows r) ++ (row ∷ [])) r (λ more. absurd (omega arith))
            (λ full. subst (λ k. ring_from slot (set rows (slot r.head k) row) (slot r.head 1) 0 k ≡ drop 1 (ring_from slot rows r.head 0 k) ++ (row ∷ [])) n
            (oldest-gone rows r.head row (r.count - 1) l (n ∙ h)));
        appends-sound = grown-sound;
        takes-sound =
            λ good rows r S.
            record { sized = S.sized; each = λ i h. subst (λ k. good (get_or rows k [])) (sym (w.next r.head i)) (S.each (suc i) (omega arith)) };
        overwrites-sound =
            λ good rows r row S h new.
            let stored = set rows (slot r.head r.count) row in
            by-room (RingSound capacity slot good stored) r (λ more. grown-sound good rows r row S more new)
            (λ full.
            record {
              sized = length-set rows (slot r.head r.count) row ∙ S.sized;
              each =
                  λ i b. subst (λ k. good (get_or stored k [])) (sym (w.next r.head i))
                  (each-behind rows r.head good row 1 r.count S.sized (omega arith) new (λ k z c. S.each k c) (suc i) (omega arith) (omega arith));
            });
        overwrites-within =
            λ r a b. by-room (λ x. (x.head < capacity) × (x.count ≤ capacity)) r (λ more. (a, omega arith)) (λ full. (w.below r.head 1, b));
      }

-- The rings of a pair
pub entry-slots : EntrySlots
unfolding entry_slot
entry-slots = slot_laws entry_capacity _ (omega arith) (omega arith)

pub saved-slots : SavedSlots
unfolding saved_slot
saved-slots = slot_laws saved_capacity _ (omega arith) (omega arith)

pub slots-are : SlotsAre
unfolding entry_slot saved_slot
slots-are head i = (refl, refl)

pub capacities : Capacities
capacities =
    (slot_laws 16 16 (omega arith) refl, slot_laws 64 64 (omega arith) refl, slot_laws 4096 4096 (omega arith) refl)

pub entry-ring : EntryRing
entry-ring = ring-laws entry_capacity entry_slot entry-slots

pub saved-ring : SavedRing
saved-ring = ring-laws saved_capacity saved_slot saved-slots

pub posted-sound : PostedSound
posted-sound memory rows r e S h fits = entry-ring.appends-sound (EntrySound memory) rows r (entry_row e) S h (e, refl, fits)

-- by the ring of the saved atomics, with room and full
saved-by : (P : Ring → Type 0) (r : Ring) → (r.count < saved_capacity → P (one_more r))
    → (saved_capacity ≤ r.count → P (turned saved_slot r))
    → P (saved_ring r)
unfolding saved_ring
saved-by = by-room saved_capacity saved_slot saved-slots

pub saves : Saves
unfolding saved_rows
saves rows r psn value l h =
    saved-by (λ x. in_ring saved_slot (saved_rows rows r psn value) x ≡ in_ring saved_slot rows r ++ ((psn ∷ value ∷ []) ∷ [])) r
    (λ more. saved-ring.appends rows r (psn ∷ value ∷ []) (omega arith) (omega arith)) (λ full. absurd (omega arith))

pub saves-full : SavesFull
unfolding saved_ring saved_rows
saves-full rows r psn value l h = saved-ring.overwrites rows r (psn ∷ value ∷ []) (omega arith) (omega arith)

pub saves-sound : SavesSound
unfolding saved_ring saved_rows
saves-sound rows r psn value S a b p v =
    let bounds = saved-ring.overwrites-within r (omega arith) (omega arith) in
    (saved-ring.overwrites-sound SavedNumbers rows r (psn ∷ value ∷ []) S (omega arith) (p, v), bounds.0, bounds.1)

pub later-if : (b : Bool) (v : ℕ) (s t : Option ℕ) → later (cond b (Some v) s) t ≡ cond b (Some v) (later s t)
later-if true v s t = refl
later-if false v s t = refl

pub newest-last : Newest
unfolding newest
newest-last psn [] row = refl
newest-last psn (x ∷ rows) row =
    rw (newest-last psn rows row) (later-if (eqb (get_or row 0 0) psn) (get_or row 1 0) (newest psn rows) (cond (eqb (get_or x 0 0) psn) (Some (get_or x 1 0)) None))

-- the search from the newest row back
module _ (slot : ℕ → ℕ → ℕ) (psn : ℕ) (rows : List (List ℕ)) (head n : ℕ) (h : 0 < n) where
  from_last : newest psn (ring_from slot rows head 0 n)
      ≡ cond (eqb (get_or (get_or rows (slot head (n - 1)) []) 0 0) psn) (Some (get_or (get_or rows (slot head (n - 1)) []) 1 0)) (newest psn (ring_from slot rows head 0 (n - 1)))
  from_last =
      let e : n ≡ suc (n - 1) = omega arith in
      let z : 0 + (n - 1) ≡ n - 1 = omega arith in
      ap (λ k. newest psn (ring_from slot rows head 0 k)) e
      ∙ (ap (newest psn) (last_row slot rows head 0 (n - 1))
      ∙ (newest-last psn (ring_from slot rows head 0 (n - 1)) (get_or rows (slot head (0 + (n - 1))) [])
      ∙ ap (λ k. cond (eqb (get_or (get_or rows (slot head k) []) 0 0) psn) (Some (get_or (get_or rows (slot head k) []) 1 0)) (newest psn (ring_from slot rows head 0 (n - 1)))) z))

  module _ (at : ℕ) (a : at ≡ slot head (n - 1)) where
    pub newest-here : get_or (get_or rows at []) 0 0 ≡ psn → newest psn (ring_from slot rows head 0 n) ≡ Some (get_or (get_or rows at []) 1 0)
    newest-here e = from_last ∙ rw (sym a, eq-eqb (get_or (get_or rows at []) 0 0) psn e)

    pub newest-next : (get_or (get_or rows at []) 0 0 ≡ psn → ⊥) → newest psn (ring_from slot rows head 0 n) ≡ newest psn (ring_from slot rows head 0 (n - 1))
    newest-next e = from_last ∙ rw (sym a, ne_eqb (get_or (get_or rows at []) 0 0) psn e)

pub newest-none : (slot : ℕ → ℕ → ℕ) (psn : ℕ) (rows : List (List ℕ)) (head n : ℕ) → n ≤ 0 → newest psn (ring_from slot rows head 0 n) ≡ None
unfolding newest ring_from
newest-none slot psn rows head n h = let e : n ≡ 0 = omega arith in rw e

-- Saved atomics
pub newest-empty : NewestNone
unfolding newest
newest-empty psn = refl

pub newest-saved : NewestSaved
unfolding newest_saved
newest-saved psn rows r h = rw (le-ltb saved_capacity r.count (omega arith))

pub newest-over : NewestOver
unfolding newest_saved
newest-over psn rows r h = rw (lt-ltb saved_capacity r.count (omega arith))

module _ (rows : List (List ℕ)) (r : Ring) (psn value : ℕ) where
  -- the newest of a number after a save: what was saved if it has that number, else the newest of those before it
  after-save : (other : ℕ) (before : List (List ℕ)) → r.count ≤ 16
      → in_ring saved_slot (saved_rows rows r psn value) (saved_ring r) ≡ before ++ ((psn ∷ value ∷ []) ∷ [])
      → newest_saved other (saved_rows rows r psn value) (saved_ring r) ≡ cond (eqb psn other) (Some value) (newest other before)
  after-save other before h e =
      newest-saved other (saved_rows rows r psn value) (saved_ring r) (saved-by (λ x. x.count ≤ 16) r (λ more. omega arith) (λ full. h))
      ∙ (ap (newest other) e ∙ newest-last other before (psn ∷ value ∷ []))

  found-by : (before : List (List ℕ)) → r.count ≤ 16
      → in_ring saved_slot (saved_rows rows r psn value) (saved_ring r) ≡ before ++ ((psn ∷ value ∷ []) ∷ [])
      → newest_saved psn (saved_rows rows r psn value) (saved_ring r) ≡ Some value
  found-by before h e = after-save psn before h e ∙ rw (eq-eqb psn psn refl)

pub saved-found : SavedFound
saved-found rows r psn value l h = go (ltb r.count 16) refl
  where
    go : (t : Bool) → ltb r.count 16 ≡ t → newest_saved psn (saved_rows rows r psn value) (saved_ring r) ≡ Some value
    go true e = found-by rows r psn value (in_ring saved_slot rows r) h (saves rows r psn value l (ltb-true r.count 16 e))
    go false e =
        found-by rows r psn value (drop 1 (in_ring saved_slot rows r)) h (saves-full rows r psn value l (omega (arith, ltb-false r.count 16 e)))

pub saved-other : SavedOther
saved-other rows r psn value other l h ne =
    after-save rows r psn value other (in_ring saved_slot rows r) (omega arith) (saves rows r psn value l h)
    ∙ rw (ne_eqb psn other ne) (sym (newest-saved other rows r (omega arith)))

pub saved-other-full : SavedOtherFull
saved-other-full rows r psn value other l h ne =
    after-save rows r psn value other (drop 1 (in_ring saved_slot rows r)) (omega arith) (saves-full rows r psn value l h)
    ∙ rw (ne_eqb psn other ne)
