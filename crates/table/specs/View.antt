-- What a table holds, whichever rows it stands in.
use Rattle.std.specs.Prelude.{ℕ, zero, suc, ◌+◌, Bool, cond, List, [], ◌∷◌, ◌==◌, nat_lt, slice_index_or, slice_set, Option, Some, None}
use Rattle.table.specs.declared.Ring.{Ring}
use Rattle.table.specs.SavedRow as SavedRow
use Rattle.table.specs.Table.{region_capacity, saved_capacity, saved_slot, no_region, key_row}

-- the region of a key: its row, or an empty one
unfoldable pub region_of : ℕ → List (List ℕ) → List ℕ
region_of key rows = cond (nat_lt (key_row key rows) region_capacity) (slice_index_or rows (key_row key rows) []) no_region

-- n rows of a ring from position i on, by the slot of each position
unfoldable pub ring_from : (ℕ → ℕ → ℕ) → List (List ℕ) → ℕ → ℕ → ℕ → List (List ℕ)
ring_from slot rows head i zero = []
ring_from slot rows head i (suc n) = slice_index_or rows (slot head i) [] ∷ ring_from slot rows head (suc i) n

-- the rows in use, oldest first
abbrev pub in_ring : (ℕ → ℕ → ℕ) → List (List ℕ) → Ring → List (List ℕ)
in_ring slot rows r = ring_from slot rows r.head 0 r.count

-- the ring with a row more
abbrev pub one_more : Ring → Ring
one_more r = record { head = r.head; count = r.count + 1 }

-- the ring from its second row on, with the row behind its last
abbrev pub turned : (ℕ → ℕ → ℕ) → Ring → Ring
turned slot r = record { head = slot r.head 1; count = r.count }

-- the ring after a store behind its last row, which in a full ring overwrites the oldest
abbrev pub overwritten : ℕ → (ℕ → ℕ → ℕ) → Ring → Ring
overwritten capacity slot r = cond (nat_lt r.count capacity) (one_more r) (turned slot r)

abbrev pub later : Option ℕ → Option ℕ → Option ℕ
later (Some v) s = Some v
later None s = s

-- a saved atomic is that of a duplicate if it has the packet's PSN
abbrev pub saved_match : ℕ → List ℕ → Bool
saved_match psn row = SavedRow.psn row == psn

-- of those saved, oldest first, the value of the newest that matches
unfoldable pub newest : ℕ → List (List ℕ) → Option ℕ
newest psn [] = None
newest psn (row ∷ rows) = later (newest psn rows) (cond (saved_match psn row) (Some (SavedRow.value row)) None)

-- the newest in a table; a ring that has more rows than there are has none
unfoldable pub newest_saved : ℕ → List (List ℕ) → Ring → Option ℕ
newest_saved psn rows r = cond (nat_lt saved_capacity r.count) None (newest psn (in_ring saved_slot rows r))

-- one atomic more: the seventeenth replaces the oldest
unfoldable pub saved_ring : Ring → Ring
saved_ring r = overwritten saved_capacity saved_slot r

-- its row, by the columns of SavedRow
unfoldable pub saved_rows : List (List ℕ) → Ring → ℕ → ℕ → List (List ℕ)
saved_rows rows r psn value = slice_set rows (saved_slot r.head r.count) (psn ∷ value ∷ [])
