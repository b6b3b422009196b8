-- What is proved of the tables, each statement by a name; the proofs stand in proofs/.
use Rattle.std.specs.Prelude.{◌≡◌, ℕ, suc, ◌+◌, ◌-◌, ◌%◌, ◌^◌, ◌<◌, ◌≤◌, false, cond, ◌⊎◌, List, [], ◌∷◌, ◌++◌, length, get_or, drop, ◌==◌, ◌≢◌, slice_index, slice_index_or, slice_set, Some, None}
use Rattle.table.specs.declared.Region.{Region}
use Rattle.table.specs.declared.Entry.{Entry}
use Rattle.table.specs.declared.Ring.{Ring}
use Rattle.table.specs.Table.{entry_slot, saved_slot, outside, region_outside, region_row, entry_row, no_region, key_row, free_row}
use Rattle.table.specs.View.{region_of, in_ring, one_more, overwritten, newest, newest_saved, saved_ring, saved_rows}

-- A region that the rules allow in memory of that length, and an entry.
pub record RegionFits (memory : ℕ) (r : Region) : Type 0 where
  pub some : 1 ≤ r.length
  pub within : r.offset + r.length ≤ memory
  pub below : r.address + r.length < 2 ^ 64

abbrev pub EntryFits : ℕ → Entry → Type 0
EntryFits memory e = e.offset + e.length ≤ memory

-- The tests say so.
abbrev pub RegionTested : Type 0
RegionTested =
    (memory : ℕ) (r : Region)
    → (region_outside r.address r.length r.offset memory ≡ false → RegionFits memory r)
    × (RegionFits memory r → region_outside r.address r.length r.offset memory ≡ false)

abbrev pub EntryTested : Type 0
EntryTested =
    (memory : ℕ) (e : Entry)
    → (outside e.offset e.length memory ≡ false → EntryFits memory e)
    × (EntryFits memory e → outside e.offset e.length memory ≡ false)

-- Where each number of a region stands in its row, and of an entry.
pub record RegionColumns (r : Region) (row : List ℕ) : Type 0 where
  pub key : get_or row 0 0 ≡ r.key
  pub address : get_or row 1 0 ≡ r.address
  pub bytes : get_or row 2 0 ≡ r.length
  pub offset : get_or row 3 0 ≡ r.offset
  pub write : get_or row 4 0 ≡ cond r.write 1 0
  pub read : get_or row 5 0 ≡ cond r.read 1 0
  pub atomic : get_or row 6 0 ≡ cond r.atomic 1 0

abbrev pub RegionRows : Type 0
RegionRows = (r : Region) → RegionColumns r (region_row r) × (length (region_row r) ≡ 7)

abbrev pub EntryRows : Type 0
EntryRows =
    (e : Entry)
    → (slice_index (entry_row e) 0 ≡ e.number) × (slice_index (entry_row e) 1 ≡ e.offset) × (slice_index (entry_row e) 2 ≡ e.length)
    × (length (entry_row e) ≡ 3)

-- A row is free, or it is the row of some region.
abbrev pub Free : List ℕ → Type 0
Free row = slice_index row 2 ≡ 0

abbrev pub HasKey : ℕ → List ℕ → Type 0
HasKey key row = (0 < slice_index row 2) × (slice_index row 0 ≡ key)

-- The row found is the first of the key; where 16 is answered, no row has it. The free row likewise.
pub record First (good : List ℕ → Type 0) (rows : List (List ℕ)) (i : ℕ) : Type 0 where
  pub bound : i ≤ 16
  pub found : i < 16 → good (slice_index_or rows i [])
  pub before : (j : ℕ) → j < i → good (slice_index_or rows j []) → ⊥

abbrev pub KeyFound : Type 0
KeyFound = (key : ℕ) (rows : List (List ℕ)) → First (HasKey key) rows (key_row key rows)

abbrev pub FreeFound : Type 0
FreeFound = (rows : List (List ℕ)) → First Free rows (free_row rows)

-- A region table that calls made: 16 rows, each one free or the row of a region that fits, no key twice.
abbrev pub RowSound : ℕ → List ℕ → Type 0
RowSound memory row = Free row ⊎ ((r : Region) × (row ≡ region_row r) × RegionFits memory r)

pub record RegionsSound (memory : ℕ) (rows : List (List ℕ)) : Type 0 where
  pub rows16 : length rows ≡ 16
  pub each : (i : ℕ) → i < 16 → RowSound memory (slice_index_or rows i [])
  pub once : (i j key : ℕ) → i < 16 → j < 16 → HasKey key (slice_index_or rows i []) → HasKey key (slice_index_or rows j []) → i ≡ j

-- A region put into the free row is the region of its key, and every other key has the region that it had.
abbrev pub Added : Type 0
Added =
    (rows : List (List ℕ)) (r : Region) → length rows ≡ 16 → 1 ≤ r.length → key_row r.key rows ≡ 16 → free_row rows < 16
    → (region_of r.key (slice_set rows (free_row rows) (region_row r)) ≡ region_row r)
    × ((key : ℕ) → (key ≢ r.key) → region_of key (slice_set rows (free_row rows) (region_row r)) ≡ region_of key rows)

-- A row emptied is the region of no key, and every other key has the region that it had.
abbrev pub Removed : Type 0
Removed =
    (memory : ℕ) (rows : List (List ℕ)) (key : ℕ) → RegionsSound memory rows → key_row key rows < 16
    → (region_of key (slice_set rows (key_row key rows) no_region) ≡ no_region)
    × ((other : ℕ) → (other ≢ key) → region_of other (slice_set rows (key_row key rows) no_region) ≡ region_of other rows)

abbrev pub AddedSound : Type 0
AddedSound =
    (memory : ℕ) (rows : List (List ℕ)) (r : Region) → RegionsSound memory rows → RegionFits memory r
    → key_row r.key rows ≡ 16
    → free_row rows < 16
    → RegionsSound memory (slice_set rows (free_row rows) (region_row r))

abbrev pub RemovedSound : Type 0
RemovedSound =
    (memory : ℕ) (rows : List (List ℕ)) (key : ℕ) → RegionsSound memory rows
    → RegionsSound memory (slice_set rows (key_row key rows) no_region)

-- What a ring asks of the slot of each position: positions less than the capacity apart are different rows, the slots
-- after the first are those of the ring from there on, all lie in the table, the first is the head, and after the last
-- row comes the first.
pub record SlotLaws (capacity : ℕ) (slot : ℕ → ℕ → ℕ) : Type 0 where
  pub apart : (head i n : ℕ) → i < n → n < i + capacity → slot head i ≢ slot head n
  pub next : (head i : ℕ) → slot (slot head 1) i ≡ slot head (suc i)
  pub below : (head i : ℕ) → slot head i < capacity
  pub start : (head : ℕ) → head < capacity → slot head 0 ≡ head
  pub around : (head : ℕ) → slot head capacity ≡ slot head 0

-- The slot of each position, of both rings.
abbrev pub SlotsAre : Type 0
SlotsAre = (head i : ℕ) → (entry_slot head i ≡ (head + i) % 16) × (saved_slot head i ≡ (head + i) % 16)

-- So it is with 16 entries and 16 saved atomics.
abbrev pub EntrySlots : Type 0
EntrySlots = SlotLaws 16 entry_slot

abbrev pub SavedSlots : Type 0
SavedSlots = SlotLaws 16 saved_slot

-- The remainder is such a slot at each capacity that the rules have now and will have.
abbrev pub Capacities : Type 0
Capacities =
    SlotLaws 16 (λ head i. (head + i) % 16) × SlotLaws 64 (λ head i. (head + i) % 64) × SlotLaws 4096 (λ head i. (head + i) % 4096)

-- A ring that calls made: all rows of its table, and those in use good.
pub record RingSound (capacity : ℕ) (slot : ℕ → ℕ → ℕ) (good : List ℕ → Type 0) (rows : List (List ℕ)) (r : Ring) : Type 0 where
  pub sized : length rows ≡ capacity
  pub each : (i : ℕ) → i < r.count → good (slice_index_or rows (slot r.head i) [])

-- A ring, whatever its capacity.
pub record RingLaws (capacity : ℕ) (slot : ℕ → ℕ → ℕ) : Type 1 where
  -- a row stored behind the last is the last of the list, the list before it is as it was, and so is each row in use
  pub appends : (rows : List (List ℕ)) (r : Ring) (row : List ℕ) → length rows ≡ capacity → r.count < capacity
      → in_ring slot (slice_set rows (slot r.head r.count) row) (one_more r) ≡ in_ring slot rows r ++ (row ∷ [])
  pub keeps : (rows : List (List ℕ)) (r : Ring) (row : List ℕ) (i : ℕ) → r.count < capacity → i < r.count
      → slice_index_or (slice_set rows (slot r.head r.count) row) (slot r.head i) [] ≡ slice_index_or rows (slot r.head i) []
  -- the ring from the next row on, one shorter, is the list without its first
  pub takes : (rows : List (List ℕ)) (head n : ℕ)
      → in_ring slot rows (record { head = slot head 1; count = n }) ≡ drop 1 (in_ring slot rows (record { head = head; count = suc n }))
  -- in a full ring the row stored is the last, the oldest is gone, and none else
  pub overwrites : (rows : List (List ℕ)) (r : Ring) (row : List ℕ) → length rows ≡ capacity → r.count ≡ capacity
      → in_ring slot (slice_set rows (slot r.head r.count) row) (overwritten capacity slot r) ≡ drop 1 (in_ring slot rows r) ++ (row ∷ [])
  -- a sound ring stays sound, and within its table
  pub appends-sound : (good : List ℕ → Type 0) (rows : List (List ℕ)) (r : Ring) (row : List ℕ) → RingSound capacity slot good rows r
      → r.count < capacity
      → good row
      → RingSound capacity slot good (slice_set rows (slot r.head r.count) row) (one_more r)
  pub takes-sound : (good : List ℕ → Type 0) (rows : List (List ℕ)) (r : Ring) → RingSound capacity slot good rows r
      → RingSound capacity slot good rows (record { head = slot r.head 1; count = r.count - 1 })
  pub overwrites-sound : (good : List ℕ → Type 0) (rows : List (List ℕ)) (r : Ring) (row : List ℕ) → RingSound capacity slot good rows r
      → r.count ≤ capacity
      → good row
      → RingSound capacity slot good (slice_set rows (slot r.head r.count) row) (overwritten capacity slot r)
  pub overwrites-within : (r : Ring) → r.head < capacity → r.count ≤ capacity
      → ((overwritten capacity slot r).head < capacity) × ((overwritten capacity slot r).count ≤ capacity)

abbrev pub EntryRing : Type 1
EntryRing = RingLaws 16 entry_slot

abbrev pub SavedRing : Type 1
SavedRing = RingLaws 16 saved_slot

-- Entries that calls posted: the rows in use are those of entries that fit. Saved atomics: numbers of 24 and 64 bits.
abbrev pub EntrySound : ℕ → List ℕ → Type 0
EntrySound memory row = (e : Entry) × (row ≡ entry_row e) × EntryFits memory e

abbrev pub EntriesSound : ℕ → List (List ℕ) → Ring → Type 0
EntriesSound memory rows r = RingSound 16 entry_slot (EntrySound memory) rows r

abbrev pub SavedNumbers : List ℕ → Type 0
SavedNumbers row = (slice_index row 0 < 2 ^ 24) × (slice_index row 1 < 2 ^ 64)

abbrev pub SavedSound : List (List ℕ) → Ring → Type 0
SavedSound rows r = RingSound 16 saved_slot SavedNumbers rows r

-- An entry put behind the last leaves the entries sound.
abbrev pub PostedSound : Type 0
PostedSound =
    (memory : ℕ) (rows : List (List ℕ)) (r : Ring) (e : Entry) → EntriesSound memory rows r → r.count < 16 → EntryFits memory e
    → EntriesSound memory (slice_set rows (entry_slot r.head r.count) (entry_row e)) (one_more r)

-- A saved atomic is the last of those saved; with 16 saved before, the oldest is gone, and none else.
abbrev pub Saves : Type 0
Saves =
    (rows : List (List ℕ)) (r : Ring) (psn value : ℕ) → length rows ≡ 16 → r.count < 16
    → in_ring saved_slot (saved_rows rows r psn value) (saved_ring r) ≡ in_ring saved_slot rows r ++ ((psn ∷ value ∷ []) ∷ [])

abbrev pub SavesFull : Type 0
SavesFull =
    (rows : List (List ℕ)) (r : Ring) (psn value : ℕ) → length rows ≡ 16 → r.count ≡ 16
    → in_ring saved_slot (saved_rows rows r psn value) (saved_ring r) ≡ drop 1 (in_ring saved_slot rows r) ++ ((psn ∷ value ∷ []) ∷ [])

-- Saving keeps what is saved sound, and the ring within the table.
abbrev pub SavesSound : Type 0
SavesSound =
    (rows : List (List ℕ)) (r : Ring) (psn value : ℕ) → SavedSound rows r → r.head < 16 → r.count ≤ 16 → psn < 2 ^ 24 → value < 2 ^ 64
    → SavedSound (saved_rows rows r psn value) (saved_ring r) × ((saved_ring r).head < 16) × ((saved_ring r).count ≤ 16)

-- The newest of no rows is nothing; of a list that ends in a row it is that row's value if it has the PSN, else the
-- newest of the rest. In a table it is the newest of the rows in use.
abbrev pub NewestNone : Type 0
NewestNone = (psn : ℕ) → newest psn [] ≡ None

abbrev pub Newest : Type 0
Newest =
    (psn : ℕ) (rows : List (List ℕ)) (row : List ℕ)
    → newest psn (rows ++ (row ∷ [])) ≡ cond (slice_index row 0 == psn) (Some (slice_index row 1)) (newest psn rows)

abbrev pub NewestSaved : Type 0
NewestSaved = (psn : ℕ) (rows : List (List ℕ)) (r : Ring) → r.count ≤ 16 → newest_saved psn rows r ≡ newest psn (in_ring saved_slot rows r)

abbrev pub NewestOver : Type 0
NewestOver = (psn : ℕ) (rows : List (List ℕ)) (r : Ring) → 16 < r.count → newest_saved psn rows r ≡ None

-- So an atomic is found as soon as it is saved. Of another number the newest is as it was; with 16 saved before, it is
-- the newest of those but the oldest.
abbrev pub SavedFound : Type 0
SavedFound =
    (rows : List (List ℕ)) (r : Ring) (psn value : ℕ) → length rows ≡ 16 → r.count ≤ 16
    → newest_saved psn (saved_rows rows r psn value) (saved_ring r) ≡ Some value

abbrev pub SavedOther : Type 0
SavedOther =
    (rows : List (List ℕ)) (r : Ring) (psn value other : ℕ) → length rows ≡ 16 → r.count < 16 → (psn ≢ other)
    → newest_saved other (saved_rows rows r psn value) (saved_ring r) ≡ newest_saved other rows r

abbrev pub SavedOtherFull : Type 0
SavedOtherFull =
    (rows : List (List ℕ)) (r : Ring) (psn value other : ℕ) → length rows ≡ 16 → r.count ≡ 16 → (psn ≢ other)
    → newest_saved other (saved_rows rows r psn value) (saved_ring r) ≡ newest other (drop 1 (in_ring saved_slot rows r))
