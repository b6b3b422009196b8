-- The tables of a pair as rows of numbers.
use Rattle.std.specs.Prelude.{ℕ, zero, suc, ◌+◌, ◌-◌, ◌%◌, ◌^◌, Bool, true, false, cond, ◌||◌, List, [], ◌∷◌, replicate, ◌==◌, nat_le, nat_lt, slice_index_or, Option, Some, None}
use Rattle.table.specs.RegionRow as RegionRow
use Rattle.table.specs.declared.Region.{Region}
use Rattle.table.specs.declared.Entry.{Entry}

-- how many rows each table has (house)
abbrev pub region_capacity : ℕ
region_capacity = 16

abbrev pub entry_capacity : ℕ
entry_capacity = 16

abbrev pub saved_capacity : ℕ
saved_capacity = 16

-- a ring: position i is the row i past the head, and after the last row comes row 0
abbrev pub slot : ℕ → ℕ → ℕ → ℕ
slot capacity head i = (head + i) % capacity

-- so it is with entries and saved atomics
unfoldable pub entry_slot : ℕ → ℕ → ℕ
entry_slot head i = slot entry_capacity head i

unfoldable pub saved_slot : ℕ → ℕ → ℕ
saved_slot head i = slot saved_capacity head i

-- length bytes from offset on do not all lie in memory
unfoldable pub outside : ℕ → ℕ → ℕ → Bool
outside offset length memory = nat_lt memory (offset + length)

-- addresses have 64 bits
abbrev pub addresses : ℕ
addresses = 2 ^ 64

-- address plus length is not below 2^64
unfoldable pub past_top : ℕ → ℕ → Bool
past_top address length = nat_le addresses (address + length)

-- a region has some bytes, all of them in memory, and its end is below 2^64
unfoldable pub region_outside : ℕ → ℕ → ℕ → ℕ → Bool
region_outside address length offset memory = length == 0 || (outside offset length memory || past_top address length)

-- a region's row, by the columns of RegionRow
unfoldable pub region_row : Region → List ℕ
region_row r = r.key ∷ r.address ∷ r.length ∷ r.offset ∷ cond r.write 1 0 ∷ cond r.read 1 0 ∷ cond r.atomic 1 0 ∷ []

-- a row of length 0 is empty; so is a row of zeros
abbrev pub no_region : List ℕ
no_region = replicate 7 0

-- where in memory an address of a region lies; no bytes lie at 0
unfoldable pub memory_offset : List ℕ → ℕ → ℕ → ℕ
memory_offset region address needed =
    cond (needed == 0) 0 (RegionRow.offset region + (address - RegionRow.address region))

-- an entry's row, by the columns of EntryRow
unfoldable pub entry_row : Entry → List ℕ
entry_row e = e.number ∷ e.offset ∷ e.length ∷ []

-- a row is free if its length is 0; it is the row of a key if it is not free and has that key
unfoldable pub sought : Bool → ℕ → ℕ → ℕ → Bool
sought free key of length = cond free (length == 0) (cond (length == 0) false (of == key))

-- the first row sought of the n from row i on, or i + n
unfoldable pub first_from : Bool → ℕ → List (List ℕ) → ℕ → ℕ → ℕ
first_from free key rows i zero = i
first_from free key rows i (suc n) =
    cond (sought free key (RegionRow.key (slice_index_or rows i [])) (RegionRow.length (slice_index_or rows i []))) i (first_from free key rows (suc i) n)

-- the first row of a key and the first free row of a table, or the capacity
abbrev pub key_row : ℕ → List (List ℕ) → ℕ
key_row key rows = first_from false key rows 0 region_capacity

abbrev pub free_row : List (List ℕ) → ℕ
free_row rows = first_from true 0 rows 0 region_capacity

-- the row at that number, where it is one of the table
abbrev pub row_found : ℕ → Option ℕ
row_found i = cond (nat_lt i region_capacity) (Some i) None
