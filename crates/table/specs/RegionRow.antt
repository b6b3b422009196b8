-- The columns of a region's row; a right is 1 or 0.
use Rattle.std.specs.Prelude.{ℕ, List, slice_index}

abbrev pub key : List ℕ → ℕ
key row = slice_index row 0

abbrev pub address : List ℕ → ℕ
address row = slice_index row 1

abbrev pub length : List ℕ → ℕ
length row = slice_index row 2

abbrev pub offset : List ℕ → ℕ
offset row = slice_index row 3

abbrev pub write : List ℕ → ℕ
write row = slice_index row 4

abbrev pub read : List ℕ → ℕ
read row = slice_index row 5

abbrev pub atomic : List ℕ → ℕ
atomic row = slice_index row 6
