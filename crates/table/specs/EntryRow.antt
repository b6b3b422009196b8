-- The columns of an entry's row.
use Rattle.std.specs.Prelude.{ℕ, List, slice_index}

abbrev pub number : List ℕ → ℕ
number row = slice_index row 0

abbrev pub offset : List ℕ → ℕ
offset row = slice_index row 1

abbrev pub length : List ℕ → ℕ
length row = slice_index row 2
