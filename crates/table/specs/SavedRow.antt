-- The columns of a saved atomic's row.
use Rattle.std.specs.Prelude.{ℕ, List, slice_index}

abbrev pub psn : List ℕ → ℕ
psn row = slice_index row 0

abbrev pub value : List ℕ → ℕ
value row = slice_index row 1
