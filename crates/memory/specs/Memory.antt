-- Bytes stored in the middle of lent memory.
use Rattle.std.specs.Prelude.{ℕ, ◌+◌, cond, List, ◌++◌, length, take, drop, nat_le}

-- the bytes d instead of those from at on
unfoldable pub overwrite : List ℕ → ℕ → List ℕ → List ℕ
overwrite m at d = take at m ++ (d ++ drop (at + length d) m)

-- the same where they fit; memory unchanged where they do not
unfoldable pub store : List ℕ → ℕ → List ℕ → List ℕ
store m at d = cond (nat_le (at + length d) (length m)) (overwrite m at d) m
