-- The entries of a pair as lists, oldest first.
use Rattle.std.specs.Prelude.{ℕ, Bool, cond, List, [], eqb, take, drop}
use Rattle.opcode.specs.Kind as Kind
use Rattle.table.specs.Table.{entry_slot}
use Rattle.table.specs.View.{in_ring}
use Rattle.pair.specs.declared.Pair.{Pair}

abbrev pub entries_of : Pair → List (List ℕ) → List (List ℕ)
entries_of q rows = in_ring entry_slot rows q.entries

-- an open SEND holds the first entry
abbrev pub holds : Pair → Bool
holds q = eqb q.message.kind Kind.send

unfoldable pub held_of : Pair → List (List ℕ) → List (List ℕ)
held_of q rows = cond (holds q) (take 1 (entries_of q rows)) []

-- and the others wait
unfoldable pub waiting_of : Pair → List (List ℕ) → List (List ℕ)
waiting_of q rows = cond (holds q) (drop 1 (entries_of q rows)) (entries_of q rows)
