-- The two halves are the whole.
use mathlib.Core.Path.{◌≡◌, refl}
use mathlib.Core.Bool.{Bool, true, false, ◌||◌}
use Rattle.pair.specs.Sound.{setup_unsound, counters_unsound, ring_unsound, pair_unsound}
use Rattle.pair.specs.declared.Pair.{Pair}
use Rattle.table.specs.Table.{entry_capacity, saved_capacity}
use Rattle.host_calls.specs.Halves.{numbers_unsound, work_unsound}

together : (a b c d e : Bool) → (a || (b || (c || (d || e)))) ≡ ((a || (b || (c || d))) || e)
together true b c d e = refl
together false true c d e = refl
together false false true d e = refl
together false false false true e = refl
together false false false false e = refl

pub halves : (q : Pair) → pair_unsound q ≡ (numbers_unsound q || work_unsound q)
unfolding pair_unsound numbers_unsound work_unsound
halves q =
    together (setup_unsound q.setup) (counters_unsound q.state q.expected.0 q.msn.0)
    (ring_unsound entry_capacity q.entries.head q.entries.count) (ring_unsound saved_capacity q.saved.head q.saved.count) (work_unsound q)
