use Rattle.std.proofs.Common.{◌≡◌}
use Rattle.table.specs.Table.{saved_slot}
use Rattle.table.specs.View.{ring_from, newest}
use Rattle.table.proofs.newest_of.Given as goal

abbrev pub invariant-loop-i : goal.invariant-loop-i
invariant-loop-i l = newest l.psn (ring_from saved_slot l.saved l.head 0 l.n) ≡ newest l.psn (ring_from saved_slot l.saved l.head 0 l.i)
