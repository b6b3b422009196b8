-- The tests of a sound pair in two halves, each short enough that the compiler inlines it.
use Rattle.std.specs.Prelude.{Bool, ◌||◌}
use Rattle.pair.specs.Sound.{setup_unsound, counters_unsound, ring_unsound, message_unsound, read_unsound}
use Rattle.pair.specs.declared.Pair.{Pair}
use Rattle.table.specs.Table.{entry_capacity, saved_capacity}

-- a number that a pair always has: of its set-up, state, counters and rings
unfoldable pub numbers_unsound : Pair → Bool
numbers_unsound q =
    setup_unsound q.setup
    || (counters_unsound q.state q.expected.0 q.msn.0
    || (ring_unsound entry_capacity q.entries.head q.entries.count || ring_unsound saved_capacity q.saved.head q.saved.count))

-- a number of what it is at work on: the open message, and the READ being answered
unfoldable pub work_unsound : Pair → Bool
work_unsound q =
    message_unsound q.message.kind q.message.stored q.message.address q.message.length q.entries.count
    || read_unsound q.read.remaining q.read.offset q.read.length q.read.psn.0 q.read.msn.0 q.setup.pmtu q.setup.memory
