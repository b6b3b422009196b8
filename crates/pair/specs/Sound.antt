-- Pairs with a number out of its range, which no call makes. Each test names the failing case, as the code does.
use Rattle.std.specs.Prelude.{ℕ, ◌%◌, Bool, true, false, cond, not, ◌||◌, eqb, ltb, leb}
use Rattle.sequence.specs.Sequence.{space, msn_space}
use Rattle.opcode.specs.Kind as Kind
use Rattle.header.specs.Read.{other_service}
use Rattle.header.specs.Write.{qpn_space}
use Rattle.header.specs.Check.{pkey_top}
use Rattle.pmtu.specs.Pieces.{pmtu_fits, pieces}
use Rattle.table.specs.Table.{entry_capacity, saved_capacity, outside, past_top}
use Rattle.pair.specs.declared.Setup.{Setup}
use Rattle.pair.specs.declared.Pair.{Pair}
use Rattle.pair.specs.State as State
use Rattle.pair.specs.Pair.{closed}

-- lent memory and DMA lengths go up to 1,048,576 bytes
abbrev pub memory_limit : ℕ
memory_limit = 1048576

-- the greatest timer code
abbrev pub timer_limit : ℕ
timer_limit = 31

-- a bad number: no such PMTU or service, a number over 24 bits, a P_Key whose low 15 bits are zero, a timer code over
-- the limit
unfoldable pub setup_unfit : Setup → Bool
setup_unfit s =
    not (pmtu_fits s.pmtu)
    || (other_service s.service
    || (leb qpn_space s.ours || (leb qpn_space s.theirs || (leb space s.start.0 || (eqb (s.pkey % pkey_top) 0 || ltb timer_limit s.timer)))))

-- numbers that no set-up accepts
unfoldable pub setup_unsound : Setup → Bool
setup_unsound s = setup_unfit s || ltb memory_limit s.memory

-- the state is one of the three, PSN and MSN have 24 bits
unfoldable pub counters_unsound : ℕ → ℕ → ℕ → Bool
counters_unsound state expected msn = ltb State.error state || (leb space expected || leb msn_space msn)

-- a ring has no more rows than its table
unfoldable pub ring_unsound : ℕ → ℕ → ℕ → Bool
ring_unsound capacity head count = leb capacity head || ltb capacity count

-- an open SEND holds an entry and has stored no more bytes than memory can have; an open WRITE has bytes to come,
-- within the limit, and the next of them has an address
unfoldable pub no_entry : ℕ → Bool
no_entry entries = eqb entries 0

unfoldable pub send_unsound : ℕ → ℕ → Bool
send_unsound stored entries = no_entry entries || ltb memory_limit stored

unfoldable pub write_unsound : ℕ → ℕ → ℕ → Bool
write_unsound stored address length = leb length stored || (ltb memory_limit length || past_top address stored)

unfoldable pub message_unsound : ℕ → ℕ → ℕ → ℕ → ℕ → Bool
message_unsound kind stored address length entries =
    cond (eqb kind closed) false
    (cond (eqb kind Kind.send) (send_unsound stored entries)
    (cond (eqb kind Kind.write) (write_unsound stored address length) true))

-- a READ being answered has no more responses remaining than it has at all, its bytes lie in memory, its numbers have
-- 24 bits
unfoldable pub read_unsound : ℕ → ℕ → ℕ → ℕ → ℕ → ℕ → ℕ → Bool
read_unsound remaining offset length psn msn pmtu memory =
    cond (eqb remaining 0) false
    (ltb (pieces length pmtu) remaining || (outside offset length memory || (leb space psn || leb msn_space msn)))

unfoldable pub pair_unsound : Pair → Bool
pair_unsound q =
    setup_unsound q.setup
    || (counters_unsound q.state q.expected.0 q.msn.0
    || (ring_unsound entry_capacity q.entries.head q.entries.count
    || (ring_unsound saved_capacity q.saved.head q.saved.count
    || (message_unsound q.message.kind q.message.stored q.message.address q.message.length q.entries.count
    || read_unsound q.read.remaining q.read.offset q.read.length q.read.psn.0 q.read.msn.0 q.setup.pmtu q.setup.memory))))
