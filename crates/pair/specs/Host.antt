-- The host's calls: each one's answer, the pair it leaves, and the table.
use Rattle.std.specs.Prelude.{ℕ, Bool, cond, List, eqb, ltb, leb, replicate, set}
use Rattle.table.specs.Table.{region_capacity, entry_capacity, entry_slot, outside, region_outside, region_row, entry_row, no_region, key_row, free_row}
use Rattle.table.specs.declared.Region.{Region}
use Rattle.table.specs.declared.Entry.{Entry}
use Rattle.table.specs.View.{one_more}
use Rattle.pair.specs.declared.Setup.{Setup}
use Rattle.pair.specs.declared.Pair.{Pair}
use Rattle.pair.specs.declared.HostOutcome.{HostOutcome}
use Rattle.pair.specs.declared.Status.{Status}
use Rattle.pair.specs.declared.Status.TheVariants.{Executed, TableFull, OutOfRange, WrongState, NoSuchKey, KeyInUse, BadNumber}
use Rattle.pair.specs.State as State
use Rattle.pair.specs.Answer.{executed}
use Rattle.pair.specs.Pair.{fresh_pair, blank_pair, moved}
use Rattle.pair.specs.Sound.{memory_limit, setup_unfit, setup_unsound, pair_unsound}

abbrev pub outcome : Status → Pair → HostOutcome
outcome s q = record { status = s; pair = q }

abbrev pub no_regions : List (List ℕ)
no_regions = replicate region_capacity no_region

-- Set-up: 39 for a bad number, 34 for memory over the limit
unfoldable pub set_up_status : Setup → Status
set_up_status s = cond (setup_unfit s) BadNumber (cond (ltb memory_limit s.memory) OutOfRange Executed)

unfoldable pub set_up : Setup → HostOutcome
set_up s = outcome (set_up_status s) (cond (executed (set_up_status s)) (fresh_pair s) blank_pair)

unfoldable pub set_up_regions : Setup → List (List ℕ) → List (List ℕ)
set_up_regions s rows = cond (executed (set_up_status s)) no_regions rows

-- Reset: always allowed to a pair with the numbers of a set-up
unfoldable pub reset_status : Pair → Status
reset_status q = cond (setup_unsound q.setup) OutOfRange Executed

unfoldable pub reset_to : Pair → HostOutcome
reset_to q = outcome (reset_status q) (cond (executed (reset_status q)) (fresh_pair q.setup) q)

unfoldable pub reset_regions : Pair → List (List ℕ) → List (List ℕ)
reset_regions q rows = cond (executed (reset_status q)) no_regions rows

-- Make ready: 36 unless Init
unfoldable pub ready_status : Pair → Status
ready_status q = cond (eqb q.state State.init) (cond (pair_unsound q) OutOfRange Executed) WrongState

unfoldable pub made_ready : Pair → HostOutcome
made_ready q = outcome (ready_status q) (cond (executed (ready_status q)) (moved q State.ready q.entries) q)

-- Add region: 36 in Error, 34 for a region that cannot be, 38 for a key in use, 33 for a full table
unfoldable pub add_status : Pair → List (List ℕ) → Region → Status
add_status q rows r =
    cond (eqb q.state State.error) WrongState
    (cond (pair_unsound q) OutOfRange
    (cond (region_outside r.address r.length r.offset q.setup.memory) OutOfRange
    (cond (ltb (key_row r.key rows) region_capacity) KeyInUse
    (cond (leb region_capacity (free_row rows)) TableFull Executed))))

unfoldable pub add_regions : Pair → List (List ℕ) → Region → List (List ℕ)
add_regions q rows r = cond (executed (add_status q rows r)) (set rows (free_row rows) (region_row r)) rows

-- Remove region: 37 for a key not in use
unfoldable pub remove_status : List (List ℕ) → ℕ → Status
remove_status rows key = cond (leb region_capacity (key_row key rows)) NoSuchKey Executed

unfoldable pub remove_regions : List (List ℕ) → ℕ → List (List ℕ)
remove_regions rows key = cond (executed (remove_status rows key)) (set rows (key_row key rows) no_region) rows

-- how many entries there are, the one held and those waiting
abbrev pub entry_count : Pair → ℕ
entry_count q = q.entries.count

abbrev pub entries_full : Pair → Bool
entries_full q = leb entry_capacity (entry_count q)

-- Post entry: 36 in Error, 34 for an entry outside memory, 33 where all its rows are held or waiting
unfoldable pub post_status : Pair → Entry → Status
post_status q e =
    cond (eqb q.state State.error) WrongState
    (cond (pair_unsound q) OutOfRange
    (cond (outside e.offset e.length q.setup.memory) OutOfRange
    (cond (entries_full q) TableFull Executed)))

unfoldable pub posted : Pair → Entry → HostOutcome
posted q e = outcome (post_status q e) (cond (executed (post_status q e)) (moved q q.state (one_more q.entries)) q)

unfoldable pub post_entries : Pair → List (List ℕ) → Entry → List (List ℕ)
post_entries q rows e =
    cond (executed (post_status q e)) (set rows (entry_slot q.entries.head q.entries.count) (entry_row e)) rows
