use Rattle.std.proofs.Common.{◌≡◌, sym, ◌∙◌}
use borrow.Author.Tests.{le-leb, lt-leb}
use Rattle.table.specs.Table.{key_row}
use Rattle.table.proofs.Search.{found-some, found-none}
use Rattle.pair.specs.Host.{remove_status, remove_regions}
use Rattle.pair.specs.Answer.{executed, status_number}
use Rattle.pair.specs.declared.Status.TheVariants as status
use Rattle.host_calls.proofs.remove_region.Goals as goal

pub returns-in_default : goal.returns-in_default
unfolding remove_status remove_regions executed status_number
returns-in_default c =
    let A = c.args in
    let none = found-none (key_row c.from.result A.regions.now) (sym c.in_default.is ∙ c.key_row.ensures) in
    let s : remove_status A.regions.now A.key ≡ status.NoSuchKey = simp (← c.from.ensures, le-leb _ _ none) in
    record { value = sym s; regions_after = simp s }

pub returns : goal.returns
unfolding remove_status remove_regions executed status_number
returns c =
    let A = c.args in
    let some = found-some (key_row c.from.result A.regions.now) c.in-Some.at (sym c.in-Some.is ∙ c.key_row.ensures) in
    let s : remove_status A.regions.now A.key ≡ status.Executed = simp (← c.from.ensures, some.0, lt-leb _ _ some.1) in
    record { value = sym s; regions_after = simp (s, ← c.from.ensures, some.0) }
