use Rattle.std.proofs.Common.{sym, ◌∙◌, le-ltb, lt-ltb}
use Rattle.table.specs.Table.{key_row}
use Rattle.table.specs.View.{region_of}
use Rattle.table.proofs.Search.{found-some, found-none}
use Rattle.table.proofs.region_of.Goals as goal

pub returns-in-Some : goal.returns-in-Some
unfolding region_of
returns-in-Some c =
    let found = found-some (key_row c.from.result c.args.regions.now) c.in-Some.i (sym c.in-Some.is ∙ c.key_row.ensures) in
    simp (← c.from.ensures, lt-ltb _ _ found.1, found.0)

pub returns-in-None : goal.returns-in-None
unfolding region_of
returns-in-None c =
    simp (← c.from.ensures, le-ltb _ _ (found-none (key_row c.from.result c.args.regions.now) (sym c.in-None.is ∙ c.key_row.ensures)))
