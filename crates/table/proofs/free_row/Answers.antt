use Rattle.std.proofs.Common.{rules, tests, ◌==◌, slice_index, true, refl, ◌∙◌}
use Rattle.std.proofs.lemmas.Iterator.{YieldsList-from_slice}
use Rattle.std.proofs.lemmas.Iterator.Search.{position_from_yields_List}
use Rattle.table.specs.Table.{sought}
use Rattle.table.proofs.Search.{found-position}
use Rattle.table.proofs.free_row.Goals as goal

pub returns : goal.returns
unfolding sought
returns c =
    let rows = c.args.regions.now in
    position_from_yields_List (λ row. slice_index row 2 == 0) _ _ c.position.result c.position.ensures.ran (YieldsList-from_slice rows (cc)) (λ x b q k. search (rules, tests))
    ∙ found-position true 0 rows (λ row. slice_index row 2 == 0) (λ row. refl) c.told-regions
