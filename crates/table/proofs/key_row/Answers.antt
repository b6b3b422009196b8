use Rattle.std.proofs.Common.{rules, tests, false, ◌∙◌}
use Rattle.std.proofs.lemmas.Iterator.{YieldsList-from_slice}
use Rattle.std.proofs.lemmas.Iterator.Search.{position_from_yields_List}
use Rattle.table.proofs.Search.{has_key, key-sought, found-position}
use Rattle.table.proofs.key_row.Goals as goal

pub returns : goal.returns
returns c =
    let rows = c.args.regions.now in
    position_from_yields_List (has_key c.args.key) _ _ c.position.result c.position.ensures.ran (YieldsList-from_slice rows (cc)) (λ x b q k. search (rules, tests))
    ∙ found-position false c.args.key rows (has_key c.args.key) (key-sought c.args.key) c.told-regions
