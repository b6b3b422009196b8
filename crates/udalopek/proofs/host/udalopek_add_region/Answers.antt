use Rattle.std.proofs.Common.{ap, ◌∙◌}
use Rattle.table.specs.declared.Region.{Region}
use Rattle.pair.specs.Answer.{status_number}
use Rattle.pair.specs.Host.{add_status, add_regions}
use Rattle.abi_spec.specs.Pair.{pair_of}
use Rattle.udalopek_spec.proofs.Steps.{second, many}
use Rattle.udalopek_spec.specs.Host.{add_number, add_table}
use Rattle.udalopek.proofs.host.udalopek_add_region.Goals as goal

pub returns : goal.returns
unfolding add_number add_table
returns c =
    let A = c.args in
    let w = c.in-Some.ensures.cases in
    let l = many A.pair.now w.long in
    let q = c.said.ensures ∙ ap pair_of w.same in
    let r : Region = record { key = A.key; address = A.address; length = A.length; offset = A.offset; write = A.write; read = A.read; atomic = A.atomic } in (
      c.from.ensures ∙ ap status_number (c.add_region.ensures.value ∙ ap (λ x. add_status x A.regions.now r) q) ∙ second _ 34 _ l,
      c.add_region.ensures.regions_after ∙ ap (λ x. add_regions x A.regions.now r) q ∙ second _ _ _ l,
    )
