use mathlib.Core.Path.{ap, ◌∙◌}
use Rattle.memory.specs.Memory.{store}
use Rattle.apply.proofs.Steps.{part_cut}
use Rattle.apply.proofs.store_part.Goals as goal

pub returns : goal.returns
returns c =
    let A = c.args in
    c.store.ensures ∙ ap (store A.mem.now A.at) (part_cut A.packet.now A.start A.size _ _ c.min-from.ensures c.min-n.ensures)
