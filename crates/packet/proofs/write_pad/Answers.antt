use Rattle.packet.proofs.Pads.{zeros}
use Rattle.memory.specs.Memory.{store}
use mathlib.Core.Path.{◌∙◌, ap}
use borrow.Author.Rules.{rules}
use Rattle.packet.proofs.write_pad.Goals as goal

pub returns : goal.returns
returns c = c.store.ensures ∙ ap (store _ _) (zeros c.args.padcnt (search rules))
