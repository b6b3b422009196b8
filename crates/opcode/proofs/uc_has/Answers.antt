use borrow.Author.Rules.{rules}
use Rattle.lemmas.proofs.Auto.{tested}
use Rattle.opcode.specs.Opcode.{uc_has}
use Rattle.opcode.proofs.uc_has.Goals as goal

pub returns : goal.returns
unfolding uc_has
returns c = search (rules, tested)
