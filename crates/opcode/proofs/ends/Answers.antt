use borrow.Author.Rules.{rules}
use Rattle.lemmas.proofs.Auto.{tested}
use Rattle.opcode.specs.Place.{ends}
use Rattle.opcode.proofs.ends.Goals as goal

pub returns : goal.returns
unfolding ends
returns c = search (rules, tested)
