use Rattle.lemmas.proofs.Auto.{tested}
use Rattle.responder_spec.specs.Reply.{response_opcode}
use borrow.Author.Rules.{rules}
use Rattle.acknowledge.proofs.response.response_opcode.Goals as goal

pub returns-then-place-eq-ONLY : goal.returns-then-place-eq-ONLY
unfolding response_opcode
returns-then-place-eq-ONLY c = search (rules, tested)

pub returns : goal.returns
unfolding response_opcode
returns c = search (rules, tested)
