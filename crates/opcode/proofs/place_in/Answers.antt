use borrow.Author.Rules.{rules}
use Rattle.lemmas.proofs.Auto.{tested}
use Rattle.opcode.specs.Opcode.{place_in}
use Rattle.opcode.proofs.place_in.Goals as goal

pub returns-then-n-eq-FIRST : goal.returns-then-n-eq-FIRST
unfolding place_in
returns-then-n-eq-FIRST c = search (rules, tested)

pub returns-then-n-eq-MIDDLE : goal.returns-then-n-eq-MIDDLE
unfolding place_in
returns-then-n-eq-MIDDLE c = search (rules, tested)

pub returns-then-n-lt-ONLY : goal.returns-then-n-lt-ONLY
unfolding place_in
returns-then-n-lt-ONLY c = search (rules, tested)

pub returns : goal.returns
unfolding place_in
returns c = search (rules, tested)
