use borrow.Author.Rules.{rules}
use Rattle.lemmas.proofs.Auto.{tested}
use Rattle.opcode.specs.Opcode.{kind_of}
use Rattle.opcode.proofs.kind_of.Goals as goal

pub returns-then-low-lt-WRITE : goal.returns-then-low-lt-WRITE
unfolding kind_of
returns-then-low-lt-WRITE c = search (rules, tested)

pub returns-then-low-lt-READ : goal.returns-then-low-lt-READ
unfolding kind_of
returns-then-low-lt-READ c = search (rules, tested)

pub returns-then-low-eq-READ : goal.returns-then-low-eq-READ
unfolding kind_of
returns-then-low-eq-READ c = search (rules, tested)

pub returns-then-low-lt-ACKNOWLEDGE : goal.returns-then-low-lt-ACKNOWLEDGE
unfolding kind_of
returns-then-low-lt-ACKNOWLEDGE c = search (rules, tested)

pub returns-then-low-eq-ACKNOWLEDGE : goal.returns-then-low-eq-ACKNOWLEDGE
unfolding kind_of
returns-then-low-eq-ACKNOWLEDGE c = search (rules, tested)

pub returns-then-low-eq-ATOMIC_ACKNOWLEDGE : goal.returns-then-low-eq-ATOMIC_ACKNOWLEDGE
unfolding kind_of
returns-then-low-eq-ATOMIC_ACKNOWLEDGE c = search (rules, tested)

pub returns-then-low-eq-CMP_SWAP : goal.returns-then-low-eq-CMP_SWAP
unfolding kind_of
returns-then-low-eq-CMP_SWAP c = search (rules, tested)

pub returns-then-low-eq-FETCH_ADD : goal.returns-then-low-eq-FETCH_ADD
unfolding kind_of
returns-then-low-eq-FETCH_ADD c = search (rules, tested)

pub returns : goal.returns
unfolding kind_of
returns c = search (rules, tested)
