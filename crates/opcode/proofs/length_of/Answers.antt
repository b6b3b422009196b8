use borrow.Author.Rules.{rules}
use Rattle.lemmas.proofs.Auto.{tested}
use Rattle.opcode.specs.Opcode.{length_of}
use Rattle.opcode.proofs.length_of.Goals as goal

pub returns-then-follows-eq-RETH : goal.returns-then-follows-eq-RETH
unfolding length_of
returns-then-follows-eq-RETH c = search (rules, tested)

pub returns-then-follows-eq-RETH_IMMEDIATE : goal.returns-then-follows-eq-RETH_IMMEDIATE
unfolding length_of
returns-then-follows-eq-RETH_IMMEDIATE c = search (rules, tested)

pub returns-then-follows-eq-IMMEDIATE : goal.returns-then-follows-eq-IMMEDIATE
unfolding length_of
returns-then-follows-eq-IMMEDIATE c = search (rules, tested)

pub returns-then-follows-eq-ATOMIC_ETH : goal.returns-then-follows-eq-ATOMIC_ETH
unfolding length_of
returns-then-follows-eq-ATOMIC_ETH c = search (rules, tested)

pub returns-then-follows-eq-AETH : goal.returns-then-follows-eq-AETH
unfolding length_of
returns-then-follows-eq-AETH c = search (rules, tested)

pub returns-then-follows-eq-AETH_ATOMIC_ACK : goal.returns-then-follows-eq-AETH_ATOMIC_ACK
unfolding length_of
returns-then-follows-eq-AETH_ATOMIC_ACK c = search (rules, tested)

pub returns : goal.returns
unfolding length_of
returns c = search (rules, tested)
