use borrow.Author.Rules.{rules}
use Rattle.lemmas.proofs.Auto.{tested}
use Rattle.opcode.specs.Opcode.{send_write_follows}
use Rattle.opcode.proofs.send_write_follows.Goals as goal

pub returns-then-low-eq-SEND_LAST_IMMEDIATE : goal.returns-then-low-eq-SEND_LAST_IMMEDIATE
unfolding send_write_follows
returns-then-low-eq-SEND_LAST_IMMEDIATE c = search (rules, tested)

pub returns-then-low-eq-SEND_ONLY_IMMEDIATE : goal.returns-then-low-eq-SEND_ONLY_IMMEDIATE
unfolding send_write_follows
returns-then-low-eq-SEND_ONLY_IMMEDIATE c = search (rules, tested)

pub returns-then-low-eq-WRITE_FIRST : goal.returns-then-low-eq-WRITE_FIRST
unfolding send_write_follows
returns-then-low-eq-WRITE_FIRST c = search (rules, tested)

pub returns-then-low-eq-WRITE_LAST_IMMEDIATE : goal.returns-then-low-eq-WRITE_LAST_IMMEDIATE
unfolding send_write_follows
returns-then-low-eq-WRITE_LAST_IMMEDIATE c = search (rules, tested)

pub returns-then-low-eq-WRITE_ONLY : goal.returns-then-low-eq-WRITE_ONLY
unfolding send_write_follows
returns-then-low-eq-WRITE_ONLY c = search (rules, tested)

pub returns-then-low-eq-WRITE_ONLY_IMMEDIATE : goal.returns-then-low-eq-WRITE_ONLY_IMMEDIATE
unfolding send_write_follows
returns-then-low-eq-WRITE_ONLY_IMMEDIATE c = search (rules, tested)

pub returns : goal.returns
unfolding send_write_follows
returns c = search (rules, tested)
