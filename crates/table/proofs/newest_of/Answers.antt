use Rattle.std.proofs.Common.{sym, ◌∙◌, arith}
use Rattle.table.specs.Table.{saved_slot}
use Rattle.table.proofs.Rings.{newest-here, newest-next, newest-none}
use Rattle.table.proofs.newest_of.Goals as goal

pub returns-then-row-psn : goal.returns-then-row-psn
unfolding saved_slot
returns-then-row-psn c =
    let A = c.args in
    sym (c.loop-i.invariant ∙ newest-here saved_slot A.psn A.saved.now A.head c.loop-i.i (omega arith) c.slot.result c.slot.ensures.value c.if-row-psn.true)

pub loop-i-preserved : goal.loop-i-preserved
unfolding saved_slot
loop-i-preserved c =
    let A = c.args in
    c.loop-i.invariant ∙ newest-next saved_slot A.psn A.saved.now A.head c.loop-i.i (omega arith) c.slot.result c.slot.ensures.value c.if-row-psn.false

pub returns : goal.returns
returns c =
    let A = c.args in
    sym (c.loop-i.invariant ∙ newest-none saved_slot A.psn A.saved.now A.head c.loop-i.i (omega arith))
