use Rattle.cut_spec.specs.Message.{packets_of}
use borrow.Author.Tests.{le-leb, le-ltb, lt-leb, lt-ltb}
use Rattle.cut_spec.specs.Cut.{check_cut}
use Rattle.cut.proofs.check_cut.Goals as goal

pub returns-then-unfit : goal.returns-then-unfit
unfolding check_cut packets_of
returns-then-unfit c = simp (← c.carries-carrying.ensures, ← c.unfit.ensures, c.if-unfit.true)

pub returns-then-whole-gt-MESSAGE_LIMIT : goal.returns-then-whole-gt-MESSAGE_LIMIT
unfolding check_cut packets_of
returns-then-whole-gt-MESSAGE_LIMIT c =
    simp (← c.carries-carrying.ensures, ← c.unfit.ensures, c.if-unfit.false, ← c.message_length-whole.ensures, lt-ltb _ _ c.if-whole-gt-MESSAGE_LIMIT.true)

pub returns-then-count-index : goal.returns-then-count-index
unfolding check_cut packets_of
returns-then-count-index c =
    simp (← c.carries-carrying.ensures, ← c.unfit.ensures, c.if-unfit.false, ← c.message_length-whole.ensures, le-ltb _ _ c.if-whole-gt-MESSAGE_LIMIT.false, ← c.carried_length-carried.ensures, ← c.count-count.ensures, le-leb _ _ c.if-count-index.true)

pub returns : goal.returns
unfolding check_cut packets_of
returns c =
    simp (← c.carries-carrying.ensures, ← c.unfit.ensures, c.if-unfit.false, ← c.message_length-whole.ensures, le-ltb _ _ c.if-whole-gt-MESSAGE_LIMIT.false, ← c.carried_length-carried.ensures, ← c.count-count.ensures, lt-leb _ _ c.if-count-index.false)
