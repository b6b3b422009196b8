use borrow.Author.Tests.{le-ltb, lt-ltb}
use Rattle.cut_spec.specs.Message.{check_length}
use Rattle.cut.proofs.check_length.Goals as goal

pub returns-then-pmtu_unfit : goal.returns-then-pmtu_unfit
unfolding check_length
returns-then-pmtu_unfit c = simp (← c.pmtu_unfit.ensures, c.if-pmtu_unfit.true)

pub returns-then-n-gt-MESSAGE_LIMIT : goal.returns-then-n-gt-MESSAGE_LIMIT
unfolding check_length
returns-then-n-gt-MESSAGE_LIMIT c = simp (← c.pmtu_unfit.ensures, c.if-pmtu_unfit.false, lt-ltb _ _ c.if-n-gt-MESSAGE_LIMIT.true)

pub returns : goal.returns
unfolding check_length
returns c = simp (← c.pmtu_unfit.ensures, c.if-pmtu_unfit.false, le-ltb _ _ c.if-n-gt-MESSAGE_LIMIT.false)
