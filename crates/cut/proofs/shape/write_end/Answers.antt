use Rattle.cut_spec.specs.Cut.{write_end}
use Rattle.cut.proofs.shape.write_end.Goals as goal

pub returns-then-begins : goal.returns-then-begins
unfolding write_end
returns-then-begins c = simp (c.if-begins.true, ← c.reth_for-a.ensures)

pub returns : goal.returns
unfolding write_end
returns c = simp c.if-begins.false
