use Rattle.cut_spec.specs.Cut.{write_extension}
use Rattle.cut.proofs.shape.write_extension.Goals as goal

pub returns-then-starts : goal.returns-then-starts
unfolding write_extension
returns-then-starts c = simp (← c.starts.ensures, c.if-starts.true, ← c.reth_for-a.ensures)

pub returns : goal.returns
unfolding write_extension
returns c = simp (← c.starts.ensures, c.if-starts.false)
