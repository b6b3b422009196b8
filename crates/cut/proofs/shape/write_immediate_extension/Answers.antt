use borrow.Author.Tests.{le-leb, lt-leb}
use Rattle.opcode.specs.Place.{ends}
use Rattle.cut_spec.specs.Cut.{write_immediate_extension}
use Rattle.cut.proofs.shape.write_immediate_extension.Goals as goal

pub returns-then-place-ge-LAST : goal.returns-then-place-ge-LAST
unfolding write_immediate_extension ends
returns-then-place-ge-LAST c = simp (le-leb _ _ c.if-place-ge-LAST.true, ← c.starts-begins.ensures, ← c.write_end.ensures)

pub returns : goal.returns
unfolding write_immediate_extension ends
returns c = simp (lt-leb _ _ c.if-place-ge-LAST.false, ← c.write_extension.ensures)
