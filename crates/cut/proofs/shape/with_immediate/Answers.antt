use borrow.Author.Tests.{le-leb, lt-leb}
use Rattle.opcode.specs.Place.{ends}
use Rattle.cut_spec.specs.Cut.{with_immediate}
use Rattle.cut.proofs.shape.with_immediate.Goals as goal

pub returns-then-place-ge-LAST : goal.returns-then-place-ge-LAST
unfolding with_immediate ends
returns-then-place-ge-LAST c = simp (le-leb _ _ c.if-place-ge-LAST.true)

pub returns : goal.returns
unfolding with_immediate ends
returns c = simp (lt-leb _ _ c.if-place-ge-LAST.false)
