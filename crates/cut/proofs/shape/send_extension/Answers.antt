use borrow.Author.Tests.{le-leb, lt-leb}
use Rattle.opcode.specs.Place.{ends}
use Rattle.cut_spec.specs.Cut.{send_extension}
use Rattle.cut.proofs.shape.send_extension.Goals as goal

pub returns-then-place-ge-LAST : goal.returns-then-place-ge-LAST
unfolding send_extension ends
returns-then-place-ge-LAST c = simp (le-leb _ _ c.if-place-ge-LAST.true)

pub returns : goal.returns
unfolding send_extension ends
returns c = simp (lt-leb _ _ c.if-place-ge-LAST.false)
