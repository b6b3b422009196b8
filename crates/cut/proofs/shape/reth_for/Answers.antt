use mathlib.Core.Path.{refl}
use Rattle.cut_spec.specs.Cut.{reth_for}
use Rattle.cut.proofs.shape.reth_for.Goals as goal

pub returns : goal.returns
unfolding reth_for
returns c = refl
