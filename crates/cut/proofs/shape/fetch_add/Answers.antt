use mathlib.Core.Path.{refl}
use Rattle.cut_spec.specs.Cut.{fetch_add_eth}
use Rattle.cut.proofs.shape.fetch_add.Goals as goal

pub returns : goal.returns
unfolding fetch_add_eth
returns c = refl
