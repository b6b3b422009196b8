use mathlib.Core.Path.{refl}
use Rattle.opcode.specs.Opcode.{reserved_class}
use Rattle.opcode.proofs.reserved_class.Goals as goal

pub returns : goal.returns
unfolding reserved_class
returns c = refl
