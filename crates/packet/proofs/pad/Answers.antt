use Rattle.packet.specs.Packet.{pad_of}
use mathlib.Core.Path.{refl}
use Rattle.packet.proofs.pad.Goals as goal

pub returns : goal.returns
unfolding pad_of
returns c = refl
