use Rattle.opcode.specs.Opcode.{low_class}
use Rattle.opcode.proofs.low_class.Goals as goal

pub returns : goal.returns
unfolding low_class
returns c =
    simp (← c.kind_of-kind.ensures, ← c.place_of-place.ensures, ← c.follows_of-follows.ensures, ← c.length_of-length.ensures)
