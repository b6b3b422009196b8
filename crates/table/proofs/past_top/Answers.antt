use Rattle.std.proofs.Common.{arith}
use Rattle.table.proofs.Leaves.{rest-past-top}
use Rattle.table.proofs.past_top.Goals as goal

pub returns : goal.returns
returns c = let A = c.args in rest-past-top A.address A.length (omega arith)
