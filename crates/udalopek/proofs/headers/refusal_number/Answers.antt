use Rattle.header.specs.Write.{answer_number}
use Rattle.udalopek.proofs.headers.refusal_number.Goals as goal

pub returns-in-Ok : goal.returns-in-Ok
unfolding answer_number
returns-in-Ok c = simp c.in-Ok.is

pub returns-in-Err : goal.returns-in-Err
unfolding answer_number
returns-in-Err c = simp (c.in-Err.is, ← c.from.ensures)
