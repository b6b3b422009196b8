use Rattle.udalopek_spec.specs.Cutting.{following_psn}
use Rattle.udalopek.proofs.messages.following_psn.Goals as goal

pub returns-in-Ok : goal.returns-in-Ok
unfolding following_psn
returns-in-Ok c = simp (c.in-Ok.is, ← c.from.ensures)

pub returns-in-Err : goal.returns-in-Err
unfolding following_psn
returns-in-Err c = simp c.in-Err.is
