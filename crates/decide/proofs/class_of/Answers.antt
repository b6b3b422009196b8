use Rattle.decide.proofs.class_of.Goals as goal

pub returns : goal.returns
returns c = simp (c.if-uc.false, ← c.class.ensures)
