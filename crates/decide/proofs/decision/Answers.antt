use mathlib.Core.Path.{sym, ◌∙◌}
use Rattle.execute.proofs.Places.{whole}
use Rattle.decide.proofs.Formed.{formed, expected, ahead, duplicate}
use Rattle.decide.proofs.decision.Goals as goal

pub returns-then-none : goal.returns-then-none
returns-then-none c =
    simp (← c.unformed-none.ensures, c.if-none.true, ← c.no_reply.ensures)

pub returns-in-Expected : goal.returns-in-Expected
returns-in-Expected c =
    let A = c.args in
    let class = sym c.class_of-class.ensures ∙ c.in-Expected.is in
    simp (← c.unformed-none.ensures, c.if-none.false)
    (formed _ _ _ _ c.decision.ensures (sym c.unformed-none.ensures ∙ c.if-none.false)
    ∙ expected (record { pair = A.pair; regions = A.tables.regions.now; entries = A.tables.entries.now; saved = A.tables.saved.now }) A.p c.unreliable-uc.result c.unreliable-uc.ensures class)

pub returns-in-Ahead : goal.returns-in-Ahead
returns-in-Ahead c =
    let A = c.args in
    let class = sym c.class_of-class.ensures ∙ c.in-Ahead.is in
    simp (← c.unformed-none.ensures, c.if-none.false)
    (c.ahead.ensures ∙ ahead (record { pair = A.pair; regions = A.tables.regions.now; entries = A.tables.entries.now; saved = A.tables.saved.now }) A.p c.unreliable-uc.result c.unreliable-uc.ensures class)

pub returns-in-Duplicate : goal.returns-in-Duplicate
returns-in-Duplicate c =
    let A = c.args in
    let class = sym c.class_of-class.ensures ∙ c.in-Duplicate.is in
    simp (← c.unformed-none.ensures, c.if-none.false)
    (formed _ _ _ _ c.answer.ensures (whole A.p A.pair.setup.timer c.unformed-none.result c.unformed-none.ensures c.if-none.false)
    ∙ duplicate (record { pair = A.pair; regions = A.tables.regions.now; entries = A.tables.entries.now; saved = A.tables.saved.now }) A.p c.unreliable-uc.result c.unreliable-uc.ensures class)
