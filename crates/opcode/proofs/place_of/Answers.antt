use borrow.Author.Tests.{eq-eqb, le-ltb, lt-ltb, ne_eqb}
use Rattle.opcode.specs.Opcode.{place_of}
use Rattle.lemmas.proofs.Auto.{tested}
use Rattle.opcode.proofs.place_of.Goals as goal

pub returns-then-low-lt-WRITE : goal.returns-then-low-lt-WRITE
unfolding place_of
returns-then-low-lt-WRITE c = simp (lt-ltb _ _ c.if-low-lt-WRITE.true, ← c.place_in.ensures)

pub returns-then-low-lt-READ : goal.returns-then-low-lt-READ
unfolding place_of
returns-then-low-lt-READ c = simp (tested, c.if-low-lt-WRITE.false, c.if-low-lt-READ.true, ← c.place_in-then-low-lt-READ.ensures)

pub returns-then-low-eq-READ_RESPONSE_FIRST : goal.returns-then-low-eq-READ_RESPONSE_FIRST
unfolding place_of
returns-then-low-eq-READ_RESPONSE_FIRST c = simp (tested, c.if-low-lt-WRITE.false, c.if-low-lt-READ.false, eq-eqb _ _ c.if-low-eq-READ_RESPONSE_FIRST.true)

pub returns-then-low-eq-READ_RESPONSE_MIDDLE : goal.returns-then-low-eq-READ_RESPONSE_MIDDLE
unfolding place_of
returns-then-low-eq-READ_RESPONSE_MIDDLE c =
    simp (le-ltb _ _ c.if-low-lt-WRITE.false, le-ltb _ _ c.if-low-lt-READ.false, ne_eqb _ _ c.if-low-eq-READ_RESPONSE_FIRST.false, eq-eqb _ _ c.if-low-eq-READ_RESPONSE_MIDDLE.true)

pub returns-then-low-eq-READ_RESPONSE_LAST : goal.returns-then-low-eq-READ_RESPONSE_LAST
unfolding place_of
returns-then-low-eq-READ_RESPONSE_LAST c =
    simp (tested, c.if-low-lt-WRITE.false, c.if-low-lt-READ.false, c.if-low-eq-READ_RESPONSE_FIRST.false, c.if-low-eq-READ_RESPONSE_MIDDLE.false, eq-eqb _ _ c.if-low-eq-READ_RESPONSE_LAST.true)

pub returns : goal.returns
unfolding place_of
returns c =
    simp (tested, c.if-low-lt-WRITE.false, c.if-low-lt-READ.false, c.if-low-eq-READ_RESPONSE_FIRST.false, c.if-low-eq-READ_RESPONSE_MIDDLE.false, c.if-low-eq-READ_RESPONSE_LAST.false)
