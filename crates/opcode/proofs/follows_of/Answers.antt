use borrow.Author.Tests.{eq-eqb, le-ltb, lt-ltb, ne_eqb}
use Rattle.opcode.specs.Opcode.{follows_of}
use Rattle.lemmas.proofs.Auto.{tested}
use Rattle.opcode.proofs.follows_of.Goals as goal

pub returns-then-low-lt-READ : goal.returns-then-low-lt-READ
unfolding follows_of
returns-then-low-lt-READ c = simp (lt-ltb _ _ c.if-low-lt-READ.true, ← c.send_write_follows.ensures)

pub returns-then-low-eq-READ : goal.returns-then-low-eq-READ
unfolding follows_of
returns-then-low-eq-READ c = simp (le-ltb _ _ c.if-low-lt-READ.false, eq-eqb _ _ c.if-low-eq-READ.true)

pub returns-then-low-eq-READ_RESPONSE_FIRST : goal.returns-then-low-eq-READ_RESPONSE_FIRST
unfolding follows_of
returns-then-low-eq-READ_RESPONSE_FIRST c = simp (le-ltb _ _ c.if-low-lt-READ.false, ne_eqb _ _ c.if-low-eq-READ.false, eq-eqb _ _ c.if-low-eq-READ_RESPONSE_FIRST.true)

pub returns-then-low-eq-READ_RESPONSE_LAST : goal.returns-then-low-eq-READ_RESPONSE_LAST
unfolding follows_of
returns-then-low-eq-READ_RESPONSE_LAST c =
    simp (le-ltb _ _ c.if-low-lt-READ.false, ne_eqb _ _ c.if-low-eq-READ.false, ne_eqb _ _ c.if-low-eq-READ_RESPONSE_FIRST.false, eq-eqb _ _ c.if-low-eq-READ_RESPONSE_LAST.true)

pub returns-then-low-eq-READ_RESPONSE_ONLY : goal.returns-then-low-eq-READ_RESPONSE_ONLY
unfolding follows_of
returns-then-low-eq-READ_RESPONSE_ONLY c =
    simp (le-ltb _ _ c.if-low-lt-READ.false, ne_eqb _ _ c.if-low-eq-READ.false, ne_eqb _ _ c.if-low-eq-READ_RESPONSE_FIRST.false, ne_eqb _ _ c.if-low-eq-READ_RESPONSE_LAST.false, eq-eqb _ _ c.if-low-eq-READ_RESPONSE_ONLY.true)

pub returns-then-low-eq-ACKNOWLEDGE : goal.returns-then-low-eq-ACKNOWLEDGE
unfolding follows_of
returns-then-low-eq-ACKNOWLEDGE c =
    simp (tested, c.if-low-lt-READ.false, c.if-low-eq-READ.false, c.if-low-eq-READ_RESPONSE_FIRST.false, c.if-low-eq-READ_RESPONSE_LAST.false, c.if-low-eq-READ_RESPONSE_ONLY.false, eq-eqb _ _ c.if-low-eq-ACKNOWLEDGE.true)

pub returns-then-low-eq-ATOMIC_ACKNOWLEDGE : goal.returns-then-low-eq-ATOMIC_ACKNOWLEDGE
unfolding follows_of
returns-then-low-eq-ATOMIC_ACKNOWLEDGE c =
    simp (tested, c.if-low-lt-READ.false, c.if-low-eq-READ.false, c.if-low-eq-READ_RESPONSE_FIRST.false, c.if-low-eq-READ_RESPONSE_LAST.false, c.if-low-eq-READ_RESPONSE_ONLY.false, c.if-low-eq-ACKNOWLEDGE.false, eq-eqb _ _ c.if-low-eq-ATOMIC_ACKNOWLEDGE.true)

pub returns-then-low-eq-CMP_SWAP : goal.returns-then-low-eq-CMP_SWAP
unfolding follows_of
returns-then-low-eq-CMP_SWAP c =
    simp (tested, c.if-low-lt-READ.false, c.if-low-eq-READ.false, c.if-low-eq-READ_RESPONSE_FIRST.false, c.if-low-eq-READ_RESPONSE_LAST.false, c.if-low-eq-READ_RESPONSE_ONLY.false, c.if-low-eq-ACKNOWLEDGE.false, c.if-low-eq-ATOMIC_ACKNOWLEDGE.false, eq-eqb _ _ c.if-low-eq-CMP_SWAP.true)

pub returns-then-low-eq-FETCH_ADD : goal.returns-then-low-eq-FETCH_ADD
unfolding follows_of
returns-then-low-eq-FETCH_ADD c =
    simp (tested, c.if-low-lt-READ.false, c.if-low-eq-READ.false, c.if-low-eq-READ_RESPONSE_FIRST.false, c.if-low-eq-READ_RESPONSE_LAST.false, c.if-low-eq-READ_RESPONSE_ONLY.false, c.if-low-eq-ACKNOWLEDGE.false, c.if-low-eq-ATOMIC_ACKNOWLEDGE.false, c.if-low-eq-CMP_SWAP.false, eq-eqb _ _ c.if-low-eq-FETCH_ADD.true)

pub returns : goal.returns
unfolding follows_of
returns c =
    simp (tested, c.if-low-lt-READ.false, c.if-low-eq-READ.false, c.if-low-eq-READ_RESPONSE_FIRST.false, c.if-low-eq-READ_RESPONSE_LAST.false, c.if-low-eq-READ_RESPONSE_ONLY.false, c.if-low-eq-ACKNOWLEDGE.false, c.if-low-eq-ATOMIC_ACKNOWLEDGE.false, c.if-low-eq-CMP_SWAP.false, c.if-low-eq-FETCH_ADD.false)
