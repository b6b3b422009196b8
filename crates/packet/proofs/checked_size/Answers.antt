use Prim.Native.Nat.{◌+◌}
use native.Mathlib.Omega.{arith}
use borrow.Author.Tests.{eq-eqb, le-ltb, lt-ltb, ne_eqb}
use Rattle.packet.specs.Packet.{checked_size}
use Rattle.lemmas.proofs.Auto.{tested}
use Rattle.packet.proofs.checked_size.Goals as goal

pub returns-then-unfit : goal.returns-then-unfit
unfolding checked_size
returns-then-unfit c = simp c.if-unfit.true

pub returns-then-padcnt-own : goal.returns-then-padcnt-own
unfolding checked_size
returns-then-padcnt-own c = simp (c.if-unfit.false, ← c.pad-own.ensures, ne_eqb _ _ c.if-padcnt-own.true)

pub returns-then-headers-gt-PACKET_LIMIT : goal.returns-then-headers-gt-PACKET_LIMIT
unfolding checked_size
returns-then-headers-gt-PACKET_LIMIT c =
    let A = c.args in
    let fact = lt-ltb 4128 (A.headers + (A.n + c.pad-own.result)) (omega arith) in
    simp (c.if-unfit.false, ← c.pad-own.ensures, eq-eqb _ _ c.if-padcnt-own.false, fact)

pub returns-then-n-gt-PACKET_LIMIT : goal.returns-then-n-gt-PACKET_LIMIT
unfolding checked_size
returns-then-n-gt-PACKET_LIMIT c =
    let A = c.args in
    let fact = lt-ltb 4128 (A.headers + (A.n + c.pad-own.result)) (omega arith) in
    simp (c.if-unfit.false, ← c.pad-own.ensures, eq-eqb _ _ c.if-padcnt-own.false, fact)

pub returns-then-size-gt-PACKET_LIMIT : goal.returns-then-size-gt-PACKET_LIMIT
unfolding checked_size
returns-then-size-gt-PACKET_LIMIT c =
    simp (tested, c.if-unfit.false, ← c.pad-own.ensures, eq-eqb _ _ c.if-padcnt-own.false, c.if-size-gt-PACKET_LIMIT.true)

pub returns-then-room-size : goal.returns-then-room-size
unfolding checked_size
returns-then-room-size c =
    simp (c.if-unfit.false, ← c.pad-own.ensures, eq-eqb _ _ c.if-padcnt-own.false, le-ltb _ _ c.if-size-gt-PACKET_LIMIT.false, lt-ltb _ _ c.if-room-size.true)

pub returns : goal.returns
unfolding checked_size
returns c =
    simp (c.if-unfit.false, ← c.pad-own.ensures, eq-eqb _ _ c.if-padcnt-own.false, le-ltb _ _ c.if-size-gt-PACKET_LIMIT.false, le-ltb _ _ c.if-room-size.false)
