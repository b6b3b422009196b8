use Rattle.acknowledge.proofs.Steps.{acked, none}
use Rattle.responder_spec.specs.Reply.{reply_aeth, over}
use Rattle.header.specs.Write.{bth_bytes, aeth_bytes}
use borrow.Author.Tests.{lt-ltb, le-ltb}
use mathlib.Core.List.{◌++◌}
use mathlib.Core.Path.{sym, ap, ◌∙◌}
use Rattle.acknowledge.proofs.write_ack.Goals as goal

pub returns-then-out-lt-WITH_AETH_ATOMIC_ACK : goal.returns-then-out-lt-WITH_AETH_ATOMIC_ACK
returns-then-out-lt-WITH_AETH_ATOMIC_ACK c = let n = lt-ltb _ _ c.if-out-lt-WITH_AETH_ATOMIC_ACK.true in
    record { value = simp n; out_after = simp n }

pub returns-then-acknowledges : goal.returns-then-acknowledges
returns-then-acknowledges c =
    let A = c.args in
    let first = c.write_bth_aeth.ensures ∙ ap (λ b. over (bth_bytes b ++ aeth_bytes (reply_aeth A.r)) A.out.now) c.reply_bth-bth.ensures in
    let W = acked A.s A.r A.out.now _ _ _ (sym c.acknowledges.ensures ∙ c.if-acknowledges.true) first c.write_value.ensures.value c.write_value.ensures.out_after c.if-out-lt-WITH_AETH_ATOMIC_ACK.false in
    let n = le-ltb _ _ c.if-out-lt-WITH_AETH_ATOMIC_ACK.false in
    record { value = simp n W.0; out_after = simp n W.1 }

pub returns : goal.returns
unfolding over
returns c =
    let A = c.args in
    let z = none A.s A.r (sym c.acknowledges.ensures ∙ c.if-acknowledges.false) in
    let n = le-ltb _ _ c.if-out-lt-WITH_AETH_ATOMIC_ACK.false in
    record { value = simp (n, z); out_after = simp (n, z) }
