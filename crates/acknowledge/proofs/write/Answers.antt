use Rattle.acknowledge.specs.Sendable.{unsendable}
use Rattle.responder_spec.specs.Reply.{reply_bytes}
use borrow.Author.Tests.{eq-eqb, ne_eqb}
use Rattle.acknowledge.proofs.write.Goals as goal

pub returns-then-r-eq-READ_RESPONSE : goal.returns-then-r-eq-READ_RESPONSE
unfolding unsendable reply_bytes
returns-then-r-eq-READ_RESPONSE c =
    let k = eq-eqb _ _ c.if-r-eq-READ_RESPONSE.true in
    record { value = simp k c.write.ensures.value; out_after = simp k c.write.ensures.out_after }

pub returns : goal.returns
unfolding unsendable reply_bytes
returns c =
    let k = ne_eqb _ _ c.if-r-eq-READ_RESPONSE.false in
    record { value = simp k c.write_ack.ensures.value; out_after = simp k c.write_ack.ensures.out_after }
