use Rattle.responder_spec.specs.Arrival.{arriving}
use Rattle.responder.proofs.Steps.{whole}
use Rattle.responder.proofs.inbound.Goals as goal

pub returns : goal.returns
returns c =
    let A = c.args in
    whole (arriving A.pair A.regions.now A.entries.now A.saved.now A.mem.now A.packet.now A.out.now)
    c.decided-d.result c.decided-d.ensures c.change-value.result c.change-value.ensures.value
    c.pair_after-next.result c.pair_after-next.ensures c.reply_with-reply.result c.reply_with-reply.ensures _ c.change-value.ensures.mem_after _ c.keep.ensures
    c.write_ack-outgoing.result c.write_ack-outgoing.ensures.value _ c.write_ack-outgoing.ensures.out_after c.outcome_with.result c.outcome_with.ensures
