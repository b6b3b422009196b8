use Rattle.std.proofs.Common.{refl, ap, ◌∙◌}
use Rattle.pair.specs.Answer.{status_number}
use Rattle.responder_spec.specs.Inbound.{inbound}
use Rattle.responder.specs.Unchanged.{outcome_with}
use Rattle.responder.proofs.Steps.{whole}
use Rattle.abi_spec.specs.Pair.{pair_of}
use Rattle.udalopek_spec.proofs.Steps.{second, many}
use Rattle.udalopek_spec.proofs.Left.{left-words}
use Rattle.udalopek_spec.specs.Left.{put_by_number}
use Rattle.udalopek_spec.specs.Packets.{lent, arrival_with, returned, refused_with, returning, words_left, inbound_of, inbound_returned, report_words}
use Rattle.udalopek.proofs.packets.udalopek_inbound.Goals as goal

pub returns : goal.returns
unfolding inbound_returned
returns c =
    let A = c.args in
    let v = c.in-Some.ensures.cases in
    let n = many A.pair.now v.long in
    let q = c.said-q.result in
    let o = c.said-q.ensures ∙ ap pair_of v.same in
    let l = lent A.pair.now A.regions.now A.entries.now A.saved.now A.mem.now A.packet.now A.out.now in
    let d = c.decided-d.result in
    let i = c.decided-d.ensures in
    let next = c.pair_after-next.result in
    let j = c.pair_after-next.ensures in
    let w = c.write_ack-outgoing in
    let r =
    whole (arrival_with l q) d i c.change-value.result c.change-value.ensures.value next j c.reply_with-reply.result c.reply_with-reply.ensures
    _ c.change-value.ensures.mem_after _ c.keep.ensures w.result w.ensures.value _ w.ensures.out_after (outcome_with next d w.result) refl
    ∙ ap (λ x. inbound (arrival_with l x)) o in
    let put = c.put_left.ensures ∙ ap (λ x. put_by_number x next d (status_number d.status)) v.same in
    (λ k. returned
    ((c.from.ensures ∙ ap (λ x. x.number) r) k)
    (left-words l n q o d i next j _ put k)
    (r k).whole.saved (r k).memory (r k).out
    ((c.report_words.ensures ∙ ap (λ x. report_words x.outgoing x.completion) r) k))
    ∙ second _ (refused_with 34 l) (returning (words_left l) (inbound_of l)) n
