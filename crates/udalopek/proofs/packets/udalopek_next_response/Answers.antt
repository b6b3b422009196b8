use Rattle.std.proofs.Common.{[], ◌∷◌, ap, ◌∙◌}
use Rattle.pair.specs.Answer.{status_number}
use Rattle.responder_spec.specs.Response.{next_response, next_out}
use Rattle.abi_spec.specs.Pair.{pair_of}
use Rattle.udalopek_spec.proofs.Steps.{second, many}
use Rattle.udalopek_spec.proofs.Done.{done, undone, drained-words, undrained-words}
use Rattle.udalopek_spec.specs.Left.{read_put}
use Rattle.udalopek_spec.specs.Packets.{next_number, next_output, next_report}
use Rattle.udalopek.proofs.packets.udalopek_next_response.Goals as goal

pub returns-else-number-eq0 : goal.returns-else-number-eq0
unfolding next_number next_output next_report next_response
returns-else-number-eq0 c =
    let A = c.args in
    let w = c.in-Some.ensures.cases in
    let l = many A.pair.now w.long in
    let q = c.said.ensures ∙ ap pair_of w.same in
    let e = c.next_response-got.ensures.value ∙ ap (λ x. next_response x A.mem.now A.out.now) q in
    let n = c.from-number.ensures ∙ ap (λ o. status_number o.status) e in
    record {
      value = n ∙ second _ 34 _ l;
      pair_after = w.same ∙ undrained-words A.pair.now l _ _ (undone _ _ n c.if-number-eq0.false);
      out_after = c.next_response-got.ensures.out_after ∙ ap (λ x. next_out x A.mem.now A.out.now) q ∙ second _ _ _ l;
      report_after = ap (λ x. x.outgoing ∷ []) e ∙ second _ _ _ l;
    }

pub returns-then-number-eq0 : goal.returns-then-number-eq0
unfolding next_number next_output next_report next_response
returns-then-number-eq0 c =
    let A = c.args in
    let w = c.in-Some.ensures.cases in
    let l = many A.pair.now w.long in
    let q = c.said.ensures ∙ ap pair_of w.same in
    let e = c.next_response-got.ensures.value ∙ ap (λ x. next_response x A.mem.now A.out.now) q in
    let n = c.from-number.ensures ∙ ap (λ o. status_number o.status) e in
    record {
      value = n ∙ second _ 34 _ l;
      pair_after =
          drained-words A.pair.now l A.mem.now A.out.now (done _ _ n c.if-number-eq0.true) _
          (c.put_read.ensures ∙ (λ i. read_put (w.same i) (e i).pair.read));
      out_after = c.next_response-got.ensures.out_after ∙ ap (λ x. next_out x A.mem.now A.out.now) q ∙ second _ _ _ l;
      report_after = ap (λ x. x.outgoing ∷ []) e ∙ second _ _ _ l;
    }
