use Rattle.std.proofs.Common.{ap, ◌∙◌, cond}
use Rattle.pair.specs.Answer.{status_number, executed}
use Rattle.pair.specs.Host.{made_ready}
use Rattle.abi_spec.specs.Pair.{pair_of, pair_words}
use Rattle.udalopek_spec.proofs.Steps.{second, many}
use Rattle.udalopek_spec.proofs.Done.{ready_words_lem}
use Rattle.udalopek_spec.specs.Host.{ready_number}
use Rattle.udalopek.proofs.host.udalopek_make_ready.Goals as goal

pub returns : goal.returns
unfolding ready_number made_ready
returns c =
    let A = c.args in
    let w = c.in-Some.ensures.cases in
    let l = many A.pair.now w.long in
    let e = c.make_ready.ensures ∙ ap made_ready (c.said.ensures ∙ ap pair_of w.same) in
    record {
      value = c.leave.ensures.value ∙ ap (λ o. status_number o.status) e ∙ second _ 34 _ l;
      pair_after =
          c.leave.ensures.words_after
          ∙ (λ i. cond (executed (e i).status) (pair_words (e i).pair) (w.same i))
          ∙ ready_words_lem A.pair.now l;
    }
