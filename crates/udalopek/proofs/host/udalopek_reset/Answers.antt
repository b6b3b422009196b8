use Rattle.std.proofs.Common.{ap, ◌∙◌, cond}
use Rattle.pair.specs.Answer.{status_number, executed}
use Rattle.pair.specs.Host.{reset_to, reset_regions}
use Rattle.abi_spec.specs.Pair.{pair_of, pair_words}
use Rattle.udalopek_spec.proofs.Steps.{second, many}
use Rattle.udalopek_spec.proofs.Done.{reset-words}
use Rattle.udalopek_spec.specs.Host.{reset_number, reset_table}
use Rattle.udalopek.proofs.host.udalopek_reset.Goals as goal

pub returns : goal.returns
unfolding reset_number reset_table reset_to
returns c =
    let A = c.args in
    let w = c.in-Some.ensures.cases in
    let l = many A.pair.now w.long in
    let q = c.said.ensures ∙ ap pair_of w.same in
    let e = c.reset.ensures.value ∙ ap reset_to q in
    record {
      value = c.leave.ensures.value ∙ ap (λ o. status_number o.status) e ∙ second _ 34 _ l;
      pair_after =
          c.leave.ensures.words_after
          ∙ (λ i. cond (executed (e i).status) (pair_words (e i).pair) (w.same i))
          ∙ reset-words A.pair.now l;
      regions_after = c.reset.ensures.regions_after ∙ ap (λ x. reset_regions x A.regions.now) q ∙ second _ _ _ l;
    }
