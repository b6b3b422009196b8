use Rattle.std.proofs.Common.{ap, ◌∙◌, cond}
use Rattle.pair.specs.Answer.{status_number, executed}
use Rattle.abi_spec.specs.Pair.{pair_words}
use Rattle.udalopek_spec.proofs.Steps.{second, many}
use Rattle.udalopek_spec.proofs.Done.{set-up-left}
use Rattle.udalopek_spec.specs.Host.{set_up_number, set_up_table}
use Rattle.udalopek.proofs.host.udalopek_set_up.Goals as goal

pub returns : goal.returns
unfolding set_up_number set_up_table
returns c =
    let A = c.args in
    let w = c.in-Some.ensures.cases in
    let l = many A.pair.now w.long in
    let e = c.set_up.ensures.value in (
      c.leave.ensures.value ∙ ap (λ o. status_number o.status) e ∙ second _ 34 _ l,
      c.leave.ensures.words_after
          ∙ (λ i. cond (executed (e i).status) (pair_words (e i).pair) (w.same i))
          ∙ set-up-left A.pair.now l _,
      c.set_up.ensures.regions_after ∙ second _ _ _ l,
    )
