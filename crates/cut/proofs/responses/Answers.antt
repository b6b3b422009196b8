use mathlib.Core.Path.{◌∙◌}
use Rattle.header.specs.Write.{answer_number}
use Rattle.header.proofs.Writes.{told, handed-on}
use Rattle.cut_spec.specs.Message.{responses_answer}
use Rattle.cut_spec.specs.declared.Request.TheVariants.{Send}
use Rattle.cut_spec.proofs.Answers.{count-numbers}
use Rattle.cut.proofs.responses.Goals as goal

pub returns-in_err-check_length : goal.returns-in_err-check_length
unfolding responses_answer
returns-in_err-check_length c =
    let all = told answer_number _ _ _ (count-numbers Send _ _).1 (handed-on _ _ c.from_residual.ensures.1 ∙ simp (← c.check_length.ensures, c.in_err-check_length.was)) in
    record { value = all.0; result_value = all.1 }

pub returns : goal.returns
unfolding responses_answer
returns c =
    let all = told answer_number _ _ _ (count-numbers Send _ _).1 (simp (← c.check_length.ensures, c.in_ok-check_length.was, ← c.count.ensures)) in
    record { value = all.0; result_value = all.1 }
