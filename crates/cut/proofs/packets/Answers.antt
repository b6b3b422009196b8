use mathlib.Core.Path.{◌∙◌}
use Rattle.header.specs.Write.{answer_number}
use Rattle.header.proofs.Writes.{told, handed-on}
use Rattle.cut_spec.specs.Message.{packets_answer, packets_of}
use Rattle.cut_spec.proofs.Answers.{count-numbers}
use Rattle.cut.proofs.packets.Goals as goal

pub returns-in_err-check_length : goal.returns-in_err-check_length
unfolding packets_answer
returns-in_err-check_length c =
    let all = told answer_number _ _ _ (count-numbers _ _ _).0 (handed-on _ _ c.from_residual.ensures.1 ∙ simp (← c.message_length-whole.ensures, ← c.check_length.ensures, c.in_err-check_length.was)) in
    record { value = all.0; result_value = all.1 }

pub returns : goal.returns
unfolding packets_answer packets_of
returns c =
    let all = told answer_number _ _ _ (count-numbers _ _ _).0 (simp (← c.message_length-whole.ensures, ← c.check_length.ensures, c.in_ok-check_length.was, ← c.carried_length-carried.ensures, ← c.count.ensures)) in
    record { value = all.0; result_value = all.1 }
