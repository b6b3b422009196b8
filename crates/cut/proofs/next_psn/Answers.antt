use mathlib.Core.Path.{◌∙◌}
use borrow.Author.Tests.{le-leb, lt-leb}
use Rattle.header.specs.Write.{answer_number}
use Rattle.header.proofs.Writes.{told, handed-on}
use Rattle.cut_spec.specs.Next.{next_answer, check_next, next_psn, psns_of}
use Rattle.cut_spec.proofs.Answers.{next-numbers}
use Rattle.cut.proofs.next_psn.Goals as goal

pub returns-then-first-ge-SPACE : goal.returns-then-first-ge-SPACE
unfolding next_answer check_next
returns-then-first-ge-SPACE c =
    let all = told answer_number _ _ _ (next-numbers _ _ _ _) (simp (le-leb _ _ c.if-first-ge-SPACE.true)) in
    record { value = all.0; result_value = all.1 }

pub returns-in_err-check_length : goal.returns-in_err-check_length
unfolding next_answer check_next
returns-in_err-check_length c =
    let all = told answer_number _ _ _ (next-numbers _ _ _ _) (handed-on _ _ c.from_residual.ensures.1 ∙ simp (lt-leb _ _ c.if-first-ge-SPACE.false, ← c.message_length-whole.ensures, ← c.check_length.ensures, c.in_err-check_length.was)) in
    record { value = all.0; result_value = all.1 }

pub returns : goal.returns
unfolding next_answer check_next next_psn psns_of
returns c =
    let all = told answer_number _ _ _ (next-numbers _ _ _ _) (simp (lt-leb _ _ c.if-first-ge-SPACE.false, ← c.message_length-whole.ensures, ← c.check_length.ensures, c.in_ok-check_length.was, ← c.count-count.ensures, ← c.after.ensures)) in
    record { value = all.0; result_value = all.1 }
