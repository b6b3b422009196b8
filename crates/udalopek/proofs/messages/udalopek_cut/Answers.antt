use Rattle.std.proofs.Common.{sym, lt-ltb, le-ltb}
use Rattle.udalopek_spec.specs.Cutting.{cut_number, cut_output, cut_words}
use Rattle.udalopek.proofs.messages.udalopek_cut.Goals as goal

pub returns-in_default : goal.returns-in_default
unfolding cut_number cut_output cut_words
returns-in_default c = let t = lt-ltb _ _ c.in_default.ensures in (simp t, simp t, simp t)

pub returns : goal.returns
unfolding cut_number cut_output cut_words
returns c =
    let t = le-ltb _ _ c.in-Some.ensures.0 in
    let r = sym c.in-Some.ensures.1 in (
      simp (t, r, ← c.cut-answer.ensures.value, ← c.refusal_number-number.ensures),
      simp (t, r, ← c.next_psn-next.ensures.value, ← c.cut-answer.ensures.out_after, ← c.cut-answer.ensures.value, ← c.refusal_number-number.ensures, ← c.bytes_written-n.ensures, ← c.following_psn.ensures, ← c.cut_report.ensures),
      simp (t, r, ← c.next_psn-next.ensures.value, ← c.cut-answer.ensures.out_after, ← c.cut-answer.ensures.value, ← c.refusal_number-number.ensures, ← c.bytes_written-n.ensures, ← c.following_psn.ensures, ← c.cut_report.ensures),
    )
