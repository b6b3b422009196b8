use Rattle.udalopek_spec.specs.Headers.{write_number, write_output, write_report}
use Rattle.udalopek.proofs.headers.udalopek_write_header.Goals as goal

pub returns-then-own_words : goal.returns-then-own_words
unfolding write_number write_output write_report
returns-then-own_words c =
    record {
      value = simp (← c.own_words.ensures, c.if-own_words.true, ← c.bth_from-b.ensures, ← c.extension_from-e.ensures, ← c.write-answer.ensures.value, ← c.refusal_number.ensures);
      out_after = simp (← c.own_words.ensures, c.if-own_words.true, ← c.bth_from-b.ensures, ← c.extension_from-e.ensures, ← c.write-answer.ensures.out_after, ← c.write-answer.ensures.value, ← c.bytes_written.ensures);
      report_after = simp (← c.own_words.ensures, c.if-own_words.true, ← c.bth_from-b.ensures, ← c.extension_from-e.ensures, ← c.write-answer.ensures.out_after, ← c.write-answer.ensures.value, ← c.bytes_written.ensures);
    }

pub returns : goal.returns
unfolding write_number write_output write_report
returns c =
    record {
      value = simp (← c.own_words.ensures, c.if-own_words.false);
      out_after = simp (← c.own_words.ensures, c.if-own_words.false);
      report_after = simp (← c.own_words.ensures, c.if-own_words.false);
    }
