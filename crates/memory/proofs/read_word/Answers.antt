use Rattle.std.proofs.Common.{◌≡◌, ◌+◌, ◌≤◌, length, take, drop, sym, ap, ◌∙◌, arith, length-take, length-drop, take-take}
use Rattle.memory.specs.Word.{low_number}
use Rattle.memory.proofs.Words.{word_in, word_out, part_length, from_bytes}
use Rattle.memory.proofs.read_word.Goals as goal

pub returns-then-mem-at : goal.returns-then-mem-at
returns-then-mem-at c = sym (word_out c.args.mem.now c.args.at (omega arith))

pub returns-in_default : goal.returns-in_default
returns-in_default c =
    sym (word_out c.args.mem.now c.args.at (omega (arith, simp (length-take, length-drop) at c.in_default.ensures.cases)))

pub returns : goal.returns
returns c =
    let m = c.args.mem.now in
    let at = c.args.at in
    let found = c.in-Some.ensures.cases in
    let fits : at + 8 ≤ length m = omega (arith, simp (length-take, length-drop) at found.enough) in
    let same : c.in-Some.word.now ≡ take 8 (drop at m) = found.same ∙ take-take 8 _ (drop at m) (omega arith) in
    c.from_le_bytes.ensures
    ∙ (from_bytes c.in-Some.word.now (ap length same ∙ part_length m at 8 fits) ∙ (ap low_number same ∙ sym (word_in m at fits)))
