use mathlib.Core.Path.{sym, ap, ◌∙◌}
use Rattle.header.specs.Write.{answer_number}
use Rattle.header.proofs.Writes.{handed-on}
use Rattle.cut_spec.proofs.Steps.{refused, range_inside, whole}
use Rattle.cut_spec.proofs.Whole.{cut-numbers}
use Rattle.cut.proofs.cut.Goals as goal

pub returns-in_err-check_cut : goal.returns-in_err-check_cut
returns-in_err-check_cut c =
    let A = c.args in
    let all = refused A.connection A.request A.message.now A.out.now A.first A.index _ (sym c.check_cut.ensures ∙ c.in_err-check_cut.was) in
    let value = handed-on _ _ c.from_residual.ensures.1 ∙ all.0 in
    record { value = value; result_value = ap answer_number value ∙ cut-numbers _ _ _ _ _ _; out_after = all.1 }

pub slice_bounds-write-count : goal.slice_bounds-write-count
slice_bounds-write-count c =
    (range_inside c.args.request _ _ _ _ _ c.carried_length-carried.ensures c.part-part.ensures).0

pub slice_bounds-write-start : goal.slice_bounds-write-start
slice_bounds-write-start c =
    (range_inside c.args.request _ _ _ _ _ c.carried_length-carried.ensures c.part-part.ensures).0

pub slice_bounds-write-end : goal.slice_bounds-write-end
slice_bounds-write-end c =
    (range_inside c.args.request _ _ _ _ _ c.carried_length-carried.ensures c.part-part.ensures).1

pub returns : goal.returns
returns c =
    let A = c.args in
    let all = whole A.connection A.request A.message.now A.out.now A.first A.index _ _ _ _ _ (sym c.check_cut.ensures ∙ c.in_ok-check_cut.was)
    c.header_at-h.ensures c.carried_length-carried.ensures c.part-part.ensures c.write.ensures.value c.write.ensures.out_after in
    record { value = all.0; result_value = ap answer_number all.0 ∙ cut-numbers _ _ _ _ _ _; out_after = all.1 }
