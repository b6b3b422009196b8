use mathlib.Core.Path.{ap, ◌∙◌}
use Rattle.header.specs.Write.{answer_number}
use Rattle.header.proofs.Writes.{write-numbers}
use Rattle.encode.proofs.Steps.{by-fields, by_length, room, whole}
use Rattle.encode.proofs.write.Goals as goal

pub returns-then-unfit : goal.returns-then-unfit
returns-then-unfit c =
    let all = by-fields c.args.h c.args.out.now _ c.unfit.ensures c.if-unfit.true in
    record { value = all.0; result_value = ap answer_number all.0 ∙ write-numbers _ _; out_after = all.1 }

pub returns-then-out-class : goal.returns-then-out-class
returns-then-out-class c =
    let all = by_length c.args.h c.args.out.now _ c.unfit.ensures c.if-unfit.false _ c.class-class.ensures c.if-out-class.true in
    record { value = all.0; result_value = ap answer_number all.0 ∙ write-numbers _ _; out_after = all.1 }

pub write_extension-requires : goal.write_extension-requires
write_extension-requires c =
    room c.args.h c.args.out.now _ c.unfit.ensures c.if-unfit.false _ c.class-class.ensures _ _ c.if-out-class.false c.store.ensures

pub returns : goal.returns
returns c =
    let all = whole c.args.h c.args.out.now _ c.unfit.ensures c.if-unfit.false _ c.class-class.ensures _ _ _ c.if-out-class.false c.bth_bytes-b.ensures
    c.store.ensures c.write_extension.ensures in
    record { value = all.0; result_value = ap answer_number all.0 ∙ write-numbers _ _; out_after = all.1 }
