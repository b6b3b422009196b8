use mathlib.Core.Path.{◌≡◌, sym, ap, ◌∙◌}
use Rattle.std.specs.Prelude.{Ok, is_ok}
use Rattle.header.specs.Write.{answer_number}
use Rattle.header.proofs.Writes.{handed-on}
use Rattle.packet.proofs.Bytes.{refused, headers, whole}
use Rattle.packet.proofs.Refusals.{packet-numbers}
use Rattle.packet.proofs.write.Goals as goal

pub returns-in_err-size : goal.returns-in_err-size
returns-in_err-size c =
    let A = c.args in
    let all = refused A.h A.payload.now A.out.now _ c.unfit-none.ensures _ c.class-class.ensures _ c.checked_size.ensures _ c.in_err-size.was in
    let value = handed-on _ _ c.from_residual.ensures.1 ∙ all.0 in
    record { value = value; result_value = ap answer_number value ∙ packet-numbers _ _ _; out_after = all.1 }

pub unwrap-headers-requires : goal.unwrap-headers-requires
unwrap-headers-requires c =
    let A = c.args in
    ap is_ok
    (c.write.ensures.value
    ∙ headers A.h A.payload.now A.out.now _ c.unfit-none.ensures _ c.class-class.ensures _ c.checked_size.ensures _ c.in_ok-size.was)

pub returns : goal.returns
returns c =
    let A = c.args in
    let n = headers A.h A.payload.now A.out.now _ c.unfit-none.ensures _ c.class-class.ensures _ c.checked_size.ensures _ c.in_ok-size.was in
    let same : Ok c.unwrap-headers.result ≡ Ok _ = sym c.unwrap-headers.ensures ∙ (c.write.ensures.value ∙ n) in
    let all = whole A.h A.payload.now A.out.now _ c.unfit-none.ensures _ c.class-class.ensures _ c.checked_size.ensures _ c.in_ok-size.was _ (cc) _ _
    c.write.ensures.out_after c.write_payload.ensures in
    record { value = all.0; result_value = ap answer_number all.0 ∙ packet-numbers _ _ _; out_after = all.1 }
