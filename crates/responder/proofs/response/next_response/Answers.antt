use mathlib.Core.Path.{sym, ◌∙◌}
use Rattle.responder.proofs.Nexts.{refused, outgoing}
use Rattle.responder.proofs.response.next_response.Goals as goal

pub returns-in-Err : goal.returns-in-Err
returns-in-Err c =
    let A = c.args in
    let all = refused A.pair A.mem.now A.out.now c.in-Err.status (sym c.in-Err.is ∙ c.next_refusal.ensures) c.unchanged.result c.unchanged.ensures in
    record { value = all.0; out_after = all.1 }

pub returns : goal.returns
returns c =
    let A = c.args in
    let all = outgoing A.pair A.mem.now A.out.now (sym c.in_default.is ∙ c.next_refusal.ensures)
    _ c.read_reply.ensures _ c.write-outgoing.ensures.value _ c.write-outgoing.ensures.out_after _ c.one_fewer.ensures _ c.responded.ensures in
    record { value = all.0; out_after = all.1 }
