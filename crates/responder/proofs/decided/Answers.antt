use mathlib.Core.Path.{sym, ◌∙◌}
use Rattle.responder_spec.specs.Arrival.{arriving}
use Rattle.responder.proofs.Steps.{refused, left_at_once, admitted-packet}
use Rattle.responder.proofs.decided.Goals as goal

pub returns-in-Err : goal.returns-in-Err
returns-in-Err c =
    let A = c.args in
    refused (arriving A.pair A.tables.regions.now A.tables.entries.now A.tables.saved.now A.mem.now A.packet.now A.out.now) c.in-Err.status (sym c.in-Err.is ∙ c.refusal.ensures)
    c.no_reply.result c.no_reply.ensures

pub returns-in_default-found : goal.returns-in_default-found
returns-in_default-found c =
    let A = c.args in
    left_at_once (arriving A.pair A.tables.regions.now A.tables.entries.now A.tables.saved.now A.mem.now A.packet.now A.out.now) (sym c.in_default.is ∙ c.refusal.ensures)
    c.admit-found.result c.admit-found.ensures.value _ c.in_default-found.is
    c.no_reply-in_default-found.result c.no_reply-in_default-found.ensures

pub returns : goal.returns
returns c =
    let A = c.args in
    admitted-packet (arriving A.pair A.tables.regions.now A.tables.entries.now A.tables.saved.now A.mem.now A.packet.now A.out.now) (sym c.in_default.is ∙ c.refusal.ensures)
    c.admit-found.result c.admit-found.ensures.value _ c.in-Ok.is c.decision.result c.decision.ensures
