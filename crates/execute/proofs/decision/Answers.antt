use Prim.Native.Nat.{◌<◌, ◌^◌}
use mathlib.Core.Path.{sym, ap, subst, ◌∙◌}
use mathlib.Core.Bool.{cond}
use native.Mathlib.Omega.{arith}
use Rattle.responder_spec.specs.Decide.{closed_by, region_for}
use Rattle.execute.specs.Fits.{Executable}
use Rattle.execute.specs.Either.{either}
use Rattle.execute.proofs.Places.{executable, whole, timed}
use Rattle.execute.proofs.Steps.{loses, passed, current-at-check, refuses, executes}
use Rattle.execute.proofs.decision.Goals as goal

pub returns-in-Err : goal.returns-in-Err
returns-in-Err c =
    let A = c.args in
    rw (sym c.unformed.ensures ∙ c.if-unformed.false)
    (c.no_reply-in-Err.ensures
    ∙ loses A.p A.pair.setup A.pair.expected A.pair.message A.pair.entries.count _ _ A.uc c.in-Err.status (sym c.in-Err.is ∙ c.lost.ensures))

pub execute-requires : goal.execute-requires
execute-requires c =
    let A = c.args in let s = A.pair.setup in
    let opened = A.pair.message in let entry = c.entry_at-entry in
    let region = c.key_region-region in let kind = c.open_kind-kind in
    let P =
    passed A.p s A.pair.expected opened A.pair.entries.count entry.result region.result A.uc (sym c.in_default.is ∙ c.lost.ensures)
    c.current-m.result c.current-m.ensures kind.result kind.ensures c.expected_check.result c.expected_check.ensures c.in-Ok.is in
    let memory : s.memory < 2 ^ 64 = omega (arith, c.well_formed.1.0) in
    let stored : c.current-m.result.stored < 2 ^ 64 = omega (arith, c.current-m.type_inv) in
    let length : c.current-m.result.length < 2 ^ 64 = omega (arith, c.current-m.type_inv) in
    let same = c.current-m.ensures ∙ sym (current-at-check A.p s A.pair.expected opened A.pair.entries.count entry.result region.result A.uc) in
    let full = whole A.p s.timer c.unformed.result c.unformed.ensures c.if-unformed.false in
    subst (λ x. Executable A.p x entry.result region.result) (sym same)
    (executable s (cond A.uc (closed_by A.p.place opened) opened) A.p entry.result region.result P memory
    (subst (λ x. x.stored < 2 ^ 64) same stored) (subst (λ x. x.length < 2 ^ 64) same length) full)

pub refused-requires : goal.refused-requires
refused-requires c = timed c.args.p c.args.pair.setup.timer c.unformed.result c.unformed.ensures c.if-unformed.false

pub returns-in-Ok : goal.returns-in-Ok
returns-in-Ok c =
    let A = c.args in let s = A.pair.setup in
    let opened = A.pair.message in let entry = c.entry_at-entry in let region = c.key_region-region in let kind = c.open_kind-kind in
    rw (sym c.unformed.ensures ∙ c.if-unformed.false)
    (c.execute.ensures
    ∙
    (executes A.p s A.pair.expected opened A.pair.entries.count entry.result region.result A.uc (sym c.in_default.is ∙ c.lost.ensures)
    c.current-m.result c.current-m.ensures kind.result kind.ensures c.expected_check.result c.expected_check.ensures c.in-Ok.is
    ∙
    (λ i. either A.uc A.p s A.pair.expected opened A.pair.entries.count (entry.ensures i)
    ((region.ensures ∙ ap (λ x. region_for A.p.kind x.key A.regions.now) c.current-m.ensures) i))))

pub returns-in-Err-expected_check : goal.returns-in-Err-expected_check
returns-in-Err-expected_check c =
    let A = c.args in let s = A.pair.setup in
    let opened = A.pair.message in let entry = c.entry_at-entry in let region = c.key_region-region in let kind = c.open_kind-kind in
    rw (sym c.unformed.ensures ∙ c.if-unformed.false)
    (c.refused.ensures
    ∙
    (refuses A.p s A.pair.expected opened A.pair.entries.count entry.result region.result A.uc (sym c.in_default.is ∙ c.lost.ensures)
    c.current-m.result c.current-m.ensures kind.result kind.ensures c.expected_check.result c.expected_check.ensures
    c.in-Err-expected_check.check c.in-Err-expected_check.is
    ∙
    (λ i. either A.uc A.p s A.pair.expected opened A.pair.entries.count (entry.ensures i)
    ((region.ensures ∙ ap (λ x. region_for A.p.kind x.key A.regions.now) c.current-m.ensures) i))))
