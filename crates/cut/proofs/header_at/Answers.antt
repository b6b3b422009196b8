use Rattle.pmtu.proofs.Cuts.{parts_within}
use Rattle.cut_spec.proofs.Steps.{bth-numbers, length-small, header_is}
use Rattle.pmtu.proofs.Cuts.{place-bound}
use Prim.Native.Nat.{◌≤◌}
use mathlib.Core.Path.{sym, subst}
use native.Mathlib.Omega.{arith}
use Rattle.cut.proofs.header_at.Goals as goal

pub low_for-low-requires : goal.low_for-low-requires
low_for-low-requires c = subst (λ x. x ≤ 4) (sym c.place-place.ensures) (place-bound _ _)

pub overflow_sub-part : goal.overflow_sub-part
overflow_sub-part c = subst (λ x. x.start ≤ x.end) (sym c.part-part.ensures) (parts_within _ _ _).0

pub bth_at-bth-requires : goal.bth_at-bth-requires
bth_at-bth-requires c =
    let A = c.args in
    let all = bth-numbers A.connection A.request A.n A.first A.index c.requires _ _ (subst (λ x. x ≤ 4) (sym c.place-place.ensures) (place-bound _ _)) c.low_for-low.ensures in
    record { service_bound = all.0; low_bound = all.1.0; index_lt_space = all.1.1 }

pub overflow_cast-whole : goal.overflow_cast-whole
overflow_cast-whole c =
    let A = c.args in
    omega (arith, length-small A.connection A.request A.n A.first A.index c.requires _ c.message_length-whole.ensures)

pub returns : goal.returns
returns c =
    let A = c.args in
    header_is A.connection A.request A.n A.first A.index _ _ _ _ _ _ _ _ c.carried_length-bytes.ensures c.count-count.ensures c.place-place.ensures
    c.part-part.ensures c.low_for-low.ensures c.bth_at-bth.ensures c.message_length-whole.ensures c.extension_for-extension.ensures
