use Rattle.acknowledge.proofs.Steps.{at-start, head-length, middle, others}
use Rattle.responder_spec.specs.Reply.{reply_bth, response_header, over}
use Rattle.pmtu.proofs.Cuts.{place-bound}
use Rattle.pmtu.specs.Pieces.{place_at}
use Rattle.memory.specs.Memory.{store}
use Rattle.header.specs.Write.{bth_bytes, aeth_bytes, header_bytes}
use lib.ListN.{length}
use native.Mathlib.Omega.{arith}
use mathlib.Core.Path.{sym, subst, ap, ◌∙◌}
use Prim.Native.Nat.{◌≤◌}
use Rattle.acknowledge.proofs.response.write_headers.Goals as goal

pub response_opcode-low-requires : goal.response_opcode-low-requires
response_opcode-low-requires c = subst (λ x. x ≤ 4) (sym c.place-place.ensures) (place-bound _ _)

pub returns-then-place-eq-MIDDLE : goal.returns-then-place-eq-MIDDLE
unfolding bth_bytes
returns-then-place-eq-MIDDLE c =
    let A = c.args in
    let at = c.place-place.ensures ∙ ap (λ k. place_at k A.i) c.count-count.ensures in
    let bth = c.reply_bth-bth.ensures ∙ (λ z. reply_bth A.s (c.response_opcode-low.ensures z) (c.pad-padcnt.ensures z) (c.after-psn.ensures z)) in
    let same = middle A.s A.r A.i A.n _ at _ bth c.if-place-eq-MIDDLE.true in
    let first = c.store.ensures ∙ (ap (store A.out.now 0) (c.bth_bytes-b.ensures ∙ same) ∙ at-start A.out.now (header_bytes (response_header A.s A.r A.i A.n)) (omega (arith, c.requires, head-length A.s A.r A.i A.n))) in
    record { value = ap length same; out_after = first }

pub returns : goal.returns
unfolding bth_bytes aeth_bytes
returns c =
    let A = c.args in
    let at = c.place-place.ensures ∙ ap (λ k. place_at k A.i) c.count-count.ensures in
    let bth = c.reply_bth-bth.ensures ∙ (λ z. reply_bth A.s (c.response_opcode-low.ensures z) (c.pad-padcnt.ensures z) (c.after-psn.ensures z)) in
    let same = others A.s A.r A.i A.n _ at _ bth c.if-place-eq-MIDDLE.false in
    record { value = ap length same; out_after = c.write_bth_aeth.ensures ∙ ap (λ x. over x A.out.now) same }
