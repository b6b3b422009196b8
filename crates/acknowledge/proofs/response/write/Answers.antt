use Rattle.acknowledge.proofs.Steps.{head-length}
use Rattle.pmtu.proofs.Counting.{pmtus, bounds}
use Prim.Native.Nat.{◌-◌, ◌<◌, ◌^◌}
use Rattle.acknowledge.proofs.Steps.{sendable, inside, short, written}
use lib.ListN.{length}
use native.Mathlib.Omega.{arith}
use mathlib.Core.Path.{refl, sym, ◌∙◌}
use borrow.Author.Rules.{rules}
use Rattle.acknowledge.proofs.response.write.Goals as goal

pub returns-then-unsendable_response : goal.returns-then-unsendable_response
returns-then-unsendable_response c = record { value = simp (← c.unsendable_response.ensures, c.if-unsendable_response.true); out_after = simp (← c.unsendable_response.ensures, c.if-unsendable_response.true) }

pub overflow_add-from : goal.overflow_add-from
overflow_add-from c =
    let A = c.args in
    let S = sendable A.s A.r (length A.mem.now) (length A.out.now) (sym c.unsendable_response.ensures ∙ c.if-unsendable_response.false) in
    let I = inside A.s A.r A.mem.now A.out.now S _ c.index_of-i.ensures _ c.part-part.ensures in
    let B : length A.mem.now < 2 ^ 64 = search rules in
    omega (arith, I.0, I.1, B)

pub overflow_add-to : goal.overflow_add-to
overflow_add-to c =
    let A = c.args in
    let S = sendable A.s A.r (length A.mem.now) (length A.out.now) (sym c.unsendable_response.ensures ∙ c.if-unsendable_response.false) in
    let I = inside A.s A.r A.mem.now A.out.now S _ c.index_of-i.ensures _ c.part-part.ensures in
    let B : length A.mem.now < 2 ^ 64 = c.well_formed.1.1.1.0.0 in
    omega (arith, I.0, I.1, B)

pub overflow_sub-n : goal.overflow_sub-n
overflow_sub-n c =
    let A = c.args in
    let S = sendable A.s A.r (length A.mem.now) (length A.out.now) (sym c.unsendable_response.ensures ∙ c.if-unsendable_response.false) in
    let I = inside A.s A.r A.mem.now A.out.now S _ c.index_of-i.ensures _ c.part-part.ensures in
    I.0

pub write_headers-headers-requires : goal.write_headers-headers-requires
write_headers-headers-requires c =
    let A = c.args in
    let S = sendable A.s A.r (length A.mem.now) (length A.out.now) (sym c.unsendable_response.ensures ∙ c.if-unsendable_response.false) in
    omega (arith, S.output)

pub slice_bounds-write_payload-count : goal.slice_bounds-write_payload-count
slice_bounds-write_payload-count c =
    let A = c.args in
    let S = sendable A.s A.r (length A.mem.now) (length A.out.now) (sym c.unsendable_response.ensures ∙ c.if-unsendable_response.false) in
    let I = inside A.s A.r A.mem.now A.out.now S _ c.index_of-i.ensures _ c.part-part.ensures in
    omega (arith, I.0)

pub slice_bounds-write_payload-start : goal.slice_bounds-write_payload-start
slice_bounds-write_payload-start c =
    let A = c.args in
    let S = sendable A.s A.r (length A.mem.now) (length A.out.now) (sym c.unsendable_response.ensures ∙ c.if-unsendable_response.false) in
    let I = inside A.s A.r A.mem.now A.out.now S _ c.index_of-i.ensures _ c.part-part.ensures in
    omega (arith, I.0)

pub slice_bounds-write_payload-end : goal.slice_bounds-write_payload-end
slice_bounds-write_payload-end c =
    let A = c.args in
    let S = sendable A.s A.r (length A.mem.now) (length A.out.now) (sym c.unsendable_response.ensures ∙ c.if-unsendable_response.false) in
    let I = inside A.s A.r A.mem.now A.out.now S _ c.index_of-i.ensures _ c.part-part.ensures in
    omega (arith, I.1)

pub overflow_add-result : goal.overflow_add-result
overflow_add-result c =
    let A = c.args in
    let S = sendable A.s A.r (length A.mem.now) (length A.out.now) (sym c.unsendable_response.ensures ∙ c.if-unsendable_response.false) in
    let H = short A.s A.r A.mem.now A.out.now S _ c.index_of-i.ensures _ c.part-part.ensures in
    let B = bounds A.s.pmtu ((pmtus A.s.pmtu).0 S.fits) in
    omega (arith, H, B.1, c.write_headers-headers.ensures.value, head-length A.s A.r c.index_of-i.result (c.part-part.result.end - c.part-part.result.start))

pub overflow_add-result-2 : goal.overflow_add-result-2
overflow_add-result-2 c =
    let A = c.args in
    let S = sendable A.s A.r (length A.mem.now) (length A.out.now) (sym c.unsendable_response.ensures ∙ c.if-unsendable_response.false) in
    let H = short A.s A.r A.mem.now A.out.now S _ c.index_of-i.ensures _ c.part-part.ensures in
    let B = bounds A.s.pmtu ((pmtus A.s.pmtu).0 S.fits) in
    omega (arith, H, B.1, c.pad-padcnt.ensures, c.write_headers-headers.ensures.value, head-length A.s A.r c.index_of-i.result (c.part-part.result.end - c.part-part.result.start))

pub returns : goal.returns
returns c =
    let A = c.args in
    let S = sendable A.s A.r (length A.mem.now) (length A.out.now) (sym c.unsendable_response.ensures ∙ c.if-unsendable_response.false) in
    let W = written A.s A.r A.mem.now A.out.now S _ c.index_of-i.ensures _ c.part-part.ensures _ refl _ c.write_headers-headers.ensures.value _ c.write_headers-headers.ensures.out_after _ c.write_payload.ensures _ c.pad-padcnt.ensures in
    record {
      value = simp (← c.unsendable_response.ensures, c.if-unsendable_response.false) W.0;
      out_after = simp (← c.unsendable_response.ensures, c.if-unsendable_response.false) W.1;
    }
