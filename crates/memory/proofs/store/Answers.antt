use Rattle.std.proofs.Common.{◌+◌, ◌-◌, ◌≤◌, length, sym, refl, ap, ◌∙◌, arith}
use borrow.Rule.Slice.PartMut.{put_mid}
use Rattle.memory.proofs.Overwrite.{store-past, store-overwrite, copied}
use Rattle.memory.proofs.store.Goals as goal

pub returns-then-mem-at : goal.returns-then-mem-at
returns-then-mem-at c =
    let A = c.args in
    sym (store-past A.mem.now A.at A.payload.now (omega arith))

pub returns-then-mem-at-2 : goal.returns-then-mem-at-2
returns-then-mem-at-2 c =
    let A = c.args in
    sym (store-past A.mem.now A.at A.payload.now (omega arith))

pub returns : goal.returns
returns c =
    let A = c.args in
    let h : A.at + length A.payload.now ≤ length A.mem.now = omega arith in
    ap (put_mid A.at (A.at + length A.payload.now - A.at) A.mem.now) c.copy_from_slice.ensures.after
    ∙ (copied A.mem.now A.payload.now A.at (A.at + length A.payload.now) refl
    ∙ sym (store-overwrite A.mem.now A.at A.payload.now h))
