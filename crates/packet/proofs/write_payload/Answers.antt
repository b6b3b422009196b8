use Prim.Native.Nat.{◌+◌}
use mathlib.Core.Path.{sym, ◌∙◌}
use lib.ListN.{length, replicate}
use Rattle.memory.specs.Memory.{store}
use native.Mathlib.Omega.{arith}
use Rattle.packet.proofs.Pads.{pad-small}
use Rattle.packet.proofs.Bytes.{payload-left-out}
use Rattle.packet.specs.Packet.{payload_out}
use Rattle.packet.proofs.write_payload.Goals as goal

pub returns-then-out-at : goal.returns-then-out-at
returns-then-out-at c =
    let A = c.args in
    sym (payload-left-out A.out.now A.payload.now A.at (omega (arith, c.if-out-at.true)))

pub returns-then-out-at-2 : goal.returns-then-out-at-2
returns-then-out-at-2 c =
    let A = c.args in
    sym (payload-left-out A.out.now A.payload.now A.at (omega (arith, c.if-out-at.false, c.if-out-at-2.true)))

pub write_pad-requires : goal.write_pad-requires
write_pad-requires c =
    let A = c.args in
    omega (arith, c.pad-own.ensures, pad-small (length A.payload.now))

pub returns : goal.returns
unfolding payload_out
returns c =
    let A = c.args in
    c.write_pad.ensures ∙ (λ i. store (c.store.ensures i) (A.at + length A.payload.now) (replicate (c.pad-own.ensures i) 0))
