use Rattle.acknowledge.proofs.Steps.{at-start, more}
use Rattle.responder_spec.specs.Reply.{reply_aeth}
use Rattle.memory.specs.Memory.{store}
use Rattle.header.specs.Write.{bth_bytes, aeth_bytes}
use native.Mathlib.Omega.{arith}
use mathlib.Core.Path.{refl, ap, ◌∙◌}
use Rattle.acknowledge.proofs.write_bth_aeth.Goals as goal

pub returns : goal.returns
unfolding bth_bytes aeth_bytes
returns c =
    let A = c.args in
    let eb = c.bth_bytes-b.ensures in
    let ea = c.aeth_bytes-a.ensures in
    let first = c.store.ensures ∙ (ap (store A.out.now 0) eb ∙ at-start A.out.now (bth_bytes A.bth) (omega (arith, c.requires))) in
    more A.out.now (bth_bytes A.bth) (aeth_bytes (reply_aeth A.r)) _ _ 12 first refl (c.store-2.ensures ∙ ap (store _ 12) ea) c.requires
