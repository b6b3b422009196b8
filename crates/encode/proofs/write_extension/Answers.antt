use Prim.Native.Nat.{◌+◌}
use mathlib.Core.Path.{sym, ap, ◌∙◌}
use mathlib.Core.List.{◌++◌}
use lib.ListN.{length}
use Rattle.header.specs.Write.{extension_bytes, reth_bytes, aeth_bytes}
use Rattle.encode.proofs.Steps.{in_two}
use Rattle.encode.proofs.write_extension.Goals as goal

pub returns-in-RemoteImmediate : goal.returns-in-RemoteImmediate
unfolding extension_bytes reth_bytes
returns-in-RemoteImmediate c =
    let A = c.args in
    let eb = c.reth_bytes-in-RemoteImmediate.ensures in
    let ec = c.immediate_bytes.ensures in
    in_two A.out.now _ _ _ _ A.e 28 (ap extension_bytes c.in-RemoteImmediate.is ∙ (λ i. sym eb i ++ sym ec i)) (ap (λ z. 12 + length z) eb)
    c.requires c.store-in-RemoteImmediate.ensures c.store-in-RemoteImmediate-2.ensures

pub returns-in-AtomicAcknowledge : goal.returns-in-AtomicAcknowledge
unfolding extension_bytes aeth_bytes
returns-in-AtomicAcknowledge c =
    let A = c.args in
    let eb = c.aeth_bytes-in-AtomicAcknowledge.ensures in
    let ec = c.value_bytes.ensures in
    in_two A.out.now _ _ _ _ A.e 16 (ap extension_bytes c.in-AtomicAcknowledge.is ∙ (λ i. sym eb i ++ sym ec i)) (ap (λ z. 12 + length z) eb)
    c.requires c.store-in-AtomicAcknowledge.ensures c.store-in-AtomicAcknowledge-2.ensures
