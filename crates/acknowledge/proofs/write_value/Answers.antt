use borrow.Author.Tests.{eq-eqb, ne_eqb}
use Rattle.memory.specs.Memory.{store}
use mathlib.Core.Path.{ap, ◌∙◌}
use Rattle.acknowledge.proofs.write_value.Goals as goal

pub returns-then-kind-eq-ATOMIC_ACKNOWLEDGE : goal.returns-then-kind-eq-ATOMIC_ACKNOWLEDGE
returns-then-kind-eq-ATOMIC_ACKNOWLEDGE c =
    let k = eq-eqb _ _ c.if-kind-eq-ATOMIC_ACKNOWLEDGE.true in
    record { value = simp k; out_after = simp k (c.store.ensures ∙ ap (store _ 16) c.value_bytes-v.ensures) }

pub returns : goal.returns
returns c = let k = ne_eqb _ _ c.if-kind-eq-ATOMIC_ACKNOWLEDGE.false in
    record { value = simp k; out_after = simp k }
