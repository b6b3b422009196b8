use native.Mathlib.Nat.{div-div-eq-div-mul}
use Rattle.header.specs.Write.{atomic_bytes}
use Rattle.wire.proofs.atomic_bytes.Goals as goal

pub returns : goal.returns
unfolding atomic_bytes
returns c =
    simp (
      c.copy_from_slice.ensures.after,
      c.copy_from_slice-2.ensures.after,
      c.copy_from_slice-3.ensures.after,
      c.copy_from_slice-4.ensures.after,
      c.to_be_bytes.ensures,
      c.to_be_bytes-2.ensures,
      c.to_be_bytes-3.ensures,
      c.to_be_bytes-4.ensures,
      div-div-eq-div-mul,
    )
