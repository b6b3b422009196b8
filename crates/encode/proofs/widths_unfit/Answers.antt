-- An arm of several cases says which of them it is; that the payload's fields are within their types comes with the
-- argument, by that case.
use Rattle.std.proofs.Common.{◌≡◌, ◌^◌, ◌<◌, inl, inr, refl, true, arith, lt-ltb}
use Rattle.lemmas.proofs.Tests.{not-ltb, and-true}
use Rattle.header.specs.Write.{widths_fit, reth_fits, reth_immediate_fits, immediate_fits, atomic_fits, aeth_fits, aeth_value_fits}
use Rattle.header.specs.declared.Reth.{Reth}
use Rattle.encode.proofs.widths_unfit.Goals as goal

reth : (r : Reth) → r.address < 2 ^ 64 → r.key < 2 ^ 32 → r.length < 2 ^ 32 → reth_fits r ≡ true
unfolding reth_fits
reth r a k n = simp (lt-ltb r.address (2 ^ 64) a, lt-ltb r.key (2 ^ 32) k, lt-ltb r.length (2 ^ 32) n)

pub returns-in-Bare : goal.returns-in-Bare
unfolding widths_fit reth_immediate_fits immediate_fits atomic_fits
returns-in-Bare c =
    elim c.in-Bare.is [
      | inl e ↦ rw e refl
      | inr x ↦ elim x [
        | inl (r, e) ↦
            let k = rw e at c.well_formed.0 in
            rw (e, reth r (omega (arith, k)) (omega (arith, k)) (omega (arith, k))) refl
        | inr y ↦ elim y [
          | inl (r, i, e) ↦
              let k = rw e at c.well_formed.0 in
              rw e (simp (reth r (omega (arith, k)) (omega (arith, k)) (omega (arith, k)), lt-ltb i (2 ^ 32) (omega (arith, k))))
          | inr z ↦ elim z [
            | inl (i, e) ↦ let k = rw e at c.well_formed.0 in rw e (simp (lt-ltb i (2 ^ 32) (omega (arith, k))))
            | inr (a, e) ↦
                let k = rw e at c.well_formed.0 in
                rw e
                (simp (
                  lt-ltb a.address (2 ^ 64) (omega (arith, k)),
                  lt-ltb a.key (2 ^ 32) (omega (arith, k)),
                  lt-ltb a.swap (2 ^ 64) (omega (arith, k)),
                  lt-ltb a.compare (2 ^ 64) (omega (arith, k)),
                ))
          ]
        ]
      ]
    ]

pub returns-in-Acknowledge : goal.returns-in-Acknowledge
unfolding widths_fit aeth_fits aeth_value_fits
returns-in-Acknowledge c =
    let a = c.in-Acknowledge.a in
    elim c.in-Acknowledge.is [
      | inl e ↦
          let k = rw e at c.well_formed.0 in
          rw e (simp (lt-ltb a.syndrome (2 ^ 8) (omega (arith, k)), not-ltb a.msn.0 (2 ^ 24)))
      | inr (v, e) ↦
          let k = rw e at c.well_formed.0 in
          rw e
          (simp (lt-ltb a.syndrome (2 ^ 8) (omega (arith, k)), lt-ltb v (2 ^ 64) (omega (arith, k)), not-ltb a.msn.0 (2 ^ 24), and-true))
    ]
