-- The decision on a packet that is formed, by the class of its number.
use Prim.Native.Nat.{ℕ}
use mathlib.Core.Path.{◌≡◌, sym, ap}
use mathlib.Core.Bool.{Bool, true, false, cond, true≢false}
use mathlib.Core.List.{List}
use lib.Dec.{eqb}
use Rattle.pair.specs.Calls.{Whole}
use Rattle.sequence.specs.Sequence.{psn_class}
use Rattle.sequence.specs.declared.Class.{Class}
use Rattle.sequence.specs.declared.Class.TheVariants as class
use Rattle.opcode.specs.Service as Service
use Rattle.table.specs.View.{newest_saved}
use Rattle.request_spec.specs.Verdict.{current}
use Rattle.request_spec.specs.declared.Packet.{Packet}
use Rattle.responder_spec.specs.Decide.{ahead_decision, duplicate_decision, region_for, head_entry, decision_by_class, rc_decision, packet_decision}
use Rattle.responder_spec.specs.declared.Decision.{Decision}
use Rattle.execute.specs.Either.{either}

pub formed : (b : Bool) (x y r : Decision) → r ≡ cond b x y → b ≡ false → r ≡ y
formed true x y r e h = absurd (true≢false h)
formed false x y r e h = e

module _ (w : Whole) (p : Packet) where
  abbrev class_at : Bool → Class
  class_at uc = cond uc class.Expected (psn_class p.psn.0 w.pair.expected.0)

  abbrev region : List ℕ
  region = region_for p.kind (current w.pair.message p).key w.regions

  -- on RC
  reliable : (c : Class) → psn_class p.psn.0 w.pair.expected.0 ≡ c
      → decision_by_class c w.pair p (head_entry w.pair w.entries) region (newest_saved p.psn.0 w.saved w.pair.saved) ≡ rc_decision w p
  unfolding rc_decision
  reliable c e = ap (λ x. decision_by_class x w.pair p (head_entry w.pair w.entries) region (newest_saved p.psn.0 w.saved w.pair.saved)) (sym e)

  pub expected : (uc : Bool) → uc ≡ eqb w.pair.setup.service Service.uc → class_at uc ≡ class.Expected
      → either uc p w.pair.setup w.pair.expected w.pair.message w.pair.entries.count (head_entry w.pair w.entries) region ≡ packet_decision w p
  unfolding either packet_decision
  expected true u e = rw (sym u)
  expected false u e = rw (sym u) (reliable class.Expected e)

  -- UC has no other class
  is_expected : Class → Bool
  is_expected class.Expected = true
  is_expected class.Ahead = false
  is_expected class.Duplicate = false

  pub ahead : (uc : Bool) → uc ≡ eqb w.pair.setup.service Service.uc → class_at uc ≡ class.Ahead
      → ahead_decision w.pair.nakmark w.pair.expected ≡ packet_decision w p
  unfolding packet_decision is_expected
  ahead true u e = absurd (true≢false (ap is_expected e))
  ahead false u e = rw (sym u) (reliable class.Ahead e)

  pub duplicate : (uc : Bool) → uc ≡ eqb w.pair.setup.service Service.uc → class_at uc ≡ class.Duplicate
      → duplicate_decision p w.pair.setup w.pair.expected (current w.pair.message p) region (newest_saved p.psn.0 w.saved w.pair.saved) ≡ packet_decision w p
  unfolding packet_decision is_expected
  duplicate true u e = absurd (true≢false (ap is_expected e))
  duplicate false u e = rw (sym u) (reliable class.Duplicate e)
