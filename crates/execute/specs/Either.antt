-- The decision by the rules of either service, in the steps of the code: the request checks and the executing stand
-- once in it.
use Rattle.std.specs.Prelude.{ℕ, Bool, cond, List}
use Rattle.sequence.specs.declared.Psn.{Psn}
use Rattle.pair.specs.declared.Setup.{Setup}
use Rattle.pair.specs.declared.OpenMessage.{OpenMessage}
use Rattle.request_spec.specs.declared.Packet.{Packet}
use Rattle.responder_spec.specs.Decide.{expected_decision, uc_decision}
use Rattle.responder_spec.specs.declared.Decision.{Decision}

unfoldable pub either : Bool → Packet → Setup → Psn → OpenMessage → ℕ → List ℕ → List ℕ → Decision
either uc p s expected opened count entry region =
    cond uc (uc_decision p s expected opened count entry region) (expected_decision p s opened count entry region)
