-- Exactly once, in order: the two runs agree after every list of calls.
use Rattle.sound_laws.proofs.Kept.{inbound-steady, next-steady, post-steady}
use Rattle.delivery_spec.specs.Demand.{Delivery}
use Rattle.delivery_steps.proofs.Runs.{agreeing}

pub delivery : Delivery
delivery = agreeing inbound-steady next-steady post-steady
