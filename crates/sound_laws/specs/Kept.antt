-- That the responder's calls keep a sound pair sound; the proofs stand in proofs/.
use Rattle.std.specs.Prelude.{ℕ, ◌≤◌, ◌<◌, ◌^◌, ◌≡◌, List}
use Rattle.responder_spec.specs.Arrival.{Arrival}
use Rattle.responder_spec.specs.Inbound.{inbound}
use Rattle.header.specs.Bytes.{Bytes}
use Rattle.pair.specs.Calls.{Whole}
use Rattle.pair.specs.Claims.{WholeSound}
use Rattle.responder_spec.specs.Calls.{drained}

-- Bytes in memory and in packets are bytes; then all that calls made stays as calls make it.
abbrev pub InboundSound : Type 0
InboundSound = (a : Arrival) → Bytes a.memory → Bytes a.packet → WholeSound a.whole → WholeSound (inbound a).whole

abbrev pub NextSound : Type 0
NextSound = (w : Whole) (m out : List ℕ) → WholeSound w → WholeSound (drained w m out)
