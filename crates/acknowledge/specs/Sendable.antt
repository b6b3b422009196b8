-- When a reply cannot be sent, and nothing is written. The calls refuse, or have nothing to send, before it comes to that.
use Rattle.std.specs.Prelude.{ℕ, ◌+◌, Bool, cond, not, ◌||◌, eqb, ltb}
use Rattle.opcode.specs.Kind as Kind
use Rattle.pmtu.specs.Pieces.{pmtu_fits}
use Rattle.pair.specs.declared.Setup.{Setup}
use Rattle.responder_spec.specs.declared.Reply.{Reply}
use Rattle.responder_spec.specs.Reply.{ack_length, atomic_ack_length}

-- a response: no PMTU, an output with no room for headers and a PMTU, or bytes that are not all in memory
unfoldable pub unsendable_response : Setup → Reply → ℕ → ℕ → Bool
unsendable_response s r memory room =
    not (pmtu_fits s.pmtu) || (ltb room (ack_length + s.pmtu) || ltb memory (r.offset + r.length))

-- any other: an output with no room for an Atomic Acknowledge
unfoldable pub unsendable : Setup → Reply → ℕ → ℕ → Bool
unsendable s r memory room =
    cond (eqb r.kind Kind.read_response) (unsendable_response s r memory room) (ltb room atomic_ack_length)
