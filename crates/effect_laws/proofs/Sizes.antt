-- Memory and output keep their lengths.
use Prim.Native.Nat.{ℕ, ◌-◌, ◌≤◌}
use mathlib.Core.Path.{◌≡◌, refl}
use mathlib.Core.Bool.{Bool, true, false}
use mathlib.Core.List.{List}
use native.Mathlib.Omega.{arith}
use lib.Dec.{eqb}
use lib.ListN.{length, drop, length-append, length-drop}
use Rattle.responder_spec.specs.Arrival.{Arrival}
use Rattle.responder_spec.specs.Decide.{refusal_of}
use Rattle.header.specs.Write.{bth_bytes, aeth_bytes, extension_bytes, header_bytes}
use Rattle.memory.proofs.Overwrite.{length-store}
use Rattle.memory.proofs.Words.{fetch-within, swap-within}
use Rattle.pair.specs.Answer.{executed}
use Rattle.responder_spec.specs.declared.Change.{Change}
use Rattle.responder_spec.specs.declared.Decision.{Decision}
use Rattle.responder_spec.specs.Decide.{no_reply, decision}
use Rattle.responder_spec.specs.Apply.{memory_by}
use Rattle.responder_spec.specs.Reply.{reply_header, ack_header, atomic_header, ack_bytes, over}
use Rattle.responder_spec.specs.Inbound.{sent_by, left_by, inbound}
use Rattle.effect_laws.specs.Effects.{InboundLengths}
use Rattle.decision_laws.proofs.Rows.{either, passed}

memory_kept : (c : Change) (m p : List ℕ) → length (memory_by c m p) ≡ length m
unfolding memory_by
memory_kept c m p =
    let same : List ℕ → Type 0 = λ x. length x ≡ length m in
    either same (eqb c.act 1) (length-store m c.at _)
    (either same (eqb c.act 2) (fetch-within m c.at c.swap).kept
    (either same (eqb c.act 3) (swap-within m c.at c.compare c.swap).kept refl))

-- a packet within the output leaves its length
pub over-kept : (packet out : List ℕ) → length packet ≤ length out → length (over packet out) ≡ length out
unfolding over
over-kept packet out h =
    omega (arith, length-append packet (drop (length packet) out), length-drop (length packet) out)

-- no answer of the call itself is longer than an Atomic Acknowledge
sent-short : (a : Arrival) (d : Decision) → length (sent_by a d) ≤ 24
unfolding sent_by ack_bytes ack_header atomic_header reply_header header_bytes bth_bytes extension_bytes aeth_bytes
sent-short a d =
    let most : List ℕ → Type 0 = λ x. length x ≤ 24 in
    either most (eqb d.reply.kind 17) (omega arith) (either most (eqb d.reply.kind 18) (omega arith) (omega arith))

nothing : (a : Arrival) → executed (refusal_of a) ≡ false → length (sent_by a (decision a)) ≡ 0
unfolding decision no_reply sent_by ack_bytes
nothing a e = rw e

-- the output has 24 bytes, or nothing is written
out-kept : (a : Arrival) → length (over (sent_by a (decision a)) a.out) ≡ length a.out
out-kept a = go (executed (refusal_of a)) refl
  where
    go : (b : Bool) → executed (refusal_of a) ≡ b → length (over (sent_by a (decision a)) a.out) ≡ length a.out
    go true e =
        let r : 24 ≤ length a.out = (passed a.whole.pair (length a.memory) (length a.out) e).0 in
        over-kept (sent_by a (decision a)) a.out (omega (arith, sent-short a (decision a)))
    go false e = over-kept (sent_by a (decision a)) a.out (omega (arith, nothing a e))

pub inbound-lengths : InboundLengths
unfolding inbound left_by decision
inbound-lengths a = (memory_kept (decision a).change a.memory a.packet, out-kept a)
