-- Each answer of a call that is not refused has its reason, on the unreliable connection.
use Prim.Native.Nat.{ℕ, ◌%◌, ◌≤◌}
use mathlib.Core.Path.{◌≡◌, refl, sym, subst}
use mathlib.Core.Bool.{Bool, true, false}
use mathlib.Core.Logic.{inl, inr}
use native.Mathlib.Omega.{arith}
use lib.Dec.{eqb}
use borrow.Author.Tests.{eqb-true, eqb-false}
use Rattle.responder_spec.specs.Arrival.{Arrival}
use Rattle.header.specs.Read.{bth_of, header_of}
use Rattle.header.specs.Check.{header_checks, admitted}
use Rattle.header.specs.declared.Reason.{Reason}
use Rattle.header.specs.declared.Header.{Header}
use Rattle.std.specs.Prelude.{Result, Ok, Err}
use Rattle.header.proofs.Reasons.{accepted-by}
use Rattle.pair.specs.declared.OpenMessage.{OpenMessage}
use Rattle.request_spec.specs.Packet.{packet_of}
use Rattle.request_spec.specs.Claims.{GoesOn, Place, Carries}
use Rattle.request_spec.proofs.Taken.{any_place}
use Rattle.request_spec.specs.declared.Packet.{Packet}
use Rattle.responder_spec.specs.Inbound.{inbound}
use Rattle.answer_laws.specs.Answers.{header_by}
use Rattle.request_spec.specs.Packet.{packet_in}
use Rattle.answer_laws.specs.Unreliable.{Strays, CheckedUnder, Fails, UcChecked, UcComes, UcExamined, UcCause, UcReason}
use Rattle.answer_laws.specs.Unreliable.CheckedUnder.{begins, onward}
use Rattle.answer_laws.specs.Unreliable.UcCause.{unread, orphan, stray, dropped, closed, outside, executed}
use Rattle.answer_laws.proofs.Answers.{header-dropped}
use Rattle.answer_laws.proofs.Unreliable.{uc-kinds, uc-passed}

others : (check : ℕ) → (check ≡ 0 → ⊥) → (check ≡ 8 → ⊥) → check ≤ 8 → Fails check
others check a b h = (omega arith, omega arith)

module _ (arrival : Arrival) (t : OpenMessage) (n : ℕ) (f : header_by arrival ≡ Ok (header_of arrival.packet))
    (K : Carries (packet_in arrival.packet).kind) (X : UcComes arrival.whole (packet_in arrival.packet) t n) where
  abbrev R : ℕ → Type 0
  R = UcCause arrival t

  abbrev k : Packet
  k = packet_in arrival.packet

  module _ (opened : OpenMessage) (M : CheckedUnder arrival.whole.pair k opened) (Y : UcChecked arrival.whole opened k t n) where
    examined : UcExamined arrival t Y.check
    examined = record { passes = f; opened = opened; meets = M; judged = Y.judged }

    failed : Fails Y.check → R n
    failed F = go (eqb arrival.whole.pair.message.kind 255) refl
      where
        go : (b : Bool) → eqb arrival.whole.pair.message.kind 255 ≡ b → R n
        go true e = let z = eqb-true arrival.whole.pair.message.kind 255 e in subst R (sym (Y.drops F z)) (dropped Y.check examined F z)
        go false e = let z = eqb-false arrival.whole.pair.message.kind 255 e in subst R (sym (Y.closes F z)) (closed Y.check examined F z)

    by-check : R n
    by-check = go (eqb Y.check 0) refl (eqb Y.check 8) refl
      where
        go : (a : Bool) → eqb Y.check 0 ≡ a → (b : Bool) → eqb Y.check 8 ≡ b → R n
        go true e b f =
            let z = eqb-true Y.check 0 e in
            subst R (sym (Y.good z)) (executed (subst (UcExamined arrival t) z examined) K)
        go false e true f =
            let z = eqb-true Y.check 8 f in
            subst R (sym (Y.outside z)) (outside (subst (UcExamined arrival t) z examined))
        go false e false f = failed (others Y.check (eqb-false Y.check 0 e) (eqb-false Y.check 8 f) Y.judged.most)

  checked-cause : (opened : OpenMessage) → CheckedUnder arrival.whole.pair k opened → R n
  checked-cause opened M = by-check opened M (X.checked opened M)

  onward-cause : GoesOn k.place → R n
  onward-cause g = go (eqb arrival.whole.pair.message.kind 255) refl (eqb psn expected) refl (eqb arrival.whole.pair.message.kind k.kind) refl
    where
      psn : ℕ
      psn = (packet_in arrival.packet).psn.0 % 16777216

      expected : ℕ
      expected = arrival.whole.pair.expected.0 % 16777216

      astray : (arrival.whole.pair.message.kind ≡ 255 → ⊥) → Strays arrival.whole.pair (packet_in arrival.packet) → R n
      astray o s = subst R (sym (X.stray g o s)) (stray f g o s)

      go : (a : Bool) → eqb arrival.whole.pair.message.kind 255 ≡ a → (b : Bool) → eqb psn expected ≡ b → (c : Bool)
          → eqb arrival.whole.pair.message.kind (packet_in arrival.packet).kind ≡ c
          → R n
      go true x b y c z = let e = eqb-true arrival.whole.pair.message.kind 255 x in subst R (sym (X.orphan g e)) (orphan f g e)
      go false x false y c z = astray (eqb-false arrival.whole.pair.message.kind 255 x) (inl (eqb-false psn expected y))
      go false x true y false z = astray (eqb-false arrival.whole.pair.message.kind 255 x) (inr (eqb-false arrival.whole.pair.message.kind (packet_in arrival.packet).kind z))
      go false x true y true z =
          checked-cause arrival.whole.pair.message (onward g (eqb-true psn expected y) (eqb-true arrival.whole.pair.message.kind (packet_in arrival.packet).kind z))

  cause-by : Place k.place → R n
  cause-by (inl b) = checked-cause _ (begins b)
  cause-by (inr g) = onward-cause g

pub uc-reason : UcReason
unfolding admitted packet_of header_of
uc-reason a W s t C = go (header_by a) refl
  where
    go : (r : Result Header Reason) → header_by a ≡ r → UcCause a t (inbound a).number
    go (Err why) e =
        subst (UcCause a t) (sym (header-dropped a W why e)) (unread why e)
    go (Ok h) e =
        let i = (accepted-by (header_checks a.whole.pair.setup.service a.whole.pair.setup.ours a.whole.pair.setup.pkey (eqb a.whole.pair.state 1) a.packet) a.packet h e).1 in
        let f : header_by a ≡ Ok (header_of a.packet) = subst (λ x. header_by a ≡ Ok x) (sym i) e in
        cause-by a t (inbound a).number f (uc-kinds a (header_of a.packet) s f)
        (uc-passed a W s (header_of a.packet) f t C) (any_place (bth_of a.packet).opcode)
