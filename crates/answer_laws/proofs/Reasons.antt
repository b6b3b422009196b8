-- Each answer of a call that is not refused has its reason.
use Rattle.std.proofs.Common.{Option, Some, None}
use Prim.Native.Nat.{ℕ, ◌≤◌}
use mathlib.Core.Path.{◌≡◌, refl, sym, subst, ◌∙◌}
use mathlib.Core.Bool.{Bool, true, false, true≢false}
use mathlib.Core.Logic.{◌⊎◌, inl, inr}
use native.Mathlib.Omega.{arith}
use lib.Dec.{eqb}
use borrow.Author.Tests.{eqb-true, eqb-false}
use Rattle.responder_spec.specs.Arrival.{Arrival}
use Rattle.sequence.specs.Sequence.{psn_class}
use Rattle.sequence.specs.declared.Class.{Class}
use Rattle.sequence.specs.declared.Class.TheVariants as class
use Rattle.header.specs.Read.{header_of}
use Rattle.header.specs.Check.{admitted, header_checks}
use Rattle.header.specs.declared.Reason as header
use Rattle.header.specs.declared.Header.{Header}
use Rattle.std.specs.Prelude.{Result, Ok, Err}
use Rattle.header.proofs.Reasons.{accepted-by}
use Rattle.table.specs.View.{region_of, newest_saved}
use Rattle.pair.specs.declared.OpenMessage.{OpenMessage}
use Rattle.request_spec.specs.Claims.{Carries, IsAtomic, Served}
use Rattle.request_spec.proofs.Order.{served}
use Rattle.request_spec.specs.declared.Packet.{Packet}
use Rattle.responder_spec.specs.Decide.{duplicate_read_fails}
use Rattle.responder_spec.specs.Inbound.{inbound}
use Rattle.answer_laws.specs.Answers.{header_by, Expects, Aheads, ReadAnswerable, DuplicateAnswers, Classed, Recalled, Comes, Examined, Reason, InboundReason}
use Rattle.request_spec.specs.Packet.{packet_in}
use Rattle.answer_laws.specs.Answers.Reason.{unread, marked, ahead, again, forgotten, refused, executed, acknowledged, accepted, exchanged}
use Rattle.answer_laws.proofs.Answers.{header-dropped, header-passed, duplicate-tested}

module _ (arrival : Arrival) (t : OpenMessage) where
  abbrev R : ℕ → Type 0
  R = Reason arrival t

  abbrev k : Packet
  k = packet_in arrival.packet

  -- the expected PSN
  done : (n : ℕ) → Examined arrival t 0 → (X : Expects arrival.whole k t n) → X.check ≡ 0 → Served k.kind → R n
  done n c X z (inl x) = go k.ackreq refl
    where
      go : (b : Bool) → k.ackreq ≡ b → R n
      go true a = subst R (sym (X.asked z x a)) (acknowledged c x a)
      go false a = subst R (sym (X.unasked z x a)) (executed c x a)
  done n c X z (inr (inl r)) = subst R (sym (X.reads z r)) (accepted c r)
  done n c X z (inr (inr a)) = subst R (sym (X.swaps z a)) (exchanged c a)

  expected-reason : (n : ℕ) → Comes arrival class.Expected → Expects arrival.whole k t n → R n
  expected-reason n c X = go (eqb X.check 0) refl
    where
      go : (b : Bool) → eqb X.check 0 ≡ b → R n
      go true e =
          let z : X.check ≡ 0 = eqb-true X.check 0 e in
          done n (subst (Examined arrival t) z (record { comes = c; judged = X.judged })) X z (served arrival.whole.pair.setup k.kind (X.judged.none.0 z).1)
      go false e =
          let z = eqb-false X.check 0 e in
          refused X.check n (record { comes = c; judged = X.judged }) z (X.fails z)

  ahead-reason : (n : ℕ) → Comes arrival class.Ahead → Aheads arrival.whole.pair.nakmark n → R n
  ahead-reason n c A = go arrival.whole.pair.nakmark refl
    where
      go : (b : Bool) → arrival.whole.pair.nakmark ≡ b → R n
      go true e = subst R (sym (A.quiet e)) (marked c e)
      go false e = subst R (sym (A.naks e)) (ahead c e)

  -- a PSN that was
  kinds : (kind : ℕ) → Served kind ⊎ (Served kind → ⊥)
  kinds kind = go (eqb kind 0) refl (eqb kind 6) refl (eqb kind 12) refl (eqb kind 19) refl (eqb kind 20) refl
    where
      go : (a : Bool) → eqb kind 0 ≡ a → (b : Bool) → eqb kind 6 ≡ b → (c : Bool) → eqb kind 12 ≡ c → (d : Bool) → eqb kind 19 ≡ d → (e : Bool)
          → eqb kind 20 ≡ e
          → Served kind ⊎ (Served kind → ⊥)
      go true v b w c x d y e z = inl (inl (inl (eqb-true kind 0 v)))
      go false v true w c x d y e z = inl (inl (inr (eqb-true kind 6 w)))
      go false v false w true x d y e z = inl (inr (inl (eqb-true kind 12 x)))
      go false v false w false x true y e z = inl (inr (inr (inl (eqb-true kind 19 y))))
      go false v false w false x false y true z = inl (inr (inr (inr (eqb-true kind 20 z))))
      go false v false w false x false y false z = inr none
        where
          none : Served kind → ⊥
          none (inl (inl i)) = eqb-false kind 0 v i
          none (inl (inr i)) = eqb-false kind 6 w i
          none (inr (inl i)) = eqb-false kind 12 x i
          none (inr (inr (inl i))) = eqb-false kind 19 y i
          none (inr (inr (inr i))) = eqb-false kind 20 z i

  -- one kind excludes the others
  not_carried : (kind : ℕ) → Carries kind → 12 ≤ kind → ⊥
  not_carried kind (inl e) h = omega arith
  not_carried kind (inr e) h = omega arith

  not-read : (kind : ℕ) → IsAtomic kind → kind ≡ 12 → ⊥
  not-read kind (inl e) h = omega arith
  not-read kind (inr e) h = omega arith

  atomic-high : (kind : ℕ) → IsAtomic kind → 12 ≤ kind
  atomic-high kind (inl e) = omega arith
  atomic-high kind (inr e) = omega arith

  duplicate-reason : (n : ℕ) → Comes arrival class.Duplicate → DuplicateAnswers arrival.whole k t n → R n
  duplicate-reason n c D = go (kinds k.kind)
    where
      reread : k.kind ≡ 12 → (b : Bool) → duplicate_read_fails k arrival.whole.pair.setup t arrival.whole.pair.expected (region_of t.key arrival.whole.regions) ≡ b → R n
      reread r false e =
          let A = (duplicate-tested arrival.whole k t).0 e in
          subst R (sym (D.reads r A)) (again c (inr (inl (r, A))))
      reread r true e = subst R (sym (D.unread r no)) (forgotten c none)
        where
          no : ReadAnswerable arrival.whole k t → ⊥
          no A = true≢false (sym e ∙ (duplicate-tested arrival.whole k t).1 A)

          none : Recalled arrival.whole k t → ⊥
          none (inl x) = not_carried k.kind x (omega (arith, r))
          none (inr (inl x)) = no x.1
          none (inr (inr x)) = not-read k.kind x.0 r

      reswap : IsAtomic k.kind → (s : Option ℕ) → newest_saved k.psn.0 arrival.whole.saved arrival.whole.pair.saved ≡ s → R n
      reswap a (Some v) e = subst R (sym (D.found a v e)) (again c (inr (inr (a, (v, e)))))
      reswap a None e = subst R (sym (D.lost a e)) (forgotten c none)
        where
          apart : (v : ℕ) → None ≡ Some v → ⊥
          apart v x = let z : ◌≡◌ {A = ℕ} 0 1 = cc in omega arith

          none : Recalled arrival.whole k t → ⊥
          none (inl x) = not_carried k.kind x (atomic-high k.kind a)
          none (inr (inl x)) = not-read k.kind a x.0
          none (inr (inr x)) = apart x.1.0 (sym e ∙ x.1.1)

      go : Served k.kind ⊎ (Served k.kind → ⊥) → R n
      go (inl (inl x)) = subst R (sym (D.carried x)) (again c (inl x))
      go (inl (inr (inl r))) = reread r (duplicate_read_fails k arrival.whole.pair.setup t arrival.whole.pair.expected (region_of t.key arrival.whole.regions)) refl
      go (inl (inr (inr a))) = reswap a (newest_saved k.psn.0 arrival.whole.saved arrival.whole.pair.saved) refl
      go (inr s) = subst R (sym (D.other s)) (forgotten c none)
        where
          none : Recalled arrival.whole k t → ⊥
          none (inl x) = s (inl x)
          none (inr (inl x)) = s (inr (inl x.0))
          none (inr (inr x)) = s (inr (inr x.0))

  passed-reason : (n : ℕ) → header_by arrival ≡ Ok (header_of arrival.packet) → Classed arrival.whole k t n → R n
  passed-reason n h C = go (psn_class k.psn.0 arrival.whole.pair.expected.0) refl
    where
      go : (c : Class) → psn_class k.psn.0 arrival.whole.pair.expected.0 ≡ c → R n
      go class.Expected e = expected-reason n (h, e) (C.expected e)
      go class.Ahead e = ahead-reason n (h, e) (C.ahead e)
      go class.Duplicate e = duplicate-reason n (h, e) (C.duplicate e)

pub inbound-reason : InboundReason
unfolding admitted
inbound-reason a W rc t C = go (header_by a) refl
  where
    go : (r : Result Header header.Reason) → header_by a ≡ r → Reason a t (inbound a).number
    go (Err why) e =
        subst (Reason a t) (sym (header-dropped a W why e)) (unread why e)
    go (Ok h) e =
        let i = (accepted-by (header_checks a.whole.pair.setup.service a.whole.pair.setup.ours a.whole.pair.setup.pkey (eqb a.whole.pair.state 1) a.packet) a.packet h e).1 in
        let f : header_by a ≡ Ok (header_of a.packet) = subst (λ x. header_by a ≡ Ok x) (sym i) e in
        passed-reason a t (inbound a).number f
        (header-passed a W rc (header_of a.packet) f t C)
