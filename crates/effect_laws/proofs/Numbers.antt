-- Which numbers the inbound call answers, by the service.
use Prim.Native.Nat.{ℕ}
use mathlib.Core.Path.{◌≡◌, refl}
use mathlib.Core.Bool.{Bool, true, false, cond}
use mathlib.Core.List.{[], ◌∷◌}
use mathlib.Core.Logic.{inl, inr}
use borrow.Author.Tests.{eqb-true, eqb-false}
use Rattle.pair.specs.Calls.{Whole}
use Rattle.request_spec.specs.Packet.{packet_in}
use Rattle.pair.specs.Answer.{status_number}
use Rattle.pair.specs.declared.Status.{Status}
use Rattle.pair.specs.declared.Status.TheVariants as status
use Rattle.request_spec.specs.declared.Packet.{Packet}
use Rattle.responder_spec.specs.declared.Decision.{Decision}
use Rattle.responder_spec.specs.Decide.{no_reply, acknowledging, store_payload, run_atomic, decision}
use Rattle.responder_spec.specs.Inbound.{left_by, inbound}
use Rattle.effect_laws.specs.Effects.{InboundNumbers, UcNumbers}
use Rattle.lemmas.specs.OneOf.{OneOf}
use Rattle.decision_laws.proofs.Rows.Quiet.{dropped, short, range, unfinished}
use Rattle.decision_laws.proofs.Rows.Row.{quiet, ahead, invalid, access, unready, ack_duplicate, read_duplicate, atomic_duplicate, stored, begin, swap}
use Rattle.decision_laws.proofs.Rows.UcRow.{unheard, abandon, deliver}
use Rattle.decision_laws.proofs.Rows.AnyRow.{reliable, unreliable}
use Rattle.decision_laws.proofs.Rows.{Quiet, Row, UcRow, AnyRow, decided-row}

abbrev Rc : ℕ → Type 0
Rc = OneOf (0 ∷ 1 ∷ 2 ∷ 3 ∷ 4 ∷ 5 ∷ 16 ∷ 17 ∷ 18 ∷ 19 ∷ 32 ∷ 34 ∷ 35 ∷ [])

abbrev Uc : ℕ → Type 0
Uc = OneOf (0 ∷ 5 ∷ 6 ∷ 32 ∷ 34 ∷ 35 ∷ [])

quiet-numbers : (a : Status) → Quiet a → Rc (status_number a) × Uc (status_number a)
unfolding status_number
quiet-numbers a dropped = (inr (inr (inr (inr (inr (inl refl))))), inr (inl refl))
quiet-numbers a short =
    (inr (inr (inr (inr (inr (inr (inr (inr (inr (inr (inr (inr (inl refl)))))))))))), inr (inr (inr (inr (inr (inl refl))))))
quiet-numbers a range = (inr (inr (inr (inr (inr (inr (inr (inr (inr (inr (inr (inl refl))))))))))), inr (inr (inr (inr (inl refl)))))
quiet-numbers a unfinished = (inr (inr (inr (inr (inr (inr (inr (inr (inr (inr (inl refl)))))))))), inr (inr (inr (inl refl))))

stored-numbers : (b : Bool) → Rc (status_number (cond b status.Acknowledged status.Executed))
unfolding status_number
stored-numbers true = inr (inl refl)
stored-numbers false = inl refl

module _ (w : Whole) (k : Packet) where
  rc-numbers : (d : Decision) → Row Quiet w k d → Rc (status_number d.status)
  unfolding status_number no_reply acknowledging store_payload run_atomic
  rc-numbers d (quiet a z) = (quiet-numbers a z).0
  rc-numbers d ahead = inr (inr (inr (inr (inr (inr (inl refl))))))
  rc-numbers d invalid = inr (inr (inr (inr (inr (inr (inr (inl refl)))))))
  rc-numbers d access = inr (inr (inr (inr (inr (inr (inr (inr (inl refl))))))))
  rc-numbers d unready = inr (inr (inr (inr (inr (inr (inr (inr (inr (inl refl)))))))))
  rc-numbers d ack_duplicate = inr (inr (inr (inr (inl refl))))
  rc-numbers d (read_duplicate at n a s) = inr (inr (inr (inr (inl refl))))
  rc-numbers d (atomic_duplicate v e) = inr (inr (inr (inr (inl refl))))
  rc-numbers d (stored t entry region w) = stored-numbers k.ackreq
  rc-numbers d (begin at n a s) = inr (inr (inl refl))
  rc-numbers d (swap t region w) = inr (inr (inr (inl refl)))

  uc-numbers : (d : Decision) → UcRow Quiet w.pair k d → Uc (status_number d.status)
  unfolding status_number no_reply store_payload
  uc-numbers d (unheard a z) = (quiet-numbers a z).1
  uc-numbers d (abandon h) = inr (inr (inl refl))
  uc-numbers d (deliver t entry region w) = inl refl

  any-numbers : (d : Decision) → AnyRow Quiet w k d
      → ((w.pair.setup.service ≡ 1 → ⊥) → Rc (status_number d.status)) × (w.pair.setup.service ≡ 1 → Uc (status_number d.status))
  any-numbers d (reliable c r) = (λ h. rc-numbers d r, λ h. absurd (eqb-false w.pair.setup.service 1 c h))
  any-numbers d (unreliable c r) = (λ h. absurd (h (eqb-true w.pair.setup.service 1 c)), λ h. uc-numbers d r)

pub inbound-numbers : InboundNumbers
unfolding inbound left_by decision
inbound-numbers a =
    let d = decision a in
    (any-numbers a.whole (packet_in a.packet) d (decided-row a)).0

pub uc-answers : UcNumbers
unfolding inbound left_by decision
uc-answers a =
    let d = decision a in
    (any-numbers a.whole (packet_in a.packet) d (decided-row a)).1
