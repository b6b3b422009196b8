-- What each answer leaves of the pair, by the answers that the code lists together.
use Rattle.std.proofs.Common.{◌≡◌, true, ◌⊎◌, inl, inr, refl}
use Rattle.pair.specs.State as State
use Rattle.pair.specs.Answer.{status_number}
use Rattle.pair.specs.declared.Pair.{Pair}
use Rattle.pair.specs.declared.Status.{Status}
use Rattle.pair.specs.declared.Status.TheVariants as status
use Rattle.responder_spec.specs.declared.Decision.{Decision}
use Rattle.responder_spec.specs.Apply.{with, executed_pair, pair_by_number, pair_by}

module _ (q : Pair) (d : Decision) where
  pub as-executed : (d.status ≡ status.Executed) ⊎ ((d.status ≡ status.Acknowledged) ⊎ ((d.status ≡ status.ReadAccepted) ⊎ (d.status ≡ status.AtomicExecuted)))
      → executed_pair q d ≡ pair_by q d
  unfolding status_number pair_by_number pair_by
  as-executed (inl e) = simp e
  as-executed (inr (inl e)) = simp e
  as-executed (inr (inr (inl e))) = simp e
  as-executed (inr (inr (inr e))) = simp e

  pub as-marked : (d.status ≡ status.SequenceNak) ⊎ (d.status ≡ status.NotReadyNak) → with q q.state true q.read ≡ pair_by q d
  unfolding status_number pair_by_number pair_by
  as-marked (inl e) = simp e
  as-marked (inr e) = simp e

  pub as-error : (d.status ≡ status.InvalidRequestNak) ⊎ (d.status ≡ status.AccessNak) → with q State.error q.nakmark q.read ≡ pair_by q d
  unfolding status_number pair_by_number pair_by
  as-error (inl e) = simp e
  as-error (inr e) = simp e

  -- an answer that is none of those and neither a duplicate's nor an abandoned message's
  abbrev Other : Status → Type 0
  Other s =
      (s ≡ status.Executed → ⊥)
      × (s ≡ status.Acknowledged → ⊥)
      × (s ≡ status.ReadAccepted → ⊥)
      × (s ≡ status.AtomicExecuted → ⊥)
      × (s ≡ status.DuplicateAnswered → ⊥)
      × (s ≡ status.Abandoned → ⊥)
      × (s ≡ status.SequenceNak → ⊥)
      × (s ≡ status.InvalidRequestNak → ⊥)
      × (s ≡ status.AccessNak → ⊥)
      × (s ≡ status.NotReadyNak → ⊥)

  untouched : (s : Status) → Other s → q ≡ pair_by_number q d (status_number s)
  unfolding status_number pair_by_number
  untouched status.Executed h = absurd (h.0 refl)
  untouched status.Acknowledged h = absurd (h.1 refl)
  untouched status.ReadAccepted h = absurd (h.2 refl)
  untouched status.AtomicExecuted h = absurd (h.3 refl)
  untouched status.DuplicateAnswered h = absurd (h.4 refl)
  untouched status.Dropped h = refl
  untouched status.Abandoned h = absurd (h.5 refl)
  untouched status.SequenceNak h = absurd (h.6 refl)
  untouched status.InvalidRequestNak h = absurd (h.7 refl)
  untouched status.AccessNak h = absurd (h.8 refl)
  untouched status.NotReadyNak h = absurd (h.9 refl)
  untouched status.ReadUnfinished h = refl
  untouched status.TableFull h = refl
  untouched status.OutOfRange h = refl
  untouched status.OutputShort h = refl
  untouched status.WrongState h = refl
  untouched status.NoSuchKey h = refl
  untouched status.KeyInUse h = refl
  untouched status.BadNumber h = refl

  pub as-other : Other d.status → q ≡ pair_by q d
  unfolding pair_by
  as-other h = untouched d.status h
