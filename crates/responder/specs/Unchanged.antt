-- Outcomes.
use Rattle.std.specs.Prelude.{ℕ}
use Rattle.pair.specs.declared.Pair.{Pair}
use Rattle.pair.specs.declared.Status.{Status}
use Rattle.pair.specs.declared.Status.TheVariants as status
use Rattle.responder_spec.specs.Decide.{no_completion}
use Rattle.responder_spec.specs.declared.Decision.{Decision}
use Rattle.responder_spec.specs.declared.Outcome.{Outcome}

-- the pair as it is, and nothing sent
abbrev pub unchanged : Status → Pair → Outcome
unchanged answer q = record { status = answer; pair = q; completion = no_completion; outgoing = 0 }

-- what a decision answers, with the pair that it left and the bytes sent
abbrev pub outcome_with : Pair → Decision → ℕ → Outcome
outcome_with q d n = record { status = d.status; pair = q; completion = d.progress.completion; outgoing = n }

-- done, and n bytes sent
abbrev pub responded : Pair → ℕ → Outcome
responded q n = record { status = status.Executed; pair = q; completion = no_completion; outgoing = n }
