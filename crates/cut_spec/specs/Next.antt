-- The PSN of the next message.
use Rattle.std.specs.Prelude.{ℕ, cond, Result, Ok, Err, leb, ⊤}
use Rattle.std.specs.Result.{result_and}
use Rattle.sequence.specs.Sequence.{space, psn_after}
use Rattle.sequence.specs.declared.Psn.{Psn}
use Rattle.header.specs.Refusal.{bad_number}
use Rattle.header.specs.declared.Refusal.{Refusal}
use Rattle.header.specs.declared.Refusal.TheVariants.{BadNumber}
use Rattle.pmtu.specs.Pieces.{pieces}
use Rattle.cut_spec.specs.Message.{message_length, check_length, length_refusal}
use Rattle.cut_spec.specs.declared.Request.{Request}

-- how many PSNs a message takes: one for each packet, but a READ as many as it has responses
unfoldable pub psns_of : Request → ℕ → ℕ → ℕ
psns_of r n pmtu = pieces (message_length r n) pmtu

-- the next message's first PSN, this one's being `first`
unfoldable pub next_psn : Request → ℕ → ℕ → Psn → Psn
next_psn r n pmtu first = psn_after first (psns_of r n pmtu)

-- the refusals: a PSN over 24 bits; those of the length
unfoldable pub check_next : ℕ → ℕ → ℕ → Result ⊤ Refusal
check_next n pmtu psn = cond (leb space psn) (Err BadNumber) (check_length n pmtu)

-- the number of the one that applies, by the rules, or 0
unfoldable pub next_refusal : ℕ → ℕ → ℕ → ℕ
next_refusal n pmtu psn = cond (leb space psn) bad_number (length_refusal n pmtu)

-- the answer
unfoldable pub next_answer : Request → ℕ → ℕ → Psn → Result Psn Refusal
next_answer r n pmtu first = result_and (check_next (message_length r n) pmtu first.0) (Ok (next_psn r n pmtu first))
