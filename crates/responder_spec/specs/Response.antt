-- Next response: one packet of the READ that is being answered.
use Rattle.std.specs.Prelude.{ℕ, ◌+◌, ◌-◌, cond, not, List, eqb, ltb, length}
use Rattle.pair.specs.Answer.{executed}
use Rattle.pair.specs.Sound.{pair_unsound}
use Rattle.pair.specs.declared.ReadAnswer.{ReadAnswer}
use Rattle.pair.specs.declared.Pair.{Pair}
use Rattle.pair.specs.declared.Status.{Status}
use Rattle.pair.specs.declared.Status.TheVariants as status
use Rattle.responder_spec.specs.declared.Outcome.{Outcome}
use Rattle.responder_spec.specs.Decide.{no_completion}
use Rattle.responder_spec.specs.Apply.{with}
use Rattle.responder_spec.specs.Reply.{ack_length, read_reply, reply_bytes, over}

-- Refused: none is pending, the output is too short for the longest headers of a response, which are an Acknowledge's,
-- and a PMTU, memory has another length than was set up, or no call made the pair
unfoldable pub next_status : Pair → ℕ → ℕ → Status
next_status q memory room =
    cond (eqb q.read.remaining 0) status.WrongState
    (cond (ltb room (ack_length + q.setup.pmtu)) status.OutputShort
    (cond (not (eqb memory q.setup.memory)) status.OutOfRange
    (cond (pair_unsound q) status.OutOfRange status.Executed)))

-- one response fewer
abbrev pub one_fewer : ReadAnswer → ReadAnswer
one_fewer a = record { remaining = a.remaining - 1; offset = a.offset; length = a.length; psn = a.psn; msn = a.msn }

module _ (q : Pair) (m out : List ℕ) where
  unfoldable pub next_bytes : List ℕ
  next_bytes = reply_bytes q.setup (read_reply q.read) m

  unfoldable pub next_response : Outcome
  next_response =
      record {
        status = next_status q (length m) (length out);
        pair = cond (executed (next_status q (length m) (length out))) (with q q.state q.nakmark (one_fewer q.read)) q;
        completion = no_completion;
        outgoing = cond (executed (next_status q (length m) (length out))) (length next_bytes) 0;
      }

  unfoldable pub next_out : List ℕ
  next_out = cond (executed (next_status q (length m) (length out))) (over next_bytes out) out
