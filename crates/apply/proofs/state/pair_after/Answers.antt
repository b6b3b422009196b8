use Rattle.std.proofs.Common.{◌∙◌}
use Rattle.pair.specs.Answer.{status_number}
use Rattle.responder_spec.specs.Apply.{pair_by_number, pair_by}
use Rattle.apply.proofs.Statuses.{as-executed, as-marked, as-error, as-other}
use Rattle.apply.proofs.state.pair_after.Goals as goal

pub returns-in-Executed : goal.returns-in-Executed
returns-in-Executed c = c.executed_pair.ensures ∙ as-executed c.args.pair c.args.d c.in-Executed.is

pub returns-in-DuplicateAnswered : goal.returns-in-DuplicateAnswered
unfolding status_number pair_by_number pair_by
returns-in-DuplicateAnswered c = simp (c.in-DuplicateAnswered.is, ← c.read_answer_by-read.ensures)

pub returns-in-SequenceNak : goal.returns-in-SequenceNak
returns-in-SequenceNak c = as-marked c.args.pair c.args.d c.in-SequenceNak.is

pub returns-in-InvalidRequestNak : goal.returns-in-InvalidRequestNak
returns-in-InvalidRequestNak c = as-error c.args.pair c.args.d c.in-InvalidRequestNak.is

pub returns-in-Abandoned : goal.returns-in-Abandoned
unfolding status_number pair_by_number pair_by
returns-in-Abandoned c = simp (c.in-Abandoned.is, ← c.closing.ensures)

pub returns-in_default : goal.returns-in_default
returns-in_default c =
    let n = c.in_default in
    as-other c.args.pair c.args.d
    (n.not-Executed, n.not-Acknowledged, n.not-ReadAccepted, n.not-AtomicExecuted, n.not-DuplicateAnswered, n.not-Abandoned, n.not-SequenceNak, n.not-InvalidRequestNak, n.not-AccessNak, n.not-NotReadyNak)
