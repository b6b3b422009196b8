-- The answers of a pair's calls, by the numbers that the rules give them.
use Rattle.std.specs.Prelude.{ℕ, Bool, eqb}
use Rattle.pair.specs.Number as Number
use Rattle.pair.specs.declared.Status.{Status}
use Rattle.pair.specs.declared.Status.TheVariants as status

unfoldable pub status_number : Status → ℕ
status_number status.Executed = Number.executed
status_number status.Acknowledged = Number.acknowledged
status_number status.ReadAccepted = Number.read_accepted
status_number status.AtomicExecuted = Number.atomic_executed
status_number status.DuplicateAnswered = Number.duplicate_answered
status_number status.Dropped = Number.dropped
status_number status.Abandoned = Number.abandoned
status_number status.SequenceNak = Number.sequence_nak
status_number status.InvalidRequestNak = Number.invalid_request_nak
status_number status.AccessNak = Number.access_nak
status_number status.NotReadyNak = Number.not_ready_nak
status_number status.ReadUnfinished = Number.read_unfinished
status_number status.TableFull = Number.table_full
status_number status.OutOfRange = Number.out_of_range
status_number status.OutputShort = Number.output_short
status_number status.WrongState = Number.wrong_state
status_number status.NoSuchKey = Number.no_such_key
status_number status.KeyInUse = Number.key_in_use
status_number status.BadNumber = Number.bad_number

-- the call did what was asked
unfoldable pub executed : Status → Bool
executed s = eqb (status_number s) Number.executed
