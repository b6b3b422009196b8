-- What a decision leaves in lent words: those that its answer can change are written, in place.
use Rattle.std.specs.Prelude.{ℕ, Bool, cond, List, eqb, leb, ltb, set}
use Rattle.sequence.specs.declared.Psn.{Psn}
use Rattle.sequence.specs.declared.Msn.{Msn}
use Rattle.header.specs.Bytes.{bit}
use Rattle.table.specs.declared.Ring.{Ring}
use Rattle.pair.specs.Number as Number
use Rattle.pair.specs.declared.OpenMessage.{OpenMessage}
use Rattle.pair.specs.declared.ReadAnswer.{ReadAnswer}
use Rattle.pair.specs.declared.Pair.{Pair}
use Rattle.responder_spec.specs.Apply.{acts_atomic}
use Rattle.responder_spec.specs.declared.Decision.{Decision}
use Rattle.abi_spec.specs.Pair.{other_length}

-- the NAK mark is cleared with the counters
unfoldable pub counters_put : List ℕ → Psn → Msn → List ℕ
counters_put w expected msn = cond (other_length w) w (set (set (set w 26 expected.0) 27 msn.0) 29 0)

unfoldable pub message_put : List ℕ → OpenMessage → List ℕ
message_put w m =
    cond (other_length w) w (set (set (set (set (set w 12 m.kind) 13 m.stored) 14 m.address) 15 m.key) 16 m.length)

unfoldable pub entries_put : List ℕ → Ring → List ℕ
entries_put w r = cond (other_length w) w (set (set w 17 r.head) 18 r.count)

unfoldable pub read_put : List ℕ → ReadAnswer → List ℕ
read_put w a =
    cond (other_length w) w
    (set (set (set (set (set w 19 a.remaining) 20 a.offset) 21 a.length) 22 a.psn.0) 23 a.msn.0)

unfoldable pub saved_put : List ℕ → Ring → List ℕ
saved_put w r = cond (other_length w) w (set (set w 24 r.head) 25 r.count)

unfoldable pub state_put : List ℕ → ℕ → Bool → List ℕ
state_put w state nakmark = cond (other_length w) w (set (set w 28 state) 29 (bit nakmark))

-- a part that stays as it was is not written
unfoldable pub entries_put_if : List ℕ → Bool → Ring → List ℕ
entries_put_if w completes r = cond completes (entries_put w r) w

unfoldable pub read_put_if : List ℕ → ℕ → ReadAnswer → List ℕ
read_put_if w responses a = cond (eqb responses 0) w (read_put w a)

unfoldable pub saved_put_if : List ℕ → ℕ → Ring → List ℕ
saved_put_if w act r = cond (acts_atomic act) (saved_put w r) w

-- executed
unfoldable pub executed_put : List ℕ → Pair → Decision → List ℕ
executed_put w next d =
    saved_put_if
    (read_put_if (entries_put_if (message_put (counters_put w next.expected next.msn) next.message) d.progress.completion.some next.entries) d.reply.remaining next.read)
    d.change.act next.saved

-- by the answer: executed, a duplicate that may begin a READ's answer, an abandoned message, a NAK
unfoldable pub put_by_number : List ℕ → Pair → Decision → ℕ → List ℕ
put_by_number w next d number =
    cond (leb number Number.atomic_executed) (executed_put w next d)
    (cond (eqb number Number.duplicate_answered) (read_put_if w d.reply.remaining next.read)
    (cond (eqb number Number.abandoned) (message_put w next.message)
    (cond (ltb number Number.sequence_nak) w
    (cond (leb number Number.not_ready_nak) (state_put w next.state next.nakmark) w))))
