-- What a decision does to the pair, to memory and to the saved atomics.
use Rattle.std.specs.Prelude.{ℕ, ◌-◌, Bool, true, false, cond, ◌||◌, List, eqb, leb, take, drop}
use Rattle.sequence.specs.Sequence.{psn_after, msn_next}
use Rattle.sequence.specs.declared.Psn.{Psn}
use Rattle.sequence.specs.declared.Msn.{Msn}
use Rattle.memory.specs.Memory.{store}
use Rattle.memory.specs.Word.{word_at, fetch_added, swapped}
use Rattle.table.specs.Table.{entry_slot}
use Rattle.table.specs.View.{saved_ring, saved_rows}
use Rattle.table.specs.declared.Ring.{Ring}
use Rattle.pair.specs.Answer.{status_number}
use Rattle.pair.specs.Number as Number
use Rattle.pair.specs.State as State
use Rattle.pair.specs.Pair.{no_message}
use Rattle.pair.specs.declared.ReadAnswer.{ReadAnswer}
use Rattle.pair.specs.declared.Pair.{Pair}
use Rattle.responder_spec.specs.declared.Change.{Change}
use Rattle.responder_spec.specs.declared.Reply.{Reply}
use Rattle.responder_spec.specs.declared.Decision.{Decision}
use Rattle.responder_spec.specs.Act as Act

-- memory after the packet p, by the act
unfoldable pub memory_by : Change → List ℕ → List ℕ → List ℕ
memory_by c m p =
    cond (eqb c.act Act.store) (store m c.at (take c.size (drop c.start p)))
    (cond (eqb c.act Act.fetch_add) (fetch_added m c.at c.swap)
    (cond (eqb c.act Act.cmp_swap) (swapped m c.at c.compare c.swap) m))

unfoldable pub acts_atomic : ℕ → Bool
acts_atomic act = eqb act Act.fetch_add || eqb act Act.cmp_swap

-- the value that is answered: an atomic's is the word that it finds, a duplicate one's the value saved
unfoldable pub value_by : Change → ℕ → List ℕ → ℕ
value_by c value m = cond (acts_atomic c.act) (word_at m c.at) value

-- an atomic's old value is saved with its PSN
unfoldable pub saved_by : Ring → Change → Psn → List (List ℕ) → List ℕ → List (List ℕ)
saved_by ring c psn saved m = cond (acts_atomic c.act) (saved_rows saved ring psn.0 (word_at m c.at)) saved

unfoldable pub saved_ring_by : Ring → ℕ → Ring
saved_ring_by ring act = cond (acts_atomic act) (saved_ring ring) ring

-- the entry at the head is done with; it was held, or waited
unfoldable pub ring_taken : Ring → Ring
ring_taken r = record { head = entry_slot r.head 1; count = r.count - 1 }

unfoldable pub entries_by : Bool → Ring → Ring
entries_by completes r = cond completes (ring_taken r) r

-- the MSN rises by one where a message ends
unfoldable pub msn_by : Bool → Msn → Msn
msn_by ends msn = cond ends (msn_next msn) msn

-- a READ that begins to be answered carries the MSN as it is after the packet
unfoldable pub read_answer_by : Reply → ReadAnswer → Msn → ReadAnswer
read_answer_by r old msn =
    cond (eqb r.remaining 0) old
    (record { remaining = r.remaining; offset = r.offset; length = r.length; psn = r.psn; msn = msn })

-- executed: the expected PSN moves on, and the NAK mark is cleared
unfoldable pub executed_pair : Pair → Decision → Pair
executed_pair q d =
    record {
      setup = q.setup;
      state = q.state;
      expected = psn_after q.expected d.progress.psns;
      msn = msn_by d.progress.ends q.msn;
      nakmark = false;
      message = d.progress.message;
      entries = entries_by d.progress.completion.some q.entries;
      read = read_answer_by d.reply q.read (msn_by d.progress.ends q.msn);
      saved = saved_ring_by q.saved d.change.act;
    }

-- the same pair with another state, NAK mark and READ being answered
abbrev pub with : Pair → ℕ → Bool → ReadAnswer → Pair
with q state nakmark reads =
    record {
      setup = q.setup;
      state = state;
      expected = q.expected;
      msn = q.msn;
      nakmark = nakmark;
      message = q.message;
      entries = q.entries;
      read = reads;
      saved = q.saved;
    }

-- the same pair with no message open. An entry that was held is first in the ring still, and waits again
abbrev pub closing : Pair → Pair
closing q =
    record {
      setup = q.setup;
      state = q.state;
      expected = q.expected;
      msn = q.msn;
      nakmark = q.nakmark;
      message = no_message;
      entries = q.entries;
      read = q.read;
      saved = q.saved;
    }

-- What each answer leaves: the first four as executed; a duplicate may begin a READ's answer; two NAKs set the NAK
-- mark, two are the Error state; abandoning closes the message; all others leave nothing
unfoldable pub pair_by_number : Pair → Decision → ℕ → Pair
pair_by_number q d number =
    cond (leb number Number.atomic_executed) (executed_pair q d)
    (cond (eqb number Number.duplicate_answered) (with q q.state q.nakmark (read_answer_by d.reply q.read q.msn))
    (cond (eqb number Number.sequence_nak || eqb number Number.not_ready_nak) (with q q.state true q.read)
    (cond (eqb number Number.invalid_request_nak || eqb number Number.access_nak)
    (with q State.error q.nakmark q.read)
    (cond (eqb number Number.abandoned) (closing q) q))))

unfoldable pub pair_by : Pair → Decision → Pair
pair_by q d = pair_by_number q d (status_number d.status)
