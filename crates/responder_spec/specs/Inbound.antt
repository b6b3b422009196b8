-- The inbound call: what it leaves, by the decision on its packet.
use Rattle.std.specs.Prelude.{ℕ, ◌≡◌, List, length}
use Rattle.sequence.specs.declared.Msn.{Msn}
use Rattle.pair.specs.Answer.{status_number}
use Rattle.pair.specs.Calls.{Whole}
use Rattle.responder_spec.specs.declared.Reply.{Reply}
use Rattle.responder_spec.specs.declared.Decision.{Decision}
use Rattle.responder_spec.specs.declared.Outcome.{Outcome}
use Rattle.responder_spec.specs.Arrival.{Arrival, Left, leaving}
use Rattle.responder_spec.specs.Decide.{decision}
use Rattle.responder_spec.specs.Apply.{pair_by, memory_by, value_by, saved_by}
use Rattle.responder_spec.specs.Reply.{ack_bytes, over}

-- the reply with the MSN as it is after the packet, and the value answered
abbrev pub reply_with : Reply → Msn → ℕ → Reply
reply_with r msn value =
    record {
      kind = r.kind;
      psn = r.psn;
      syndrome = r.syndrome;
      msn = msn;
      value = value;
      offset = r.offset;
      length = r.length;
      remaining = r.remaining;
    }

-- regions and entries are only read
abbrev pub whole_by : Whole → Decision → List ℕ → Whole
whole_by w d m =
    record {
      pair = pair_by w.pair d;
      regions = w.regions;
      entries = w.entries;
      saved = saved_by w.pair.saved d.change d.reply.psn w.saved m;
    }

module _ (a : Arrival) (d : Decision) where
  -- the packet that is sent with the call: a READ's responses are sent by calls of their own
  unfoldable pub sent_by : List ℕ
  sent_by =
      ack_bytes a.whole.pair.setup
      (reply_with d.reply (pair_by a.whole.pair d).msn (value_by d.change d.reply.value a.memory))

  unfoldable pub left_by : Left
  left_by =
      record {
        number = status_number d.status;
        whole = whole_by a.whole d a.memory;
        completion = d.progress.completion;
        outgoing = length sent_by;
        memory = memory_by d.change a.memory a.packet;
        out = over sent_by a.out;
      }

unfoldable pub inbound : Arrival → Left
inbound a = left_by a (decision a)

-- The promise of the call: its outcome, the saved atomics, memory and output afterwards are what is left.
abbrev pub Leaves : Arrival → Outcome → List (List ℕ) → List ℕ → List ℕ → Type 0
Leaves a o saved memory out = leaving a o saved memory out ≡ inbound a
