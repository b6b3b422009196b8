-- What a packet leads to: one decision, by the rules of the reliable connection and by those of the unreliable one.
use Rattle.std.specs.Prelude.{ℕ, ◌+◌, ◌-◌, Bool, true, false, cond, not, ◌&&◌, ◌||◌, List, [], eqb, ltb, length, get_or, Option, Some, None, Result, Ok, Err}
use Rattle.sequence.specs.Sequence.{space, distance, psn_after, psn_class}
use Rattle.sequence.specs.declared.Psn.{Psn}
use Rattle.sequence.specs.declared.Class.{Class}
use Rattle.sequence.specs.declared.Class.TheVariants as class
use Rattle.opcode.specs.Kind as Kind
use Rattle.opcode.specs.Service as Service
use Rattle.header.specs.Check.{admitted}
use Rattle.header.specs.declared.Header.{Header}
use Rattle.header.specs.declared.Reason.{Reason}
use Rattle.opcode.specs.Place.{starts, ends}
use Rattle.pmtu.specs.Pieces.{pieces}
use Rattle.table.specs.Table.{entry_slot, no_region, memory_offset}
use Rattle.table.specs.View.{region_of, newest_saved}
use Rattle.table.specs.EntryRow as EntryRow
use Rattle.pair.specs.Answer.{executed}
use Rattle.pair.specs.Number as Number
use Rattle.pair.specs.State as State
use Rattle.pair.specs.Pair.{closed, no_message}
use Rattle.pair.specs.Sound.{pair_unsound}
use Rattle.pair.specs.Calls.{Whole}
use Rattle.pair.specs.declared.Setup.{Setup}
use Rattle.pair.specs.declared.OpenMessage.{OpenMessage}
use Rattle.pair.specs.declared.Pair.{Pair}
use Rattle.pair.specs.declared.Status.{Status}
use Rattle.pair.specs.declared.Status.TheVariants as status
use Rattle.request_spec.specs.Packet.{packet_of}
use Rattle.request_spec.specs.Verdict.{carrying, not_enabled, over_limit, key_fails, bytes_to_come, payload_size, current, request_check, expected_check, check_answer}
use Rattle.request_spec.specs.RequestCheck as RequestCheck
use Rattle.request_spec.specs.declared.Packet.{Packet}
use Rattle.responder_spec.specs.declared.Completion.{Completion}
use Rattle.responder_spec.specs.declared.Change.{Change}
use Rattle.responder_spec.specs.declared.Progress.{Progress}
use Rattle.responder_spec.specs.declared.Reply.{Reply}
use Rattle.responder_spec.specs.declared.Decision.{Decision}
use Rattle.responder_spec.specs.Arrival.{Arrival}
use Rattle.responder_spec.specs.Act as Act
use Rattle.responder_spec.specs.Syndrome as Syndrome
use Rattle.responder_spec.specs.Reply.{no_packet, nothing_sent, sending, read_begun, atomic_ack_length}

abbrev pub no_completion : Completion
no_completion = record { some = false; number = 0; length = 0; immediate = false; value = 0 }

-- memory stays
abbrev pub no_change : Change
no_change = record { act = Act.nothing; at = 0; start = 0; size = 0; swap = 0; compare = 0 }

-- the pair does not move on
abbrev pub no_progress : Progress
no_progress = record { message = no_message; psns = 0; ends = false; completion = no_completion }

-- nothing executed: the answer, and what is sent
abbrev pub reply_only : Status → Reply → Decision
reply_only answer reply = record { status = answer; change = no_change; progress = no_progress; reply = reply }

-- nothing is sent
unfoldable pub no_reply : Status → Decision
no_reply answer = reply_only answer nothing_sent

-- an ACK or a NAK is sent
unfoldable pub acknowledging : Status → Psn → ℕ → Decision
acknowledging answer psn syndrome = reply_only answer (sending Kind.acknowledge psn syndrome 0)

-- Ahead: the first time a sequence NAK with the expected PSN, while the NAK mark stands nothing
unfoldable pub ahead_decision : Bool → Psn → Decision
ahead_decision nakmark expected =
    cond nakmark (no_reply status.Dropped) (acknowledging status.SequenceNak expected Syndrome.sequence)

-- Expected, but refused by a request check, with the answer of that check; out of range for an entry that no call made
unfoldable pub failed : ℕ → Psn → ℕ → Decision
failed check psn timer =
    cond (eqb (check_answer check) Number.invalid_request_nak) (acknowledging status.InvalidRequestNak psn Syndrome.invalid_request)
    (cond (eqb (check_answer check) Number.access_nak) (acknowledging status.AccessNak psn Syndrome.access)
    (cond (eqb (check_answer check) Number.not_ready_nak) (acknowledging status.NotReadyNak psn (Syndrome.not_ready + timer))
    (no_reply status.OutOfRange)))

-- A completion comes with the packet that ends a SEND, or a WRITE that has an immediate; a WRITE counts its DMA length
unfoldable pub completes : ℕ → ℕ → Bool → Bool
completes kind place immediate = ends place && (eqb kind Kind.send || immediate)

unfoldable pub completion_of : Packet → OpenMessage → ℕ → Completion
completion_of p m number =
    cond (completes p.kind p.place p.operands.immediate)
    (record {
      some = true;
      number = number;
      length = cond (eqb p.kind Kind.send) (m.stored + payload_size p) m.length;
      immediate = p.operands.immediate;
      value = p.operands.value;
    })
    no_completion

-- the message after a packet of it: none is open behind the last
unfoldable pub message_after : ℕ → OpenMessage → ℕ → OpenMessage
message_after place m size =
    cond (ends place) no_message
    (record { kind = m.kind; stored = m.stored + size; address = m.address; key = m.key; length = m.length })

-- where the next bytes of a message go: behind those stored, in the entry or in the region
unfoldable pub target_offset : ℕ → OpenMessage → List ℕ → List ℕ → ℕ
target_offset kind m entry region =
    cond (eqb kind Kind.send) (EntryRow.offset entry + m.stored)
    (memory_offset region (m.address + m.stored) (bytes_to_come m.length m.stored))

-- SEND and WRITE, of the message m: acknowledged if asked; it takes psns PSNs
unfoldable pub store_payload : Bool → ℕ → Packet → OpenMessage → List ℕ → List ℕ → Decision
store_payload asked psns p m entry region =
    record {
      status = cond asked status.Acknowledged status.Executed;
      change =
          record {
            act = Act.store;
            at = target_offset p.kind m entry region;
            start = p.start;
            size = payload_size p;
            swap = 0;
            compare = 0;
          };
      progress =
          record {
            message = message_after p.place m (payload_size p);
            psns = psns;
            ends = ends p.place;
            completion = completion_of p m (EntryRow.number entry);
          };
      reply = sending (cond asked Kind.acknowledge no_packet) p.psn Syndrome.ack 0;
    }

-- a READ or an atomic is a message of one packet; that no message is open stays as it is
abbrev pub whole_message : OpenMessage → ℕ → Progress
whole_message opened psns = record { message = opened; psns = psns; ends = true; completion = no_completion }

-- CmpSwap and FetchAdd
unfoldable pub run_atomic : Packet → OpenMessage → OpenMessage → List ℕ → Decision
run_atomic p m opened region =
    record {
      status = status.AtomicExecuted;
      change =
          record {
            act = cond (eqb p.kind Kind.fetch_add) Act.fetch_add Act.cmp_swap;
            at = memory_offset region m.address m.length;
            start = 0;
            size = 0;
            swap = p.operands.swap;
            compare = p.operands.compare;
          };
      progress = whole_message opened 1;
      reply = sending Kind.atomic_acknowledge p.psn Syndrome.ack 0;
    }

-- a READ takes a PSN for each of its responses
abbrev pub begin_read : OpenMessage → ℕ → ℕ → ℕ → Psn → Decision
begin_read opened offset length responses psn =
    record {
      status = status.ReadAccepted;
      change = no_change;
      progress = whole_message opened responses;
      reply = read_begun offset length responses psn;
    }

unfoldable pub accept_read : Packet → OpenMessage → OpenMessage → List ℕ → ℕ → Decision
accept_read p m opened region pmtu =
    begin_read opened (memory_offset region m.address m.length) m.length (pieces m.length pmtu) p.psn

unfoldable pub execute : Packet → OpenMessage → OpenMessage → List ℕ → List ℕ → ℕ → Decision
execute p m opened entry region pmtu =
    cond (carrying p.kind) (store_payload p.ackreq 1 p m entry region)
    (cond (eqb p.kind Kind.read) (accept_read p m opened region pmtu) (run_atomic p m opened region))

unfoldable pub checked_decision : ℕ → Packet → Setup → OpenMessage → List ℕ → List ℕ → Decision
checked_decision check p s opened entry region =
    cond (eqb check RequestCheck.none) (execute p (current opened p) opened entry region s.pmtu)
    (failed check p.psn s.timer)

-- Expected, by the row of its entry and the region of its key
unfoldable pub expected_decision : Packet → Setup → OpenMessage → ℕ → List ℕ → List ℕ → Decision
expected_decision p s opened count entry region =
    checked_decision (expected_check s opened p count entry region) p s opened entry region

-- A duplicate SEND or WRITE is acknowledged up to the PSN before the expected one
unfoldable pub psn_before : Psn → Psn
psn_before psn = psn_after psn (space - 1)

-- A duplicate READ is not answered if reading is off, if it names too many bytes or carries any, if its key does not
-- hold them, or if a response would have the expected PSN or a later one
unfoldable pub duplicate_read_fails : Packet → Setup → OpenMessage → Psn → List ℕ → Bool
duplicate_read_fails p s m expected region =
    not_enabled s Kind.read
    || (over_limit m.length
    || (not (eqb p.body 0)
    || (not (eqb p.pad 0)
    || (key_fails s.memory Kind.read m region
    || ltb (distance expected.0 p.psn.0) (pieces m.length s.pmtu)))))

unfoldable pub duplicate_read : Packet → Setup → OpenMessage → Psn → List ℕ → Decision
duplicate_read p s m expected region =
    cond (duplicate_read_fails p s m expected region) (no_reply status.Dropped)
    (reply_only status.DuplicateAnswered (read_begun (memory_offset region m.address m.length) m.length (pieces m.length s.pmtu) p.psn))

-- A duplicate atomic is answered from what was saved, or not at all
abbrev pub duplicate_atomic : Option ℕ → Psn → Decision
duplicate_atomic (Some v) psn = reply_only status.DuplicateAnswered (sending Kind.atomic_acknowledge psn Syndrome.ack v)
duplicate_atomic None psn = no_reply status.Dropped

-- an atomic's kind
unfoldable pub is_atomic : ℕ → Bool
is_atomic kind = eqb kind Kind.cmp_swap || eqb kind Kind.fetch_add

unfoldable pub duplicate_decision : Packet → Setup → Psn → OpenMessage → List ℕ → Option ℕ → Decision
duplicate_decision p s expected m region saved =
    cond (carrying p.kind) (acknowledging status.DuplicateAnswered (psn_before expected) Syndrome.ack)
    (cond (eqb p.kind Kind.read) (duplicate_read p s m expected region)
    (cond (is_atomic p.kind) (duplicate_atomic saved p.psn) (no_reply status.Dropped)))

-- the row of the key's region; a SEND has no key
unfoldable pub region_for : ℕ → ℕ → List (List ℕ) → List ℕ
region_for kind key regions = cond (eqb kind Kind.send) no_region (region_of key regions)

-- the entry at the head of the ring: the one that an open SEND holds, else the first that waits
abbrev pub head_entry : Pair → List (List ℕ) → List ℕ
head_entry q entries = get_or entries (entry_slot q.entries.head 0) []

-- By the class of its number
abbrev pub decision_by_class : Class → Pair → Packet → List ℕ → List ℕ → Option ℕ → Decision
decision_by_class class.Expected q p entry region saved = expected_decision p q.setup q.message q.entries.count entry region
decision_by_class class.Ahead q p entry region saved = ahead_decision q.nakmark q.expected
decision_by_class class.Duplicate q p entry region saved =
    duplicate_decision p q.setup q.expected (current q.message p) region saved

unfoldable pub rc_decision : Whole → Packet → Decision
rc_decision w p =
    decision_by_class (psn_class p.psn.0 w.pair.expected.0) w.pair p (head_entry w.pair w.entries)
    (region_for p.kind (current w.pair.message p).key w.regions)
    (newest_saved p.psn.0 w.saved w.pair.saved)

-- From here to uc_decision: the unreliable connection, UC.

-- a Middle or Last while no message is open
unfoldable pub orphaned : ℕ → ℕ → Bool
orphaned place opened = not (starts place) && eqb opened closed

-- a Middle or Last that does not go on with the open message, by its PSN or by its kind
unfoldable pub strays : Packet → Psn → ℕ → Bool
strays p expected opened =
    not (starts p.place) && (not (eqb (distance p.psn.0 expected.0) 0) || not (eqb opened p.kind))

-- The message under which a packet is checked: what begins a message has closed the one before, whose entry, still
-- first in the ring, then counts as waiting
unfoldable pub closed_by : ℕ → OpenMessage → OpenMessage
closed_by place opened = cond (starts place) no_message opened

-- A check failed: no NAK. A message that was open when the packet came is abandoned; if none was, the packet is
-- dropped. Out of range, for an entry that no call made, is the caller's mistake and abandons nothing
unfoldable pub abandoning : ℕ → ℕ → Decision
abandoning check opened =
    cond (eqb (check_answer check) Number.out_of_range) (no_reply status.OutOfRange)
    (cond (eqb opened closed) (no_reply status.Dropped) (no_reply status.Abandoned))

-- Executed: the PSNs from the expected one up to the packet's own count as taken, so that the one behind it is expected
-- next; no reply is sent, whatever AckReq says. Only SEND and WRITE pass the header checks
unfoldable pub uc_execute : Packet → Psn → OpenMessage → List ℕ → List ℕ → Decision
uc_execute p expected m entry region =
    cond (carrying p.kind) (store_payload false (1 + distance p.psn.0 expected.0) p m entry region)
    (no_reply status.Dropped)

unfoldable pub uc_checked_decision : ℕ → Packet → Psn → OpenMessage → List ℕ → List ℕ → Decision
uc_checked_decision check p expected opened entry region =
    cond (eqb check RequestCheck.none) (uc_execute p expected (current opened p) entry region)
    (abandoning check opened.kind)

-- a Middle or Last without its message first, then the request checks
unfoldable pub uc_decision : Packet → Setup → Psn → OpenMessage → ℕ → List ℕ → List ℕ → Decision
uc_decision p s expected opened count entry region =
    cond (orphaned p.place opened.kind) (no_reply status.Dropped)
    (cond (strays p expected opened.kind) (no_reply status.Abandoned)
    (uc_checked_decision (request_check s (closed_by p.place opened) p count entry region) p expected opened entry region))

-- By the service of the pair
unfoldable pub packet_decision : Whole → Packet → Decision
packet_decision w p =
    cond (eqb w.pair.setup.service Service.uc)
    (uc_decision p w.pair.setup w.pair.expected w.pair.message w.pair.entries.count (head_entry w.pair w.entries)
    (region_for p.kind (current w.pair.message p).key w.regions))
    (rc_decision w p)

-- A packet whose header does not pass the header checks is dropped at once
abbrev pub or_drop : Result Header Reason → (Header → Decision) → Decision
or_drop (Ok h) f = f h
or_drop (Err why) f = no_reply status.Dropped

-- a READ is unfinished: one answer is being sent
unfoldable pub reads_full : Pair → Bool
reads_full q = not (eqb q.read.remaining 0)

-- Refused, before the packet is looked at: an output with no room for an Atomic Acknowledge, memory of another length
-- than was set up, or a pair that no call made, and any packet while a READ is unfinished
unfoldable pub inbound_refusal : Pair → ℕ → ℕ → Status
inbound_refusal q memory room =
    cond (ltb room atomic_ack_length) status.OutputShort
    (cond (not (eqb memory q.setup.memory)) status.OutOfRange
    (cond (pair_unsound q) status.OutOfRange
    (cond (reads_full q) status.ReadUnfinished status.Executed)))

-- a call that has this answer before it does anything: refused, where it is another than Executed
unfoldable pub unless_executed : Status → Result Unit Status
unless_executed answer = cond (executed answer) (Ok tt) (Err answer)

-- what the header checks of the pair make of the packet
abbrev pub checked_header : Arrival → Result Header Reason
checked_header a =
    admitted a.whole.pair.setup.service a.whole.pair.setup.ours a.whole.pair.setup.pkey
    (eqb a.whole.pair.state State.ready) a.packet

abbrev pub refusal_of : Arrival → Status
refusal_of a = inbound_refusal a.whole.pair (length a.memory) (length a.out)

-- The decision
unfoldable pub decision : Arrival → Decision
decision a =
    cond (executed (refusal_of a))
    (or_drop (checked_header a) (λ h. packet_decision a.whole (packet_of h (length a.packet)))) (no_reply (refusal_of a))
