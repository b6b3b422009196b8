-- What each answer of the inbound call leaves.
use Prim.Native.Nat.{ℕ, ◌+◌, ◌-◌, ◌≤◌, ◌<◌}
use mathlib.Core.Path.{◌≡◌, refl, sym, ap, subst, ◌∙◌}
use mathlib.Core.Bool.{Bool, true, false, cond, ◌||◌}
use mathlib.Core.List.{List}
use mathlib.Core.Logic.{◌⊎◌, inl, inr}
use native.Mathlib.Omega.{arith}
use lib.Dec.{eqb}
use lib.ListN.{length, take, drop, get_or}
use borrow.Author.Tests.{eq-eqb, ne_eqb, lt-leb, le-leb, eqb-true, eqb-false}
use Rattle.responder_spec.specs.Arrival.{Arrival, Left}
use Rattle.sequence.specs.Sequence.{distance, psn_after, msn_next}
use Rattle.sequence.specs.declared.Msn.{Msn}
use Rattle.opcode.specs.Opcode.{follows_of, low_class}
use Rattle.header.specs.Read.{bth_of, reth_of, extension_of, header_of}
use Rattle.header.specs.Write.{bth_bytes, aeth_bytes, extension_bytes, header_bytes}
use Rattle.memory.specs.Memory.{store}
use Rattle.memory.specs.Word.{word_at, fetch_added, swapped}
use Rattle.memory.specs.Claims.{OnlyWord}
use Rattle.memory.proofs.Words.{fetch-within, swap-within}
use Rattle.packet.specs.Packet.{payload_of}
use Rattle.opcode.specs.Place.{ends}
use Rattle.pmtu.specs.Pieces.{pieces}
use Rattle.table.specs.Table.{entry_slot, memory_offset}
use Rattle.table.specs.View.{region_of, saved_ring, saved_rows}
use Rattle.pair.specs.Answer.{status_number, executed}
use Rattle.pair.specs.Claims.{status_of}
use Rattle.pair.specs.Pair.{no_message}
use Rattle.pair.specs.declared.Pair.{Pair}
use Rattle.pair.specs.declared.Status.{Status}
use Rattle.pair.specs.declared.Status.TheVariants as status
use Rattle.pair.specs.declared.OpenMessage.{OpenMessage}
use Rattle.pair.specs.declared.ReadAnswer.{ReadAnswer}
use Rattle.pair.proofs.Known.{number-back}
use Rattle.request_spec.specs.Packet.{remote, operands_of, packet_of, packet_in}
use Rattle.request_spec.specs.Verdict.{payload_size}
use Rattle.request_spec.specs.declared.Operands.{Operands}
use Rattle.request_spec.specs.declared.Packet.{Packet}
use Rattle.responder_spec.specs.declared.Reply.{Reply}
use Rattle.responder_spec.specs.declared.Decision.{Decision}
use Rattle.responder_spec.specs.Reply.{nothing_sent, sending, reply_header, ack_header, atomic_header, ack_bytes, over}
use Rattle.responder_spec.specs.Decide.{no_completion, reply_only, no_reply, acknowledging, psn_before}
use Rattle.responder_spec.specs.Decide.{completes, completion_of, message_after, target_offset, begin_read}
use Rattle.responder_spec.specs.Decide.{store_payload, run_atomic, decision}
use Rattle.responder_spec.specs.Apply.{memory_by, acts_atomic, saved_by, saved_ring_by, ring_taken, entries_by, msn_by, read_answer_by, executed_pair, with, pair_by_number, pair_by}
use Rattle.responder_spec.specs.Inbound.{sent_by, left_by, inbound}
use Rattle.effect_laws.specs.Effects.{Silent, OnlyRead, InboundReads, Unexecuted, Unchanged, Fixed, NakMarkAlone}
use Rattle.effect_laws.specs.Effects.{ErrorAlone, Begun, DuplicateLeaves, Abandons, Executes, StoresPacket, Accepts}
use Rattle.effect_laws.specs.Effects.{OnWord, Swaps, Table, InboundTable, LeavesEach}
use Rattle.decision_laws.proofs.Codes.Bare.{reads, swaps, adds}
use Rattle.decision_laws.proofs.Codes.{Bare, class-is}
use Rattle.decision_laws.proofs.Rows.Quiet.{dropped, short, range, unfinished}
use Rattle.decision_laws.proofs.Rows.Row.{quiet, ahead, invalid, access, unready, ack_duplicate, read_duplicate, atomic_duplicate, stored, begin, swap}
use Rattle.decision_laws.proofs.Rows.UcRow.{unheard, abandon, deliver}
use Rattle.decision_laws.proofs.Rows.AnyRow.{reliable, unreliable}
use Rattle.decision_laws.proofs.Rows.{Quiet, Asks, Row, UcRow, AnyRow, either, decided-row}
use Rattle.decision_laws.proofs.Views.{number-taken}
use Rattle.decision_laws.proofs.Ways.{payload-size, payload-is}

pub silent : Silent no_completion
silent = record { some = refl; number = refl; length = refl; immediate = refl; value = refl }

-- FetchAdd or CmpSwap: either way an atomic, on one word
pub act_by : (P : ℕ → Type 0) → P 2 → P 3 → (b : Bool) → P (cond b 2 3)
act_by P x y true = x
act_by P x y false = y

module _ (arrival : Arrival) where
  abbrev q : Pair
  q = arrival.whole.pair

  abbrev p : List ℕ
  p = arrival.packet

  abbrev m : List ℕ
  m = arrival.memory

  -- what a decision leaves
  abbrev L : Decision → Left
  L = left_by arrival

  -- the row of each answer; those that do not come have none
  abbrev Effect : Status → Left → Type 0
  Effect status.Executed l = StoresPacket arrival l × (l.outgoing ≡ 0) × (l.out ≡ arrival.out)
  Effect status.Acknowledged l = StoresPacket arrival l × (l.outgoing ≡ 16)
  Effect status.ReadAccepted l = Accepts arrival l
  Effect status.AtomicExecuted l = Swaps arrival l
  Effect status.DuplicateAnswered l = DuplicateLeaves arrival l
  Effect status.Dropped l = Unchanged arrival l
  Effect status.Abandoned l = Abandons arrival l
  Effect status.SequenceNak l = NakMarkAlone arrival l
  Effect status.InvalidRequestNak l = ErrorAlone arrival l
  Effect status.AccessNak l = ErrorAlone arrival l
  Effect status.NotReadyNak l = NakMarkAlone arrival l
  Effect status.ReadUnfinished l = Unchanged arrival l
  Effect status.TableFull l = ⊥
  Effect status.OutOfRange l = Unchanged arrival l
  Effect status.OutputShort l = Unchanged arrival l
  Effect status.WrongState l = ⊥
  Effect status.NoSuchKey l = ⊥
  Effect status.KeyInUse l = ⊥
  Effect status.BadNumber l = ⊥

  unexecuted-by : (a : Status) (r : Reply) → Unexecuted arrival (L (reply_only a r))
  unfolding left_by memory_by saved_by acts_atomic
  unexecuted-by a r = record { memory = refl; saved = refl; completion = silent }

  only-read : (d : Decision) → OnlyRead arrival (L d)
  unfolding left_by
  only-read d = record { regions = refl; entries = refl }

  quiet_by : (a : Status) → Quiet a → Effect a (L (no_reply a))
  unfolding left_by memory_by saved_by acts_atomic pair_by pair_by_number status_number no_reply sent_by ack_bytes over
  quiet_by status.Dropped dropped = record { pair = refl; tables = only-read (no_reply status.Dropped); unexecuted = unexecuted-by status.Dropped nothing_sent; outgoing = refl; out = refl }
  quiet_by status.OutputShort short = record { pair = refl; tables = only-read (no_reply status.OutputShort); unexecuted = unexecuted-by status.OutputShort nothing_sent; outgoing = refl; out = refl }
  quiet_by status.OutOfRange range = record { pair = refl; tables = only-read (no_reply status.OutOfRange); unexecuted = unexecuted-by status.OutOfRange nothing_sent; outgoing = refl; out = refl }
  quiet_by status.ReadUnfinished unfinished = record { pair = refl; tables = only-read (no_reply status.ReadUnfinished); unexecuted = unexecuted-by status.ReadUnfinished nothing_sent; outgoing = refl; out = refl }
  quiet_by status.Executed x = elim x [ ]
  quiet_by status.Acknowledged x = elim x [ ]
  quiet_by status.ReadAccepted x = elim x [ ]
  quiet_by status.AtomicExecuted x = elim x [ ]
  quiet_by status.DuplicateAnswered x = elim x [ ]
  quiet_by status.Abandoned x = elim x [ ]
  quiet_by status.SequenceNak x = elim x [ ]
  quiet_by status.InvalidRequestNak x = elim x [ ]
  quiet_by status.AccessNak x = elim x [ ]
  quiet_by status.NotReadyNak x = elim x [ ]
  quiet_by status.TableFull x = elim x [ ]
  quiet_by status.WrongState x = elim x [ ]
  quiet_by status.NoSuchKey x = elim x [ ]
  quiet_by status.KeyInUse x = elim x [ ]
  quiet_by status.BadNumber x = elim x [ ]

  fixed-with : (state : ℕ) (nakmark : Bool) (a : ReadAnswer) → Fixed q (with q state nakmark a)
  fixed-with state nakmark a = record { setup = refl; expected = refl; msn = refl; message = refl; entries = refl; saved = refl }

  fixed-by : (d : Decision) → 3 < status_number d.status → (status_number d.status ≡ 6 → ⊥) → Fixed q (pair_by q d)
  unfolding pair_by pair_by_number
  fixed-by d h k =
      let n = status_number d.status in
      rw (lt-leb n 3 h, ne_eqb n 6 k)
      (either (Fixed q) (eqb n 4) (fixed-with _ _ _)
      (either (Fixed q) (eqb n 16 || eqb n 19) (fixed-with _ _ _)
      (either (Fixed q) (eqb n 17 || eqb n 18) (fixed-with _ _ _) (fixed-with q.state q.nakmark q.read))))

  -- a READ that begins: its operands are those of the RETH
  operands-by : (packet_in p).kind ≡ 12 → (packet_in p).operands ≡ remote (reth_of p) false 0
  unfolding packet_of header_of extension_of operands_of low_class follows_of
  operands-by e = ap (λ c. operands_of (extension_of c.follows p)) (class-is (bth_of p).opcode 12 reads e)

  offset-some : (region : List ℕ) (address n : ℕ) → 0 < n → memory_offset region address n ≡ get_or region 3 0 + (address - get_or region 1 0)
  unfolding memory_offset
  offset-some region address n h = rw (ne_eqb n 0 (λ z. omega arith))

  offset-none : (region : List ℕ) (address n : ℕ) → n ≡ 0 → memory_offset region address n ≡ 0
  unfolding memory_offset
  offset-none region address n h = rw (eq-eqb n 0 h)

  begun-by : (r : Reply) (old : ReadAnswer) (msn : Msn) → 0 < r.remaining → r.remaining ≡ pieces r.length q.setup.pmtu
      → r.psn ≡ (bth_of p).psn → Asks q.setup.memory arrival.whole.regions (packet_in p) r.offset r.length
      → Begun arrival.whole.regions q.setup p msn (read_answer_by r old msn)
  unfolding read_answer_by
  begun-by r old msn h e n A =
      let o = operands-by A.kind in
      let l : r.length ≡ (reth_of p).length = A.length ∙ ap (λ x. x.length) o in
      let t : r.offset ≡ memory_offset (region_of (reth_of p).key arrival.whole.regions) (reth_of p).address (reth_of p).length =
      A.at ∙ ap (λ x. memory_offset (region_of x.key arrival.whole.regions) x.address x.length) o in
      rw (ne_eqb r.remaining 0 (λ z. omega arith))
      (record {
        some = h;
        all = e;
        psn = n;
        msn = refl;
        length = l;
        offset = λ z. t ∙ offset-some (region_of (reth_of p).key arrival.whole.regions) (reth_of p).address (reth_of p).length (omega arith);
        empty = λ z. t ∙ offset-none (region_of (reth_of p).key arrival.whole.regions) (reth_of p).address (reth_of p).length (omega arith);
        within = A.within;
      })

  remaining-by : (r : Reply) (old : ReadAnswer) (msn : Msn) → 0 < r.remaining → (read_answer_by r old msn).remaining ≡ r.remaining
  unfolding read_answer_by
  remaining-by r old msn h = rw (ne_eqb r.remaining 0 (λ z. omega arith))

  -- executed: the pair as the decision says
  ran : (d : Decision) → status_number d.status ≤ 3 → pair_by q d ≡ executed_pair q d
  unfolding pair_by pair_by_number
  ran d h = rw (le-leb (status_number d.status) 3 h)

  executes-by : (d : Decision) → Executes q (executed_pair q d)
  unfolding executed_pair
  executes-by d = record { nakmark = refl; setup = refl; state = refl }

  stored-few : (b : Bool) → status_number (cond b status.Acknowledged status.Executed) ≤ 3
  unfolding status_number
  stored-few true = omega arith
  stored-few false = omega arith

  -- no more bytes than the packet carries
  payload-most : length (payload_of p) ≤ payload_size (packet_in p)
  unfolding payload_size
  payload-most = omega (arith, payload-size p)

  -- what a message's end does
  message-by : (t : OpenMessage) (place size : ℕ) → 2 ≤ place → message_after place t size ≡ no_message
  unfolding message_after ends
  message-by t place size h = rw (le-leb 2 place h)

  ended : (place : ℕ) → 2 ≤ place → msn_by (ends place) q.msn ≡ msn_next q.msn
  unfolding msn_by ends
  ended place h = rw (le-leb 2 place h)

  goes_on_lem : (place : ℕ) → place < 2 → msn_by (ends place) q.msn ≡ q.msn
  unfolding msn_by ends
  goes_on_lem place h = rw (lt-leb 2 place h)

  silent-by : (k : Packet) (t : OpenMessage) (number : ℕ) → k.place < 2 → Silent (completion_of k t number)
  unfolding completion_of completes ends
  silent-by k t number h = rw (lt-leb 2 k.place h) silent

  entries_by_lem : (b c : Bool) → b ≡ c → entries_by b q.entries ≡ cond c (ring_taken q.entries) q.entries
  unfolding entries_by
  entries_by_lem b c e = rw e

  -- acknowledged or not, and however many PSNs are taken, by the rule of the service
  stores-packet-by : (asked : Bool) (n : ℕ) (t : OpenMessage) (entry region : List ℕ)
      → ((q.setup.service ≡ 1 → ⊥) → psn_after q.expected n ≡ psn_after q.expected 1)
      → (q.setup.service ≡ 1 → psn_after q.expected n ≡ psn_after (bth_of p).psn 1)
      → target_offset (packet_in p).kind t entry region + payload_size (packet_in p) ≤ q.setup.memory
      → StoresPacket arrival (L (store_payload asked n (packet_in p) t entry region))
  unfolding left_by store_payload executed_pair read_answer_by saved_ring_by saved_by acts_atomic memory_by ring_taken entry_slot packet_of header_of
  stores-packet-by asked n t entry region rc uc w =
      let k = packet_in p in
      let d = store_payload asked n k t entry region in
      let e : pair_by q d ≡ executed_pair q d = ran d (stored-few asked) in
      record {
        executed = subst (Executes q) (sym e) (executes-by d);
        expected = λ h. ap (λ x. x.expected) e ∙ rc h;
        taken = λ h. ap (λ x. x.expected) e ∙ uc h;
        memory = (d.change.at, omega (arith, w, payload-most), ap (store m d.change.at) (payload-is p));
        ends = λ h. (ap (λ x. x.msn) e ∙ ended k.place h, ap (λ x. x.message) e ∙ message-by t k.place (payload_size k) h);
        onward = λ h. (ap (λ x. x.msn) e ∙ goes_on_lem k.place h, silent-by k t _ h);
        completes = λ h. ap (λ x. x.entries) e ∙ entries_by_lem d.progress.completion.some true h;
        silent = λ h. ap (λ x. x.entries) e ∙ entries_by_lem d.progress.completion.some false h;
        read = ap (λ x. x.read) e;
        ring = ap (λ x. x.saved) e;
        saved = refl;
      }

  stored-by : (asked : Bool) (n : ℕ) (t : OpenMessage) (entry region : List ℕ)
      → ((q.setup.service ≡ 1 → ⊥) → psn_after q.expected n ≡ psn_after q.expected 1)
      → (q.setup.service ≡ 1 → psn_after q.expected n ≡ psn_after (bth_of p).psn 1)
      → target_offset (packet_in p).kind t entry region + payload_size (packet_in p) ≤ q.setup.memory
      → Effect (cond asked status.Acknowledged status.Executed) (L (store_payload asked n (packet_in p) t entry region))
  unfolding left_by store_payload sent_by ack_bytes ack_header reply_header header_bytes bth_bytes extension_bytes aeth_bytes over
  stored-by true n t entry region rc uc w = (stores-packet-by true n t entry region rc uc w, refl)
  stored-by false n t entry region rc uc w = (stores-packet-by false n t entry region rc uc w, refl, refl)

  -- its operands are those of the AtomicETH
  operand-by : (f : Operands → ℕ) (k : ℕ) → Bare k → (packet_in p).kind ≡ k → f (packet_in p).operands ≡ f (operands_of (extension_of (low_class k).follows p))
  unfolding packet_of header_of
  operand-by f k B e = ap (λ c. f (operands_of (extension_of c.follows p))) (class-is (bth_of p).opcode k B e)

  word-by : (t : OpenMessage) (region : List ℕ) → memory_offset region t.address t.length + 8 ≤ q.setup.memory
      → OnWord arrival (L (run_atomic (packet_in p) t q.message region)) (memory_offset region t.address t.length)
  unfolding left_by run_atomic memory_by saved_by acts_atomic packet_of header_of low_class follows_of extension_of operands_of
  word-by t region w =
      let k = packet_in p in
      let d = run_atomic k t q.message region in
      record {
        within = w;
        only = act_by (λ a. OnlyWord m (memory a) d.change.at) (fetch-within m d.change.at d.change.swap) (swap-within m d.change.at d.change.compare d.change.swap) (eqb k.kind 20);
        fetch = λ e. ap (λ x. memory (cond (eqb x 20) 2 3)) e ∙ ap (fetch_added m d.change.at) (operand-by (λ o. o.swap) 20 adds e);
        swap = λ e. ap (λ x. memory (cond (eqb x 20) 2 3)) e
            ∙ (λ i. swapped m d.change.at (operand-by (λ o. o.compare) 19 swaps e i) (operand-by (λ o. o.swap) 19 swaps e i));
        saved =
            act_by
            (λ a. cond (acts_atomic a) (saved_rows arrival.whole.saved q.saved d.reply.psn.0 (word_at m d.change.at)) arrival.whole.saved ≡ saved_rows arrival.whole.saved q.saved d.reply.psn.0 (word_at m d.change.at))
            refl refl (eqb k.kind 20);
      }
    where
      memory : ℕ → List ℕ
      memory a =
          let d = run_atomic (packet_in p) t q.message region in
          cond (eqb a 1) (store m d.change.at (take 0 (drop 0 p)))
          (cond (eqb a 2) (fetch_added m d.change.at d.change.swap) (cond (eqb a 3) (swapped m d.change.at d.change.compare d.change.swap) m))

  swap-by : (t : OpenMessage) (region : List ℕ) → memory_offset region t.address t.length + 8 ≤ q.setup.memory
      → Swaps arrival (L (run_atomic (packet_in p) t q.message region))
  unfolding left_by run_atomic pair_by pair_by_number status_number executed_pair read_answer_by msn_by entries_by saved_ring_by acts_atomic sent_by ack_bytes atomic_header reply_header header_bytes bth_bytes extension_bytes aeth_bytes
  swap-by t region w =
      record {
        executed = executes-by (run_atomic (packet_in p) t q.message region);
        expected = refl;
        msn = refl;
        message = refl;
        entries = refl;
        read = refl;
        word = (memory_offset region t.address t.length, word-by t region w);
        ring = act_by (λ a. cond (acts_atomic a) (saved_ring q.saved) q.saved ≡ saved_ring q.saved) refl refl (eqb (packet_in p).kind 20);
        completion = silent;
        outgoing = refl;
      }

  begin-by : (at n : ℕ) → Asks q.setup.memory arrival.whole.regions (packet_in p) at n → 0 < pieces n q.setup.pmtu → Accepts arrival
      (L (begin_read q.message at n (pieces n q.setup.pmtu) (bth_of p).psn))
  unfolding left_by pair_by pair_by_number status_number executed_pair msn_by entries_by saved_ring_by acts_atomic memory_by saved_by sent_by ack_bytes over
  begin-by at n a s =
      let k = pieces n q.setup.pmtu in
      let d = begin_read q.message at n k (bth_of p).psn in
      record {
        executed = executes-by d;
        begun = begun-by d.reply q.read (msn_next q.msn) s refl refl a;
        expected = ap (psn_after q.expected) (sym (remaining-by d.reply q.read (msn_next q.msn) s));
        msn = refl;
        message = refl;
        entries = refl;
        ring = refl;
        unexecuted = record { memory = refl; saved = refl; completion = silent };
        outgoing = refl;
        out = refl;
      }

  effect : eqb q.setup.service 1 ≡ false → (d : Decision) → Row Quiet arrival.whole (packet_in p) d → Effect d.status (L d)
  unfolding left_by acknowledging pair_by pair_by_number status_number memory_by saved_by acts_atomic no_reply store_payload run_atomic sent_by ack_bytes ack_header atomic_header reply_header header_bytes bth_bytes extension_bytes aeth_bytes over read_answer_by packet_of header_of
  effect c d (quiet a k) = quiet_by a k
  effect c d ahead =
      record {
        nakmark = refl;
        fixed = fixed-by d (omega arith) (λ e. absurd (omega arith));
        state = refl;
        read = refl;
        unexecuted = unexecuted-by status.SequenceNak (sending 17 q.expected 96 0);
        outgoing = refl;
      }
  effect c d invalid =
      record {
        state = refl;
        fixed = fixed-by d (omega arith) (λ e. absurd (omega arith));
        nakmark = refl;
        read = refl;
        unexecuted = unexecuted-by status.InvalidRequestNak (sending 17 (bth_of p).psn 97 0);
        outgoing = refl;
      }
  effect c d access =
      record {
        state = refl;
        fixed = fixed-by d (omega arith) (λ e. absurd (omega arith));
        nakmark = refl;
        read = refl;
        unexecuted = unexecuted-by status.AccessNak (sending 17 (bth_of p).psn 98 0);
        outgoing = refl;
      }
  effect c d unready =
      record {
        nakmark = refl;
        fixed = fixed-by d (omega arith) (λ e. absurd (omega arith));
        state = refl;
        read = refl;
        unexecuted = unexecuted-by status.NotReadyNak (sending 17 (bth_of p).psn (32 + q.setup.timer) 0);
        outgoing = refl;
      }
  effect c d ack_duplicate =
      record {
        fixed = fixed-by d (omega arith) (λ e. absurd (omega arith));
        state = refl;
        nakmark = refl;
        unexecuted = unexecuted-by status.DuplicateAnswered (sending 17 (psn_before q.expected) 31 0);
        answer = inl (inl refl, refl);
      }
  effect c d (read_duplicate at n a s) =
      record {
        fixed = fixed-by d (omega arith) (λ e. absurd (omega arith));
        state = refl;
        nakmark = refl;
        unexecuted = record { memory = refl; saved = refl; completion = silent };
        answer = inr (refl, refl, begun-by d.reply q.read q.msn s refl refl a);
      }
  effect c d (atomic_duplicate v e) =
      record {
        fixed = fixed-by d (omega arith) (λ e. absurd (omega arith));
        state = refl;
        nakmark = refl;
        unexecuted = unexecuted-by status.DuplicateAnswered (sending 18 (bth_of p).psn 31 v);
        answer = inl (inr refl, refl);
      }
  effect c d (stored t entry region w) =
      stored-by (packet_in p).ackreq 1 t entry region (λ h. refl) (λ h. absurd (eqb-false q.setup.service 1 c h)) w
  effect c d (begin at n a s) = begin-by at n a s
  effect c d (swap t region w) = swap-by t region w

  -- and on the unreliable connection
  abandoned : Unexecuted arrival (L (no_reply status.Abandoned))
  unfolding no_reply
  abandoned = unexecuted-by status.Abandoned nothing_sent

  uc-effect : eqb q.setup.service 1 ≡ true → (d : Decision) → UcRow Quiet q (packet_in p) d → Effect d.status (L d)
  unfolding left_by pair_by pair_by_number status_number no_reply store_payload sent_by ack_bytes over packet_of header_of
  uc-effect c d (unheard a k) = quiet_by a k
  uc-effect c d (abandon h) =
      record {
        opened = h;
        message = refl;
        setup = refl;
        state = refl;
        expected = refl;
        msn = refl;
        nakmark = refl;
        entries = refl;
        read = refl;
        ring = refl;
        unexecuted = abandoned;
        outgoing = refl;
        out = refl;
      }
  uc-effect c d (deliver t entry region w) =
      stored-by false (1 + distance (bth_of p).psn.0 q.expected.0) t entry region (λ h. absurd (h (eqb-true q.setup.service 1 c)))
      (λ h. number-taken (bth_of p).psn q.expected) w

  any-effect : (d : Decision) → AnyRow Quiet arrival.whole (packet_in p) d → Effect d.status (L d)
  any-effect d (reliable c r) = effect c d r
  any-effect d (unreliable c r) = uc-effect c d r

  -- which answer it is, by its number
  is : (a : Status) (l : Left) (n : ℕ) → status_number a ≡ n → Effect a l → Effect (status_of n) l
  is a l n e x = subst (λ b. Effect b l) (sym (number-back a) ∙ ap status_of e) x

  over-32 : (a : Status) (l : Left) → 32 ≤ status_number a → Effect a l → Unchanged arrival l
  unfolding status_number
  over-32 status.Executed l h x = absurd (omega arith)
  over-32 status.Acknowledged l h x = absurd (omega arith)
  over-32 status.ReadAccepted l h x = absurd (omega arith)
  over-32 status.AtomicExecuted l h x = absurd (omega arith)
  over-32 status.DuplicateAnswered l h x = absurd (omega arith)
  over-32 status.Dropped l h x = x
  over-32 status.Abandoned l h x = absurd (omega arith)
  over-32 status.SequenceNak l h x = absurd (omega arith)
  over-32 status.InvalidRequestNak l h x = absurd (omega arith)
  over-32 status.AccessNak l h x = absurd (omega arith)
  over-32 status.NotReadyNak l h x = absurd (omega arith)
  over-32 status.ReadUnfinished l h x = x
  over-32 status.TableFull l h x = absurd x
  over-32 status.OutOfRange l h x = x
  over-32 status.OutputShort l h x = x
  over-32 status.WrongState l h x = absurd x
  over-32 status.NoSuchKey l h x = absurd x
  over-32 status.KeyInUse l h x = absurd x
  over-32 status.BadNumber l h x = absurd x

  table : (a : Status) (l : Left) → l.number ≡ status_number a → Effect a l → Table arrival l
  unfolding status_of
  table a l e x =
      record {
        quiet = λ h. quiets h;
        nakmarks = λ h. nakmark h;
        errs = λ h. err h;
        abandons = λ h. is a l 6 (sym e ∙ h) x;
        duplicates = λ h. is a l 4 (sym e ∙ h) x;
        swaps = λ h. is a l 3 (sym e ∙ h) x;
        accepts = λ h. is a l 2 (sym e ∙ h) x;
        acknowledges = λ h. is a l 1 (sym e ∙ h) x;
        executes = λ h. is a l 0 (sym e ∙ h) x;
      }
    where
      quiets : (l.number ≡ 5) ⊎ (32 ≤ l.number) → Unchanged arrival l
      quiets (inl h) = is a l 5 (sym e ∙ h) x
      quiets (inr h) = over-32 a l (subst (λ n. 32 ≤ n) e h) x

      nakmark : (l.number ≡ 16) ⊎ (l.number ≡ 19) → NakMarkAlone arrival l
      nakmark (inl h) = is a l 16 (sym e ∙ h) x
      nakmark (inr h) = is a l 19 (sym e ∙ h) x

      err : (l.number ≡ 17) ⊎ (l.number ≡ 18) → ErrorAlone arrival l
      err (inl h) = is a l 17 (sym e ∙ h) x
      err (inr h) = is a l 18 (sym e ∙ h) x

pub leaves-each : LeavesEach
leaves-each q regions entries saved m p out o saved' m' out' e = (
  ap (λ y. y.number) e,
  ap (λ y. y.whole.pair) e,
  ap (λ y. y.completion) e,
  ap (λ y. y.outgoing) e,
  ap (λ y. y.whole.saved) e,
  ap (λ y. y.memory) e,
  ap (λ y. y.out) e,
)

pub inbound-reads : InboundReads
unfolding inbound
inbound-reads a = only-read a (decision a)

pub inbound-table : InboundTable
unfolding inbound left_by
inbound-table a = let d = decision a in table a d.status (left_by a d) refl (any-effect a d (decided-row a))
