-- Which answer the inbound call gives.
use Prim.Native.Nat.{ℕ, ◌+◌, ◌≤◌, ◌<◌}
use mathlib.Core.Path.{◌≡◌, refl, sym, ap, subst, ◌∙◌}
use mathlib.Core.Bool.{Bool, true, false, cond, not, true≢false}
use mathlib.Core.List.{List, []}
use mathlib.Core.Logic.{◌⊎◌, inl, inr}
use native.Mathlib.Omega.{arith}
use lib.Dec.{eqb, ltb}
use lib.ListN.{length, get_or}
use borrow.Author.Tests.{lt-ltb, le-ltb, eq-eqb, ne_eqb, ltb-false}
use Rattle.pair.specs.Calls.{Whole}
use Rattle.responder_spec.specs.Arrival.{Arrival}
use Rattle.responder_spec.specs.Decide.{refusal_of}
use Rattle.lemmas.proofs.Tests.{or_left, or_right, neither}
use Rattle.sequence.specs.Sequence.{distance, psn_class}
use Rattle.sequence.specs.declared.Psn.{Psn}
use Rattle.sequence.specs.declared.Class.{Class}
use Rattle.sequence.specs.declared.Class.TheVariants as class
use Rattle.opcode.specs.Opcode.{service_of, low_of, kind_of, low_class, reserved_class, uc_has, class_of}
use Rattle.header.specs.declared.Header.{Header}
use Rattle.std.specs.Prelude.{Ok, Err}
use Rattle.pmtu.specs.Pieces.{pieces}
use Rattle.table.specs.Table.{no_region, memory_offset}
use Rattle.table.specs.View.{region_of, newest_saved}
use Rattle.table.proofs.Rings.{entry-slots}
use Rattle.pair.specs.Answer.{status_number, executed}
use Rattle.pair.specs.Claims.{Sound}
use Rattle.pair.specs.declared.Setup.{Setup}
use Rattle.pair.specs.declared.OpenMessage.{OpenMessage}
use Rattle.pair.specs.declared.Pair.{Pair}
use Rattle.pair.specs.declared.Status.TheVariants as status
use Rattle.pair.proofs.Known.{sound}
use Rattle.request_spec.specs.Packet.{packet_of}
use Rattle.request_spec.specs.Verdict.{carrying, out_of_sequence, not_enabled, pad_early, over_limit, none_waiting}
use Rattle.request_spec.specs.Verdict.{entry_outside, right_of, lacks, bytes_to_come, key_lacking, key_fails, lengths_off}
use Rattle.request_spec.specs.Verdict.{current, request_check, expected_check, check_answer}
use Rattle.request_spec.specs.Claims.{Place, Carries, IsAtomic, Served, KeyGood, IsCurrent, Tells, JudgedBy, AnswerOf}
use Rattle.request_spec.proofs.Answered.{check-answered}
use Rattle.request_spec.proofs.Conditions.{limit-tested, key-tested}
use Rattle.header.proofs.Reasons.{of-not}
use Rattle.request_spec.proofs.Order.{current-one, order}
use Rattle.request_spec.proofs.Taken.{any_place}
use Rattle.request_spec.specs.declared.Packet.{Packet}
use Rattle.header.specs.Write.{bth_bytes, aeth_bytes, extension_bytes, header_bytes}
use Rattle.responder_spec.specs.Reply.{read_begun, reply_header, ack_header, atomic_header, ack_bytes}
use Rattle.responder_spec.specs.Decide.{reply_only, no_reply, acknowledging, ahead_decision, failed, store_payload}
use Rattle.responder_spec.specs.Decide.{run_atomic, accept_read, execute, checked_decision, expected_decision}
use Rattle.responder_spec.specs.Decide.{duplicate_read_fails, duplicate_read, is_atomic, duplicate_decision}
use Rattle.responder_spec.specs.Decide.{region_for, head_entry, decision_by_class, rc_decision, packet_decision}
use Rattle.responder_spec.specs.Decide.{reads_full, inbound_refusal, decision}
use Rattle.responder_spec.specs.Inbound.{sent_by, left_by, inbound}
use Rattle.answer_laws.specs.Answers.{Willing, header_by, HeaderDropped, entry_at_head, Expects, Aheads}
use Rattle.answer_laws.specs.Answers.{ReadAnswerable, DuplicateAnswers, Classed, HeaderPassed}
use Rattle.answer_laws.specs.Answers.{DuplicateReplies, DuplicateSent}

-- nothing refuses the call
pub goes : (a : Arrival) → Willing a → executed (refusal_of a) ≡ true
unfolding inbound_refusal reads_full executed status_number
goes a W =
    let q = a.whole.pair in
    rw (le-ltb (length a.out) 24 W.room, eq-eqb (length a.memory) q.setup.memory W.memory, sound q W.sound, eq-eqb q.read.remaining 0 W.idle)

pub header-dropped : HeaderDropped
unfolding inbound left_by decision no_reply status_number
header-dropped a W reason e = rw (goes a W, e)

pub looked : (a : Arrival) → Willing a → (h : Header) → header_by a ≡ Ok h
    → (inbound a).number
    ≡ status_number (packet_decision a.whole (packet_of h (length a.packet))).status
unfolding inbound left_by decision
looked a W h e = rw (goes a W, e)

-- the entry at the head
pub head_first : (w : Whole) → Sound w.pair → head_entry w.pair w.entries ≡ entry_at_head w
head_first w S = ap (λ i. get_or w.entries i []) (entry-slots.start w.pair.entries.head S.entries.0)

-- a SEND has no key, so its code is the same whatever the region
key-by : (memory kind : ℕ) (t : OpenMessage) (key : ℕ) (regions : List (List ℕ))
    → key_fails memory kind t (region_for kind key regions) ≡ key_fails memory kind t (region_of key regions)
unfolding key_fails key_lacking region_for
key-by memory kind t key regions = go (eqb kind 0)
  where
    A : ℕ
    A = t.address + t.stored

    N : ℕ
    N = bytes_to_come t.length t.stored

    go : (b : Bool)
        → cond b false (cond (eqb N 0) false (lacks (cond b no_region (region_of key regions)) (right_of kind (cond b no_region (region_of key regions))) memory A N))
        ≡ cond b false (cond (eqb N 0) false (lacks (region_of key regions) (right_of kind (region_of key regions)) memory A N))
    go true = refl
    go false = refl

pub code_by_lem : (s : Setup) (opened : OpenMessage) (k : Packet) (count : ℕ) (entry : List ℕ) (regions : List (List ℕ))
    → expected_check s opened k count entry (region_for k.kind (current opened k).key regions)
    ≡ expected_check s opened k count entry (region_of (current opened k).key regions)
unfolding expected_check request_check
code_by_lem s opened k count entry regions =
    ap (λ b. cond (out_of_sequence opened.kind k.kind k.place) 1
    (cond (not_enabled s k.kind) 2
    (cond (pad_early k.place k.pad) 3
    (cond (over_limit k.operands.length) 4
    (cond (none_waiting k.kind k.place k.operands.immediate opened.kind count) 5
    (cond (entry_outside k.kind k.operands.immediate entry s.memory) 8
    (cond b 6 (cond (lengths_off k s.pmtu (current opened k) (get_or entry 2 0)) 7 0))))))))
    (key-by s.memory k.kind (current opened k) (current opened k).key regions)

-- what a check refuses has that check's answer
failed-number : (check : ℕ) (psn : Psn) (timer : ℕ) → (check ≡ 0 → ⊥) → status_number (failed check psn timer).status ≡ check_answer check
unfolding failed check_answer status_number acknowledging no_reply
failed-number check psn timer n = rw (ne_eqb check 0 n) (go (eqb check 5) (eqb check 6) (eqb check 8))
  where
    answer : Bool → Bool → Bool → ℕ
    answer a b c = cond a 19 (cond b 18 (cond c 34 17))

    go : (a b c : Bool)
        → status_number
        (cond (eqb (answer a b c) 17) (acknowledging status.InvalidRequestNak psn 97)
        (cond (eqb (answer a b c) 18) (acknowledging status.AccessNak psn 98)
        (cond (eqb (answer a b c) 19) (acknowledging status.NotReadyNak psn (32 + timer)) (no_reply status.OutOfRange)))).status
        ≡ answer a b c
    go true b c = refl
    go false true c = refl
    go false false true = refl
    go false false false = refl

-- kinds, by the tests
pub carry : (kind : ℕ) → Carries kind → carrying kind ≡ true
unfolding carrying
carry kind (inl e) = lt-ltb kind 12 (omega arith)
carry kind (inr e) = lt-ltb kind 12 (omega arith)

pub bare : (kind : ℕ) → 12 ≤ kind → carrying kind ≡ false
unfolding carrying
bare kind h = le-ltb kind 12 h

pub high : (kind : ℕ) → IsAtomic kind → 12 < kind
high kind (inl e) = omega arith
high kind (inr e) = omega arith

-- what is executed
module _ (k : Packet) (t opened : OpenMessage) (entry region : List ℕ) (pmtu : ℕ) where
  read_number_lem : k.kind ≡ 12 → status_number (execute k t opened entry region pmtu).status ≡ 2
  unfolding execute accept_read status_number
  read_number_lem e = rw (bare k.kind (omega arith), eq-eqb k.kind 12 e)

  swap-number : IsAtomic k.kind → status_number (execute k t opened entry region pmtu).status ≡ 3
  unfolding execute run_atomic status_number
  swap-number a =
      let h = high k.kind a in
      rw (bare k.kind (omega arith), ne_eqb k.kind 12 (λ e. omega arith))

  carry-number : Carries k.kind → (b : Bool) → k.ackreq ≡ b → status_number (execute k t opened entry region pmtu).status ≡ cond b 1 0
  unfolding execute store_payload status_number
  carry-number c b e = rw (carry k.kind c, e) (go b)
    where
      go : (b : Bool) → status_number (cond b status.Acknowledged status.Executed) ≡ cond b 1 0
      go true = refl
      go false = refl

-- the expected PSN
expected-by : (w : Whole) (k : Packet) (t : OpenMessage) → Sound w.pair → Place k.place → IsCurrent w.pair.message k t
    → Expects w k t
    (status_number (expected_decision k w.pair.setup w.pair.message w.pair.entries.count (head_entry w.pair w.entries) (region_for k.kind (current w.pair.message k).key w.regions)).status)
unfolding expected_decision checked_decision
expected-by w k t S P C =
    record {
      check = c;
      judged =
          subst (λ x. JudgedAt x t c) (head_first w S)
          (subst (λ n. JudgedAt (head_entry w.pair w.entries) t n) (sym c-is) (order s opened k t w.pair.entries.count (head_entry w.pair w.entries) (region_of t.key w.regions) P C));
      fails = λ n. rw (ne_eqb c 0 n) (subst (AnswerOf c) (sym (failed-number c k.psn s.timer n)) (check-answered c most));
      reads = λ z e. rw (eq-eqb c 0 z) (read_number_lem k (current opened k) opened (head_entry w.pair w.entries) region s.pmtu e);
      swaps = λ z a. rw (eq-eqb c 0 z) (swap-number k (current opened k) opened (head_entry w.pair w.entries) region s.pmtu a);
      asked = λ z x a. rw (eq-eqb c 0 z) (carry-number k (current opened k) opened (head_entry w.pair w.entries) region s.pmtu x true a);
      unasked = λ z x a. rw (eq-eqb c 0 z) (carry-number k (current opened k) opened (head_entry w.pair w.entries) region s.pmtu x false a);
    }
  where
    s : Setup
    s = w.pair.setup

    opened : OpenMessage
    opened = w.pair.message

    region : List ℕ
    region = region_for k.kind (current w.pair.message k).key w.regions

    c : ℕ
    c = expected_check w.pair.setup w.pair.message k w.pair.entries.count (head_entry w.pair w.entries) (region_for k.kind (current w.pair.message k).key w.regions)

    JudgedAt : List ℕ → OpenMessage → ℕ → Type 0
    JudgedAt entry t n = JudgedBy w.pair.setup w.pair.message k t w.pair.entries.count entry (region_of t.key w.regions) n

    c-is : c ≡ expected_check w.pair.setup w.pair.message k w.pair.entries.count (head_entry w.pair w.entries) (region_of t.key w.regions)
    c-is =
        code_by_lem w.pair.setup w.pair.message k w.pair.entries.count (head_entry w.pair w.entries) w.regions
        ∙ ap (λ x. expected_check w.pair.setup w.pair.message k w.pair.entries.count (head_entry w.pair w.entries) (region_of x.key w.regions)) (sym (current-one w.pair.message k t P C))

    most : c ≤ 8
    most =
        subst (λ n. n ≤ 8) (sym c-is) (order w.pair.setup w.pair.message k t w.pair.entries.count (head_entry w.pair w.entries) (region_of t.key w.regions) P C).most

ahead-by : (nakmark : Bool) (expected : Psn) → Aheads nakmark (status_number (ahead_decision nakmark expected).status)
unfolding ahead_decision status_number no_reply acknowledging
ahead-by true expected = record { quiet = λ e. refl; naks = λ e. absurd (true≢false e) }
ahead-by false expected = record { quiet = λ e. absurd (true≢false (sym e)); naks = λ e. refl }

-- a duplicate READ: the tests say so
is-on : (b : Bool) → not b ≡ false → b ≡ true
is-on true h = refl
is-on false h = sym h

pub duplicate-tested : (w : Whole) (k : Packet) (t : OpenMessage)
    → Tells (duplicate_read_fails k w.pair.setup t w.pair.expected (region_of t.key w.regions)) (ReadAnswerable w k t)
unfolding duplicate_read_fails not_enabled
duplicate-tested w k t = (forth, back)
  where
    region : List ℕ
    region = region_of t.key w.regions

    K : Tells (key_fails w.pair.setup.memory 12 t (region_of t.key w.regions)) (KeyGood 12 w.pair.setup.memory t (region_of t.key w.regions))
    K = key-tested 12 w.pair.setup.memory t (region_of t.key w.regions) (inr (inl refl))

    forth : duplicate_read_fails k w.pair.setup t w.pair.expected (region_of t.key w.regions) ≡ false → ReadAnswerable w k t
    forth h =
        let a = or_right (not w.pair.setup.read) _ h in
        let b = or_right (over_limit t.length) _ a in
        let c = or_right (not (eqb k.body 0)) _ b in
        let d = or_right (not (eqb k.pad 0)) _ c in
        let e = or_right (key_fails w.pair.setup.memory 12 t region) _ d in
        record {
          on = is-on w.pair.setup.read (or_left (not w.pair.setup.read) _ h);
          limit = (limit-tested t.length).0 (or_left (over_limit t.length) _ a);
          body = of-not k.body 0 (or_left (not (eqb k.body 0)) _ b);
          pad = of-not k.pad 0 (or_left (not (eqb k.pad 0)) _ c);
          key = (K.0 (or_left (key_fails w.pair.setup.memory 12 t region) _ d)).reads refl;
          before = ltb-false (distance w.pair.expected.0 k.psn.0) (pieces t.length w.pair.setup.pmtu) e;
        }

    back : ReadAnswerable w k t → duplicate_read_fails k w.pair.setup t w.pair.expected (region_of t.key w.regions) ≡ false
    back A =
        neither (ap not A.on)
        (neither ((limit-tested t.length).1 A.limit)
        (neither (ap not (eq-eqb k.body 0 A.body))
        (neither (ap not (eq-eqb k.pad 0 A.pad))
        (neither (K.1 (record { writes = λ e. absurd (omega arith); reads = λ e. A.key; atomics = λ e. absurd (none e) }))
        (le-ltb (distance w.pair.expected.0 k.psn.0) (pieces t.length w.pair.setup.pmtu) A.before)))))
      where
        none : IsAtomic 12 → ⊥
        none (inl e) = omega arith
        none (inr e) = omega arith

-- the kinds of opcodes below READ are SEND and WRITE
low-kind : (low : ℕ) → Carries (kind_of low) ⊎ (12 ≤ kind_of low)
unfolding kind_of
low-kind low = go (ltb low 6) (ltb low 12) (eqb low 12) (ltb low 17) (eqb low 17) (eqb low 18) (eqb low 19) (eqb low 20)
  where
    go : (a b c d e f g i : Bool)
        → Carries (cond a 0 (cond b 6 (cond c 12 (cond d 13 (cond e 17 (cond f 18 (cond g 19 (cond i 20 21))))))))
        ⊎ (12 ≤ cond a 0 (cond b 6 (cond c 12 (cond d 13 (cond e 17 (cond f 18 (cond g 19 (cond i 20 21))))))))
    go true b c d e f g i = inl (inl refl)
    go false true c d e f g i = inl (inr refl)
    go false false true d e f g i = inr (omega arith)
    go false false false true e f g i = inr (omega arith)
    go false false false false true f g i = inr (omega arith)
    go false false false false false true g i = inr (omega arith)
    go false false false false false false true i = inr (omega arith)
    go false false false false false false false true = inr (omega arith)
    go false false false false false false false false = inr (omega arith)

some-kind : (opcode : ℕ) → Carries (class_of opcode).kind ⊎ (12 ≤ (class_of opcode).kind)
unfolding class_of low_class reserved_class
some-kind opcode = go (eqb (service_of opcode) 0) (eqb (service_of opcode) 1) (uc_has (low_of opcode))
  where
    go : (a b c : Bool)
        → Carries (cond a (low_class (low_of opcode)) (cond b (cond c (low_class (low_of opcode)) reserved_class) reserved_class)).kind
        ⊎ (12 ≤ (cond a (low_class (low_of opcode)) (cond b (cond c (low_class (low_of opcode)) reserved_class) reserved_class)).kind)
    go true b c = low-kind (low_of opcode)
    go false true true = low-kind (low_of opcode)
    go false true false = inr (omega arith)
    go false false c = inr (omega arith)

-- a PSN that was
region-read : (k key : ℕ) (regions : List (List ℕ)) → k ≡ 12 → region_for k key regions ≡ region_of key regions
unfolding region_for
region-read k key regions e = rw (ne_eqb k 0 (λ z. omega arith))

atomic-is : (kind : ℕ) → IsAtomic kind → is_atomic kind ≡ true
unfolding is_atomic
atomic-is kind (inl e) = rw e
atomic-is kind (inr e) = rw e

not-atomic : (kind : ℕ) → (IsAtomic kind → ⊥) → is_atomic kind ≡ false
unfolding is_atomic
not-atomic kind n = neither (ne_eqb kind 19 (λ e. n (inl e))) (ne_eqb kind 20 (λ e. n (inr e)))

duplicate-by : (w : Whole) (k : Packet) (t : OpenMessage) → Carries k.kind ⊎ (12 ≤ k.kind)
    → current w.pair.message k ≡ t
    → DuplicateAnswers w k t
    (status_number (duplicate_decision k w.pair.setup w.pair.expected (current w.pair.message k) (region_for k.kind (current w.pair.message k).key w.regions) (newest_saved k.psn.0 w.saved w.pair.saved)).status)
unfolding duplicate_decision duplicate_read status_number no_reply acknowledging
duplicate-by w k t K e =
    subst (λ x. DuplicateAnswers w k t
    (status_number (duplicate_decision k w.pair.setup w.pair.expected x (region_for k.kind x.key w.regions) (newest_saved k.psn.0 w.saved w.pair.saved)).status)) (sym e)
    (record {
      carried = λ c. rw (carry k.kind c);
      reads = λ r A. rw (bare k.kind (omega arith), eq-eqb k.kind 12 r, region-read k.kind t.key w.regions r, (duplicate-tested w k t).1 A);
      unread = λ r n. rw (bare k.kind (omega arith), eq-eqb k.kind 12 r, region-read k.kind t.key w.regions r, failing n);
      found = λ a v f. let h = high k.kind a in rw (bare k.kind (omega arith), ne_eqb k.kind 12 (λ z. omega arith), atomic-is k.kind a, f);
      lost = λ a f. let h = high k.kind a in rw (bare k.kind (omega arith), ne_eqb k.kind 12 (λ z. omega arith), atomic-is k.kind a, f);
      other = λ n. rw (bare k.kind (over n K), ne_eqb k.kind 12 (λ z. n (inr (inl z))), plain n);
    })
  where
    failing : (ReadAnswerable w k t → ⊥) → duplicate_read_fails k w.pair.setup t w.pair.expected (region_of t.key w.regions) ≡ true
    failing n = go (duplicate_read_fails k w.pair.setup t w.pair.expected (region_of t.key w.regions)) (duplicate-tested w k t).0
      where
        go : (b : Bool) → (b ≡ false → ReadAnswerable w k t) → b ≡ true
        go true f = refl
        go false f = absurd (n (f refl))

    over : (Served k.kind → ⊥) → Carries k.kind ⊎ (12 ≤ k.kind) → 12 ≤ k.kind
    over n (inl c) = absurd (n (inl c))
    over n (inr h) = h

    plain : (Served k.kind → ⊥) → is_atomic k.kind ≡ false
    plain n = not-atomic k.kind (λ a. n (inr (inr a)))

-- by the class of the PSN
by-class : (w : Whole) (k : Packet) (c : Class) → w.pair.setup.service ≡ 0 → psn_class k.psn.0 w.pair.expected.0 ≡ c
    → packet_decision w k
    ≡ decision_by_class c w.pair k (head_entry w.pair w.entries) (region_for k.kind (current w.pair.message k).key w.regions) (newest_saved k.psn.0 w.saved w.pair.saved)
unfolding packet_decision rc_decision
by-class w k c r e =
    rw (ne_eqb w.pair.setup.service 1 (λ z. absurd (omega arith)))
    (ap (λ x. decision_by_class x w.pair k (head_entry w.pair w.entries) (region_for k.kind (current w.pair.message k).key w.regions) (newest_saved k.psn.0 w.saved w.pair.saved)) e)

packet-by : (w : Whole) (k : Packet) (t : OpenMessage) → w.pair.setup.service ≡ 0 → Sound w.pair → Place k.place
    → Carries k.kind ⊎ (12 ≤ k.kind)
    → IsCurrent w.pair.message k t
    → Classed w k t (status_number (packet_decision w k).status)
packet-by w k t r S P K C =
    record {
      expected =
          λ e. subst (λ d. Expects w k t (status_number d.status)) (sym (by-class w k class.Expected r e))
          (expected-by w k t S P C);
      ahead =
          λ e. subst (λ d. Aheads w.pair.nakmark (status_number d.status)) (sym (by-class w k class.Ahead r e))
          (ahead-by w.pair.nakmark w.pair.expected);
      duplicate =
          λ e. subst (λ d. DuplicateAnswers w k t (status_number d.status)) (sym (by-class w k class.Duplicate r e))
          (duplicate-by w k t K (sym (current-one w.pair.message k t P C)));
    }

-- what a duplicate is answered with
read-sent : (a : Arrival) (k : Packet) (q : Pair) (t : OpenMessage) (region : List ℕ) → length (sent_by a (duplicate_read k q.setup t q.expected region)) ≡ 0
unfolding duplicate_read no_reply sent_by ack_bytes
read-sent a k q t region = go (duplicate_read_fails k q.setup t q.expected region)
  where
    go :
        (b : Bool)
        → length
        (sent_by a
        (cond b (no_reply status.Dropped)
        (reply_only status.DuplicateAnswered (read_begun (memory_offset region t.address t.length) t.length (pieces t.length q.setup.pmtu) k.psn))))
        ≡ 0
    go true = refl
    go false = refl

sent-by : (a : Arrival) (k : Packet) (t : OpenMessage) (region : List ℕ)
    → DuplicateReplies a.whole k
    (length (sent_by a (duplicate_decision k a.whole.pair.setup a.whole.pair.expected t region (newest_saved k.psn.0 a.whole.saved a.whole.pair.saved))))
unfolding duplicate_decision acknowledging sent_by ack_bytes ack_header atomic_header reply_header header_bytes bth_bytes extension_bytes aeth_bytes
sent-by a k t region =
    record {
      carried = λ c. rw (carry k.kind c);
      reads = λ r. rw (bare k.kind (omega arith), eq-eqb k.kind 12 r) (read-sent a k a.whole.pair t region);
      found = λ x v f. let h = high k.kind x in rw (bare k.kind (omega arith), ne_eqb k.kind 12 (λ z. omega arith), atomic-is k.kind x, f);
    }

pub duplicate-sent : DuplicateSent
unfolding inbound left_by decision
duplicate-sent a W r h e c =
    rw (goes a W, e)
    (subst (λ d. DuplicateReplies a.whole (packet_of h (length a.packet)) (length (sent_by a d))) (sym (by-class a.whole (packet_of h (length a.packet)) class.Duplicate r c))
    (sent-by a (packet_of h (length a.packet)) (current a.whole.pair.message (packet_of h (length a.packet))) _))

pub header-passed : HeaderPassed
unfolding packet_of
header-passed a W r h e t C =
    subst (Classed a.whole (packet_of h (length a.packet)) t) (sym (looked a W h e))
    (packet-by a.whole (packet_of h (length a.packet)) t r W.sound (any_place h.bth.opcode) (some-kind h.bth.opcode) C)
