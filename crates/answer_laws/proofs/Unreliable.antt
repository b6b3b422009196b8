-- Which answer the inbound call gives on the unreliable connection.
use Prim.Native.Nat.{ℕ, ◌/◌, ◌%◌}
use mathlib.Core.Path.{◌≡◌, refl, sym, ap, subst, ◌∙◌}
use mathlib.Core.Bool.{Bool, true, false, cond, not, ◌&&◌, ◌||◌}
use mathlib.Core.List.{List}
use mathlib.Core.Logic.{inl, inr}
use native.Mathlib.Omega.{arith}
use lib.Dec.{eqb, ltb}
use lib.ListN.{length}
use borrow.Author.Tests.{eq-eqb, ne_eqb}
use Rattle.pair.specs.Calls.{Whole}
use Rattle.lemmas.proofs.Tests.{or_right, not-false}
use Rattle.sequence.specs.Sequence.{distance}
use Rattle.opcode.specs.Opcode.{service_of, low_of, kind_of, low_class, uc_has, class_of}
use Rattle.header.specs.Read.{bth_of, header_of, bad_length, other_service}
use Rattle.header.specs.Check.{pkeys_match, wrong_service, is_response, beyond_service, header_checks, header_reason, admitted}
use Rattle.header.proofs.Reasons.{accepted-by, none-failed, held}
use Rattle.opcode.specs.Place.{starts}
use Rattle.table.specs.View.{region_of}
use Rattle.pair.specs.Answer.{status_number}
use Rattle.pair.specs.Claims.{Sound}
use Rattle.pair.specs.declared.OpenMessage.{OpenMessage}
use Rattle.pair.specs.declared.Pair.{Pair}
use Rattle.request_spec.specs.Packet.{packet_of}
use Rattle.request_spec.specs.Verdict.{request_check, expected_check, check_answer}
use Rattle.request_spec.specs.Claims.{GoesOn, Place, Carries, IsCurrent, JudgedBy}
use Rattle.request_spec.proofs.Answered.{row_told}
use Rattle.request_spec.proofs.Conditions.{begins-starts}
use Rattle.header.proofs.Reasons.{of-not}
use Rattle.request_spec.proofs.Order.{current-one, order}
use Rattle.request_spec.proofs.Taken.{any_place}
use Rattle.request_spec.specs.declared.Packet.{Packet}
use Rattle.responder_spec.specs.declared.Decision.{Decision}
use Rattle.responder_spec.specs.Decide.{store_payload, no_reply, region_for, head_entry, orphaned, strays, closed_by, abandoning, uc_execute, uc_checked_decision, uc_decision, packet_decision}
use Rattle.answer_laws.specs.Answers.{entry_at_head}
use Rattle.answer_laws.specs.Unreliable.{UcKinds, Strays, CheckedUnder, Fails, UcChecked, UcComes, UcPassed}
use Rattle.answer_laws.specs.Unreliable.CheckedUnder.{begins, onward}
use Rattle.decision_laws.proofs.Views.{closed-starts, closed-onward, orphan-dropped, stray-abandoned, others-checked, current-closed, same_code}
use Rattle.decision_laws.proofs.Rows.{region_by}
use Rattle.answer_laws.proofs.Answers.{looked, head_first, code_by_lem, carry}

-- Opcodes. What passes all header checks has passed those of the opcode
service-low : (service ours pkey : ℕ) (ready : Bool) (p : List ℕ) → header_reason service ours pkey ready p ≡ 0
    → (wrong_service (service_of (bth_of p).opcode) service ≡ false) × (beyond_service service (low_of (bth_of p).opcode) ≡ false)
unfolding header_reason header_checks
service-low service ours pkey ready p e =
    let o = (bth_of p).opcode in
    let a = held (bad_length (length p)) _ _ (none-failed _ e) in
    let b = held (not (eqb (bth_of p).tver 0)) _ _ a.1 in
    let c = held (not (eqb (bth_of p).dest ours)) _ _ b.1 in
    let d = held (not (pkeys_match (bth_of p).pkey pkey)) _ _ c.1 in
    let f = held (wrong_service (service_of o) service) _ _ d.1 in
    let g = held (is_response (low_of o)) _ _ f.1 in
    (f.0, (held (beyond_service service (low_of o)) _ _ g.1).0)

low-carries : (low : ℕ) → uc_has low ≡ true → Carries (kind_of low)
unfolding uc_has kind_of
low-carries low u = rw u (go (ltb low 6))
  where
    go : (b : Bool) → Carries (cond b 0 6)
    go true = inl refl
    go false = inr refl

class-carries : (opcode : ℕ) → wrong_service (service_of opcode) 1 ≡ false → beyond_service 1 (low_of opcode) ≡ false → Carries (class_of opcode).kind
unfolding class_of low_class wrong_service beyond_service
class-carries opcode w b =
    let s : opcode / 32 ≡ 1 = of-not (service_of opcode) 1 (or_right (other_service (service_of opcode)) _ w) in
    let u : uc_has (opcode % 32) ≡ true = not-false (uc_has (low_of opcode)) _ refl b in
    rw (s, u) (low-carries (opcode % 32) u)

pub uc-kinds : UcKinds
unfolding admitted header_reason packet_of header_of
uc-kinds a h s e =
    let A = accepted-by (header_checks a.whole.pair.setup.service a.whole.pair.setup.ours a.whole.pair.setup.pkey (eqb a.whole.pair.state 1) a.packet) a.packet h e in
    let L = service-low a.whole.pair.setup.service a.whole.pair.setup.ours a.whole.pair.setup.pkey (eqb a.whole.pair.state 1) a.packet A.0 in
    subst (λ x. Carries (class_of x.bth.opcode).kind) A.1
    (class-carries (bth_of a.packet).opcode (subst (λ n. wrong_service (service_of (bth_of a.packet).opcode) n ≡ false) s L.0)
    (subst (λ n. beyond_service n (low_of (bth_of a.packet).opcode) ≡ false) s L.1))

-- Places, PSNs and kinds, by the tests
goes-starts : (place : ℕ) → GoesOn place → starts place ≡ false
unfolding starts
goes-starts place (inl e) = rw e
goes-starts place (inr e) = rw e

same_number : (psn expected : ℕ) → psn % 16777216 ≡ expected % 16777216 → distance psn expected ≡ 0
same_number psn expected e = omega arith

number_same : (psn expected : ℕ) → distance psn expected ≡ 0 → psn % 16777216 ≡ expected % 16777216
number_same psn expected e = omega arith

-- 255, which says that none is open, is no SEND's kind and no WRITE's
open-kind : (kind : ℕ) → Carries kind → kind ≡ 255 → ⊥
open-kind kind (inl e) n = omega arith
open-kind kind (inr e) n = omega arith

module _ (q : Pair) (k : Packet) where
  is-orphaned : GoesOn k.place → q.message.kind ≡ 255 → orphaned k.place q.message.kind ≡ true
  unfolding orphaned
  is-orphaned g n = rw (goes-starts k.place g, eq-eqb q.message.kind 255 n)

  -- no First or Only is orphaned, and nothing that comes while a message is open
  not-orphaned : starts k.place ≡ true → orphaned k.place q.message.kind ≡ false
  unfolding orphaned
  not-orphaned b = rw b

  with_open : (q.message.kind ≡ 255 → ⊥) → orphaned k.place q.message.kind ≡ false
  unfolding orphaned
  with_open n = rw (ne_eqb q.message.kind 255 n) (go (starts k.place))
    where
      go : (b : Bool) → (not b && false) ≡ false
      go true = refl
      go false = refl

  is-stray : GoesOn k.place → Strays q k → strays k q.expected q.message.kind ≡ true
  unfolding strays
  is-stray g (inl n) =
      rw (goes-starts k.place g, ne_eqb (distance k.psn.0 q.expected.0) 0 (λ e. n (number_same k.psn.0 q.expected.0 e)))
  is-stray g (inr n) = rw (goes-starts k.place g, ne_eqb q.message.kind k.kind n) (go (eqb (distance k.psn.0 q.expected.0) 0))
    where
      go : (b : Bool) → (not b || true) ≡ true
      go true = refl
      go false = refl

  -- what is checked is neither orphaned nor astray, and meets what it leaves open
  meets-orphaned : Carries k.kind → (opened : OpenMessage) → CheckedUnder q k opened → orphaned k.place q.message.kind ≡ false
  meets-orphaned K opened (begins b) = not-orphaned (begins-starts k.place b)
  meets-orphaned K opened (onward g n e) = with_open (λ z. open-kind k.kind K (sym e ∙ z))

  meets-stray : (opened : OpenMessage) → CheckedUnder q k opened → strays k q.expected q.message.kind ≡ false
  unfolding strays
  meets-stray opened (begins b) = rw (begins-starts k.place b)
  meets-stray opened (onward g n e) =
      rw (goes-starts k.place g, eq-eqb (distance k.psn.0 q.expected.0) 0 (same_number k.psn.0 q.expected.0 n), eq-eqb q.message.kind k.kind e)

  meets-closed : (opened : OpenMessage) → CheckedUnder q k opened → closed_by k.place q.message ≡ opened
  meets-closed opened (begins b) = closed-starts k.place q.message (begins-starts k.place b)
  meets-closed opened (onward g n e) = closed-onward k.place q.message (goes-starts k.place g)

module _ (w : Whole) (k : Packet) (t : OpenMessage) (S : Sound w.pair) (P : Place k.place)
    (C : IsCurrent w.pair.message k t) (K : Carries k.kind) where
  abbrev below : OpenMessage
  below = closed_by k.place w.pair.message

  abbrev entry : List ℕ
  entry = head_entry w.pair w.entries

  abbrev region : List ℕ
  region = region_by w k

  abbrev numbered : Decision → ℕ
  numbered d = status_number d.status

  abbrev number : ℕ
  number = numbered (uc_decision k w.pair.setup w.pair.expected w.pair.message w.pair.entries.count entry region)

  abbrev code_of : ℕ
  code_of = request_check w.pair.setup below k w.pair.entries.count entry region

  abbrev checked_decision : ℕ
  checked_decision = numbered (uc_checked_decision code_of k w.pair.expected w.pair.message entry region)

  -- it is of the same message as before
  current-below : IsCurrent below k t
  current-below =
      record { own = C.own; old = λ g. C.old g ∙ sym (closed-onward k.place w.pair.message (goes-starts k.place g)) }

  abbrev coded : OpenMessage → OpenMessage → ℕ
  coded u x = expected_check w.pair.setup u k w.pair.entries.count entry (region_of x.key w.regions)

  code_is : strays k w.pair.expected w.pair.message.kind ≡ false → code_of ≡ coded below t
  code_is s =
      sym (same_code w.pair.setup w.pair.message k w.pair.expected w.pair.entries.count entry region s)
      ∙ (ap (λ x. expected_check w.pair.setup below k w.pair.entries.count entry (region_for k.kind x.key w.regions)) (sym (current-closed w.pair.message k))
      ∙ (code_by_lem w.pair.setup below k w.pair.entries.count entry w.regions ∙ ap (coded below) (sym (current-one below k t P current-below))))

  judged-by : strays k w.pair.expected w.pair.message.kind ≡ false
      → JudgedBy w.pair.setup below k t w.pair.entries.count (entry_at_head w) (region_of t.key w.regions) code_of
  judged-by s =
      subst (λ x. JudgedBy w.pair.setup below k t w.pair.entries.count x (region_of t.key w.regions) code_of) (head_first w S)
      (subst (JudgedBy w.pair.setup below k t w.pair.entries.count entry (region_of t.key w.regions)) (sym (code_is s))
      (order w.pair.setup below k t w.pair.entries.count entry (region_of t.key w.regions) P current-below))

  -- the number, by the code
  good-number : code_of ≡ 0 → checked_decision ≡ 0
  unfolding uc_checked_decision uc_execute store_payload status_number
  good-number z = rw (eq-eqb code_of 0 z, carry k.kind K)

  outside-number : code_of ≡ 8 → checked_decision ≡ 34
  unfolding uc_checked_decision abandoning no_reply status_number check_answer
  outside-number z = rw z

  failing : Fails code_of → (eqb code_of 0 ≡ false) × (eqb (check_answer code_of) 34 ≡ false)
  failing f = (ne_eqb code_of 0 (λ z. omega (arith, f.0)), row_told code_of ∙ ne_eqb code_of 8 (λ z. omega (arith, f.1)))

  closes-number : Fails code_of → (w.pair.message.kind ≡ 255 → ⊥) → checked_decision ≡ 6
  unfolding uc_checked_decision abandoning no_reply status_number
  closes-number f n = let F = failing f in rw (F.0, F.1, ne_eqb w.pair.message.kind 255 n)

  drops-number : Fails code_of → w.pair.message.kind ≡ 255 → checked_decision ≡ 5
  unfolding uc_checked_decision abandoning no_reply status_number
  drops-number f n = let F = failing f in rw (F.0, F.1, eq-eqb w.pair.message.kind 255 n)

  checked-by : (opened : OpenMessage) → CheckedUnder w.pair k opened → UcChecked w opened k t number
  checked-by opened M =
      let e : number ≡ checked_decision =
      ap numbered (others-checked k w.pair.setup w.pair.expected w.pair.message w.pair.entries.count entry region (meets-orphaned w.pair k K opened M) (meets-stray w.pair k opened M)) in
      record {
        check = code_of;
        judged =
            subst (λ u. JudgedBy w.pair.setup u k t w.pair.entries.count (entry_at_head w) (region_of t.key w.regions) code_of)
            (meets-closed w.pair k opened M) (judged-by (meets-stray w.pair k opened M));
        good = λ z. e ∙ good-number z;
        outside = λ z. e ∙ outside-number z;
        closes = λ f n. e ∙ closes-number f n;
        drops = λ f n. e ∙ drops-number f n;
      }

  comes-by : UcComes w k t number
  unfolding no_reply status_number
  comes-by =
      record {
        orphan = λ g n. ap numbered (orphan-dropped k w.pair.setup w.pair.expected w.pair.message w.pair.entries.count entry region (is-orphaned w.pair k g n));
        stray = λ g n s. ap numbered (stray-abandoned k w.pair.setup w.pair.expected w.pair.message w.pair.entries.count entry region (with_open w.pair k n) (is-stray w.pair k g s));
        checked = checked-by;
      }

-- by the service
uc-number : (w : Whole) (k : Packet) → w.pair.setup.service ≡ 1
    → status_number (packet_decision w k).status
    ≡ status_number (uc_decision k w.pair.setup w.pair.expected w.pair.message w.pair.entries.count (head_entry w.pair w.entries) (region_by w k)).status
unfolding packet_decision
uc-number w k s = rw (eq-eqb w.pair.setup.service 1 s)

pub uc-passed : UcPassed
unfolding packet_of
uc-passed a W s h e t C =
    let k = packet_of h (length a.packet) in
    subst (UcComes a.whole k t) (sym (looked a W h e ∙ uc-number a.whole k s))
    (comes-by a.whole k t W.sound (any_place h.bth.opcode) C (uc-kinds a h s e))
