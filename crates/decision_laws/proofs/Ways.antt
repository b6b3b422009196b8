-- The decisions that store a payload or execute an atomic, and what their bytes and offsets are.
use Rattle.std.proofs.Common.{Option, Some, None}
use Prim.Native.Nat.{ℕ, ◌+◌, ◌-◌, ◌≤◌, ◌<◌}
use mathlib.Core.Path.{◌≡◌, refl, sym, ap, subst, ◌∙◌}
use mathlib.Core.Bool.{Bool, true, false, cond, ◌&&◌, ◌||◌}
use mathlib.Core.List.{List}
use mathlib.Core.Logic.{◌⊎◌, inl, inr}
use native.Mathlib.Omega.{arith}
use lib.Dec.{eqb, leb}
use lib.ListN.{length, take, drop, length-take, length-drop}
use lib.Seq.{take-take, drop-drop}
use borrow.Author.Tests.{eqb-true, eqb-false, ne_eqb, le-leb, lt-leb, ltb-true, ltb-false}
use Rattle.sequence.specs.Sequence.{psn_class}
use Rattle.sequence.specs.declared.Class.{Class}
use Rattle.sequence.specs.declared.Class.TheVariants as class
use Rattle.header.specs.Read.{header_of}
use Rattle.header.specs.Write.{header_length}
use Rattle.header.specs.Check.{admitted, header_checks}
use Rattle.header.specs.declared.Reason.{Reason}
use Rattle.header.specs.declared.Header.{Header}
use Rattle.std.specs.Prelude.{Result, Ok, Err}
use Rattle.header.proofs.Reasons.{accepted-by}
use Rattle.memory.specs.Memory.{store}
use Rattle.memory.proofs.Overwrite.{length-store, store-before, store-after}
use Rattle.packet.specs.Packet.{payload_of}
use Rattle.opcode.specs.Place.{ends}
use Rattle.table.specs.View.{region_of, newest_saved}
use Rattle.pair.specs.Answer.{status_number, executed}
use Rattle.pair.specs.Claims.{Sound}
use Rattle.pair.specs.Calls.{Whole, with_pair}
use Rattle.pair.specs.declared.Setup.{Setup}
use Rattle.pair.specs.declared.OpenMessage.{OpenMessage}
use Rattle.pair.specs.declared.Status.{Status}
use Rattle.pair.specs.declared.Status.TheVariants as status
use Rattle.request_spec.specs.Packet.{packet_of}
use Rattle.request_spec.specs.Verdict.{carrying, payload_size, current, request_check, expected_check, check_answer}
use Rattle.request_spec.specs.Claims.{Served, Enabled, HasMore, Ends, Carries, IsAtomic}
use Rattle.request_spec.proofs.Order.{served}
use Rattle.request_spec.specs.declared.Packet.{Packet}
use Rattle.responder_spec.specs.declared.Decision.{Decision}
use Rattle.responder_spec.specs.Arrival.{Arrival}
use Rattle.responder_spec.specs.Decide.{refusal_of, checked_header}
use Rattle.responder_spec.specs.Decide.{no_reply, acknowledging, ahead_decision, failed, duplicate_read_fails}
use Rattle.responder_spec.specs.Decide.{store_payload, run_atomic, accept_read, execute, checked_decision}
use Rattle.responder_spec.specs.Decide.{expected_decision, duplicate_read, duplicate_atomic, is_atomic}
use Rattle.responder_spec.specs.Decide.{duplicate_decision, region_for, head_entry, decision_by_class, rc_decision}
use Rattle.responder_spec.specs.Decide.{orphaned, strays, closed_by, abandoning, uc_execute}
use Rattle.responder_spec.specs.Decide.{uc_checked_decision, uc_decision, packet_decision, or_drop}
use Rattle.responder_spec.specs.Decide.{decision}
use Rattle.responder_spec.specs.Apply.{acts_atomic}
use Rattle.request_spec.specs.Packet.{packet_in}
use Rattle.memory.specs.Claims.{OnlyBytes}
use Rattle.decision_laws.proofs.Rows.Quiet.{dropped, short, range, unfinished}
use Rattle.decision_laws.proofs.Rows.{Quiet, region_by, refusal-quiet, passed}
use Rattle.decision_laws.proofs.Views.{viewed, current-closed, same_code}

-- either act of an atomic is one
pub acts : (b : Bool) → acts_atomic (cond b 2 3) ≡ true
unfolding acts_atomic
acts true = refl
acts false = refl

-- every decision but those that store a payload or execute an atomic has another answer
abbrev pub Other : ℕ → Type 0
Other n = (n ≡ 2) ⊎ (4 ≤ n)

abbrev pub code_by : Whole → Packet → ℕ
code_by w k =
    expected_check w.pair.setup w.pair.message k w.pair.entries.count (head_entry w.pair w.entries) (region_by w k)

-- the same tables, and the pair as the packet finds it
abbrev pub viewed_in : ℕ → Whole → Whole
viewed_in place w = with_pair w (viewed place w.pair)

pub data Way (w : Whole) (k : Packet) : Decision → Type 0 where
  away : (d : Decision) → Other (status_number d.status) → Way w k d
  places : Sound w.pair → code_by w k ≡ 0 → carrying k.kind ≡ true
      → Way w k (store_payload k.ackreq 1 k (current w.pair.message k) (head_entry w.pair w.entries) (region_by w k))
  exchanges : Sound w.pair → code_by w k ≡ 0 → carrying k.kind ≡ false → eqb k.kind 12 ≡ false
      → Way w k (run_atomic k (current w.pair.message k) w.pair.message (region_by w k))
  delivers : Sound w.pair → (n : ℕ) → code_by (viewed_in k.place w) k ≡ 0 → carrying k.kind ≡ true
      → Way w k (store_payload false n k (current w.pair.message k) (head_entry w.pair w.entries) (region_by w k))

pub branch : {A : Type 0} (P : A → Type 0) (b : Bool) {x y : A} → (b ≡ true → P x) → (b ≡ false → P y) → P (cond b x y)
branch P true h k = h refl
branch P false h k = k refl

module _ (w : Whole) (S : Sound w.pair) (k : Packet) where
  abbrev pub W : Decision → Type 0
  W = Way w k

  pub expected-way : W (expected_decision k w.pair.setup w.pair.message w.pair.entries.count (head_entry w.pair w.entries) (region_by w k))
  unfolding expected_decision checked_decision execute accept_read failed status_number acknowledging no_reply
  expected-way =
      let code = code_by w k in
      branch W (eqb code 0)
      (λ z. branch W (carrying k.kind) (λ c. places S (eqb-true code 0 z) c)
      (λ c. branch W (eqb k.kind 12) (λ r. away _ (inl refl)) (λ r. exchanges S (eqb-true code 0 z) c r)))
      (λ z. branch W (eqb (check_answer code) 17) (λ e. away _ (inr (omega arith)))
      (λ e. branch W (eqb (check_answer code) 18) (λ e. away _ (inr (omega arith)))
      (λ e. branch W (eqb (check_answer code) 19) (λ e. away _ (inr (omega arith))) (λ e. away _ (inr (omega arith))))))

  pub ahead-way : W (ahead_decision w.pair.nakmark w.pair.expected)
  unfolding ahead_decision status_number acknowledging no_reply
  ahead-way = branch W w.pair.nakmark (λ e. away _ (inr (omega arith))) (λ e. away _ (inr (omega arith)))

  pub atomic-way : (s : Option ℕ) → W (duplicate_atomic s k.psn)
  unfolding status_number no_reply
  atomic-way (Some v) = away (duplicate_atomic (Some v) k.psn) (inr (omega arith))
  atomic-way None = away (duplicate_atomic None k.psn) (inr (omega arith))

  pub duplicate-way : W (duplicate_decision k w.pair.setup w.pair.expected (current w.pair.message k) (region_by w k) (newest_saved k.psn.0 w.saved w.pair.saved))
  unfolding duplicate_decision duplicate_read status_number acknowledging no_reply
  duplicate-way =
      branch W (carrying k.kind) (λ e. away _ (inr (omega arith)))
      (λ e. branch W (eqb k.kind 12)
      (λ r. branch W (duplicate_read_fails k w.pair.setup (current w.pair.message k) w.pair.expected (region_by w k)) (λ f. away _ (inr (omega arith))) (λ f. away _ (inr (omega arith))))
      (λ r. branch W (is_atomic k.kind) (λ f. atomic-way (newest_saved k.psn.0 w.saved w.pair.saved)) (λ f. away _ (inr (omega arith)))))

  pub by-class-way : (c : Class) → W (decision_by_class c w.pair k (head_entry w.pair w.entries) (region_by w k) (newest_saved k.psn.0 w.saved w.pair.saved))
  by-class-way class.Expected = expected-way
  by-class-way class.Ahead = ahead-way
  by-class-way class.Duplicate = duplicate-way

  pub rc-way : W (rc_decision w k)
  unfolding rc_decision
  rc-way = by-class-way (psn_class k.psn.0 w.pair.expected.0)

  abbrev opened : OpenMessage
  opened = closed_by k.place w.pair.message

  -- the code of the message that the packet leaves open is that of the same message's region
  code-viewed : (m : OpenMessage) → current opened k ≡ m → strays k w.pair.expected w.pair.message.kind ≡ false
      → request_check w.pair.setup opened k w.pair.entries.count (head_entry w.pair w.entries) (region_for k.kind m.key w.regions) ≡ 0
      → code_by (viewed_in k.place w) k ≡ 0
  code-viewed m e t z =
      ap (λ x. expected_check w.pair.setup opened k w.pair.entries.count (head_entry w.pair w.entries) (region_for k.kind x.key w.regions)) e
      ∙ (same_code w.pair.setup w.pair.message k w.pair.expected w.pair.entries.count (head_entry w.pair w.entries) (region_for k.kind m.key w.regions) t ∙ z)

  pub uc-way : W (uc_decision k w.pair.setup w.pair.expected w.pair.message w.pair.entries.count (head_entry w.pair w.entries) (region_by w k))
  unfolding uc_decision uc_checked_decision uc_execute abandoning status_number no_reply
  uc-way =
      let code = request_check w.pair.setup opened k w.pair.entries.count (head_entry w.pair w.entries) (region_by w k) in
      branch W (orphaned k.place w.pair.message.kind) (λ o. away _ (inr (omega arith)))
      (λ o. branch W (strays k w.pair.expected w.pair.message.kind) (λ t. away _ (inr (omega arith)))
      (λ t. branch W (eqb code 0)
      (λ z. branch W (carrying k.kind)
      (λ c. delivers S _ (code-viewed (current w.pair.message k) (current-closed w.pair.message k) t (eqb-true code 0 z)) c)
      (λ c. away _ (inr (omega arith))))
      (λ z. branch W (eqb (check_answer code) 34) (λ e. away _ (inr (omega arith)))
      (λ e. branch W (eqb w.pair.message.kind 255) (λ f. away _ (inr (omega arith))) (λ f. away _ (inr (omega arith)))))))

  pub packet-way : W (packet_decision w k)
  unfolding packet_decision
  packet-way = branch W (eqb w.pair.setup.service 1) (λ e. uc-way) (λ e. rc-way)

pub quiet-number : (a : Status) → Quiet a → 4 ≤ status_number a
unfolding status_number
quiet-number a dropped = omega arith
quiet-number a short = omega arith
quiet-number a range = omega arith
quiet-number a unfinished = omega arith

pub header-way : (w : Whole) → Sound w.pair → (p : List ℕ) → (r : Result Header Reason)
    → admitted w.pair.setup.service w.pair.setup.ours w.pair.setup.pkey (eqb w.pair.state 1) p ≡ r
    → Way w (packet_in p) (or_drop r (λ h. packet_decision w (packet_of h (length p))))
unfolding admitted status_number no_reply
header-way w S p (Ok h) e =
    let found = header_checks w.pair.setup.service w.pair.setup.ours w.pair.setup.pkey (eqb w.pair.state 1) p in
    subst (λ x. Way w (packet_in p) (packet_decision w (packet_of x (length p)))) (accepted-by found p h e).1
    (packet-way w S (packet_in p))
header-way w S p (Err why) e = away (no_reply status.Dropped) (inr (omega arith))

pub decided-way : (a : Arrival) → Way a.whole (packet_in a.packet) (decision a)
unfolding decision no_reply
decided-way a =
    branch (Way a.whole (packet_in a.packet)) (executed (refusal_of a))
    (λ e. header-way a.whole (passed a.whole.pair (length a.memory) (length a.out) e).1 a.packet (checked_header a) refl)
    (λ e. away _ (inr (quiet-number (refusal_of a) (refusal-quiet a.whole.pair (length a.memory) (length a.out) e))))

-- bytes that lie in others change no byte outside them
pub only-by : (old new : List ℕ) (at size offset n : ℕ) → length new ≡ length old → take at new ≡ take at old
    → drop (at + size) new ≡ drop (at + size) old
    → offset ≤ at
    → at + size ≤ offset + n
    → OnlyBytes old new offset n
only-by old new at size offset n k b a lo hi =
    let r = offset + n - (at + size) in
    let e : at + size + r ≡ offset + n = omega arith in
    record {
      kept = k;
      before = sym (take-take offset at new lo) ∙ (ap (take offset) b ∙ take-take offset at old lo);
      after =
          subst (λ j. drop j new ≡ drop j old) e
          (sym (drop-drop r (at + size) new) ∙ (ap (drop r) a ∙ drop-drop r (at + size) old));
    }

pub only-stored : (old d : List ℕ) (at offset n : ℕ) → offset ≤ at → at + length d ≤ offset + n → offset + n ≤ length old
    → OnlyBytes old (store old at d) offset n
only-stored old d at offset n lo hi w =
    only-by old (store old at d) at (length d) offset n (length-store old at d) (store-before old at d (omega arith)) (store-after old at d (omega arith)) lo hi

-- the payload
pub payload-size : (p : List ℕ) → length (payload_of p) ≡ (packet_in p).body - (packet_in p).pad
unfolding payload_of packet_of header_length
payload-size p =
    let s = header_length (header_of p) in
    let n = length p - s - (header_of p).bth.pad in
    omega (arith, length-take n (drop s p), length-drop s p)

pub payload-is : (p : List ℕ) → take (payload_size (packet_in p)) (drop (packet_in p).start p) ≡ payload_of p
unfolding payload_of payload_size packet_of header_length
payload-is p = refl

-- places, by the tests
pub ends-true : (place : ℕ) → Ends place → ends place ≡ true
unfolding ends
ends-true place (inl e) = le-leb 2 place (omega arith)
ends-true place (inr e) = le-leb 2 place (omega arith)

pub ends-false : (place : ℕ) → HasMore place → ends place ≡ false
unfolding ends
ends-false place (inl e) = lt-leb 2 place (omega arith)
ends-false place (inr e) = lt-leb 2 place (omega arith)

pub few : (b : Bool) → leb (status_number (cond b status.Acknowledged status.Executed)) 3 ≡ true
unfolding status_number
few true = refl
few false = refl

-- of the kinds served, those below READ carry bytes, and all others are atomics
pub which : (s : Setup) (kind : ℕ) → Enabled s kind → carrying kind ≡ true → Carries kind
unfolding carrying
which s kind E c = go (served s kind E)
  where
    low : kind < 12
    low = ltb-true kind 12 c

    go : Served kind → Carries kind
    go (inl x) = x
    go (inr (inl e)) = absurd (omega (arith, low))
    go (inr (inr (inl e))) = absurd (omega (arith, low))
    go (inr (inr (inr e))) = absurd (omega (arith, low))

pub which-atomic : (s : Setup) (kind : ℕ) → Enabled s kind → carrying kind ≡ false → eqb kind 12 ≡ false → IsAtomic kind
unfolding carrying
which-atomic s kind E c r = go (served s kind E)
  where
    top : 12 ≤ kind
    top = ltb-false kind 12 c

    go : Served kind → IsAtomic kind
    go (inl (inl e)) = absurd (omega (arith, top))
    go (inl (inr e)) = absurd (omega (arith, top))
    go (inr (inl e)) = absurd (eqb-false kind 12 r e)
    go (inr (inr a)) = a

pub region-is : (kind key : ℕ) (regions : List (List ℕ)) → (kind ≡ 0 → ⊥) → region_for kind key regions ≡ region_of key regions
unfolding region_for
region-is kind key regions n = rw (ne_eqb kind 0 n)

pub or-true : (b : Bool) → (b || true) ≡ true
or-true true = refl
or-true false = refl

pub and-false : (b : Bool) → (b && false) ≡ false
and-false true = refl
and-false false = refl
