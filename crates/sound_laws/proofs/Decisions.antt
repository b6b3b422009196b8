-- Whatever is decided leads to a steady pair.
use Rattle.std.proofs.Common.{Option, Some, None}
use Prim.Native.Nat.{ℕ, ◌+◌, ◌^◌, ◌≤◌, ◌<◌}
use mathlib.Core.Path.{◌≡◌, refl, ap, subst, ◌∙◌}
use mathlib.Core.Bool.{Bool, true, false, cond, not, true≢false}
use mathlib.Core.List.{List}
use native.Mathlib.Omega.{arith}
use lib.Dec.{eqb, leb, ltb}
use lib.ListN.{length, get_or}
use borrow.Author.Tests.{eqb-true}
use Rattle.lemmas.proofs.Tests.{or_left, or_right}
use Rattle.sequence.specs.Sequence.{distance, psn_class}
use Rattle.sequence.specs.declared.Psn.{Psn}
use Rattle.sequence.specs.declared.Class.{Class}
use Rattle.sequence.specs.declared.Class.TheVariants as class
use Rattle.opcode.specs.Opcode.{service_of, low_of, kind_of, place_of, low_class, reserved_class, uc_has, class_of}
use Rattle.header.specs.Read.{bth_of, header_of, read_by}
use Rattle.header.specs.Check.{header_checks, admitted}
use Rattle.header.specs.declared.Reason.{Reason}
use Rattle.std.specs.Prelude.{Result, Ok, Err}
use Rattle.opcode.specs.Place.{starts}
use Rattle.pmtu.specs.Pieces.{pieces}
use Rattle.table.specs.View.{newest_saved}
use Rattle.pair.specs.Answer.{status_number, executed}
use Rattle.pair.specs.Calls.{Whole, with_pair}
use Rattle.pair.specs.Sound.{pair_unsound}
use Rattle.pair.specs.Pair.{no_message}
use Rattle.pair.specs.declared.OpenMessage.{OpenMessage}
use Rattle.pair.specs.declared.Status.TheVariants as status
use Rattle.request_spec.specs.Packet.{packet_of}
use Rattle.request_spec.specs.declared.Packet.{Packet}
use Rattle.request_spec.specs.Verdict.{carrying, not_enabled, over_limit, key_fails, current, request_check, expected_check, check_answer}
use Rattle.responder_spec.specs.Syndrome as Syndrome
use Rattle.responder_spec.specs.Decide.{ahead_decision, failed, checked_decision, expected_decision, psn_before}
use Rattle.responder_spec.specs.Decide.{duplicate_read_fails, duplicate_read, duplicate_atomic, is_atomic}
use Rattle.responder_spec.specs.Decide.{duplicate_decision, region_for, head_entry, decision_by_class, rc_decision}
use Rattle.responder_spec.specs.Decide.{orphaned, strays, closed_by, abandoning, store_payload}
use Rattle.responder_spec.specs.Decide.{uc_execute, uc_checked_decision, uc_decision, packet_decision, or_drop}
use Rattle.responder_spec.specs.Decide.{reads_full, inbound_refusal, decision}
use Rattle.responder_spec.specs.Steady.{Steady}
use Rattle.decision_laws.proofs.Checked.{Checked, checked, begins}
use Rattle.sound_laws.proofs.Leads.{Leads, branch, Does, does-leads, reply-only-leads, quiet-leads, ack-leads, duplicate-read-leads}
use Rattle.sound_laws.proofs.Executes.{whole_in, storing-does, execute-leads}
use Rattle.decision_laws.proofs.Views.{viewed, viewed-sound, current-closed, same_code}

-- a READ begins a message
read_low : (low : ℕ) → kind_of low ≡ 12 → starts (place_of low) ≡ true
unfolding kind_of place_of starts
read_low low h = go (ltb low 6) (ltb low 12) (eqb low 12) refl (ltb low 17) (eqb low 17) (eqb low 18) (eqb low 19) (eqb low 20) h
  where
    go : (a b c : Bool) → eqb low 12 ≡ c → (d e f g k : Bool)
        → ◌≡◌ {A = ℕ} (cond a 0 (cond b 6 (cond c 12 (cond d 13 (cond e 17 (cond f 18 (cond g 19 (cond k 20 21)))))))) 12
        → starts (place_of low) ≡ true
    go true b c x d e f g k h = absurd (omega arith)
    go false true c x d e f g k h = absurd (omega arith)
    go false false true x d e f g k h = ap (λ n. starts (place_of n)) (eqb-true low 12 x)
    go false false false x true e f g k h = absurd (omega arith)
    go false false false x false true f g k h = absurd (omega arith)
    go false false false x false false true g k h = absurd (omega arith)
    go false false false x false false false true k h = absurd (omega arith)
    go false false false x false false false false true h = absurd (omega arith)
    go false false false x false false false false false h = absurd (omega arith)

read-starts : (opcode : ℕ) → (class_of opcode).kind ≡ 12 → starts (class_of opcode).place ≡ true
unfolding class_of low_class reserved_class
read-starts opcode = go (eqb (service_of opcode) 0) (eqb (service_of opcode) 1) (uc_has (low_of opcode))
  where
    go : (rc uc few : Bool)
        → (cond rc (low_class (low_of opcode)) (cond uc (cond few (low_class (low_of opcode)) reserved_class) reserved_class)).kind ≡ 12
        → starts (cond rc (low_class (low_of opcode)) (cond uc (cond few (low_class (low_of opcode)) reserved_class) reserved_class)).place ≡ true
    go true uc few h = read_low (low_of opcode) h
    go false true true h = read_low (low_of opcode) h
    go false true false h = absurd (omega arith)
    go false false few h = absurd (omega arith)

-- a packet of the unreliable connection that passed the checks does to a steady pair what it would do to one with the
-- message closed
viewed-steady : (w : Whole) → Steady w → (place : ℕ) → Steady (with_pair w (viewed place w.pair))
unfolding closed_by
viewed-steady w W place =
    record {
      pair = viewed-sound place w.pair W.pair;
      regions = W.regions;
      entries = W.entries;
      held = go (starts place);
    }
  where
    go : (b : Bool) → (cond b no_message w.pair.message).kind ≡ 0
        → (cond b no_message w.pair.message).stored ≤ get_or (head_entry w.pair w.entries) 2 0
    go true e = absurd (omega arith)
    go false e = W.held e

module _ (w : Whole) (W : Steady w) (p : Packet) where
  abbrev At : OpenMessage → Type 0
  At m =
      Checked w.pair.setup (closed_by p.place w.pair.message) p w.pair.entries.count (head_entry w.pair w.entries)
      (region_for p.kind m.key w.regions)
      → carrying p.kind ≡ true
      → Does w
      (store_payload false (1 + distance p.psn.0 w.pair.expected.0) p m (head_entry w.pair w.entries) (region_for p.kind m.key w.regions))

  took-closed : At (current (closed_by p.place w.pair.message) p)
  took-closed C c =
      let D =
      storing-does (with_pair w (viewed p.place w.pair)) (viewed-steady w W p.place) p
      C false (1 + distance p.psn.0 w.pair.expected.0) c in
      record { number = D.number; entry = D.entry; message = D.message; read = D.read; psn = D.psn }

  took : At (current w.pair.message p)
  took = subst At (current-closed w.pair.message p) took-closed

module _ (w : Whole) (W : Steady w) where
  ahead-leads : Leads w (ahead_decision w.pair.nakmark w.pair.expected)
  unfolding ahead_decision status_number
  ahead-leads =
      branch w w.pair.nakmark _ _ (λ e. quiet-leads w W status.Dropped refl) (λ e. ack-leads w W status.SequenceNak w.pair.expected 96 refl)

  failed-leads : (code : ℕ) (psn : Psn) (timer : ℕ) → Leads w (failed code psn timer)
  unfolding failed status_number
  failed-leads code psn timer =
      branch w (eqb (check_answer code) 17) _ _ (λ e. ack-leads w W status.InvalidRequestNak psn 97 refl)
      (λ e. branch w (eqb (check_answer code) 18) _ _ (λ f. ack-leads w W status.AccessNak psn 98 refl)
      (λ f. branch w (eqb (check_answer code) 19) _ _ (λ g. ack-leads w W status.NotReadyNak psn (32 + timer) refl) (λ g. quiet-leads w W status.OutOfRange refl)))

  atomic-leads : (s : Option ℕ) (psn : Psn) → Leads w (duplicate_atomic s psn)
  unfolding status_number
  atomic-leads (Some v) psn = reply-only-leads w W status.DuplicateAnswered 18 psn Syndrome.ack v refl
  atomic-leads None psn = quiet-leads w W status.Dropped refl

  module _ (p : Packet) (n : p.psn.0 < 2 ^ 24) (s : p.kind ≡ 12 → starts p.place ≡ true) where
    abbrev message : OpenMessage
    message = current w.pair.message p

    abbrev region : List ℕ
    region = region_for p.kind message.key w.regions

    expected-leads : Leads w (expected_decision p w.pair.setup w.pair.message w.pair.entries.count (head_entry w.pair w.entries) region)
    unfolding expected_decision checked_decision
    expected-leads =
        let code = expected_check w.pair.setup w.pair.message p w.pair.entries.count (head_entry w.pair w.entries) region in
        branch w (eqb code 0) _ _
        (λ e. execute-leads w W p (checked w.pair.setup w.pair.message p w.pair.entries.count (head_entry w.pair w.entries) region (eqb-true code 0 e)) n)
        (λ e. failed-leads code p.psn w.pair.setup.timer)

    again : p.kind ≡ 12 → Leads w (duplicate_read p w.pair.setup message w.pair.expected region)
    unfolding duplicate_read duplicate_read_fails current status_number
    again k =
        branch w (duplicate_read_fails p w.pair.setup message w.pair.expected region) _ _ (λ e. quiet-leads w W status.Dropped refl)
        (λ e.
        let a = or_right (not_enabled w.pair.setup 12) _ e in
        let b = or_right (over_limit message.length) _ a in
        let c = or_right (not (eqb p.body 0)) _ b in
        let d = or_right (not (eqb p.pad 0)) _ c in
        let f = or_left (key_fails w.pair.setup.memory 12 message region) _ d in
        let z : message.stored ≡ 0 = ap (λ t. (cond t (begins p) w.pair.message).stored) (s k) in
        duplicate-read-leads w W _ message.length (pieces message.length w.pair.setup.pmtu) p.psn (omega arith)
        (whole_in w.pair.setup.memory 12 message region (λ o. omega arith) z f) n)

    duplicate-leads : (v : Option ℕ) → Leads w (duplicate_decision p w.pair.setup w.pair.expected message region v)
    unfolding duplicate_decision status_number
    duplicate-leads v =
        branch w (carrying p.kind) _ _ (λ e. ack-leads w W status.DuplicateAnswered (psn_before w.pair.expected) Syndrome.ack refl)
        (λ e. branch w (eqb p.kind 12) _ _ (λ f. again (eqb-true p.kind 12 f))
        (λ f. branch w (is_atomic p.kind) _ _ (λ g. atomic-leads v p.psn) (λ g. quiet-leads w W status.Dropped refl)))

    rc-leads : Leads w (rc_decision w p)
    unfolding rc_decision
    rc-leads = go (psn_class p.psn.0 w.pair.expected.0)
      where
        go : (c : Class) → Leads w (decision_by_class c w.pair p (head_entry w.pair w.entries) region (newest_saved p.psn.0 w.saved w.pair.saved))
        go class.Expected = expected-leads
        go class.Ahead = ahead-leads
        go class.Duplicate = duplicate-leads (newest_saved p.psn.0 w.saved w.pair.saved)

    -- on the unreliable connection it finds the message that it leaves open
    uc-leads : Leads w (uc_decision p w.pair.setup w.pair.expected w.pair.message w.pair.entries.count (head_entry w.pair w.entries) region)
    unfolding uc_decision uc_checked_decision uc_execute abandoning status_number
    uc-leads =
        let entry = head_entry w.pair w.entries in
        let opened = closed_by p.place w.pair.message in
        let code = request_check w.pair.setup opened p w.pair.entries.count entry region in
        branch w (orphaned p.place w.pair.message.kind) _ _ (λ o. quiet-leads w W status.Dropped refl)
        (λ o. branch w (strays p w.pair.expected w.pair.message.kind) _ _ (λ t. quiet-leads w W status.Abandoned refl)
        (λ t. branch w (eqb code 0) _ _
        (λ z. branch w (carrying p.kind) _ _
        (λ c. does-leads w W _ (took w W p (checked w.pair.setup opened p w.pair.entries.count entry region
        (same_code w.pair.setup w.pair.message p w.pair.expected w.pair.entries.count entry region t ∙ eqb-true code 0 z)) c))
        (λ c. quiet-leads w W status.Dropped refl))
        (λ z. branch w (eqb (check_answer code) 34) _ _ (λ e. quiet-leads w W status.OutOfRange refl)
        (λ e. branch w (eqb w.pair.message.kind 255) _ _ (λ f. quiet-leads w W status.Dropped refl) (λ f. quiet-leads w W status.Abandoned refl)))))

    packet-leads : Leads w (packet_decision w p)
    unfolding packet_decision
    packet-leads = branch w (eqb w.pair.setup.service 1) _ _ (λ e. uc-leads) (λ e. rc-leads)

  -- a refusal is none of the answers that change the pair
  refused : (memory room : ℕ) → executed (inbound_refusal w.pair memory room) ≡ false → leb (status_number (inbound_refusal w.pair memory room)) 3 ≡ false
  unfolding inbound_refusal executed status_number
  refused memory room = go (ltb room 24) (not (eqb memory w.pair.setup.memory)) (pair_unsound w.pair) (reads_full w.pair)
    where
      go : (a b c d : Bool)
          → executed (cond a status.OutputShort (cond b status.OutOfRange (cond c status.OutOfRange (cond d status.ReadUnfinished status.Executed)))) ≡ false
          → leb (status_number (cond a status.OutputShort (cond b status.OutOfRange (cond c status.OutOfRange (cond d status.ReadUnfinished status.Executed))))) 3 ≡ false
      go true b c d h = refl
      go false true c d h = refl
      go false false true d h = refl
      go false false false true h = refl
      go false false false false h = absurd (true≢false h)

  pub decided-leads : (memory p out : List ℕ) → (bth_of p).psn.0 < 2 ^ 24
      → Leads w (decision (record { whole = w; memory = memory; packet = p; out = out }))
  unfolding decision admitted read_by packet_of header_of status_number
  decided-leads memory p out n =
      branch w (executed (inbound_refusal w.pair (length memory) (length out))) _ _
      (λ e. go (header_checks w.pair.setup.service w.pair.setup.ours w.pair.setup.pkey (eqb w.pair.state 1) p))
      (λ e. quiet-leads w W (inbound_refusal w.pair (length memory) (length out)) (refused (length memory) (length out) e))
    where
      go : (found : Result (Unit {0}) Reason) → Leads w (or_drop (read_by found p) (λ h. packet_decision w (packet_of h (length p))))
      go (Ok x) = packet-leads (packet_of (header_of p) (length p)) n (read-starts (bth_of p).opcode)
      go (Err why) = quiet-leads w W status.Dropped refl
