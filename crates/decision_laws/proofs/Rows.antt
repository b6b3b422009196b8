-- Every decision is of one of a few forms.
use Rattle.std.proofs.Common.{Option, Some, None}
use Prim.Native.Nat.{ℕ, ◌+◌, ◌<◌, ◌≤◌}
use mathlib.Core.Path.{◌≡◌, refl, sym, ap, subst, ◌∙◌}
use mathlib.Core.Bool.{Bool, true, false, cond, not, true≢false}
use mathlib.Core.List.{List}
use mathlib.Core.Logic.{◌⊎◌, inl, inr}
use native.Mathlib.Omega.{arith}
use lib.Dec.{eqb, ltb}
use lib.ListN.{length}
use borrow.Author.Tests.{ltb-false, eqb-true, eqb-false, ne_eqb}
use Rattle.lemmas.proofs.Tests.{or_left, or_right}
use Rattle.sequence.specs.Sequence.{distance, psn_class}
use Rattle.sequence.specs.declared.Class.{Class}
use Rattle.sequence.specs.declared.Class.TheVariants as class
use Rattle.opcode.specs.Opcode.{follows_of, low_class, class_of}
use Rattle.opcode.specs.Opcode as Opcode
use Rattle.header.specs.Read.{bth_of, extension_of, header_of}
use Rattle.header.specs.Check.{admitted, header_checks}
use Rattle.header.specs.declared.Reason.{Reason}
use Rattle.header.specs.declared.Header.{Header}
use Rattle.std.specs.Prelude.{Result, Ok, Err}
use Rattle.header.proofs.Reasons.{accepted-by}
use Rattle.opcode.specs.Place.{starts}
use Rattle.pmtu.specs.Pieces.{pieces}
use Rattle.pmtu.proofs.Counting.{bounds, counts}
use Rattle.table.specs.View.{region_of, newest_saved}
use Rattle.pair.specs.Answer.{status_number, executed}
use Rattle.pair.specs.Sound.{pair_unsound}
use Rattle.pair.specs.Claims.{Sound}
use Rattle.pair.specs.Calls.{Whole}
use Rattle.pair.specs.declared.Setup.{Setup}
use Rattle.pair.specs.declared.OpenMessage.{OpenMessage}
use Rattle.pair.specs.declared.Pair.{Pair}
use Rattle.pair.specs.declared.Status.{Status}
use Rattle.pair.specs.declared.Status.TheVariants as status
use Rattle.pair.proofs.Tests.{tested}
use Rattle.request_spec.specs.Packet.{operands_of, packet_of, packet_in}
use Rattle.request_spec.specs.Verdict.{carrying, not_enabled, over_limit, key_fails, payload_size, current, request_check, expected_check, check_answer}
use Rattle.table.specs.Table.{memory_offset}
use Rattle.request_spec.specs.declared.Packet.{Packet}
use Rattle.request_spec.proofs.Answered.{row_told, row-left}
use Rattle.responder_spec.specs.declared.Decision.{Decision}
use Rattle.responder_spec.specs.Arrival.{Arrival}
use Rattle.responder_spec.specs.Decide.{refusal_of, checked_header}
use Rattle.responder_spec.specs.Reply.{sending, read_begun}
use Rattle.responder_spec.specs.Decide.{reply_only, no_reply, acknowledging, ahead_decision, failed, target_offset}
use Rattle.responder_spec.specs.Decide.{store_payload, run_atomic, begin_read, accept_read, execute}
use Rattle.responder_spec.specs.Decide.{checked_decision, expected_decision, psn_before, duplicate_read_fails}
use Rattle.responder_spec.specs.Decide.{duplicate_read, duplicate_atomic, is_atomic, duplicate_decision, region_for}
use Rattle.responder_spec.specs.Decide.{head_entry, decision_by_class, rc_decision, orphaned, strays, closed_by}
use Rattle.responder_spec.specs.Decide.{abandoning, uc_execute, uc_checked_decision, uc_decision}
use Rattle.responder_spec.specs.Decide.{packet_decision, or_drop, reads_full, inbound_refusal, decision}
use Rattle.decision_laws.proofs.Codes.Bare.{reads, swaps, adds}
use Rattle.decision_laws.proofs.Codes.{Passed, passes, Bare, class-is}
use Rattle.decision_laws.proofs.Inside.{own-inside, target-inside}
use Rattle.decision_laws.proofs.Views.{viewed, current-closed, same_code, stray-open}

-- the answers with nothing sent and nothing done, and those of them that come after the packet was looked at
pub data Quiet : Status → Type 0 where
  dropped : Quiet status.Dropped
  short : Quiet status.OutputShort
  range : Quiet status.OutOfRange
  unfinished : Quiet status.ReadUnfinished

pub data Late : Status → Type 0 where
  unread : Late status.Dropped
  outside : Late status.OutOfRange

-- what a READ asks for: so many bytes, at an offset that its key's region says, in memory
pub record Asks (memory : ℕ) (regions : List (List ℕ)) (p : Packet) (spots n : ℕ) : Type 0 where
  pub kind : p.kind ≡ 12
  pub length : n ≡ p.operands.length
  pub at : spots ≡ memory_offset (region_of p.operands.key regions) p.operands.address p.operands.length
  pub within : spots + n ≤ memory

-- by which answers may be quiet, the pair, regions, the saved atomics and the packet
pub data Row (Q : Status → Type 0) (w : Whole) (p : Packet) : Decision → Type 0 where
  quiet : (a : Status) → Q a → Row Q w p (no_reply a)
  ahead : Row Q w p (acknowledging status.SequenceNak w.pair.expected 96)
  invalid : Row Q w p (acknowledging status.InvalidRequestNak p.psn 97)
  access : Row Q w p (acknowledging status.AccessNak p.psn 98)
  unready : Row Q w p (acknowledging status.NotReadyNak p.psn (32 + w.pair.setup.timer))
  ack_duplicate : Row Q w p (acknowledging status.DuplicateAnswered (psn_before w.pair.expected) 31)
  read_duplicate : (at n : ℕ) → Asks w.pair.setup.memory w.regions p at n → 0 < pieces n w.pair.setup.pmtu
      → Row Q w p (reply_only status.DuplicateAnswered (read_begun at n (pieces n w.pair.setup.pmtu) p.psn))
  atomic_duplicate : (v : ℕ) → newest_saved p.psn.0 w.saved w.pair.saved ≡ Some v → Row Q w p (reply_only status.DuplicateAnswered (sending 18 p.psn 31 v))
  stored : (m : OpenMessage) (entry region : List ℕ) → target_offset p.kind m entry region + payload_size p ≤ w.pair.setup.memory
      → Row Q w p (store_payload p.ackreq 1 p m entry region)
  begin : (at n : ℕ) → Asks w.pair.setup.memory w.regions p at n → 0 < pieces n w.pair.setup.pmtu
      → Row Q w p (begin_read w.pair.message at n (pieces n w.pair.setup.pmtu) p.psn)
  swap : (m : OpenMessage) (region : List ℕ) → memory_offset region m.address m.length + 8 ≤ w.pair.setup.memory
      → Row Q w p (run_atomic p m w.pair.message region)

-- a fact of both sides of a test is one of the test
pub either : {A : Type 0} (P : A → Type 0) (b : Bool) {x y : A} → P x → P y → P (cond b x y)
either P true h k = h
either P false h k = k

branch : {A : Type 0} (P : A → Type 0) (b : Bool) {x y : A} → (b ≡ true → P x) → (b ≡ false → P y) → P (cond b x y)
branch P true h k = h refl
branch P false h k = k refl

pub count-some : (q : Pair) → Sound q → (n : ℕ) → 0 < pieces n q.setup.pmtu
count-some q S n =
    let b : 256 ≤ q.setup.pmtu = (bounds q.setup.pmtu S.setup.0.pmtu).0 in
    (counts n q.setup.pmtu (omega arith)).some

-- when 34 comes after the packet was looked at
abbrev pub Off : (Status → Type 0) → Pair → List (List ℕ) → Packet → Type 0
Off Q q entries p =
    (region : List ℕ) → expected_check q.setup q.message p q.entries.count (head_entry q entries) region ≡ 8 → Q status.OutOfRange

-- the region of the packet's key
abbrev pub region_by : Whole → Packet → List ℕ
region_by w p = region_for p.kind (current w.pair.message p).key w.regions

-- READs and atomics are messages of one packet, and an atomic names 8 bytes
record Formed (p : Packet) : Type 0 where
  one : (k : ℕ) → Bare k → p.kind ≡ k → starts p.place ≡ true
  eight : (p.kind ≡ 19) ⊎ (p.kind ≡ 20) → p.operands.length ≡ 8

-- what is enabled and neither carries bytes nor reads is an atomic
atomic-kind : (s : Setup) (kind : ℕ) → not_enabled s kind ≡ false → carrying kind ≡ false → eqb kind 12 ≡ false → (kind ≡ 19) ⊎ (kind ≡ 20)
unfolding not_enabled carrying
atomic-kind s kind h c n = go (eqb kind 0) (eqb kind 6) (eqb kind 12) (eqb kind 19) (eqb kind 20) refl refl n refl refl h
  where
    high : 12 ≤ kind
    high = ltb-false kind 12 c

    go : (a b c d e : Bool) → eqb kind 0 ≡ a → eqb kind 6 ≡ b → c ≡ false → eqb kind 19 ≡ d → eqb kind 20 ≡ e
        → cond a (not s.send) (cond b (not s.write) (cond c (not s.read) (cond d (not s.atomic) (cond e (not s.atomic) true)))) ≡ false
        → (kind ≡ 19) ⊎ (kind ≡ 20)
    go true b c d e v w x y z t = let k : kind ≡ 0 = eqb-true kind 0 v in absurd (omega (arith, high))
    go false true c d e v w x y z t = let k : kind ≡ 6 = eqb-true kind 6 w in absurd (omega (arith, high))
    go false false true d e v w x y z t = absurd (true≢false x)
    go false false false true e v w x y z t = inl (eqb-true kind 19 y)
    go false false false false true v w x y z t = inr (eqb-true kind 20 z)
    go false false false false false v w x y z t = absurd (true≢false t)

module _ (Q : Status → Type 0) (shut : Q status.Dropped) (w : Whole) (S : Sound w.pair) (p : Packet)
    (off : Off Q w.pair w.entries p) (F : Formed p) where
  abbrev R : Decision → Type 0
  R = Row Q w p

  abbrev M : OpenMessage
  M = current w.pair.message p

  own : starts p.place ≡ true
      → M ≡ (record { kind = p.kind; stored = 0; address = p.operands.address; key = p.operands.key; length = p.operands.length })
  unfolding current
  own h = rw h

  -- a READ whose key is good
  asks : p.kind ≡ 12 → (k : ℕ) → eqb k 0 ≡ false → key_fails w.pair.setup.memory k M (region_by w p) ≡ false
      → Asks w.pair.setup.memory w.regions p (memory_offset (region_by w p) M.address M.length) M.length
  unfolding region_for
  asks e k n h =
      let c = own (F.one 12 reads e) in
      record {
        kind = e;
        length = ap (λ x. x.length) c;
        at =
            ap (λ x. memory_offset (region_for p.kind x.key w.regions) x.address x.length) c
            ∙ ap (λ k. memory_offset (region_for k p.operands.key w.regions) p.operands.address p.operands.length) e;
        within = own-inside k w.pair.setup.memory M (region_by w p) n h (ap (λ x. x.stored) c);
      }

  -- an atomic, whose key holds 8 bytes
  eight-inside : (p.kind ≡ 19) ⊎ (p.kind ≡ 20) → key_fails w.pair.setup.memory p.kind M (region_by w p) ≡ false
      → memory_offset (region_by w p) M.address M.length + 8 ≤ w.pair.setup.memory
  eight-inside e h =
      let c = own (first e) in
      let n : M.length ≡ 8 = ap (λ x. x.length) c ∙ F.eight e in
      omega (arith, n, own-inside p.kind w.pair.setup.memory M (region_by w p) (not-send e) h (ap (λ x. x.stored) c))
    where
      first : (p.kind ≡ 19) ⊎ (p.kind ≡ 20) → starts p.place ≡ true
      first (inl x) = F.one 19 swaps x
      first (inr x) = F.one 20 adds x

      not-send : (p.kind ≡ 19) ⊎ (p.kind ≡ 20) → eqb p.kind 0 ≡ false
      not-send (inl x) = ne_eqb p.kind 0 (λ z. omega arith)
      not-send (inr x) = ne_eqb p.kind 0 (λ z. omega arith)

  execute-row : (entry : List ℕ) → Passed w.pair.setup w.pair.message p entry (region_by w p)
      → R (execute p M w.pair.message entry (region_by w p) w.pair.setup.pmtu)
  unfolding execute accept_read
  execute-row entry P =
      branch R (carrying p.kind)
      (λ c. stored M entry (region_by w p) (target-inside w.pair.setup w.pair.message p entry (region_by w p) P c))
      (λ c. branch R (eqb p.kind 12)
      (λ e. begin (memory_offset (region_by w p) M.address M.length) M.length (asks (eqb-true p.kind 12 e) p.kind (not-send e) P.key) (count-some w.pair S M.length))
      (λ e. swap M (region_by w p) (eight-inside (atomic-kind w.pair.setup p.kind P.enabled c e) P.key)))
    where
      not-send : eqb p.kind 12 ≡ true → eqb p.kind 0 ≡ false
      not-send e = let k : p.kind ≡ 12 = eqb-true p.kind 12 e in ne_eqb p.kind 0 (λ z. omega arith)

  checked-row : (entry : List ℕ) (code : ℕ) → (code ≡ 0 → Passed w.pair.setup w.pair.message p entry (region_by w p))
      → (code ≡ 8 → Q status.OutOfRange) → R (checked_decision code p w.pair.setup w.pair.message entry (region_by w p))
  unfolding checked_decision failed
  checked-row entry code P o =
      branch R (eqb code 0) (λ z. execute-row entry (P (eqb-true code 0 z)))
      (λ z. branch R (eqb (check_answer code) 17) (λ a. invalid)
      (λ a. branch R (eqb (check_answer code) 18) (λ b. access)
      (λ b. branch R (eqb (check_answer code) 19) (λ c. unready) (λ c. quiet status.OutOfRange (o (row-left code z a b c))))))

  expected-row : R (expected_decision p w.pair.setup w.pair.message w.pair.entries.count (head_entry w.pair w.entries) (region_by w p))
  unfolding expected_decision
  expected-row =
      checked-row (head_entry w.pair w.entries) (expected_check w.pair.setup w.pair.message p w.pair.entries.count (head_entry w.pair w.entries) (region_by w p))
      (passes w.pair.setup w.pair.message p w.pair.entries.count (head_entry w.pair w.entries) (region_by w p)) (off (region_by w p))

  ahead-row : R (ahead_decision w.pair.nakmark w.pair.expected)
  unfolding ahead_decision
  ahead-row = either R w.pair.nakmark (quiet status.Dropped shut) ahead

  atomic-row : (s : Option ℕ) → newest_saved p.psn.0 w.saved w.pair.saved ≡ s → R (duplicate_atomic s p.psn)
  atomic-row (Some v) e = atomic_duplicate v e
  atomic-row None e = quiet status.Dropped shut

  duplicate-key : duplicate_read_fails p w.pair.setup M w.pair.expected (region_by w p) ≡ false → key_fails w.pair.setup.memory 12 M (region_by w p) ≡ false
  unfolding duplicate_read_fails
  duplicate-key h =
      or_left (key_fails w.pair.setup.memory 12 M (region_by w p)) _
      (or_right (not (eqb p.pad 0)) _ (or_right (not (eqb p.body 0)) _ (or_right (over_limit M.length) _ (or_right (not_enabled w.pair.setup 12) _ h))))

  duplicate-row : R (duplicate_decision p w.pair.setup w.pair.expected M (region_by w p) (newest_saved p.psn.0 w.saved w.pair.saved))
  unfolding duplicate_decision duplicate_read
  duplicate-row =
      either R (carrying p.kind) ack_duplicate
      (branch R (eqb p.kind 12)
      (λ e. branch R (duplicate_read_fails p w.pair.setup M w.pair.expected (region_by w p)) (λ f. quiet status.Dropped shut)
      (λ f. read_duplicate (memory_offset (region_by w p) M.address M.length) M.length (asks (eqb-true p.kind 12 e) 12 refl (duplicate-key f)) (count-some w.pair S M.length)))
      (λ e. either R (is_atomic p.kind) (atomic-row (newest_saved p.psn.0 w.saved w.pair.saved) refl) (quiet status.Dropped shut)))

  by-class-row : (c : Class) → R (decision_by_class c w.pair p (head_entry w.pair w.entries) (region_by w p) (newest_saved p.psn.0 w.saved w.pair.saved))
  by-class-row class.Expected = expected-row
  by-class-row class.Ahead = ahead-row
  by-class-row class.Duplicate = duplicate-row

  rc-row : R (rc_decision w p)
  unfolding rc_decision
  rc-row = by-class-row (psn_class p.psn.0 w.pair.expected.0)

-- on the unreliable connection: quiet, abandoned, or stored
pub data UcRow (Q : Status → Type 0) (q : Pair) (p : Packet) : Decision → Type 0 where
  unheard : (a : Status) → Q a → UcRow Q q p (no_reply a)
  abandon : (q.message.kind ≡ 255 → ⊥) → UcRow Q q p (no_reply status.Abandoned)
  deliver : (m : OpenMessage) (entry region : List ℕ) → target_offset p.kind m entry region + payload_size p ≤ q.setup.memory
      → UcRow Q q p (store_payload false (1 + distance p.psn.0 q.expected.0) p m entry region)

module _ (Q : Status → Type 0) (shut : Q status.Dropped) (w : Whole) (p : Packet)
    (off : Off Q (viewed p.place w.pair) w.entries p) where
  abbrev U : Decision → Type 0
  U = UcRow Q w.pair p

  uc-checked : (entry region : List ℕ) (code : ℕ) → (code ≡ 0 → Passed w.pair.setup (closed_by p.place w.pair.message) p entry region)
      → (code ≡ 8 → Q status.OutOfRange)
      → U (uc_checked_decision code p w.pair.expected w.pair.message entry region)
  unfolding uc_checked_decision uc_execute abandoning
  uc-checked entry region code P o =
      branch U (eqb code 0)
      (λ z. branch U (carrying p.kind)
      (λ c. deliver (current w.pair.message p) entry region
      (subst (λ m. target_offset p.kind m entry region + payload_size p ≤ w.pair.setup.memory) (current-closed w.pair.message p)
      (target-inside w.pair.setup (closed_by p.place w.pair.message) p entry region (P (eqb-true code 0 z)) c)))
      (λ c. unheard status.Dropped shut))
      (λ z. branch U (eqb (check_answer code) 34) (λ e. unheard status.OutOfRange (o (eqb-true code 8 (sym (row_told code) ∙ e))))
      (λ e. branch U (eqb w.pair.message.kind 255) (λ f. unheard status.Dropped shut) (λ f. abandon (eqb-false w.pair.message.kind 255 f))))

  uc-row : U (uc_decision p w.pair.setup w.pair.expected w.pair.message w.pair.entries.count (head_entry w.pair w.entries) (region_by w p))
  unfolding uc_decision
  uc-row =
      let entry = head_entry w.pair w.entries in
      let region = region_by w p in
      let opened = closed_by p.place w.pair.message in
      let code = request_check w.pair.setup opened p w.pair.entries.count entry region in
      branch U (orphaned p.place w.pair.message.kind) (λ h. unheard status.Dropped shut)
      (λ h. branch U (strays p w.pair.expected w.pair.message.kind) (λ t. abandon (stray-open p w.pair.expected w.pair.message.kind h t))
      (λ t.
      let e = same_code w.pair.setup w.pair.message p w.pair.expected w.pair.entries.count entry region t in
      uc-checked entry region code (λ z. passes w.pair.setup opened p w.pair.entries.count entry region (e ∙ z)) (λ z. off region (e ∙ z))))

-- by the service
pub data AnyRow (Q : Status → Type 0) (w : Whole) (p : Packet) (d : Decision) : Type 0 where
  reliable : eqb w.pair.setup.service 1 ≡ false → Row Q w p d → AnyRow Q w p d
  unreliable : eqb w.pair.setup.service 1 ≡ true → UcRow Q w.pair p d → AnyRow Q w p d

-- when 34 comes after the packet was looked at, by either service
pub record AnyOff (Q : Status → Type 0) (w : Whole) (p : Packet) : Type 0 where
  pub rc : Off Q w.pair w.entries p
  pub uc : Off Q (viewed p.place w.pair) w.entries p

quiet_row : (Q : Status → Type 0) (w : Whole) (p : Packet) (a : Status) → Q a → AnyRow Q w p (no_reply a)
quiet_row Q w p a h = go (eqb w.pair.setup.service 1) refl
  where
    go : (b : Bool) → eqb w.pair.setup.service 1 ≡ b → AnyRow Q w p (no_reply a)
    go true e = unreliable e (unheard a h)
    go false e = reliable e (quiet a h)

packet-row : (Q : Status → Type 0) → Q status.Dropped → (w : Whole) → Sound w.pair → (p : Packet)
    → AnyOff Q w p → Formed p
    → AnyRow Q w p (packet_decision w p)
unfolding packet_decision
packet-row Q shut w S p off F =
    branch (AnyRow Q w p) (eqb w.pair.setup.service 1) (λ e. unreliable e (uc-row Q shut w p off.uc))
    (λ e. reliable e (rc-row Q shut w S p off.rc F))

-- the tests before the packet is looked at
pub passed : (q : Pair) (memory room : ℕ) → executed (inbound_refusal q memory room) ≡ true → (24 ≤ room) × Sound q
unfolding inbound_refusal executed status_number
passed q memory room e = go (ltb room 24) (eqb memory q.setup.memory) (pair_unsound q) (reads_full q) refl refl e
  where
    go : (a b c d : Bool) → ltb room 24 ≡ a → pair_unsound q ≡ c
        → eqb (status_number (cond a status.OutputShort (cond (not b) status.OutOfRange (cond c status.OutOfRange (cond d status.ReadUnfinished status.Executed))))) 0 ≡ true
        → (24 ≤ room) × Sound q
    go true b c d x y z = absurd (true≢false (sym z))
    go false false c d x y z = absurd (true≢false (sym z))
    go false true true d x y z = absurd (true≢false (sym z))
    go false true false true x y z = absurd (true≢false (sym z))
    go false true false false x y z = (ltb-false room 24 x, (tested q).0 y)

pub refusal-quiet : (q : Pair) (memory room : ℕ) → executed (inbound_refusal q memory room) ≡ false → Quiet (inbound_refusal q memory room)
unfolding inbound_refusal executed status_number
refusal-quiet q memory room e = go (ltb room 24) (eqb memory q.setup.memory) (pair_unsound q) (reads_full q) e
  where
    go : (a b c d : Bool)
        → eqb (status_number (cond a status.OutputShort (cond (not b) status.OutOfRange (cond c status.OutOfRange (cond d status.ReadUnfinished status.Executed))))) 0 ≡ false
        → Quiet (cond a status.OutputShort (cond (not b) status.OutOfRange (cond c status.OutOfRange (cond d status.ReadUnfinished status.Executed))))
    go true b c d z = short
    go false false c d z = range
    go false true true d z = range
    go false true false true z = unfinished
    go false true false false z = absurd (true≢false z)

starting : (k : ℕ) → Bare k → starts (low_class k).place ≡ true
unfolding low_class Opcode.place_of starts
starting k reads = refl
starting k swaps = refl
starting k adds = refl

atomic-eight : (p : List ℕ) → ((operands_of (extension_of (low_class 19).follows p)).length ≡ 8) × ((operands_of (extension_of (low_class 20).follows p)).length ≡ 8)
unfolding low_class follows_of extension_of operands_of
atomic-eight p = (refl, refl)

formed : (p : List ℕ) → Formed (packet_in p)
unfolding packet_of header_of
formed p = record { one = first; eight = eights }
  where
    o : ℕ
    o = (bth_of p).opcode

    first : (k : ℕ) → Bare k → (class_of o).kind ≡ k → starts (class_of o).place ≡ true
    first k B e = subst (λ c. starts c.place ≡ true) (sym (class-is o k B e)) (starting k B)

    eights : ((class_of o).kind ≡ 19) ⊎ ((class_of o).kind ≡ 20) → (operands_of (extension_of (class_of o).follows p)).length ≡ 8
    eights (inl e) = subst (λ c. (operands_of (extension_of c.follows p)).length ≡ 8) (sym (class-is o 19 swaps e)) (atomic-eight p).0
    eights (inr e) = subst (λ c. (operands_of (extension_of c.follows p)).length ≡ 8) (sym (class-is o 20 adds e)) (atomic-eight p).1

admitted-row : (Q : Status → Type 0) → Q status.Dropped → (w : Whole) → Sound w.pair → (p : List ℕ)
    → AnyOff Q w (packet_in p) → (r : Result Header Reason)
    → admitted w.pair.setup.service w.pair.setup.ours w.pair.setup.pkey (eqb w.pair.state 1) p ≡ r
    → AnyRow Q w (packet_in p) (or_drop r (λ h. packet_decision w (packet_of h (length p))))
unfolding admitted
admitted-row Q shut w S p off (Ok h) e =
    let found = header_checks w.pair.setup.service w.pair.setup.ours w.pair.setup.pkey (eqb w.pair.state 1) p in
    subst (λ x. AnyRow Q w (packet_in p) (packet_decision w (packet_of x (length p)))) (accepted-by found p h e).1
    (packet-row Q shut w S (packet_in p) off (formed p))
admitted-row Q shut w S p off (Err why) e = quiet_row Q w (packet_in p) status.Dropped shut

pub decided-row : (a : Arrival) → AnyRow Quiet a.whole (packet_in a.packet) (decision a)
unfolding decision
decided-row a = go (executed (refusal_of a)) refl
  where
    D : Result Header Reason → Decision
    D r = or_drop r (λ h. packet_decision a.whole (packet_of h (length a.packet)))

    go : (b : Bool) → executed (refusal_of a) ≡ b
        → AnyRow Quiet a.whole (packet_in a.packet) (cond b (D (checked_header a)) (no_reply (refusal_of a)))
    go true e =
        admitted-row Quiet dropped a.whole (passed a.whole.pair (length a.memory) (length a.out) e).1 a.packet
        (record { rc = λ region z. range; uc = λ region z. range }) (checked_header a) refl
    go false e =
        quiet_row Quiet a.whole (packet_in a.packet) (refusal_of a)
        (refusal-quiet a.whole.pair (length a.memory) (length a.out) e)

-- not refused at once
pub taken-row : (Q : Status → Type 0) → Q status.Dropped → (a : Arrival) → AnyOff Q a.whole (packet_in a.packet) → executed (refusal_of a) ≡ true
    → AnyRow Q a.whole (packet_in a.packet) (decision a)
unfolding decision
taken-row Q shut a off e =
    rw e
    (admitted-row Q shut a.whole (passed a.whole.pair (length a.memory) (length a.out) e).1 a.packet off (checked_header a) refl)
