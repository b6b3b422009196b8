-- A packet of the stream is delivered: the one expected, one ahead, or one that was executed before.
use Rattle.std.proofs.Common.{Option, Some, None}
use Prim.Native.Nat.{ℕ, ◌+◌, ◌-◌, ◌*◌, ◌≤◌, ◌<◌}
use mathlib.Core.Path.{◌≡◌, refl, sym, ap, subst, ◌∙◌}
use mathlib.Core.Bool.{Bool, true, false, cond, not, ◌&&◌, ◌||◌}
use mathlib.Core.List.{List}
use native.Mathlib.Omega.{arith}
use lib.Dec.{ltb, eqb}
use lib.ListN.{length}
use borrow.Author.Tests.{eqb-true, eqb-false, eq-eqb, ne_eqb, lt-ltb, le-ltb, ltb-true}
use Rattle.lemmas.proofs.Auto.{tests}
use Rattle.sequence.specs.Sequence.{distance, after, psn_class}
use Rattle.sequence.specs.Claims.{order}
use Rattle.sequence.specs.declared.Psn.{Psn}
use Rattle.sequence.specs.declared.Class.{Class}
use Rattle.sequence.proofs.Circle.{class-is-order, distance-after, along-stream}
use Rattle.header.specs.declared.Reth.{Reth}
use Rattle.packet.specs.Packet.{pad_of}
use Rattle.pmtu.specs.Pieces.{pieces}
use Rattle.table.specs.View.{newest_saved}
use Rattle.pair.specs.Answer.{status_number}
use Rattle.pair.specs.Claims.{SetupFit}
use Rattle.pair.specs.declared.OpenMessage.{OpenMessage}
use Rattle.pair.specs.declared.Status.TheVariants as status
use Rattle.cut_spec.specs.Claims.{kind_number}
use Rattle.cut_spec.specs.declared.Request.{Request}
use Rattle.cut_spec.specs.declared.Request.TheVariants.{Send, SendImmediate, Write, WriteImmediate, Read, CmpSwap, FetchAdd}
use Rattle.cut_spec.proofs.Fits.{none-carried}
use Rattle.cut_spec.proofs.Shapes.{cut-one}
use Rattle.request_spec.specs.Verdict.{carrying, not_enabled, over_limit, key_fails, current}
use Rattle.responder_spec.specs.Steady.{Steady}
use Rattle.responder_spec.specs.Syndrome as Syndrome
use Rattle.responder_spec.specs.Reply.{read_begun}
use Rattle.responder_spec.specs.Decide.{no_reply, acknowledging, reply_only, psn_before, ahead_decision}
use Rattle.responder_spec.specs.Decide.{duplicate_read_fails, duplicate_read, duplicate_atomic, is_atomic}
use Rattle.responder_spec.specs.Decide.{duplicate_decision, head_entry, region_for, expected_decision, decision_by_class}
use Rattle.responder_spec.specs.Decide.{rc_decision, packet_decision}
use Rattle.responder_spec.specs.Apply.{memory_by, acts_atomic, saved_by, pair_by, read_answer_by, pair_by_number}
use Rattle.responder_spec.specs.declared.Decision.{Decision}
use Rattle.delivery_spec.specs.Stream.{Message, Slot, slot, psn_count, number_along, packet_at}
use Rattle.delivery_spec.specs.Plain.{Plain, is_read, with_responses, execute_next, deliver}
use Rattle.delivery_spec.specs.Demand.{Run, Near}
use Rattle.delivery_spec.proofs.Numbers.{along-less}
use Rattle.delivery_steps.proofs.Chain.{Stands, Good}
use Rattle.delivery_steps.proofs.Cutting.{slot_size, cut_packet}
use Rattle.delivery_steps.proofs.Rel.{IsOf, Link, step_by, eases}
use Rattle.delivery_steps.proofs.Fitting.{Room, named-limit, enabled-is, key-good}
use Rattle.delivery_steps.proofs.Checks.{none-pad, begun}
use Rattle.delivery_steps.proofs.Here.{here}
use Rattle.delivery_steps.proofs.Requests.{Single, Reads, read-single, reads-reads}

-- between two positions of a stream, the numbers are as far apart as the positions
distance_is : (start x y : ℕ) → y ≤ x → x ≤ y + 8388607 → distance (after start x) (after start y) ≡ x - y
distance_is start x y l h =
    let e : y + (x - y) ≡ x = omega arith in
    let b : Psn = record { 0 = after start y } in
    ap (λ z. distance z.0 (after start y)) (sym (along-stream (record { 0 = start }) y (x - y) ∙ ap (λ k. record { 0 = after start k }) e))
    ∙ (distance-after b (x - y) ∙ omega arith)

over_no : (n : ℕ) → n ≤ 1048576 → over_limit n ≡ false
unfolding over_limit
over_no n h = le-ltb 1048576 n h

module _ (ms : List Message) (S : List Slot) (p : Plain) (x : Run) (L : Link ms S p x) (Y : Steady x.whole)
    (G : Good x.whole.pair.setup x.whole.regions ms S) where
  fits : SetupFit x.whole.pair.setup
  fits = Y.pair.setup.0

  -- nothing is sent, an ACK or NAK is sent, a saved value is sent: no more than the NAK mark changes
  pub dropped : (b : List ℕ) → Link ms S p (step_by x (no_reply status.Dropped) b)
  unfolding no_reply status_number pair_by pair_by_number saved_by memory_by acts_atomic
  dropped b = eases L x.whole.pair.nakmark x.whole.pair.read p.r L.reads

  nak : (b : List ℕ) → Link ms S p (step_by x (acknowledging status.SequenceNak x.whole.pair.expected 96) b)
  unfolding acknowledging status_number pair_by pair_by_number saved_by memory_by acts_atomic
  nak b = eases L true x.whole.pair.read p.r L.reads

  acked : (psn : Psn) (n : ℕ) (b : List ℕ) → Link ms S p (step_by x (acknowledging status.DuplicateAnswered psn n) b)
  unfolding acknowledging status_number pair_by pair_by_number saved_by memory_by acts_atomic read_answer_by
  acked psn n b = eases L x.whole.pair.nakmark x.whole.pair.read p.r L.reads

  saved : (v : Option ℕ) (psn : Psn) (b : List ℕ) → Link ms S p (step_by x (duplicate_atomic v psn) b)
  unfolding status_number pair_by pair_by_number saved_by memory_by acts_atomic read_answer_by
  saved (Some v) psn b = eases L x.whole.pair.nakmark x.whole.pair.read p.r L.reads
  saved None psn b = dropped b

  -- ahead: nothing, or the NAK mark
  early : (b : List ℕ) → Link ms S p (step_by x (ahead_decision x.whole.pair.nakmark x.whole.pair.expected) b)
  unfolding ahead_decision
  early b = go x.whole.pair.nakmark
    where
      go : (k : Bool) → Link ms S p (step_by x (cond k (no_reply status.Dropped) (acknowledging status.SequenceNak x.whole.pair.expected 96)) b)
      go true = dropped b
      go false = nak b

  -- a READ's answer begins
  remaining-is : (at n r : ℕ) (psn : Psn) (len : ℕ) → 1 ≤ r → r ≡ n
      → (read_answer_by (read_begun at len r psn) x.whole.pair.read x.whole.pair.msn).remaining ≡ n
  unfolding read_answer_by
  remaining-is at n r psn len h e = rw (ne_eqb r 0 (λ z. absurd (omega arith))) e

  begins : (at n r : ℕ) (psn : Psn) (len : ℕ) (b : List ℕ) → 1 ≤ r → r ≡ n
      → Link ms S (with_responses p n) (step_by x (reply_only status.DuplicateAnswered (read_begun at len r psn)) b)
  unfolding status_number pair_by pair_by_number saved_by memory_by acts_atomic
  begins at n r psn len b h e =
      eases L x.whole.pair.nakmark
      (read_answer_by (read_begun at len r psn) x.whole.pair.read x.whole.pair.msn) n
      (remaining-is at n r psn len h e)

  module _ (j : ℕ) (i : j < length S) where
    abbrev t : Slot
    t = slot S j

    H : Stands x.whole.pair.setup x.whole.regions t
    H = G.stands j i

    abbrev M : OpenMessage
    M = current x.whole.pair.message (cut_packet t)

    abbrev region : List ℕ
    region = region_for (kind_number t.message.request) M.key x.whole.regions

    -- a duplicate READ is answered
    module _ (O : Single t.message.request) (R : Reads t.message.request) (a : Reth) (ea : t.message.request ≡ Read a)
        (back : number_along S j + psn_count t ≤ number_along S p.k) (near : number_along S p.k ≤ number_along S j + 8388607) where
      zeroth : t.index ≡ 0
      zeroth =
          omega (arith, cut-one t.message.request (length t.message.bytes) t.message.connection.pmtu O.bare, H.outgoing.inside)

      N : IsOf t M
      N = begun x.whole.pair.setup x.whole.regions fits t H x.whole.pair.message (eq-eqb t.index 0 zeroth)

      none : slot_size t ≡ 0
      none = none-carried t.message.connection t.message.request t.message.bytes t.index O.bare

      body-none : slot_size t + pad_of (slot_size t) ≡ 0
      body-none = omega (arith, none, ap pad_of none, none-pad)

      key-holds : key_fails x.whole.pair.setup.memory 12 M region ≡ false
      key-holds =
          subst (λ k. key_fails x.whole.pair.setup.memory k M region ≡ false) R.kind
          (key-good t.message.request x.whole.pair.setup x.whole.regions (length t.message.bytes) (t.index * t.message.connection.pmtu) M Y.regions H.allowed N
          (subst (λ r. Room r (t.index * t.message.connection.pmtu) (length t.message.bytes)) (sym ea) (omega (arith, ap (λ k. k * t.message.connection.pmtu) zeroth))))

      count-is : pieces M.length x.whole.pair.setup.pmtu ≡ psn_count t
      count-is = (λ k. pieces (N.length k) (sym H.outgoing.addressed.pmtu k)) ∙ sym (R.psn_count (length t.message.bytes) t.message.connection.pmtu)

      far : distance x.whole.pair.expected.0 (cut_packet t).psn.0 ≡ number_along S p.k - number_along S j
      far =
          (λ k. distance ((ap (λ e. e.0) L.expected ∙ L.number) k) (G.number j i k))
          ∙ distance_is x.whole.pair.setup.start.0 (number_along S p.k) (number_along S j) (omega (arith, back)) near

      duplicate-passes : duplicate_read_fails (cut_packet t) x.whole.pair.setup M x.whole.pair.expected region ≡ false
      unfolding duplicate_read_fails
      duplicate-passes =
          let en : not_enabled x.whole.pair.setup 12 ≡ false =
          subst (λ k. not_enabled x.whole.pair.setup k ≡ false) R.kind
          (enabled-is x.whole.pair.setup x.whole.regions t.message.request (length t.message.bytes) H.allowed) in
          let lim : over_limit M.length ≡ false =
          over_no M.length (subst (λ k. k ≤ 1048576) (sym N.length) (named-limit t.message.request (length t.message.bytes) H.outgoing.addressed.limit)) in
          let w : eqb (slot_size t + pad_of (slot_size t)) 0 ≡ true = eq-eqb (slot_size t + pad_of (slot_size t)) 0 body-none in
          let z : eqb (pad_of (slot_size t)) 0 ≡ true = eq-eqb (pad_of (slot_size t)) 0 (omega (arith, body-none)) in
          let all : ltb (distance x.whole.pair.expected.0 (cut_packet t).psn.0) (pieces M.length x.whole.pair.setup.pmtu) ≡ false =
          le-ltb (distance x.whole.pair.expected.0 (cut_packet t).psn.0) (pieces M.length x.whole.pair.setup.pmtu) (omega (arith, far, count-is, back)) in
          λ k. en k || (lim k || (not (w k) || (not (z k) || (key-holds k || all k))))

      again : (b : List ℕ) → Link ms S (with_responses p (psn_count t)) (step_by x (duplicate_read (cut_packet t) x.whole.pair.setup M x.whole.pair.expected region) b)
      unfolding duplicate_read
      again b = rw duplicate-passes (begins _ (psn_count t) _ _ _ b (subst (λ k. 1 ≤ k) (sym count-is) (G.some j i)) count-is)

    -- a packet that was executed before: an ACK, a READ's answer, a saved value
    abbrev Late : Option ℕ → List ℕ → Type 0
    Late v b =
        Link ms S (cond (is_read t.message.request) (with_responses p (psn_count t)) p)
        (step_by x (duplicate_decision (cut_packet t) x.whole.pair.setup x.whole.pair.expected M region v) b)

    late-carried : (v : Option ℕ) (b : List ℕ) → carrying (kind_number t.message.request) ≡ true → is_read t.message.request ≡ false → Late v b
    unfolding duplicate_decision
    late-carried v b c r = rw (c, r) (acked (psn_before x.whole.pair.expected) Syndrome.ack b)

    late-atomic : (v : Option ℕ) (b : List ℕ) → carrying (kind_number t.message.request) ≡ false → eqb (kind_number t.message.request) 12 ≡ false
        → is_atomic (kind_number t.message.request) ≡ true → is_read t.message.request ≡ false → Late v b
    unfolding duplicate_decision
    late-atomic v b c k a r = rw (c, k, a, r) (saved v (cut_packet t).psn b)

    late-read : (v : Option ℕ) (b : List ℕ) (a : Reth) → t.message.request ≡ Read a
        → number_along S j + psn_count t ≤ number_along S p.k
        → number_along S p.k ≤ number_along S j + 8388607
        → Late v b
    unfolding duplicate_decision carrying
    late-read v b a e back near =
        let k : kind_number t.message.request ≡ 12 = ap kind_number e in
        let r : is_read t.message.request ≡ true = ap is_read e in
        subst (λ z. Link ms S (cond z (with_responses p (psn_count t)) p) (step_by x (duplicate_decision (cut_packet t) x.whole.pair.setup x.whole.pair.expected M region v) b)) (sym r)
        (rw (ap (λ z. ltb z 12) k, ap (λ z. eqb z 12) k)
        (again (subst Single (sym e) (read-single a)) (subst Reads (sym e) (reads-reads a)) a e back near b))

    late : number_along S j + psn_count t ≤ number_along S p.k → number_along S p.k ≤ number_along S j + 8388607 → (v : Option ℕ) (b : List ℕ) → Late v b
    unfolding carrying is_atomic
    late back near v b = go t.message.request refl
      where
        go : (r : Request) → t.message.request ≡ r → Late v b
        go Send e = late-carried v b (ap (λ r. carrying (kind_number r)) e) (ap is_read e)
        go (SendImmediate n) e = late-carried v b (ap (λ r. carrying (kind_number r)) e) (ap is_read e)
        go (Write y) e = late-carried v b (ap (λ r. carrying (kind_number r)) e) (ap is_read e)
        go (WriteImmediate y n) e = late-carried v b (ap (λ r. carrying (kind_number r)) e) (ap is_read e)
        go (Read a) e = late-read v b a e back near
        go (CmpSwap a) e = late-atomic v b (ap (λ r. carrying (kind_number r)) e) (ap (λ r. eqb (kind_number r) 12) e) (ap (λ r. is_atomic (kind_number r)) e) (ap is_read e)
        go (FetchAdd y n) e = late-atomic v b (ap (λ r. carrying (kind_number r)) e) (ap (λ r. eqb (kind_number r) 12) e) (ap (λ r. is_atomic (kind_number r)) e) (ap is_read e)

    abbrev decides : Decision
    decides = packet_decision x.whole (cut_packet t)

    -- by the class of its number
    class-is : Near (number_along S j) (number_along S p.k) → psn_class (cut_packet t).psn.0 x.whole.pair.expected.0 ≡ order (number_along S j) (number_along S p.k)
    class-is D =
        (λ k. psn_class (G.number j i k) ((ap (λ e. e.0) L.expected ∙ L.number) k))
        ∙ class-is-order x.whole.pair.setup.start.0 (number_along S j) (number_along S p.k) (omega (arith, D.ahead)) (omega (arith, D.behind))

    abbrev v : Option ℕ
    v = newest_saved (cut_packet t).psn.0 x.whole.saved x.whole.pair.saved

    abbrev by : Class → Decision
    by c = decision_by_class c x.whole.pair (cut_packet t) (head_entry x.whole.pair x.whole.entries) region v

    -- the pair is a reliable one
    reliably : x.whole.pair.setup.service ≡ 0 → decides ≡ by (psn_class (cut_packet t).psn.0 x.whole.pair.expected.0)
    unfolding packet_decision rc_decision
    reliably R = rw (ne_eqb x.whole.pair.setup.service 1 (λ z. absurd (omega (arith, R))))

    pub arrives : x.whole.pair.setup.service ≡ 0 → length p.memory ≡ x.whole.pair.setup.memory → Near (number_along S j) (number_along S p.k)
        → Link ms S (deliver x.whole.regions S p j) (step_by x decides (packet_at t))
    unfolding order
    arrives R ml D = subst (λ d. Link ms S (deliver x.whole.regions S p j) (step_by x d (packet_at t))) (sym (reliably R ∙ ap by (class-is D))) (go (eqb j p.k) (ltb j p.k) refl refl)
      where
        go : (a b : Bool) → eqb j p.k ≡ a → ltb j p.k ≡ b
            → Link ms S
            (cond a (execute_next x.whole.regions p t) (cond (b && is_read t.message.request) (with_responses p (psn_count t)) p))
            (step_by x (by (order (number_along S j) (number_along S p.k))) (packet_at t))
        go true b e f =
            let q : j ≡ p.k = eqb-true j p.k e in
            rw (eq-eqb (number_along S j) (number_along S p.k) (ap (number_along S) q))
            (subst
            (λ n. Link ms S (execute_next x.whole.regions p (slot S n)) (step_by x (expected_decision (cut_packet (slot S n)) x.whole.pair.setup x.whole.pair.message
            x.whole.pair.entries.count (head_entry x.whole.pair x.whole.entries)
            (region_for (kind_number (slot S n).message.request) (current x.whole.pair.message (cut_packet (slot S n))).key x.whole.regions)) (packet_at (slot S n))))
            (sym q) (here ms S p x L Y G (omega arith) ml))
        go false true e f =
            let l = along-less S j p.k (ltb-true j p.k f) L.within in
            let s = G.some j i in
            rw (ne_eqb (number_along S j) (number_along S p.k) (λ z. absurd (omega arith)), le-ltb (number_along S p.k) (number_along S j) (omega arith))
            (late l D.behind v (packet_at t))
        go false false e f =
            let h : p.k < j = omega (arith, tests, eqb-false j p.k e) in
            let l = along-less S p.k j h (omega (arith, i)) in
            let s = G.some p.k (omega arith) in
            rw (ne_eqb (number_along S j) (number_along S p.k) (λ z. absurd (omega arith)), lt-ltb (number_along S p.k) (number_along S j) (omega arith))
            (early (packet_at t))
