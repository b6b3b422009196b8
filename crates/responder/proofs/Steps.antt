-- The inbound call step by step: from what each function answered to what the definitions say.
use Prim.Native.Nat.{ℕ, ◌≤◌}
use mathlib.Core.Path.{◌≡◌, refl, sym, ap, subst, ◌∙◌}
use mathlib.Core.Bool.{Bool, true, false, cond, not, ◌&&◌, ◌||◌, true≢false}
use mathlib.Core.List.{List, []}
use lib.Dec.{eqb, ltb}
use lib.ListN.{length}
use Rattle.std.specs.Prelude.{Result, Ok, Err}
use borrow.Author.Tests.{eqb-true, le-ltb}
use Rattle.sequence.specs.declared.Psn.{Psn}
use Rattle.opcode.specs.Opcode.{place_of, low_class, class_of}
use Rattle.header.specs.declared.Header.{Header}
use Rattle.header.specs.declared.Reason.{Reason}
use Rattle.std.specs.Prelude.{Result, Ok, Err, is_ok}
use Rattle.std.specs.Result.{result_unwrap_or}
use Rattle.memory.specs.Word.{word_at}
use Rattle.table.specs.View.{saved_rows}
use Rattle.table.specs.declared.Ring.{Ring}
use Rattle.pair.specs.Sound.{timer_limit}
use Rattle.pair.specs.Answer.{status_number, executed}
use Rattle.pair.specs.declared.Pair.{Pair}
use Rattle.pair.specs.declared.Status.{Status}
use Rattle.pair.specs.declared.Status.TheVariants as status
use Rattle.opcode.specs.Place.{starts}
use Rattle.request_spec.specs.Packet.{packet_of, admission}
use Rattle.request_spec.specs.Verdict.{single, fragment}
use Rattle.request_spec.specs.declared.Packet.{Packet}
use Rattle.decision_laws.proofs.Codes.{Bare, class-is}
use Rattle.decision_laws.proofs.Codes.Bare.{reads, swaps, adds}
use Rattle.responder_spec.specs.declared.Change.{Change}
use Rattle.responder_spec.specs.declared.Reply.{Reply}
use Rattle.responder_spec.specs.declared.Decision.{Decision}
use Rattle.responder_spec.specs.declared.Outcome.{Outcome}
use Rattle.responder_spec.specs.Arrival.{Arrival, leaving}
use Rattle.responder_spec.specs.Decide.{no_reply, packet_decision, or_drop, inbound_refusal, unless_executed, refusal_of, checked_header, decision}
use Rattle.responder_spec.specs.Apply.{memory_by, acts_atomic, value_by, saved_by, pair_by}
use Rattle.responder_spec.specs.Reply.{ack_bytes, over}
use Rattle.responder_spec.specs.Inbound.{Leaves, reply_with, sent_by, left_by, inbound}
use Rattle.decision_laws.proofs.Rows.{passed}
use Rattle.execute.specs.Fits.{unformed}
use Rattle.responder.specs.Unchanged.{outcome_with}

-- what the header checks found, as a decision goes on from it
drops : (x : Result Header Reason) (n : ℕ) (reason : Reason) → admission x n ≡ Err reason → (f : Header → Decision) → or_drop x f ≡ no_reply status.Dropped
drops (Ok h) n reason e f = absurd (true≢false (ap is_ok e))
drops (Err why) n reason e f = refl

passes : (x : Result Header Reason) (n : ℕ) (k : Packet) → admission x n ≡ Ok k → (f : Packet → Decision) → or_drop x (λ h. f (packet_of h n)) ≡ f k
passes (Ok h) n k e f = ap f (ap (λ r. result_unwrap_or r k) e)
passes (Err why) n k e f = absurd (true≢false (sym (ap is_ok e)))

-- a header's packet is no fragment: READs and atomics are Only
whole-packet : (h : Header) (n : ℕ) → fragment (packet_of h n) ≡ false
unfolding fragment single packet_of starts low_class place_of
whole-packet h n =
    let k = (class_of h.bth.opcode).kind in
    go (eqb k 12) (eqb k 19) (eqb k 20) refl refl refl
  where
    only : (kind : ℕ) → Bare kind → (class_of h.bth.opcode).kind ≡ kind → not (starts (class_of h.bth.opcode).place) ≡ not (starts (low_class kind).place)
    only kind B e = ap (λ x. not (starts x.place)) (class-is h.bth.opcode kind B e)

    go : (a b c : Bool) → eqb (class_of h.bth.opcode).kind 12 ≡ a → eqb (class_of h.bth.opcode).kind 19 ≡ b
        → eqb (class_of h.bth.opcode).kind 20 ≡ c
        → ((a || (b || c)) && not (starts (class_of h.bth.opcode).place)) ≡ false
    go true b c x y z = only 12 reads (eqb-true (class_of h.bth.opcode).kind 12 x)
    go false true c x y z = only 19 swaps (eqb-true (class_of h.bth.opcode).kind 19 y)
    go false false true x y z = only 20 adds (eqb-true (class_of h.bth.opcode).kind 20 z)
    go false false false x y z = refl

whole-found : (x : Result Header Reason) (n : ℕ) (k : Packet) → admission x n ≡ Ok k → fragment k ≡ false
whole-found (Ok h) n k e = subst (λ y. fragment y ≡ false) (ap (λ r. result_unwrap_or r k) e) (whole-packet h n)
whole-found (Err why) n k e = absurd (true≢false (sym (ap is_ok e)))

-- what is refused, and what is not
abbrev pub going_on : Result Unit Status
going_on = Ok tt

pub is_refused : (answer t : Status) → Err t ≡ unless_executed answer → (executed answer ≡ false) × (t ≡ answer)
unfolding unless_executed
is_refused answer t e = go (executed answer) e
  where
    go : (b : Bool) → Err t ≡ cond b going_on (Err answer) → (b ≡ false) × (t ≡ answer)
    go true i = absurd (cc)
    go false i = (refl, cc)

pub goes_on : (answer : Status) → going_on ≡ unless_executed answer → executed answer ≡ true
unfolding unless_executed
goes_on answer e = go (executed answer) e
  where
    go : (b : Bool) → going_on ≡ cond b going_on (Err answer) → b ≡ true
    go true i = refl
    go false i = absurd (cc)

-- the decision, from what each function answered
module _ (a : Arrival) where
  abbrev passing : Decision
  passing = or_drop (checked_header a) (λ h. packet_decision a.whole (packet_of h (length a.packet)))

  -- refused before the packet is looked at
  pub refused : (t : Status) → Err t ≡ unless_executed (refusal_of a) → (d : Decision) → d ≡ no_reply t → d ≡ decision a
  unfolding decision
  refused t is d e =
      let R = is_refused (refusal_of a) t is in
      e ∙ (ap no_reply R.1 ∙ sym (ap (λ b. cond b passing (no_reply (refusal_of a))) R.0))

  module _ (none : going_on ≡ unless_executed (refusal_of a)) where
    decision-passes : decision a ≡ passing
    unfolding decision
    decision-passes = ap (λ b. cond b passing (no_reply (refusal_of a))) (goes_on (refusal_of a) none)

    -- a header that does not pass is left at once
    pub left_at_once : (f : Result Packet Reason) → f ≡ admission (checked_header a) (length a.packet) → (reason : Reason) → f ≡ Err reason
        → (d : Decision) → d ≡ no_reply status.Dropped → d ≡ decision a
    left_at_once f e reason g d i =
        i
        ∙ sym
        (decision-passes
        ∙ drops (checked_header a) (length a.packet) reason (sym e ∙ g) (λ h. packet_decision a.whole (packet_of h (length a.packet))))

    timer-fits : a.whole.pair.setup.timer ≤ timer_limit
    timer-fits = (passed a.whole.pair (length a.memory) (length a.out) (goes_on (refusal_of a) none)).1.setup.0.timer

    -- the packet of a header that passes is no fragment, and the timer code of a pair that is not refused is one
    pub admitted-packet : (f : Result Packet Reason) → f ≡ admission (checked_header a) (length a.packet) → (k : Packet) → f ≡ Ok k
        → (d : Decision) → d ≡ cond (unformed k a.whole.pair.setup.timer) (no_reply status.OutOfRange) (packet_decision a.whole k)
        → d ≡ decision a
    unfolding unformed
    admitted-packet f e k g d i =
        let o : (fragment k || ltb timer_limit a.whole.pair.setup.timer) ≡ false =
        rw (whole-found (checked_header a) (length a.packet) k (sym e ∙ g), le-ltb timer_limit a.whole.pair.setup.timer timer-fits) in
        i
        ∙ (ap (λ b. cond b (no_reply status.OutOfRange) (packet_decision a.whole k)) o
        ∙ sym (decision-passes ∙ passes (checked_header a) (length a.packet) k (sym e ∙ g) (packet_decision a.whole)))

-- an atomic saves the value that it answers
saved-value : (ring : Ring) (c : Change) (psn : Psn) (value : ℕ) (saved : List (List ℕ)) (m : List ℕ)
    → cond (acts_atomic c.act) (saved_rows saved ring psn.0 (value_by c value m)) saved ≡ saved_by ring c psn saved m
unfolding saved_by value_by
saved-value ring c psn value saved m = go (acts_atomic c.act)
  where
    go : (b : Bool) → cond b (saved_rows saved ring psn.0 (cond b (word_at m c.at) value)) saved ≡ cond b (saved_rows saved ring psn.0 (word_at m c.at)) saved
    go true = refl
    go false = refl

-- an output that is too short for any answer gets none
short-decided : (a : Arrival) → ltb (length a.out) 24 ≡ true → decision a ≡ no_reply status.OutputShort
unfolding decision inbound_refusal executed status_number
short-decided a e = rw e

none-sent : (a : Arrival) → sent_by a (no_reply status.OutputShort) ≡ []
unfolding no_reply sent_by ack_bytes
none-sent a = refl

writes : (x out : List ℕ) (b : Bool) → (b ≡ true → x ≡ []) → (cond b 0 (length x) ≡ length x) × (cond b out (over x out) ≡ over x out)
unfolding over
writes x out true h = rw (h refl) (refl, refl)
writes x out false h = (refl, refl)

-- what the decision does to everything that was lent, from what each function answered
module _ (a : Arrival) (d : Decision) (i : d ≡ decision a) (value : ℕ) (v : value ≡ value_by d.change d.reply.value a.memory) where
  abbrev q : Pair
  q = a.whole.pair

  kept : (saved' : List (List ℕ)) → saved' ≡ cond (acts_atomic d.change.act) (saved_rows a.whole.saved q.saved d.reply.psn.0 value) a.whole.saved
      → saved' ≡ saved_by q.saved d.change d.reply.psn a.whole.saved a.memory
  kept saved' b =
      b
      ∙ (ap (λ x. cond (acts_atomic d.change.act) (saved_rows a.whole.saved q.saved d.reply.psn.0 x) a.whole.saved) v
      ∙ saved-value q.saved d.change d.reply.psn d.reply.value a.whole.saved a.memory)

  -- nothing is sent where there is no room
  room : ltb (length a.out) 24 ≡ true → sent_by a d ≡ []
  room e = ap (sent_by a) (i ∙ short-decided a e) ∙ none-sent a

  module _ (next : Pair) (j : next ≡ pair_by q d) (r : Reply) (at : r ≡ reply_with d.reply next.msn value) where
    packet : ack_bytes q.setup r ≡ sent_by a d
    unfolding sent_by
    packet = ap (ack_bytes q.setup) at ∙ (λ k. ack_bytes q.setup (reply_with d.reply (j k).msn (v k)))

    sent : (n : ℕ) → n ≡ cond (ltb (length a.out) 24) 0 (length (ack_bytes q.setup r)) → n ≡ length (sent_by a d)
    sent n e =
        e
        ∙ (ap (λ x. cond (ltb (length a.out) 24) 0 (length x)) packet
        ∙ (writes (sent_by a d) a.out (ltb (length a.out) 24) room).0)

    output : (out' : List ℕ) → out' ≡ cond (ltb (length a.out) 24) a.out (over (ack_bytes q.setup r) a.out) → out' ≡ over (sent_by a d) a.out
    output out' e =
        e
        ∙ (ap (λ x. cond (ltb (length a.out) 24) a.out (over x a.out)) packet
        ∙ (writes (sent_by a d) a.out (ltb (length a.out) 24) room).1)

    pub whole : (m' : List ℕ) → m' ≡ memory_by d.change a.memory a.packet
        → (saved' : List (List ℕ)) → saved' ≡ cond (acts_atomic d.change.act) (saved_rows a.whole.saved q.saved d.reply.psn.0 value) a.whole.saved
        → (n : ℕ) → n ≡ cond (ltb (length a.out) 24) 0 (length (ack_bytes q.setup r))
        → (out' : List ℕ) → out' ≡ cond (ltb (length a.out) 24) a.out (over (ack_bytes q.setup r) a.out)
        → (o : Outcome) → o ≡ outcome_with next d n → Leaves a o saved' m' out'
    unfolding inbound left_by
    whole m' m saved' b n c out' w o t =
        (λ k. leaving a ((t ∙ (λ z. outcome_with (j z) d (sent n c z))) k) (kept saved' b k) (m k) (output out' w k))
        ∙ ap (left_by a) i
