-- Which refusal comes when.
use Prim.Native.Nat.{ℕ, ◌+◌, ◌≤◌}
use mathlib.Core.Path.{◌≡◌, refl, sym, ap, ◌∙◌}
use mathlib.Core.Bool.{Bool, true, false, cond, not, true≢false}
use mathlib.Core.List.{List}
use mathlib.Core.Logic.{◌⊎◌, inl, inr}
use native.Mathlib.Omega.{arith}
use lib.Dec.{eqb, ltb}
use lib.ListN.{length}
use borrow.Author.Tests.{lt-ltb, le-ltb, eq-eqb, ne_eqb, ltb-true, ltb-false, eqb-true, eqb-false}
use Rattle.pair.specs.Calls.{Whole}
use Rattle.responder_spec.specs.Arrival.{Arrival}
use Rattle.responder_spec.specs.Decide.{refusal_of}
use Rattle.request_spec.specs.Packet.{packet_in}
use Rattle.pair.specs.Answer.{status_number, executed}
use Rattle.pair.specs.Sound.{pair_unsound}
use Rattle.pair.specs.Claims.{Sound}
use Rattle.pair.specs.declared.Pair.{Pair}
use Rattle.pair.specs.declared.Status.{Status}
use Rattle.pair.specs.declared.Status.TheVariants as status
use Rattle.pair.proofs.Known.{unsound, sound}
use Rattle.pair.proofs.Tests.{tested}
use Rattle.request_spec.specs.declared.Packet.{Packet}
use Rattle.responder_spec.specs.declared.Decision.{Decision}
use Rattle.responder_spec.specs.Decide.{no_reply, acknowledging, store_payload, run_atomic, reads_full, inbound_refusal, decision}
use Rattle.responder_spec.specs.Reply.{over}
use Rattle.responder_spec.specs.Calls.{drained}
use Rattle.responder_spec.specs.Response.{next_status, next_response, next_out}
use Rattle.responder_spec.specs.Inbound.{left_by, inbound}
use Rattle.effect_laws.specs.Effects.{InboundShort, InboundRange, InboundUnfinished, InboundTaken}
use Rattle.effect_laws.specs.Effects.{InboundAnswered, InboundMeant, NextRefused, NextNone, NextShort}
use Rattle.effect_laws.specs.Effects.{NextRange, NextDone, NextAnswers, NextReads}
use Rattle.decision_laws.proofs.Rows.Late.{unread, outside}
use Rattle.decision_laws.proofs.Rows.Row.{quiet, ahead, invalid, access, unready, ack_duplicate, read_duplicate, atomic_duplicate, stored, begin, swap}
use Rattle.decision_laws.proofs.Rows.UcRow.{unheard, abandon, deliver}
use Rattle.decision_laws.proofs.Rows.AnyRow.{reliable, unreliable}
use Rattle.decision_laws.proofs.Rows.{UcRow, AnyRow, Late, Row, taken-row}
use Rattle.decision_laws.proofs.Views.{viewed, viewed-sound}
use Rattle.decision_laws.proofs.Codes.{never-row}
use Rattle.effect_laws.proofs.Effects.{silent}

-- a refusal is the answer
refused : (arrival : Arrival) (a : Status)
    → refusal_of arrival ≡ a → executed a ≡ false
    → (inbound arrival).number ≡ status_number a
unfolding inbound left_by decision no_reply
refused arrival a e n = rw (e, n)

-- both ways to 34
range-either : (memory : ℕ) (q : Pair) → (memory ≡ q.setup.memory → ⊥) ⊎ (Sound q → ⊥) → (s : Status)
    → cond (not (eqb memory q.setup.memory)) status.OutOfRange (cond (pair_unsound q) status.OutOfRange s) ≡ status.OutOfRange
range-either memory q (inl h) s = rw (ne_eqb memory q.setup.memory h)
range-either memory q (inr h) s = rw (unsound q h) (go (eqb memory q.setup.memory))
  where
    go : (b : Bool) → cond (not b) status.OutOfRange status.OutOfRange ≡ status.OutOfRange
    go true = refl
    go false = refl

pub inbound-short : InboundShort
unfolding inbound_refusal executed status_number
inbound-short a h =
    refused a status.OutputShort (rw (lt-ltb (length a.out) 24 h)) refl

pub inbound-range : InboundRange
unfolding inbound_refusal executed status_number
inbound-range a h k =
    refused a status.OutOfRange
    (rw (le-ltb (length a.out) 24 h) (range-either (length a.memory) a.whole.pair k (cond (reads_full a.whole.pair) status.ReadUnfinished status.Executed))) refl

pub inbound-unfinished : InboundUnfinished
unfolding inbound_refusal executed status_number reads_full
inbound-unfinished a h e S r =
    refused a status.ReadUnfinished
    (rw (le-ltb (length a.out) 24 h, eq-eqb (length a.memory) a.whole.pair.setup.memory e, sound a.whole.pair S, ne_eqb a.whole.pair.read.remaining 0 r)) refl

-- the answer of a packet that is looked at: a quiet one, or one up to 19
late : (Q T : Status → Type 0) → ((a : Status) → Q a → T a) → ((a : Status) → status_number a ≤ 19 → T a)
    → (arrived : Whole) (k : Packet) (d : Decision) → Row Q arrived k d → T d.status
unfolding status_number no_reply acknowledging store_payload run_atomic
late Q T f g arrived k d (quiet a x) = f a x
late Q T f g arrived k d ahead = g status.SequenceNak (omega arith)
late Q T f g arrived k d invalid = g status.InvalidRequestNak (omega arith)
late Q T f g arrived k d access = g status.AccessNak (omega arith)
late Q T f g arrived k d unready = g status.NotReadyNak (omega arith)
late Q T f g arrived k d ack_duplicate = g status.DuplicateAnswered (omega arith)
late Q T f g arrived k d (read_duplicate at n a s) = g status.DuplicateAnswered (omega arith)
late Q T f g arrived k d (atomic_duplicate v e) = g status.DuplicateAnswered (omega arith)
late Q T f g arrived k d (stored t entry region w) = go k.ackreq
  where
    go : (b : Bool) → T (cond b status.Acknowledged status.Executed)
    go true = g status.Acknowledged (omega arith)
    go false = g status.Executed (omega arith)
late Q T f g arrived k d (begin at n a s) = g status.ReadAccepted (omega arith)
late Q T f g arrived k d (swap t region w) = g status.AtomicExecuted (omega arith)

uc-late : (Q T : Status → Type 0) → ((a : Status) → Q a → T a) → ((a : Status) → status_number a ≤ 19 → T a)
    → (q : Pair) (k : Packet) (d : Decision) → UcRow Q q k d → T d.status
unfolding status_number no_reply store_payload
uc-late Q T f g q k d (unheard a x) = f a x
uc-late Q T f g q k d (abandon h) = g status.Abandoned (omega arith)
uc-late Q T f g q k d (deliver t entry region w) = g status.Executed (omega arith)

any-late : (Q T : Status → Type 0) → ((a : Status) → Q a → T a) → ((a : Status) → status_number a ≤ 19 → T a)
    → (arrived : Whole) (k : Packet) (d : Decision) → AnyRow Q arrived k d → T d.status
any-late Q T f g arrived k d (reliable e r) = late Q T f g arrived k d r
any-late Q T f g arrived k d (unreliable e r) = uc-late Q T f g arrived.pair k d r

goes : (q : Pair) (m out : List ℕ) → 24 ≤ length out → length m ≡ q.setup.memory → Sound q → q.read.remaining ≡ 0
    → executed (inbound_refusal q (length m) (length out)) ≡ true
unfolding inbound_refusal reads_full executed status_number
goes q m out h e S r =
    rw (le-ltb (length out) 24 h, eq-eqb (length m) q.setup.memory e, sound q S, eq-eqb q.read.remaining 0 r)

late-number : (a : Status) → Late a → (status_number a ≤ 19) ⊎ (status_number a ≡ 34)
unfolding status_number
late-number a unread = inl (omega arith)
late-number a outside = inr refl

pub inbound-taken : InboundTaken
unfolding inbound left_by decision
inbound-taken arrival h e S r =
    any-late Late (λ a. (status_number a ≤ 19) ⊎ (status_number a ≡ 34)) late-number (λ a z. inl z) arrival.whole (packet_in arrival.packet)
    (decision arrival)
    (taken-row Late unread arrival (record { rc = λ region z. outside; uc = λ region z. outside }) (goes arrival.whole.pair arrival.memory arrival.out h e S r))

data Unread : Status → Type 0 where
  away : Unread status.Dropped

unread-number : (a : Status) → Unread a → status_number a ≤ 19
unfolding status_number
unread-number a away = omega arith

pub inbound-answered : InboundAnswered
unfolding inbound left_by decision
inbound-answered arrival h e S r E =
    any-late Unread (λ a. status_number a ≤ 19) unread-number (λ a z. z) arrival.whole (packet_in arrival.packet) (decision arrival)
    (taken-row Unread away arrival (record {
      rc = λ region z. absurd (never-row arrival.whole.pair arrival.whole.entries (packet_in arrival.packet) region S E z);
      uc =
          λ region z. absurd
          (never-row (viewed (packet_in arrival.packet).place arrival.whole.pair) arrival.whole.entries (packet_in arrival.packet) region (viewed-sound (packet_in arrival.packet).place arrival.whole.pair S)
          (record { sized = E.sized; each = E.each }) z);
    })
    (goes arrival.whole.pair arrival.memory arrival.out h e S r))

-- the other way round: what was not refused
pub inbound-meant : InboundMeant
inbound-meant arrival h = go (ltb (length arrival.out) 24) (eqb (length arrival.memory) arrival.whole.pair.setup.memory)
    (pair_unsound arrival.whole.pair) (eqb arrival.whole.pair.read.remaining 0) refl refl refl refl
  where
    N : ℕ
    N = (inbound arrival).number

    no : {A : Type 0} (k : ℕ) → N ≡ k → 32 ≤ k → A
    no k e l = absurd (omega (arith, h))

    go : (a b c d : Bool) → ltb (length arrival.out) 24 ≡ a → eqb (length arrival.memory) arrival.whole.pair.setup.memory ≡ b
        → pair_unsound arrival.whole.pair ≡ c → eqb arrival.whole.pair.read.remaining 0 ≡ d
        → (24 ≤ length arrival.out) × (length arrival.memory ≡ arrival.whole.pair.setup.memory) × Sound arrival.whole.pair × (arrival.whole.pair.read.remaining ≡ 0)
    go true b c d w x y z = no 35 (inbound-short arrival (ltb-true (length arrival.out) 24 w)) (omega arith)
    go false false c d w x y z =
        no 34 (inbound-range arrival (ltb-false (length arrival.out) 24 w) (inl (eqb-false (length arrival.memory) arrival.whole.pair.setup.memory x))) (omega arith)
    go false true true d w x y z =
        no 34 (inbound-range arrival (ltb-false (length arrival.out) 24 w) (inr (λ S. true≢false (sym y ∙ sound arrival.whole.pair S)))) (omega arith)
    go false true false false w x y z =
        no 32
        (inbound-unfinished arrival (ltb-false (length arrival.out) 24 w) (eqb-true (length arrival.memory) arrival.whole.pair.setup.memory x) ((tested arrival.whole.pair).0 y) (eqb-false arrival.whole.pair.read.remaining 0 z))
        (omega arith)
    go false true false true w x y z =
        (ltb-false (length arrival.out) 24 w, eqb-true (length arrival.memory) arrival.whole.pair.setup.memory x, (tested arrival.whole.pair).0 y, eqb-true arrival.whole.pair.read.remaining 0 z)

-- next response
module _ (q : Pair) (m out : List ℕ) where
  next-refused : (a : Status) → next_status q (length m) (length out) ≡ a → executed a ≡ false → NextRefused q m out (status_number a)
  unfolding next_response next_out
  next-refused a e n =
      record { number = ap status_number e; pair = rw (e, n); completion = silent; outgoing = rw (e, n); out = rw (e, n) }

  next-done : next_status q (length m) (length out) ≡ status.Executed → NextDone q m out
  unfolding next_response next_out executed status_number over
  next-done e =
      record {
        number = rw e;
        fixed = rw e (record { setup = refl; expected = refl; msn = refl; message = refl; entries = refl; saved = refl });
        state = rw e;
        nakmark = rw e;
        read = rw e (record { remaining = refl; offset = refl; length = refl; psn = refl; msn = refl });
        completion = silent;
        outgoing = rw e;
        out = rw e;
      }

pub next-none : NextNone
unfolding next_status executed status_number
next-none q m out h = next-refused q m out status.WrongState (rw (eq-eqb q.read.remaining 0 h)) refl

pub next-short : NextShort
unfolding next_status executed status_number
next-short q m out h k =
    next-refused q m out status.OutputShort (rw (ne_eqb q.read.remaining 0 h, lt-ltb (length out) (16 + q.setup.pmtu) k)) refl

pub next-range : NextRange
unfolding next_status executed status_number
next-range q m out h k r =
    next-refused q m out status.OutOfRange
    (rw (ne_eqb q.read.remaining 0 h, le-ltb (length out) (16 + q.setup.pmtu) k) (range-either (length m) q r status.Executed)) refl

pub next-answers : NextAnswers
unfolding next_status
next-answers q m out h k e S =
    next-done q m out
    (rw (ne_eqb q.read.remaining 0 h, le-ltb (length out) (16 + q.setup.pmtu) k, eq-eqb (length m) q.setup.memory e, sound q S))

pub next-reads : NextReads
unfolding drained
next-reads w m out = (refl, refl, refl)
