-- The words that a decision leaves are those of the pair that it leaves.
use Prim.Native.Nat.{ℕ}
use mathlib.Core.Path.{◌≡◌, refl, sym, ap, ◌∙◌}
use mathlib.Core.Bool.{Bool, true, false, cond, not}
use mathlib.Core.List.{List}
use mathlib.Core.Logic.{◌⊎◌, inl, inr}
use lib.Dec.{eqb, ltb}
use lib.ListN.{length}
use Rattle.sequence.specs.Sequence.{psn_after}
use Rattle.sequence.specs.declared.Psn.{Psn}
use Rattle.sequence.specs.declared.Msn.{Msn}
use Rattle.table.specs.declared.Ring.{Ring}
use Rattle.table.specs.View.{saved_ring}
use Rattle.pair.specs.Answer.{status_number, executed}
use Rattle.pair.specs.Sound.{pair_unsound}
use Rattle.pair.specs.declared.OpenMessage.{OpenMessage}
use Rattle.pair.specs.declared.ReadAnswer.{ReadAnswer}
use Rattle.pair.specs.declared.Pair.{Pair}
use Rattle.pair.specs.declared.Status.{Status}
use Rattle.pair.specs.declared.Status.TheVariants as status
use Rattle.responder_spec.specs.Arrival.{Arrival}
use Rattle.responder_spec.specs.Apply.{acts_atomic, saved_ring_by, ring_taken, entries_by, msn_by, read_answer_by, executed_pair, pair_by_number, pair_by}
use Rattle.responder_spec.specs.Decide.{no_reply, inbound_refusal, decision}
use Rattle.responder_spec.specs.Inbound.{inbound, left_by}
use Rattle.responder_spec.specs.declared.Decision.{Decision}
use Rattle.abi_spec.specs.Pair.{other_length, strays, pair_of, pair_words}
use Rattle.abi_spec.proofs.Laws.{stray-tested}
use Rattle.udalopek_spec.specs.Packets.{Lent, arrival_with, inbound_of, words_left}
use Rattle.udalopek_spec.specs.Left.{counters_put, message_put, entries_put, read_put, saved_put, state_put, entries_put_if, read_put_if, saved_put_if, executed_put, put_by_number}
use Rattle.udalopek_spec.proofs.Steps.{own-words, counted}

-- an executed packet: what can change, and three parts that may
module _ (q : Pair) (e : Psn) (n : Msn) (m : OpenMessage) (r s : Ring) (a : ReadAnswer) where
  abbrev new : Bool → Bool → Bool → Pair
  new x y z =
      record {
        setup = q.setup;
        state = q.state;
        expected = e;
        msn = n;
        nakmark = false;
        message = m;
        entries = cond x r q.entries;
        read = cond y q.read a;
        saved = cond z s q.saved;
      }

  abbrev written : Pair → Bool → Bool → Bool → List ℕ
  written p x y z =
      let opened = message_put (counters_put (pair_words q) p.expected p.msn) p.message in
      let taken = cond x (entries_put opened p.entries) opened in
      let begun = cond y taken (read_put taken p.read) in
      cond z (saved_put begun p.saved) begun

  pub written_is : (x y z : Bool) → written (new x y z) x y z ≡ pair_words (new x y z)
  unfolding other_length counters_put message_put entries_put read_put saved_put pair_words
  written_is true true true = refl
  written_is true true false = refl
  written_is true false true = refl
  written_is true false false = refl
  written_is false true true = refl
  written_is false true false = refl
  written_is false false true = refl
  written_is false false false = refl

executed-is : (q : Pair) (d : Decision) → executed_put (pair_words q) (executed_pair q d) d ≡ pair_words (executed_pair q d)
unfolding executed_put entries_put_if read_put_if saved_put_if executed_pair entries_by read_answer_by saved_ring_by
executed-is q d =
    written_is q (psn_after q.expected d.progress.psns) (msn_by d.progress.ends q.msn) d.progress.message (ring_taken q.entries) (saved_ring q.saved)
    (record { remaining = d.reply.remaining; offset = d.reply.offset; length = d.reply.length; psn = d.reply.psn; msn = msn_by d.progress.ends q.msn })
    d.progress.completion.some (eqb d.reply.remaining 0) (acts_atomic d.change.act)

put-read : (q : Pair) (a : ReadAnswer)
    → read_put (pair_words q) a
    ≡ pair_words (record { setup = q.setup; state = q.state; expected = q.expected; msn = q.msn; nakmark = q.nakmark; message = q.message; entries = q.entries; read = a; saved = q.saved })
unfolding other_length read_put pair_words
put-read q a = refl

-- a duplicate
duplicate-is : (q : Pair) (d : Decision) → put_by_number (pair_words q) (pair_by_number q d 4) d 4 ≡ pair_words (pair_by_number q d 4)
unfolding put_by_number read_put_if pair_by_number read_answer_by
duplicate-is q d = go (eqb d.reply.remaining 0)
  where
    a : ReadAnswer
    a = record { remaining = d.reply.remaining; offset = d.reply.offset; length = d.reply.length; psn = d.reply.psn; msn = q.msn }

    left : ReadAnswer → Pair
    left r =
        record {
          setup = q.setup;
          state = q.state;
          expected = q.expected;
          msn = q.msn;
          nakmark = q.nakmark;
          message = q.message;
          entries = q.entries;
          read = r;
          saved = q.saved;
        }

    go : (b : Bool) → cond b (pair_words q) (read_put (pair_words q) (cond b q.read a)) ≡ pair_words (left (cond b q.read a))
    go true = refl
    go false = put-read q a

by-status : (q : Pair) (d : Decision) (s : Status)
    → put_by_number (pair_words q) (pair_by_number q d (status_number s)) d (status_number s) ≡ pair_words (pair_by_number q d (status_number s))
unfolding put_by_number state_put message_put other_length pair_by_number status_number pair_words
by-status q d status.Executed = executed-is q d
by-status q d status.Acknowledged = executed-is q d
by-status q d status.ReadAccepted = executed-is q d
by-status q d status.AtomicExecuted = executed-is q d
by-status q d status.DuplicateAnswered = duplicate-is q d
by-status q d status.Dropped = refl
by-status q d status.Abandoned = refl
by-status q d status.SequenceNak = refl
by-status q d status.InvalidRequestNak = refl
by-status q d status.AccessNak = refl
by-status q d status.NotReadyNak = refl
by-status q d status.ReadUnfinished = refl
by-status q d status.TableFull = refl
by-status q d status.OutOfRange = refl
by-status q d status.OutputShort = refl
by-status q d status.WrongState = refl
by-status q d status.NoSuchKey = refl
by-status q d status.KeyInUse = refl
by-status q d status.BadNumber = refl

-- a pair that is not sound is refused
pub refused-short : (a : Arrival) → ltb (length a.out) 24 ≡ true → decision a ≡ no_reply status.OutputShort
unfolding decision inbound_refusal executed status_number
refused-short a f = rw f

pub refused-unsound : (a : Arrival) → ltb (length a.out) 24 ≡ false → pair_unsound a.whole.pair ≡ true → decision a ≡ no_reply status.OutOfRange
unfolding decision inbound_refusal executed status_number
refused-unsound a f e = go (not (eqb (length a.memory) a.whole.pair.setup.memory)) refl
  where
    go : (c : Bool) → not (eqb (length a.memory) a.whole.pair.setup.memory) ≡ c → decision a ≡ no_reply status.OutOfRange
    go true g = rw (f, g)
    go false g = rw (f, g, e)

unsound-decision : (a : Arrival) → pair_unsound a.whole.pair ≡ true
    → (decision a ≡ no_reply status.OutputShort) ⊎ (decision a ≡ no_reply status.OutOfRange)
unsound-decision a e = go (ltb (length a.out) 24) refl
  where
    go : (b : Bool) → ltb (length a.out) 24 ≡ b → (decision a ≡ no_reply status.OutputShort) ⊎ (decision a ≡ no_reply status.OutOfRange)
    go true f = inl (refused-short a f)
    go false f = inr (refused-unsound a f e)

nothing-short : (w : List ℕ) (next : Pair) → put_by_number w next (no_reply status.OutputShort) (status_number (no_reply status.OutputShort).status) ≡ w
unfolding put_by_number no_reply status_number
nothing-short w next = refl

nothing-range : (w : List ℕ) (next : Pair) → put_by_number w next (no_reply status.OutOfRange) (status_number (no_reply status.OutOfRange).status) ≡ w
unfolding put_by_number no_reply status_number
nothing-range w next = refl

-- words that are refused stay
put-nothing : (w : List ℕ) (next : Pair) (d : Decision) → (d ≡ no_reply status.OutputShort) ⊎ (d ≡ no_reply status.OutOfRange)
    → put_by_number w next d (status_number d.status) ≡ w
put-nothing w next d (inl e) = ap (λ x. put_by_number w next x (status_number x.status)) e ∙ nothing-short w next
put-nothing w next d (inr e) = ap (λ x. put_by_number w next x (status_number x.status)) e ∙ nothing-range w next

put-pair : (q : Pair) (d : Decision) → put_by_number (pair_words q) (pair_by q d) d (status_number d.status) ≡ pair_words (pair_by q d)
unfolding pair_by
put-pair q d = by-status q d d.status

left-pair : (l : Lent) (q : Pair) → pair_words (pair_by q (decision (arrival_with l q))) ≡ pair_words (inbound (arrival_with l q)).whole.pair
unfolding inbound left_by
left-pair l q = refl

pub left-words : (l : Lent) → other_length l.words ≡ false
    → (q : Pair) → q ≡ pair_of l.words → (d : Decision) → d ≡ decision (arrival_with l q)
    → (next : Pair) → next ≡ pair_by q d → (w' : List ℕ) → w' ≡ put_by_number l.words next d (status_number d.status)
    → w' ≡ words_left l
unfolding words_left
left-words l n q o d i next j w' c = c ∙ go (strays l.words) refl
  where
    unsound : strays l.words ≡ true → pair_unsound q ≡ true
    unsound e = ap pair_unsound o ∙ stray-tested l.words (counted l.words n) e

    go : (b : Bool) → strays l.words ≡ b
        → put_by_number l.words next d (status_number d.status) ≡ cond b l.words (pair_words (inbound_of l).whole.pair)
    go true e = put-nothing l.words next d (by-decision (unsound-decision (arrival_with l q) (unsound e)))
      where
        by-decision : (decision (arrival_with l q) ≡ no_reply status.OutputShort) ⊎ (decision (arrival_with l q) ≡ no_reply status.OutOfRange)
            → (d ≡ no_reply status.OutputShort) ⊎ (d ≡ no_reply status.OutOfRange)
        by-decision (inl f) = inl (i ∙ f)
        by-decision (inr f) = inr (i ∙ f)
    go false e =
        ap (λ v. put_by_number v next d (status_number d.status)) (own-words l.words e ∙ ap pair_words (sym o))
        ∙ (ap (λ x. put_by_number (pair_words q) x d (status_number d.status)) j
        ∙ (put-pair q d
        ∙ (ap (λ x. pair_words (pair_by q x)) i ∙ left-pair l q ∙ ap (λ x. pair_words (inbound (arrival_with l x)).whole.pair) o)))
