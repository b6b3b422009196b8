-- What the counts and the next PSN answer.
use Prim.Native.Nat.{ℕ, ◌≤◌, ◌<◌}
use mathlib.Core.Path.{◌≡◌, refl, ◌∙◌}
use mathlib.Core.Bool.{Bool, true, false, cond, not}
use lib.Dec.{leb, ltb}
use borrow.Author.Tests.{lt-ltb, le-ltb, lt-leb, leb-false, ltb-true, ltb-false}
use Rattle.std.specs.Prelude.{Result, Ok, Err, ⊤}
use Rattle.std.specs.Result.{result_and}
use Rattle.sequence.specs.Sequence.{space}
use Rattle.header.specs.Write.{answer_number}
use Rattle.header.specs.declared.Refusal.{Refusal}
use Rattle.header.specs.declared.Refusal.TheVariants.{OutOfRange, BadNumber}
use Rattle.pmtu.specs.Pieces.{pmtu_fits}
use Rattle.pmtu.specs.Claims.{IsPmtu}
use Rattle.pmtu.proofs.Counting.{pmtus}
use Rattle.cut_spec.specs.Message.{message_length, message_limit, check_length, length_refusal, packets_answer, responses_answer}
use Rattle.cut_spec.specs.Next.{check_next, next_refusal, next_answer}
use Rattle.cut_spec.specs.Claims.{InLimit, CountAnswers, CountNumbers}
use Rattle.cut_spec.specs.Numbers.{Follows, NextNumbers}
use Rattle.cut_spec.specs.declared.Request.{Request}
use Rattle.cut_spec.proofs.Shapes.{in-limit, limit-in}

length-passes : (n pmtu : ℕ) → IsPmtu pmtu → n ≤ message_limit → check_length n pmtu ≡ Ok tt
unfolding check_length
length-passes n pmtu p h = rw ((pmtus pmtu).1 p, le-ltb message_limit n h)

length-unfit : (n pmtu : ℕ) → (IsPmtu pmtu → ⊥) → check_length n pmtu ≡ Err BadNumber
unfolding check_length
length-unfit n pmtu h = go (pmtu_fits pmtu) refl
  where
    go : (b : Bool) → pmtu_fits pmtu ≡ b → ◌≡◌ {A = Result ⊤ Refusal} (cond (not b) (Err BadNumber) (cond (ltb message_limit n) (Err OutOfRange) (Ok tt))) (Err BadNumber)
    go true e = absurd (h ((pmtus pmtu).0 e))
    go false e = refl

length_over : (n pmtu : ℕ) → IsPmtu pmtu → message_limit < n → check_length n pmtu ≡ Err OutOfRange
unfolding check_length
length_over n pmtu p h = rw ((pmtus pmtu).1 p, lt-ltb message_limit n h)

over : (r : Request) (n : ℕ) → (InLimit r n → ⊥) → message_limit < message_length r n
over r n h = go (ltb message_limit (message_length r n)) refl
  where
    go : (b : Bool) → ltb message_limit (message_length r n) ≡ b → message_limit < message_length r n
    go true e = ltb-true message_limit (message_length r n) e
    go false e = absurd (h (limit-in r n (ltb-false message_limit (message_length r n) e)))

pub count-answers : CountAnswers
unfolding packets_answer responses_answer
count-answers r n pmtu =
    let m = message_length r n in
    record {
      unfit = λ h. (rw (length-unfit m pmtu h), rw (length-unfit n pmtu h));
      over = λ p h. rw (length_over m pmtu p (over r n h));
      packets = λ p h. rw (length-passes m pmtu p (in-limit r n h));
      long = λ p h. rw (length_over n pmtu p h);
      responses = λ p h. rw (length-passes n pmtu p h);
    }

-- the next PSN
next-unfit : (n pmtu psn : ℕ) → (IsPmtu pmtu × (psn < space) → ⊥) → check_next n pmtu psn ≡ Err BadNumber
unfolding check_next
next-unfit n pmtu psn h = go (leb space psn) refl
  where
    go : (b : Bool) → leb space psn ≡ b → cond b (Err BadNumber) (check_length n pmtu) ≡ Err BadNumber
    go true e = refl
    go false e = length-unfit n pmtu (λ p. h (p, leb-false space psn e))

next-by : (n pmtu psn : ℕ) → psn < space → check_next n pmtu psn ≡ check_length n pmtu
unfolding check_next
next-by n pmtu psn f = rw (lt-leb space psn f)

pub follows : Follows
unfolding next_answer
follows r n pmtu first =
    let m = message_length r n in
    record {
      unfit = λ h. rw (next-unfit m pmtu first.0 h);
      over = λ p f h. rw (next-by m pmtu first.0 f, length_over m pmtu p (over r n h));
      next = λ p f h. rw (next-by m pmtu first.0 f, length-passes m pmtu p (in-limit r n h));
    }

-- the numbers
same_number : {A B : Type 0} (check : Result A Refusal) (x : B) → answer_number (result_and check (Ok x)) ≡ answer_number check
unfolding answer_number
same_number (Ok y) x = refl
same_number (Err r) x = refl

length-number : (n pmtu : ℕ) → answer_number (check_length n pmtu) ≡ length_refusal n pmtu
unfolding check_length length_refusal answer_number
length-number n pmtu = go (pmtu_fits pmtu) (ltb message_limit n)
  where
    go : (fits long : Bool) → answer_number {A = ⊤} (cond (not fits) (Err BadNumber) (cond long (Err OutOfRange) (Ok tt)))
        ≡ cond (not fits) 39 (cond long 34 0)
    go false long = refl
    go true true = refl
    go true false = refl

next-number : (n pmtu psn : ℕ) → answer_number (check_next n pmtu psn) ≡ next_refusal n pmtu psn
unfolding check_next next_refusal answer_number
next-number n pmtu psn = go (leb space psn)
  where
    go : (over : Bool) → answer_number (cond over (Err BadNumber) (check_length n pmtu)) ≡ cond over 39 (length_refusal n pmtu)
    go true = refl
    go false = length-number n pmtu

pub count-numbers : CountNumbers
unfolding packets_answer responses_answer
count-numbers r n pmtu =
    let whole = check_length (message_length r n) pmtu in
    (same_number whole _ ∙ length-number (message_length r n) pmtu, same_number (check_length n pmtu) _ ∙ length-number n pmtu)

pub next-numbers : NextNumbers
unfolding next_answer
next-numbers r n pmtu first =
    same_number (check_next (message_length r n) pmtu first.0) _ ∙ next-number (message_length r n) pmtu first.0
