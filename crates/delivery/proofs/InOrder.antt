-- The plain run is its packets executed in order.
use Prim.Native.Nat.{ℕ, zero, suc, ◌+◌, ◌-◌, ◌%◌, ◌≤◌, ◌<◌}
use mathlib.Core.Path.{◌≡◌, refl, sym, ap, subst, ◌∙◌}
use mathlib.Core.Bool.{Bool, true, false, cond, ◌&&◌}
use mathlib.Core.List.{List, [], ◌∷◌, ◌++◌, append-nil, append_assoc}
use native.Mathlib.Omega.{arith}
use lib.Dec.{ltb, eqb}
use lib.ListN.{length, take, drop}
use borrow.Author.Tests.{eqb-true, eqb-false}
use Rattle.sequence.specs.Sequence.{space, psn_after, msn_next}
use Rattle.sequence.specs.declared.Psn.{Psn}
use Rattle.table.specs.declared.Entry.{Entry}
use Rattle.pair.specs.declared.Setup.{Setup}
use Rattle.delivery_spec.specs.Stream.{Slot, slot, psn_count, stream, number_along}
use Rattle.delivery_spec.specs.Plain.{Plain, Call, AllInside, slot_needs_entry, none, first_of, is_read, is_last, hand_refused, next_refused, post_refused}
use Rattle.delivery_spec.specs.Plain.{completions_for, memory_after, with_responses, with_waiting, execute_with, execute}
use Rattle.delivery_spec.specs.Plain.{execute_next, plain_step, plain, start, accepted_now, accepted, execute_all}
use Rattle.delivery_spec.specs.Plain.Call.{Hand, Next, Post}
use Rattle.delivery_spec.specs.Demand.{waiting_at, ExactlyOnce}
use Rattle.delivery.specs.InOrder.{supplied, InOrder, Counts, ExpectedAlong}
use Rattle.delivery_spec.proofs.Asked.{calls-inside}
use Rattle.delivery_spec.proofs.Numbers.{along-suc, along-zero}
use Rattle.delivery.proofs.Whole.{delivery}

-- entries behind those that wait do not matter to a packet that has what it needs
held-front : (b : Bool) (waiting rest held : List Entry) → b && none waiting ≡ false
    → cond b (take 1 waiting) held ≡ cond b (take 1 (waiting ++ rest)) held
held-front true [] rest held e = cc
held-front true (x ∷ waiting) rest held e = refl
held-front false waiting rest held e = refl

waiting-front : (b : Bool) (waiting rest : List Entry) → b && none waiting ≡ false
    → cond b (drop 1 waiting) waiting ++ rest ≡ cond b (drop 1 (waiting ++ rest)) (waiting ++ rest)
waiting-front true [] rest e = cc
waiting-front true (x ∷ waiting) rest e = refl
waiting-front false waiting rest e = refl

none-front : (b : Bool) (waiting rest : List Entry) → b && none waiting ≡ false → b && none (waiting ++ rest) ≡ false
none-front true [] rest e = cc
none-front true (x ∷ waiting) rest e = refl
none-front false waiting rest e = refl

-- one packet more
one_more_lem : (regions : List (List ℕ)) (p : Plain) (S : List Slot) (n : ℕ) → n < length S
    → execute_all regions p (take (suc n) S) ≡ execute regions (execute_all regions p (take n S)) (slot S n)
unfolding execute_all
one_more_lem regions p [] n h = absurd (omega arith)
one_more_lem regions p (t ∷ S) zero h = refl
one_more_lem regions p (t ∷ S) (suc n) h = one_more_lem regions (execute regions p t) S n (omega arith)

module _ (regions : List (List ℕ)) (S : List Slot) where
  -- with entries still to be posted
  abbrev behind : Plain → List Entry → Plain
  behind p rest = with_waiting p (p.waiting ++ rest)

  -- equal but for the responses
  abbrev Equal : Plain → Plain → Type 0
  Equal p q = with_responses p 0 ≡ with_responses q 0

  next-equal : (t : Slot) (p q : Plain) → Equal p q → Equal (execute regions p t) (execute regions q t)
  unfolding execute_with
  next-equal t p q e = ap (λ x. with_responses (execute regions x t) 0) e

  -- packet k executed, with its entry and those that wait then
  abbrev result : Plain → Slot → List Entry → List Entry → Plain
  result p t held waiting =
      record {
        k = suc p.k;
        memory = memory_after t.message.request regions t.message.connection.pmtu t.message.bytes t.index (first_of held) p.memory;
        completions = p.completions ++ cond (is_last t) (completions_for t.message.request (first_of held) (length t.message.bytes)) [];
        msn = cond (is_last t) (msn_next p.msn) p.msn;
        expected = psn_after p.expected (psn_count t);
        held = cond (is_last t) [] held;
        waiting = waiting;
        r = 0;
      }

  next-behind : (t : Slot) (p : Plain) (rest : List Entry) → slot_needs_entry t && none p.waiting ≡ false
      → Equal (behind (execute regions p t) rest) (execute regions (behind p rest) t)
  unfolding execute_with
  next-behind t p rest e =
      λ i. result p t (held-front (slot_needs_entry t) p.waiting rest p.held e i) (waiting-front (slot_needs_entry t) p.waiting rest e i)

  module _ (from : Plain) where
    -- packet n has the entry that it needs
    abbrev HasEntry : ℕ → Type 0
    HasEntry n = slot_needs_entry (slot S n) && none (execute_all regions from (take n S)).waiting ≡ false

    -- the plain run at p, with entries still to be posted, stands where its k packets in order stand, each of which had
    -- the entry that it needs
    record Follows (p : Plain) (rest : List Entry) : Type 0 where
      inside : p.k ≤ length S
      equal : Equal (behind p rest) (execute_all regions from (take p.k S))
      entry : (n : ℕ) → n < p.k → HasEntry n

    up_to : (k n : ℕ) → HasEntry k → ((i : ℕ) → i < k → HasEntry i) → n < suc k → HasEntry n
    up_to k n h f b = go (eqb n k) refl
      where
        go : (t : Bool) → eqb n k ≡ t → HasEntry n
        go true e = subst HasEntry (sym (eqb-true n k e)) h
        go false e = f n (omega (arith, eqb-false n k e))

    executes : (p : Plain) (rest : List Entry) → p.k < length S → slot_needs_entry (slot S p.k) && none p.waiting ≡ false
        → Follows p rest → Follows (execute regions p (slot S p.k)) rest
    unfolding execute_with
    executes p rest l e F =
        let t = slot S p.k in
        let h : HasEntry p.k = subst (λ x. slot_needs_entry t && none x.waiting ≡ false) F.equal (none-front (slot_needs_entry t) p.waiting rest e) in
        record {
          inside = l;
          equal =
              next-behind t p rest e
              ∙ (next-equal t (behind p rest) (execute_all regions from (take p.k S)) F.equal
              ∙ ap (λ x. with_responses x 0) (sym (one_more_lem regions from S p.k l)));
          entry = λ n b. up_to p.k n h F.entry b;
        }

    -- other responses to send
    answers : (p : Plain) (rest : List Entry) (r : ℕ) → Follows p rest → Follows (with_responses p r) rest
    answers p rest r F = record { inside = F.inside; equal = F.equal; entry = F.entry }

    either : {x y : Plain} {rest : List Entry} (b : Bool) → (b ≡ true → Follows x rest) → (b ≡ false → Follows y rest)
        → Follows (cond b x y) rest
    either true f g = f refl
    either false f g = g refl

    hand : (s : Setup) (p : Plain) (j : ℕ) (out : List ℕ) (rest : List Entry) → j < length S → Follows p rest → Follows (plain_step s regions S p (Hand j out)) rest
    hand s p j out rest h F =
        either (hand_refused s p out) (λ a. F)
        (λ a. either (eqb j p.k)
        (λ d. subst (λ n. n < length S → Follows (execute_next regions p (slot S n)) rest) (sym (eqb-true j p.k d))
        (λ l. either (slot_needs_entry (slot S p.k) && none p.waiting) (λ e. F) (λ e. executes p rest l e F)) h)
        (λ d. either (ltb j p.k && is_read (slot S j).message.request) (λ e. answers p rest (psn_count (slot S j)) F) (λ e. F)))

    post : (s : Setup) (p : Plain) (e : Entry) (rest : List Entry) → Follows p (accepted_now s p (Post e) ++ rest) → Follows (plain_step s regions S p (Post e)) rest
    post s p e rest F = go (post_refused s p e) F
      where
        go : (b : Bool) → Follows p (cond b [] (e ∷ []) ++ rest) → Follows (cond b p (with_waiting p (p.waiting ++ (e ∷ [])))) rest
        go true G = G
        go false G =
            record {
              inside = G.inside;
              equal = ap (λ x. with_responses (with_waiting p x) 0) (append_assoc p.waiting (e ∷ []) rest) ∙ G.equal;
              entry = G.entry;
            }

    all : (s : Setup) (p : Plain) (calls : List Call) → AllInside (length S) calls → Follows p (accepted s regions S p calls)
        → Follows (plain s regions S p calls) []
    unfolding plain accepted
    all s p [] h F = F
    all s p (Hand j out ∷ cs) h F = let q = plain_step s regions S p (Hand j out) in all s q cs h.1 (hand s p j out (accepted s regions S q cs) h.0 F)
    all s p (Next out ∷ cs) h F =
        let q = plain_step s regions S p (Next out) in
        all s q cs h (either (next_refused s p out) (λ a. F) (λ a. answers p (accepted s regions S q cs) (p.r - 1) F))
    all s p (Post e ∷ cs) h F = let q = plain_step s regions S p (Post e) in all s q cs h (post s p e (accepted s regions S q cs) F)

pub in_order : InOrder
unfolding execute_all
in_order s regions S m waiting calls h =
    let F =
    all regions S (supplied s regions S m waiting calls) s (start s m waiting) calls h
    (record { inside = omega arith; equal = refl; entry = λ n b. absurd (omega arith) }) in
    let e = F.equal in
    record {
      inside = F.inside;
      same = record {
        k = ap (λ x. x.k) e;
        memory = ap (λ x. x.memory) e;
        completions = ap (λ x. x.completions) e;
        msn = ap (λ x. x.msn) e;
        expected = ap (λ x. x.expected) e;
        held = ap (λ x. x.held) e;
        waiting = sym (append-nil (plain s regions S (start s m waiting) calls).waiting) ∙ ap (λ x. x.waiting) e;
      };
      entry = F.entry;
    }

pub counts : Counts
unfolding execute_all execute_with
counts regions p [] = omega arith
counts regions p (t ∷ ts) = omega (arith, counts regions (execute regions p t) ts)

pub expected-along : ExpectedAlong
unfolding execute_all execute_with
expected-along s regions S m waiting zero b h = λ i. record { 0 = number i }
  where
    number : s.start.0 ≡ (s.start.0 + number_along S 0) % space
    number = omega (arith, along-zero S)
expected-along s regions S m waiting (suc n) b h =
    ap (λ q. q.expected) (one_more_lem regions (start s m waiting) S n h)
    ∙ go (execute_all regions (start s m waiting) (take n S)).expected (expected-along s regions S m waiting n b (omega arith))
  where
    go : (q : Psn) → q ≡ psn_after s.start (number_along S n) → psn_after q (psn_count (slot S n)) ≡ psn_after s.start (number_along S (suc n))
    go q e =
        let x : q.0 ≡ (s.start.0 + number_along S n) % space = ap (λ z. z.0) e in
        let a : number_along S (suc n) ≡ number_along S n + psn_count (slot S n) = along-suc S n h in
        let y : (q.0 + psn_count (slot S n)) % space ≡ (s.start.0 + number_along S (suc n)) % space = omega arith in
        λ i. record { 0 = y i }

pub exactly-once : ExactlyOnce
exactly-once w ms m calls A =
    let D = delivery w ms m calls A in
    let S = stream w.pair.setup.start ms in
    let B = in_order w.pair.setup w.regions S m (waiting_at w) calls (calls-inside w.pair.setup w.regions ms S _ calls A.each) in (
      B.inside,
      record {
        memory = D.memory ∙ B.same.memory;
        completions = D.completions ∙ B.same.completions;
        msn = D.msn ∙ B.same.msn;
        expected = D.expected ∙ B.same.expected;
      },
    )
