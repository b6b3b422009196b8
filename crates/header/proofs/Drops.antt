-- The first header check that fails decides.
use Prim.Native.Nat.{ℕ, suc, ◌/◌, ◌≤◌, ◌<◌}
use mathlib.Core.Path.{◌≡◌, refl, sym, ◌∙◌}
use mathlib.Core.Bool.{Bool, true, false, cond, ◌||◌, true≢false}
use mathlib.Core.List.{List}
use mathlib.Core.Logic.{◌⊎◌, inl, inr}
use native.Mathlib.Omega.{arith}
use lib.Dec.{ltb, eqb}
use lib.ListN.{length, get_or}
use borrow.Author.Tests.{lt-ltb, ltb-false}
use Rattle.lemmas.proofs.Auto.{tests}
use Rattle.opcode.specs.Opcode.{class_of}
use Rattle.header.specs.Read.{bth_of, bad_length, check_number, read_check, read_checks, read_reason, read_header}
use Rattle.header.specs.Check.{header_checks, header_reason, admitted}
use Rattle.header.specs.Drops.{FirstOf, FirstFails, DroppedBy, ReadFails, ReadDroppedBy}
use Rattle.header.proofs.Reasons.{Read, read-outcome}
use Rattle.header.specs.declared.Reason.{Reason}
use Rattle.header.specs.declared.Reason.TheVariants as reason
use Rattle.std.specs.Prelude.{Result, Err}
use Rattle.header.proofs.Conditions.{Tells, equal-tested, least-tested, flag-tested, length-tested, keys-tested, service-tested, response-tested, uc-tested, known-tested, room-tested}

-- One check of a cascade: its own number where its condition fails, what the later ones give where it holds; and the
-- condition holds or not.
record Link (Good : Type 0) (k rest reason : ℕ) : Type 0 where
  fails : (Good → ⊥) → reason ≡ k
  holds : Good → reason ≡ rest
  either : Good ⊎ (Good → ⊥)

-- a test that says its condition makes one
link : {b : Bool} {Good : Type 0} (why : Reason) (rest : Result (Unit {0}) Reason) → Tells b Good
    → Link Good (check_number why) (read_check rest) (read_check (cond b (Err why) rest))
unfolding read_check
link {b} {Good} why rest s = go b s.0 s.1
  where
    go : (b : Bool) → (b ≡ false → Good) → (Good → b ≡ false) → Link Good (check_number why) (read_check rest) (read_check (cond b (Err why) rest))
    go true f g = record { fails = λ n. refl; holds = λ x. absurd (true≢false (g x)); either = inr (λ x. true≢false (g x)) }
    go false f g = record { fails = λ n. absurd (n (f refl)); holds = λ x. refl; either = inl (f refl) }

-- what the checks from k on give: 0, or a number from k to 9
abbrev From : ℕ → ℕ → Type 0
From k reason = (reason ≡ 0) ⊎ ((k ≤ reason) × (reason ≤ 9))

from : {Good : Type 0} {k rest reason : ℕ} → Link Good k rest reason → k ≤ 9 → From (suc k) rest → From k reason
from {Good} {k} {rest} {reason} L m F = go L.either F
  where
    go : Good ⊎ (Good → ⊥) → From (suc k) rest → From k reason
    go (inr n) F = inr (omega (arith, L.fails n), omega (arith, L.fails n))
    go (inl x) (inl z) = inl (L.holds x ∙ z)
    go (inl x) (inr h) = inr (omega (arith, L.holds x, h), omega (arith, L.holds x, h))

-- where the number is the check's own, its condition does not hold: no later check gives that number
stops : {Good : Type 0} {k rest reason : ℕ} → Link Good k rest reason → From (suc k) rest → 0 < k → reason ≡ k → Good → ⊥
stops {Good} {k} {rest} {reason} L F s e x = go F
  where
    go : From (suc k) rest → ⊥
    go (inl z) = omega (arith, L.holds x)
    go (inr h) = omega (arith, L.holds x, h)

-- where it is another, the condition holds, and a later check gives it
goes : {Good : Type 0} {k rest reason v : ℕ} → Link Good k rest reason → (k ≡ v → ⊥) → reason ≡ v → Good × (rest ≡ v)
goes {Good} {k} {rest} {reason} {v} L n q = go L.either
  where
    go : Good ⊎ (Good → ⊥) → Good × (rest ≡ v)
    go (inl x) = (x, sym (L.holds x) ∙ q)
    go (inr f) = absurd (n (sym (L.fails f) ∙ q))

most : (reason : ℕ) → From 1 reason → reason ≤ 9
most reason (inl z) = omega arith
most reason (inr h) = h.1

-- a number that is none of the first k
abbrev Past : ℕ → ℕ → Type 0
Past k v = (eqb v 0 || ltb k v) ≡ true

apart : (k v : ℕ) → Past (suc k) v → suc k ≡ v → ⊥
apart k v n e = go (eqb v 0) refl n
  where
    go : (b : Bool) → eqb v 0 ≡ b → (b || ltb (suc k) v) ≡ true → ⊥
    go true z l = omega (arith, tests)
    go false z l = omega (arith, tests)

fewer : (k v : ℕ) → Past (suc k) v → Past k v
fewer k v n = go (eqb v 0) n
  where
    go : (b : Bool) → (b || ltb (suc k) v) ≡ true → (b || ltb k v) ≡ true
    go true l = refl
    go false l = lt-ltb k v (omega (arith, tests))

module _ {A B C D E F G H I : Type 0} {r₁ r₂ r₃ r₄ r₅ r₆ r₇ r₈ r₉ : ℕ} (a : Link A 1 r₂ r₁) (b : Link B 2 r₃ r₂) (c : Link C 3 r₄ r₃)
    (d : Link D 4 r₅ r₄) (e : Link E 5 r₆ r₅) (f : Link F 6 r₇ r₆) (g : Link G 7 r₈ r₇) (h : Link H 8 r₉ r₈) (i : Link I 9 0 r₉) where
  -- a number past the first k: the k-th condition holds
  past1 : {v : ℕ} → r₁ ≡ v → Past 1 v → A × (r₂ ≡ v)
  past1 {v} q n = goes a (apart 0 v n) q

  past2 : {v : ℕ} → r₁ ≡ v → Past 2 v → B × (r₃ ≡ v)
  past2 {v} q n = goes b (apart 1 v n) (past1 q (fewer 1 v n)).1

  past3 : {v : ℕ} → r₁ ≡ v → Past 3 v → C × (r₄ ≡ v)
  past3 {v} q n = goes c (apart 2 v n) (past2 q (fewer 2 v n)).1

  past4 : {v : ℕ} → r₁ ≡ v → Past 4 v → D × (r₅ ≡ v)
  past4 {v} q n = goes d (apart 3 v n) (past3 q (fewer 3 v n)).1

  past5 : {v : ℕ} → r₁ ≡ v → Past 5 v → E × (r₆ ≡ v)
  past5 {v} q n = goes e (apart 4 v n) (past4 q (fewer 4 v n)).1

  past6 : {v : ℕ} → r₁ ≡ v → Past 6 v → F × (r₇ ≡ v)
  past6 {v} q n = goes f (apart 5 v n) (past5 q (fewer 5 v n)).1

  past7 : {v : ℕ} → r₁ ≡ v → Past 7 v → G × (r₈ ≡ v)
  past7 {v} q n = goes g (apart 6 v n) (past6 q (fewer 6 v n)).1

  past8 : {v : ℕ} → r₁ ≡ v → Past 8 v → H × (r₉ ≡ v)
  past8 {v} q n = goes h (apart 7 v n) (past7 q (fewer 7 v n)).1

  -- what is left of the cascade gives none of the numbers before
  from9 : From 9 r₉
  from9 = from i (omega arith) (inl refl)

  from8 : From 8 r₈
  from8 = from h (omega arith) from9

  from7 : From 7 r₇
  from7 = from g (omega arith) from8

  from6 : From 6 r₆
  from6 = from f (omega arith) from7

  from5 : From 5 r₅
  from5 = from e (omega arith) from6

  from4 : From 4 r₄
  from4 = from d (omega arith) from5

  from3 : From 3 r₃
  from3 = from c (omega arith) from4

  from2 : From 2 r₂
  from2 = from b (omega arith) from3

  from1 : From 1 r₁
  from1 = from a (omega arith) from2

  first : FirstOf A B C D E F G H I r₁
  first =
      record {
        length = λ n. a.fails n;
        version = λ x n. a.holds x ∙ b.fails n;
        number = λ x y n. a.holds x ∙ (b.holds y ∙ c.fails n);
        key = λ x y z n. a.holds x ∙ (b.holds y ∙ (c.holds z ∙ d.fails n));
        service = λ x y z u n. a.holds x ∙ (b.holds y ∙ (c.holds z ∙ (d.holds u ∙ e.fails n)));
        request = λ x y z u v n. a.holds x ∙ (b.holds y ∙ (c.holds z ∙ (d.holds u ∙ (e.holds v ∙ f.fails n))));
        served = λ x y z u v w n. a.holds x ∙ (b.holds y ∙ (c.holds z ∙ (d.holds u ∙ (e.holds v ∙ (f.holds w ∙ g.fails n)))));
        whole = λ x y z u v w s n. a.holds x ∙ (b.holds y ∙ (c.holds z ∙ (d.holds u ∙ (e.holds v ∙ (f.holds w ∙ (g.holds s ∙ h.fails n))))));
        ready = λ x y z u v w s t n. a.holds x ∙ (b.holds y ∙ (c.holds z ∙ (d.holds u ∙ (e.holds v ∙ (f.holds w ∙ (g.holds s ∙ (h.holds t ∙ i.fails n)))))));
        good = λ x y z u v w s t o. a.holds x ∙ (b.holds y ∙ (c.holds z ∙ (d.holds u ∙ (e.holds v ∙ (f.holds w ∙ (g.holds s ∙ (h.holds t ∙ i.holds o)))))));
        only =
            λ q. (
              (past1 q refl).0,
              (past2 q refl).0,
              (past3 q refl).0,
              (past4 q refl).0,
              (past5 q refl).0,
              (past6 q refl).0,
              (past7 q refl).0,
              (past8 q refl).0,
              (goes i (omega arith) (past8 q refl).1).0,
            );
        only1 = λ q. stops a from2 (omega arith) q;
        only2 = λ q. ((past1 q refl).0, stops b from3 (omega arith) (past1 q refl).1);
        only3 = λ q. ((past1 q refl).0, (past2 q refl).0, stops c from4 (omega arith) (past2 q refl).1);
        only4 = λ q. ((past1 q refl).0, (past2 q refl).0, (past3 q refl).0, stops d from5 (omega arith) (past3 q refl).1);
        only5 = λ q. ((past1 q refl).0, (past2 q refl).0, (past3 q refl).0, (past4 q refl).0, stops e from6 (omega arith) (past4 q refl).1);
        only6 = λ q. ((past1 q refl).0, (past2 q refl).0, (past3 q refl).0, (past4 q refl).0, (past5 q refl).0, stops f from7 (omega arith) (past5 q refl).1);
        only7 = λ q. ((past1 q refl).0, (past2 q refl).0, (past3 q refl).0, (past4 q refl).0, (past5 q refl).0, (past6 q refl).0, stops g from8 (omega arith) (past6 q refl).1);
        only8 = λ q. ((past1 q refl).0, (past2 q refl).0, (past3 q refl).0, (past4 q refl).0, (past5 q refl).0, (past6 q refl).0, (past7 q refl).0, stops h from9 (omega arith) (past7 q refl).1);
        only9 =
            λ q. (
              (past1 q refl).0,
              (past2 q refl).0,
              (past3 q refl).0,
              (past4 q refl).0,
              (past5 q refl).0,
              (past6 q refl).0,
              (past7 q refl).0,
              (past8 q refl).0,
              stops i (inl refl) (omega arith) (past8 q refl).1,
            );
        numbers = most r₁ from1;
      }

pub first-fails : FirstFails
unfolding header_reason header_checks read_check
first-fails service ours pkey ready p =
    first (link reason.Length _ (length-tested _)) (link reason.Version _ (equal-tested _ _)) (link reason.Number _ (equal-tested _ _))
    (link reason.Key _ (keys-tested _ _)) (link reason.Service _ (service-tested _ _)) (link reason.Response _ (response-tested _))
    (link reason.Unserved _ (uc-tested _ _)) (link reason.Short _ (least-tested _ _)) (link reason.NotReady _ (flag-tested _))

pub dropped-by : DroppedBy
unfolding admitted header_reason
dropped-by service ours pkey ready p reason e = read-outcome (header_checks service ours pkey ready p) p reason e

-- a condition that is not asked for
unasked : {k rest : ℕ} → Link (Unit {0}) k rest rest
unasked = record { fails = λ n. absurd (n tt); holds = λ x. refl; either = inl tt }

pub read-fails : ReadFails
unfolding read_reason read_checks read_check bth_of
read-fails p =
    first (link reason.Length _ (length-tested _)) (link reason.Version _ (equal-tested _ _)) unasked unasked
    (link reason.Service _ (known-tested _)) unasked unasked (link reason.Short _ (room-tested _ _)) unasked

pub was_read : (p : List ℕ) → read_reason p ≡ 0 → (bad_length (length p) ≡ false) × Read p
unfolding bth_of
was_read p e =
    let G = (read-fails p).only e in
    let op = get_or p 0 0 in
    ((length-tested (length p)).1 G.0, record { tver = G.1; known = (known-tested (op / 32)).1 G.4; room = ltb-false (length p) (class_of op).length ((room-tested (length p) op).1 G.7) })

pub read-dropped-by : ReadDroppedBy
unfolding read_header read_reason
read-dropped-by p reason e = read-outcome (read_checks p) p reason e
