-- The headers of each opcode: those of RC and UC one by one, all others at once.
use Prim.Native.Nat.{ℕ, ◌≤◌}
use mathlib.Core.Path.{◌≡◌, refl, sym, ap, ◌∙◌}
use mathlib.Core.Bool.{Bool, true, false, cond, ◌&&◌, ◌||◌}
use mathlib.Core.List.{[], ◌∷◌}
use mathlib.Core.Logic.{inl, inr}
use native.Mathlib.Omega.{arith}
use lib.Dec.{leb, eqb}
use lib.ListN.{get_or, get_or-eq_default}
use borrow.Author.Tests.{eqb-true, eq-eqb, le-leb, leb-true}
use Rattle.lemmas.proofs.Tables.{passes, everywhere}
use Rattle.opcode.proofs.Classes.{class-other}
use Rattle.opcode.specs.Opcode.{class_of, reserved_class, low_class, kind_of, follows_of, send_write_follows, length_of, uc_has}
use Rattle.header.specs.Write.{follows_by}
use Rattle.header.specs.Layout.{After, whole_length, after_in, opcodes_after, after_opcode, Reserved, HeadersByOpcode, ReservedAlone}
use Rattle.header.specs.Layout.After.{none, reth, reth_immediate, immediate, atomic_eth, aeth, aeth_atomic_ack}
use Rattle.header.specs.declared.Extension.{Extension}
use Rattle.header.specs.declared.Extension.TheVariants.{Bare, Remote, RemoteImmediate, Immediate, Atomic, Acknowledge, AtomicAcknowledge}

after-other : (k : ℕ) → 64 ≤ k → after_opcode k ≡ none
after-other k h = get_or-eq_default opcodes_after none h

-- the headers by the number of their class
abbrev code : After → ℕ
code none = 0
code reth = 1
code reth_immediate = 2
code immediate = 3
code atomic_eth = 4
code aeth = 5
code aeth_atomic_ack = 6

abbrev coded : ℕ → After
coded n = get_or (none ∷ reth ∷ reth_immediate ∷ immediate ∷ atomic_eth ∷ aeth ∷ aeth_atomic_ack ∷ []) n none

coded-back : (a : After) → coded (code a) ≡ a
coded-back none = refl
coded-back reth = refl
coded-back reth_immediate = refl
coded-back immediate = refl
coded-back atomic_eth = refl
coded-back aeth = refl
coded-back aeth_atomic_ack = refl

code_in : (e : Extension) → follows_by e ≡ code (after_in e)
unfolding follows_by
code_in Bare = refl
code_in (Remote r) = refl
code_in (RemoteImmediate r i) = refl
code_in (Immediate i) = refl
code_in (Atomic a) = refl
code_in (Acknowledge a) = refl
code_in (AtomicAcknowledge a v) = refl

class-after : (k : ℕ) → (class_of k).follows ≡ code (after_opcode k)
unfolding passes class_of low_class reserved_class uc_has follows_of send_write_follows
class-after =
    everywhere (λ k. (class_of k).follows) (λ k. code (after_opcode k)) 64 refl
    (λ k h. ap (λ c. c.follows) (class-other k h) ∙ sym (ap code (after-other k h)))

class-bytes : (k : ℕ) → (class_of k).length ≡ whole_length (after_opcode k)
unfolding passes class_of low_class reserved_class uc_has follows_of send_write_follows length_of
class-bytes =
    everywhere (λ k. (class_of k).length) (λ k. whole_length (after_opcode k)) 64 refl
    (λ k h. ap (λ c. c.length) (class-other k h) ∙ sym (ap whole_length (after-other k h)))

pub headers-by-opcode : HeadersByOpcode
headers-by-opcode k =
    record {
      headers = λ e h. sym (coded-back (after_opcode k)) ∙ (ap coded (sym (class-after k) ∙ (h ∙ code_in e)) ∙ coded-back (after_in e));
      only = λ e h. class-after k ∙ (ap code h ∙ sym (code_in e));
      bytes = class-bytes k;
    }

-- the reserved ones, by a test
abbrev test : ℕ → Bool
test k = (leb 21 k && leb k 31) || leb 44 k

tested : (k : ℕ) → Reserved k → test k ≡ true
tested k (inl h) = rw (le-leb 21 k h.0, le-leb k 31 h.1)
tested k (inr h) = rw (le-leb 44 k h) (go (leb 21 k && leb k 31))
  where
    go : (b : Bool) → (b || true) ≡ true
    go true = refl
    go false = refl

of_test : (k : ℕ) → test k ≡ true → Reserved k
of_test k h = go (leb 21 k) (leb k 31) refl refl h
  where
    go : (a b : Bool) → leb 21 k ≡ a → leb k 31 ≡ b → ((a && b) || leb 44 k) ≡ true → Reserved k
    go true true e f h = inl (leb-true 21 k e, leb-true k 31 f)
    go true false e f h = inr (leb-true 44 k h)
    go false b e f h = inr (leb-true 44 k h)

abbrev mark : Bool → ℕ
mark b = cond b 1 0

marked : (b : Bool) → mark b ≡ 1 → b ≡ true
marked true h = refl
marked false h = absurd (omega arith)

kind-tested : (k : ℕ) → mark (eqb (class_of k).kind 21) ≡ mark (test k)
unfolding passes class_of low_class reserved_class uc_has kind_of
kind-tested =
    everywhere (λ k. mark (eqb (class_of k).kind 21)) (λ k. mark (test k)) 64 refl
    (λ k h. ap (λ c. mark (eqb c.kind 21)) (class-other k h) ∙ sym (ap mark (tested k (inr (omega arith)))))

none-tested : (k : ℕ) → cond (test k) (code (after_opcode k)) 0 ≡ 0
unfolding passes
none-tested =
    everywhere (λ k. cond (test k) (code (after_opcode k)) 0) (λ k. 0) 64 refl
    (λ k h. ap (λ a. cond (test k) (code a) 0) (after-other k h) ∙ go (test k))
  where
    go : (b : Bool) → ◌≡◌ {A = ℕ} (cond b 0 0) 0
    go true = refl
    go false = refl

none_after : (k : ℕ) → Reserved k → after_opcode k ≡ none
none_after k r =
    let z : code (after_opcode k) ≡ 0 = sym (ap (λ b. cond b (code (after_opcode k)) 0) (tested k r)) ∙ none-tested k in
    sym (coded-back (after_opcode k)) ∙ ap coded z

pub reserved-alone : ReservedAlone
reserved-alone k =
    record {
      kind = λ r. eqb-true (class_of k).kind 21 (marked (eqb (class_of k).kind 21) (kind-tested k ∙ ap mark (tested k r)));
      only = λ e. of_test k (marked (test k) (sym (kind-tested k) ∙ ap mark (eq-eqb (class_of k).kind 21 e)));
      alone =
          λ r. let a = none_after k r in
          ((headers-by-opcode k).only Bare a, class-bytes k ∙ ap whole_length a);
    }
