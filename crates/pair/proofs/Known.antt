-- What is known of an answer: its number, and what it left.
use Prim.Native.Nat.{ℕ}
use mathlib.Core.Path.{◌≡◌, refl, sym, ap, ◌∙◌}
use mathlib.Core.Bool.{Bool, true, false, cond}
use Rattle.table.specs.declared.Ring.{Ring}
use Rattle.pair.specs.declared.Pair.{Pair}
use Rattle.pair.specs.Pair.{moved}
use Rattle.pair.specs.declared.Status.{Status}
use Rattle.pair.specs.declared.Status.TheVariants as status
use Rattle.pair.specs.Answer.{status_number, executed}
use Rattle.pair.specs.Sound.{pair_unsound}
use Rattle.pair.specs.Claims.{Unmoved, status_of, NumberBack, OneNumber, Sound}
use Rattle.pair.proofs.Tests.{tested}

pub number-back : NumberBack
unfolding status_of status_number
number-back status.Executed = refl
number-back status.Acknowledged = refl
number-back status.ReadAccepted = refl
number-back status.AtomicExecuted = refl
number-back status.DuplicateAnswered = refl
number-back status.Dropped = refl
number-back status.Abandoned = refl
number-back status.SequenceNak = refl
number-back status.InvalidRequestNak = refl
number-back status.AccessNak = refl
number-back status.NotReadyNak = refl
number-back status.ReadUnfinished = refl
number-back status.TableFull = refl
number-back status.OutOfRange = refl
number-back status.OutputShort = refl
number-back status.WrongState = refl
number-back status.NoSuchKey = refl
number-back status.KeyInUse = refl
number-back status.BadNumber = refl

pub one_number : OneNumber
one_number a b h = sym (number-back a) ∙ (ap status_of h ∙ number-back b)

-- a test that cannot fail holds
pub holds-true : (b : Bool) → (b ≡ false → ⊥) → b ≡ true
holds-true true h = refl
holds-true false h = absurd (h refl)

pub either : (b : Bool) → cond b status.OutOfRange status.OutOfRange ≡ status.OutOfRange
either true = refl
either false = refl

-- by the answer, what was, or what is new
module _ {ℓ} {A : Type ℓ} (t s : Status) (new old : A) (h : t ≡ s) where
  pub kept : executed s ≡ false → cond (executed t) new old ≡ old
  kept e = ap (λ x. cond (executed x) new old) h ∙ ap (λ x. cond x new old) e

  pub done : executed s ≡ true → cond (executed t) new old ≡ new
  done e = ap (λ x. cond (executed x) new old) h ∙ ap (λ x. cond x new old) e

pub unsound : (q : Pair) → (Sound q → ⊥) → pair_unsound q ≡ true
unsound q h = holds-true (pair_unsound q) (λ e. h ((tested q).0 e))

pub sound : (q : Pair) → Sound q → pair_unsound q ≡ false
sound q S = (tested q).1 S

-- what a moved pair keeps
pub unmoved : (q : Pair) (state : ℕ) (r : Ring) → r.head ≡ q.entries.head → Unmoved q (moved q state r)
unmoved q state r h =
    record { setup = refl; expected = refl; msn = refl; nakmark = refl; message = refl; head = h; read = refl; saved = refl }
