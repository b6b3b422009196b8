-- The answers of the checks.
use Prim.Native.Nat.{ℕ}
use mathlib.Core.Path.{◌≡◌}
use mathlib.Core.Bool.{false}
use native.Mathlib.Omega.{arith}
use lib.Dec.{eqb}
use Rattle.std.proofs.lemmas.Bool.Decides.{nat_tests}
use Rattle.request_spec.specs.declared.RequestCheck.{RequestCheck}
use Rattle.request_spec.specs.declared.RequestCheck.TheVariants as c
use Rattle.request_spec.specs.RequestCheck.{check_number}
use Rattle.request_spec.specs.Verdict.{check_answer}
use Rattle.request_spec.specs.Claims.{CheckAnswered}

pub check-answered : CheckAnswered
unfolding check_answer
check-answered check most =
    record {
      executed = (λ q. grind (arith, nat_tests), λ q. grind (arith, nat_tests));
      invalid = (λ q. grind (arith, nat_tests), λ q. grind (arith, nat_tests));
      access = (λ q. grind (arith, nat_tests), λ q. grind (arith, nat_tests));
      unready = (λ q. grind (arith, nat_tests), λ q. grind (arith, nat_tests));
      outside = (λ q. grind (arith, nat_tests), λ q. grind (arith, nat_tests));
    }

-- out of range is the answer for the entry's row alone, whatever number there is
pub row_told : (check : ℕ) → eqb (check_answer check) 34 ≡ eqb check 8
unfolding check_answer
row_told check = grind (arith, nat_tests)

-- and it is what is left beside none and the three NAKs
pub row-left : (check : ℕ) → eqb check 0 ≡ false → eqb (check_answer check) 17 ≡ false → eqb (check_answer check) 18 ≡ false
    → eqb (check_answer check) 19 ≡ false
    → check ≡ 8
unfolding check_answer
row-left check n p q r = grind (arith, nat_tests)

-- a check that failed has a number
pub some_failed : (check : RequestCheck) → check_number check ≡ 0 → ⊥
some_failed c.Sequence e = omega arith
some_failed c.Function e = omega arith
some_failed c.Pad e = omega arith
some_failed c.DmaLength e = omega arith
some_failed c.Entry e = omega arith
some_failed c.EntryOutside e = omega arith
some_failed c.Key e = omega arith
some_failed c.Lengths e = omega arith
