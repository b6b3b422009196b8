-- When reading finds no reason to drop a packet, and what it then answers.
use Prim.Native.Nat.{ℕ, ◌%◌, ◌≤◌}
use mathlib.Core.Path.{◌≡◌, refl, sym, ap, ◌∙◌}
use mathlib.Core.Bool.{Bool, true, false, cond, not, true≢false}
use mathlib.Core.List.{List}
use native.Mathlib.Omega.{arith}
use lib.Dec.{ltb, eqb}
use lib.ListN.{length}
use borrow.Author.Tests.{eq-eqb, le-ltb, eqb-true, ltb-false}
use Rattle.opcode.specs.Opcode.{class_of, service_of}
use Rattle.header.specs.Read.{bth_of, header_of, bad_length, other_service, check_number, read_check, read_checks, read_reason, read_by, read_number, read_header}
use Rattle.header.specs.Claims.{ReadNumbers}
use Rattle.header.specs.Drops.{LengthGood}
use Rattle.header.specs.declared.Header.{Header}
use Rattle.header.specs.declared.Reason.{Reason}
use Rattle.header.specs.declared.Reason.TheVariants as reason
use Rattle.std.specs.Prelude.{Result, Ok, Err}

-- a test of equality that names the failing case
pub of-not : (a b : ℕ) → not (eqb a b) ≡ false → a ≡ b
of-not a b h = go (eqb a b) refl h
  where
    go : (t : Bool) → eqb a b ≡ t → not t ≡ false → a ≡ b
    go true e h = eqb-true a b e
    go false e h = absurd (true≢false h)

-- a good length, both ways: first what each part of its test says, whatever the other parts are
unless : (b c : Bool) → cond b true c ≡ false → (b ≡ false) × (c ≡ false)
unless true c h = absurd (true≢false h)
unless false c h = (refl, h)

low : (a b : ℕ) (c : Bool) → cond (ltb a b) true c ≡ false → b ≤ a
low a b c h = ltb-false a b (unless (ltb a b) c h).0

high : (x : Bool) (a b : ℕ) (c : Bool) → cond x true (cond (ltb a b) true c) ≡ false → b ≤ a
high x a b c h = low a b c (unless x (cond (ltb a b) true c) h).1

whole : (x y : Bool) (a b : ℕ) → cond x true (cond y true (not (eqb a b))) ≡ false → a ≡ b
whole x y a b h = of-not a b (unless y (not (eqb a b)) (unless x (cond y true (not (eqb a b))) h).1).1

pub length-good : (n : ℕ) → bad_length n ≡ false → LengthGood n
unfolding bad_length
length-good n h = record { least = omega (arith, low); most = omega (arith, high); words = omega (arith, whole) }

pub good_length : (n : ℕ) → 12 ≤ n → n ≤ 4128 → n % 4 ≡ 0 → bad_length n ≡ false
unfolding bad_length
good_length n h k l = rw (le-ltb n 12 h, le-ltb 4128 n k, eq-eqb (n % 4) 0 l)

-- a packet of good length that reading accepts
pub record Read (p : List ℕ) : Type 0 where
  pub tver : (bth_of p).tver ≡ 0
  pub known : other_service (service_of (bth_of p).opcode) ≡ false
  pub room : (class_of (bth_of p).opcode).length ≤ length p

pub no-reason : (p : List ℕ) → bad_length (length p) ≡ false → Read p → read_reason p ≡ 0
unfolding read_reason read_checks read_check
no-reason p l R =
    rw (l, eq-eqb (bth_of p).tver 0 R.tver, R.known, le-ltb (length p) (class_of (bth_of p).opcode).length R.room)

-- the number of a check is not 0
pub some-number : (why : Reason) → eqb (check_number why) 0 ≡ false
some-number reason.Length = refl
some-number reason.Version = refl
some-number reason.Number = refl
some-number reason.Key = refl
some-number reason.Service = refl
some-number reason.Response = refl
some-number reason.Unserved = refl
some-number reason.Short = refl
some-number reason.NotReady = refl

fails : (why : Reason) → check_number why ≡ 0 → ⊥
fails why z = true≢false (sym (eq-eqb (check_number why) 0 z) ∙ some-number why)

-- no number, no check that failed
pub none-failed : (found : Result (Unit {0}) Reason) → read_check found ≡ 0 → found ≡ Ok tt
unfolding read_check
none-failed (Ok x) z = refl
none-failed (Err why) z = absurd (fails why z)

-- a check before others: where none failed, it holds, and the others do
pub held : (b : Bool) (why : Reason) (rest : Result (Unit {0}) Reason) → cond b (Err why) rest ≡ Ok tt → (b ≡ false) × (rest ≡ Ok tt)
held true why rest e = let z : ◌≡◌ {A = ℕ} 0 1 = cc in absurd (omega arith)
held false why rest e = (refl, e)

-- what is read, by the number of the check that failed
pub read-outcome : (found : Result (Unit {0}) Reason) (p : List ℕ) (number : ℕ) → read_check found ≡ number
    → (number ≡ 0 → read_by found p ≡ Ok (header_of p))
    × ((number ≡ 0 → ⊥) → (why : Reason) × (check_number why ≡ number) × (read_by found p ≡ Err why))
unfolding read_check read_by
read-outcome (Ok x) p number e = (λ z. refl, λ n. absurd (n (sym e)))
read-outcome (Err why) p number e = (λ z. absurd (fails why (e ∙ z)), λ n. (why, e, refl))

-- what is accepted is the header of the bytes, and there was no reason against it
pub accepted-by : (found : Result (Unit {0}) Reason) (p : List ℕ) (h : Header) → read_by found p ≡ Ok h → (read_check found ≡ 0) × (header_of p ≡ h)
unfolding read_by read_check
accepted-by (Ok x) p h e = (refl, cc)
accepted-by (Err why) p h e = let z : ◌≡◌ {A = ℕ} 0 1 = cc in absurd (omega arith)

pub accepted : (p : List ℕ) (h : Header) → read_header p ≡ Ok h → (read_reason p ≡ 0) × (header_of p ≡ h)
unfolding read_header read_reason
accepted p h e = accepted-by (read_checks p) p h e

pub read-by : (p : List ℕ) (h : Header) → read_reason p ≡ 0 → header_of p ≡ h → read_header p ≡ Ok h
unfolding read_header read_reason
read-by p h o e = (read-outcome (read_checks p) p 0 o).0 refl ∙ ap Ok e

pub read-numbers : ReadNumbers
unfolding read_by read_number read_check
read-numbers (Ok x) p = (refl, refl, refl, λ why. refl)
read-numbers (Err why) p = (sym (ap (λ b. cond b 0 5) (some-number why)), refl, refl, λ why. refl)
