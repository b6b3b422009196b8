-- Each header check says its condition.
use Prim.Native.Nat.{ℕ, suc, ◌-◌, ◌/◌, ◌%◌, ◌≤◌, ◌<◌, min}
use mathlib.Core.Path.{◌≡◌, refl, sym, subst}
use mathlib.Core.Bool.{Bool, true, false, not, ◌&&◌, ◌||◌, true≢false}
use mathlib.Core.Logic.{◌⊎◌, inl, inr}
use native.Mathlib.Omega.{arith}
use lib.Dec.{leb, ltb, eqb}
use borrow.Author.Tests.{eqb-true, eqb-false, eq-eqb, ltb-true, ltb-false, lt-ltb, le-ltb, lt-leb}
use Rattle.lemmas.proofs.Auto.{tests}
use Rattle.lemmas.proofs.Tests.{or_left, or_right, neither}
use Rattle.opcode.specs.Opcode.{uc_has, class_of}
use Rattle.header.specs.Read.{bad_length, other_service}
use Rattle.header.specs.Check.{pkeys_match, wrong_service, is_response, beyond_service}
use Rattle.header.specs.Layout.{whole_length, after_opcode}
use Rattle.header.specs.Drops.{LengthGood, KeysMatch, ServiceOurs, NoResponse, OnService}
use Rattle.header.proofs.Reasons.{of-not, length-good, good_length}
use Rattle.header.proofs.Table.{headers-by-opcode}
use Rattle.header.proofs.Keys.{matches, matches-only}

-- a test that is true where its condition fails, both ways
abbrev pub Tells : Bool → Type 0 → Type 0
Tells failing Good = (failing ≡ false → Good) × (Good → failing ≡ false)

-- two numbers that are to agree, one that is to be at least another, and a flag
pub equal-tested : (a b : ℕ) → Tells (not (eqb a b)) (a ≡ b)
equal-tested a b = (of-not a b, λ e. rw (eq-eqb a b e))

pub least-tested : (a b : ℕ) → Tells (ltb a b) (b ≤ a)
least-tested a b = (ltb-false a b, le-ltb a b)

on : (b : Bool) → not b ≡ false → b ≡ true
on true h = refl
on false h = absurd (true≢false h)

pub flag-tested : (b : Bool) → Tells (not b) (b ≡ true)
flag-tested b = (on b, λ e. rw e)

pub length-tested : (n : ℕ) → Tells (bad_length n) (LengthGood n)
length-tested n = (length-good n, λ G. good_length n G.least G.most G.words)

-- P_Keys
pub keys_of : (theirs ours : ℕ) → pkeys_match theirs ours ≡ true → KeysMatch theirs ours
keys_of theirs ours h = let m = matches-only theirs ours h in record { same = m.0; some = m.1; full = m.2 }

pub keys-tested : (theirs ours : ℕ) → Tells (not (pkeys_match theirs ours)) (KeysMatch theirs ours)
keys-tested theirs ours = (
  λ h. keys_of theirs ours (on (pkeys_match theirs ours) h),
  λ K. rw (matches theirs ours K.same K.some K.full),
)

-- RC and UC are the services up to 1
pub rc-or-uc : (n : ℕ) → n ≤ 1 → (n ≡ 0) ⊎ (n ≡ 1)
rc-or-uc n h = go (eqb n 0) refl
  where
    go : (b : Bool) → eqb n 0 ≡ b → (n ≡ 0) ⊎ (n ≡ 1)
    go true e = inl (omega (arith, tests))
    go false e = let z = eqb-false n 0 e in inr (omega (arith, z))

pub known-low : (n : ℕ) → (n ≡ 0) ⊎ (n ≡ 1) → n ≤ 1
known-low n (inl e) = omega arith
known-low n (inr e) = omega arith

-- what each part of a test says, whatever the other part is
low_of : (a b : ℕ) (x : Bool) → (ltb a b || x) ≡ false → b ≤ a
low_of a b x h = ltb-false a b (or_left (ltb a b) x h)

same_of : (x : Bool) (a b : ℕ) → (x || not (eqb a b)) ≡ false → a ≡ b
same_of x a b h = of-not a b (or_right x (not (eqb a b)) h)

pub service-tested : (opcode service : ℕ) → Tells (wrong_service (opcode / 32) service) (ServiceOurs opcode service)
unfolding wrong_service other_service
service-tested opcode service = (forth, back)
  where
    forth : wrong_service (opcode / 32) service ≡ false → ServiceOurs opcode service
    forth h =
        let s : opcode / 32 ≡ service = omega (arith, same_of) in
        record { same = s; known = rc-or-uc service (omega (arith, low_of, s)) }

    back : ServiceOurs opcode service → wrong_service (opcode / 32) service ≡ false
    back S =
        let k = known-low service S.known in
        neither (le-ltb 1 (opcode / 32) (omega (arith, S.same))) ((equal-tested (opcode / 32) service).1 S.same)

-- a number that is not in a range, by one equation: above its end it leaves nothing of the one difference, below its
-- start nothing of the other
between : (a b c d : ℕ) → (leb a b && leb c d) ≡ false → min (suc b - a) (suc d - c) ≡ 0
between a b c d h = go (leb a b) (leb c d) refl refl h
  where
    go : (x y : Bool) → leb a b ≡ x → leb c d ≡ y → (x && y) ≡ false → min (suc b - a) (suc d - c) ≡ 0
    go true true e f h = absurd (true≢false h)
    go true false e f h = omega (arith, tests)
    go false y e f h = omega (arith, tests)

over : (x : Bool) (c d : ℕ) → d < c → (x && leb c d) ≡ false
over x c d h = rw (lt-leb c d h) (go x)
  where
    go : (x : Bool) → (x && false) ≡ false
    go true = refl
    go false = refl

pub response-tested : (opcode : ℕ) → Tells (is_response (opcode % 32)) (NoResponse opcode)
unfolding is_response
response-tested opcode = (λ h. go (ltb (opcode % 32) 13) refl h, back)
  where
    back : NoResponse opcode → is_response (opcode % 32) ≡ false
    back (inl h) = rw (lt-leb 13 (opcode % 32) h)
    back (inr h) = omega (arith, over)

    go : (b : Bool) → ltb (opcode % 32) 13 ≡ b → is_response (opcode % 32) ≡ false → NoResponse opcode
    go true e h = inl (omega (arith, tests))
    go false e h = let l = ltb-false (opcode % 32) 13 e in inr (omega (arith, between, l))

below : (a b : ℕ) → not (ltb a b) ≡ false → a < b
below a b h = ltb-true a b (on (ltb a b) h)

pub uc-tested : (opcode service : ℕ) → Tells (beyond_service service (opcode % 32)) (OnService opcode service)
unfolding beyond_service uc_has
uc-tested opcode service = (forth, back (eqb service 1) refl)
  where
    forth : beyond_service service (opcode % 32) ≡ false → OnService opcode service
    forth h e = let u : beyond_service 1 (opcode % 32) ≡ false = subst (λ x. beyond_service x (opcode % 32) ≡ false) e h in omega (arith, below)

    back : (b : Bool) → eqb service 1 ≡ b → OnService opcode service → (b && not (ltb (opcode % 32) 12)) ≡ false
    back true e f = rw (lt-ltb (opcode % 32) 12 (f (eqb-true service 1 e)))
    back false e f = refl

-- RC or UC, and room for the headers of the opcode
pub known-tested : (service : ℕ) → Tells (other_service service) (service ≤ 1)
unfolding other_service
known-tested service = (λ h. omega (arith, tests), λ h. omega (arith, le-ltb))

pub room-tested : (n opcode : ℕ) → Tells (ltb n (class_of opcode).length) (whole_length (after_opcode opcode) ≤ n)
room-tested n opcode =
    let e = (headers-by-opcode opcode).bytes in
    (λ h. subst (λ k. k ≤ n) e (ltb-false n (class_of opcode).length h), λ h. le-ltb n (class_of opcode).length (subst (λ k. k ≤ n) (sym e) h))
