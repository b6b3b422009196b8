-- What is proved of the numbers, each statement by a name; the proofs stand in proofs/Circle.antt.
use Rattle.std.specs.Prelude.{ℕ, zero, suc, ◌+◌, ◌%◌, ◌^◌, ◌≤◌, ◌<◌, cond, ◌≡◌, eqb, ltb}
use Rattle.sequence.specs.Sequence.{space, distance, after, psn_after, msn_next, psn_class}
use Rattle.sequence.specs.declared.Psn.{Psn}
use Rattle.sequence.specs.declared.Msn.{Msn}
use Rattle.sequence.specs.declared.Class.{Class}
use Rattle.sequence.specs.declared.Class.TheVariants.{Expected, Ahead, Duplicate}

-- the position x of a stream beside the position y: natural numbers, which do not wrap
unfoldable pub order : ℕ → ℕ → Class
order x y = cond (eqb x y) Expected (cond (ltb y x) Ahead Duplicate)

-- Two positions at most 8,388,607 apart, however far along a stream that starts at any number: the class of
-- their packet numbers is the order of the positions.
abbrev pub ClassIsOrder : Type 0
ClassIsOrder =
    (start x y : ℕ) → x ≤ y + 8388607 → y ≤ x + 8388607 → psn_class (after start x) (after start y) ≡ order x y

-- One position more behind, a packet has the number of one ahead: no greater bound would do.
abbrev pub TooFarBehind : Type 0
TooFarBehind = (start : ℕ) → psn_class (after start 0) (after start 8388608) ≡ Ahead

-- Going on by n and then measuring gives n, modulo the number space; measuring and then going on by that much
-- gives the number measured to.
abbrev pub DistanceAfter : Type 0
DistanceAfter = (psn : Psn) (n : ℕ) → distance (psn_after psn n).0 psn.0 ≡ n % space

abbrev pub AfterDistance : Type 0
AfterDistance = (psn expected : Psn) → (psn_after expected (distance psn.0 expected.0)).0 ≡ psn.0 % space

-- Going on twice is going on by the sum; the packet at position x + n of a stream is n after that at x.
abbrev pub AfterAfter : Type 0
AfterAfter = (psn : Psn) (m n : ℕ) → psn_after (psn_after psn m) n ≡ psn_after psn (m + n)

abbrev pub AlongStream : Type 0
AlongStream = (psn : Psn) (x n : ℕ) → psn_after (record { 0 = after psn.0 x }) n ≡ record { 0 = after psn.0 (x + n) }

-- Every result is a 24-bit number, and a 24-bit number is its own remainder.
abbrev pub AfterBelow : Type 0
AfterBelow = (psn : Psn) (n : ℕ) → (psn_after psn n).0 < space

abbrev pub AfterNone : Type 0
AfterNone = (psn : Psn) → psn.0 < space → psn_after psn 0 ≡ psn

-- the MSN after n messages, from 0
unfoldable pub msn_of : ℕ → Msn
msn_of zero = record { 0 = 0 }
msn_of (suc n) = msn_next (msn_of n)

-- It counts them, modulo 2^24.
abbrev pub MsnCounts : Type 0
MsnCounts = (n : ℕ) → (msn_of n).0 ≡ n % 2 ^ 24
