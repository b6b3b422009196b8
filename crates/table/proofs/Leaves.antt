-- What the leaves of the tables rest on: sums tested by differences.
use Rattle.std.proofs.Common.{◌≡◌, ℕ, ◌+◌, ◌-◌, ◌^◌, ◌<◌, ◌≤◌, Bool, true, false, ltb, leb, sym, refl, arith, ltb-false, ltb-true, le-ltb, lt-ltb, le-leb}
use borrow.Author.Tests.{lt-leb}
use Rattle.table.specs.Table.{addresses, outside, past_top}

pub off-outside : (offset length memory : ℕ) → memory < offset → outside offset length memory ≡ true
unfolding outside
off-outside offset length memory h = lt-ltb memory (offset + length) (omega arith)

pub rest-outside : (offset length memory : ℕ) → offset ≤ memory → ltb (memory - offset) length ≡ outside offset length memory
unfolding outside
rest-outside offset length memory h = go (ltb (memory - offset) length) refl
  where
    go : (t : Bool) → ltb (memory - offset) length ≡ t → t ≡ ltb memory (offset + length)
    go true e = sym (lt-ltb memory (offset + length) (omega (arith, ltb-true (memory - offset) length e)))
    go false e = sym (le-ltb memory (offset + length) (omega (arith, ltb-false (memory - offset) length e)))

pub rest-past-top : (address length : ℕ) → address < 2 ^ 64 → ltb (18446744073709551615 - address) length ≡ past_top address length
unfolding past_top
rest-past-top address length h = go (ltb (18446744073709551615 - address) length) refl
  where
    go : (t : Bool) → ltb (18446744073709551615 - address) length ≡ t → t ≡ leb addresses (address + length)
    go true e = sym (le-leb addresses (address + length) (omega (arith, ltb-true (18446744073709551615 - address) length e)))
    go false e = sym (lt-leb addresses (address + length) (omega (arith, ltb-false (18446744073709551615 - address) length e)))
