-- The bytes that were written fit the output.
use Rattle.std.proofs.Common.{◌≡◌, ℕ, ◌≤◌, rules, arith, sym, replicate, Ok}
use Rattle.header.specs.declared.Header.{Header}
use Rattle.header.specs.Write.{written}
use Rattle.header.proofs.Accepts.{writes}
use Rattle.lister.proofs.packet.write_back.Goals as goal

written-fits : (h : Header) (n : ℕ) → Ok n ≡ written h 40 → n ≤ 40
written-fits h n e = let only = (writes h (replicate 40 0)).only n (sym e) in omega (arith, only.1, only.2)

pub slice_bounds-written-end : goal.slice_bounds-written-end
slice_bounds-written-end g c = let fits = written-fits _ _ c.in-Ok.ensures.value in search rules

pub slice_bounds-list_written-end : goal.slice_bounds-list_written-end
slice_bounds-list_written-end g c = let fits = written-fits _ _ c.in-Ok.ensures.value in search rules
