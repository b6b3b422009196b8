use Rattle.cut_spec.proofs.Bounds.{immediate-bound}
use native.Mathlib.Omega.{arith}
use Rattle.cut_spec.specs.Cut.{low_for}
use borrow.Author.Rules.{rules}
use Rattle.cut.proofs.shape.low_for.Goals as goal

pub overflow_add-result-in-WriteImmediate : goal.overflow_add-result-in-WriteImmediate
overflow_add-result-in-WriteImmediate c = omega (arith, c.with_immediate-in-WriteImmediate.ensures, immediate-bound c.args.place (search rules))

pub returns-in-Send : goal.returns-in-Send
unfolding low_for
returns-in-Send c = simp c.in-Send.is

pub returns-in-SendImmediate : goal.returns-in-SendImmediate
unfolding low_for
returns-in-SendImmediate c = simp (c.in-SendImmediate.is, ← c.with_immediate.ensures)

pub returns-in-Write : goal.returns-in-Write
unfolding low_for
returns-in-Write c = simp c.in-Write.is

pub returns-in-WriteImmediate : goal.returns-in-WriteImmediate
unfolding low_for
returns-in-WriteImmediate c = simp (c.in-WriteImmediate.is, ← c.with_immediate-in-WriteImmediate.ensures)

pub returns-in-Read : goal.returns-in-Read
unfolding low_for
returns-in-Read c = simp c.in-Read.is

pub returns-in-CmpSwap : goal.returns-in-CmpSwap
unfolding low_for
returns-in-CmpSwap c = simp c.in-CmpSwap.is

pub returns-in-FetchAdd : goal.returns-in-FetchAdd
unfolding low_for
returns-in-FetchAdd c = simp c.in-FetchAdd.is
