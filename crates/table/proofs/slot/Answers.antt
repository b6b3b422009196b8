use Rattle.std.proofs.Common.{sym}
use native.Mathlib.Nat.{add-mod}
use Rattle.table.proofs.slot.Goals as goal

pub returns-clause-value : goal.returns-clause-value
returns-clause-value g c = sym (add-mod _ _ _)
