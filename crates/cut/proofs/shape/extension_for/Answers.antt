use Rattle.cut_spec.specs.Cut.{extension_for}
use Rattle.cut.proofs.shape.extension_for.Goals as goal

pub returns-in-Send : goal.returns-in-Send
unfolding extension_for
returns-in-Send c = simp c.in-Send.is

pub returns-in-SendImmediate : goal.returns-in-SendImmediate
unfolding extension_for
returns-in-SendImmediate c = simp (c.in-SendImmediate.is, ← c.send_extension.ensures)

pub returns-in-Write : goal.returns-in-Write
unfolding extension_for
returns-in-Write c = simp (c.in-Write.is, ← c.write_extension.ensures)

pub returns-in-WriteImmediate : goal.returns-in-WriteImmediate
unfolding extension_for
returns-in-WriteImmediate c = simp (c.in-WriteImmediate.is, ← c.write_immediate_extension.ensures)

pub returns-in-Read : goal.returns-in-Read
unfolding extension_for
returns-in-Read c = simp c.in-Read.is

pub returns-in-CmpSwap : goal.returns-in-CmpSwap
unfolding extension_for
returns-in-CmpSwap c = simp c.in-CmpSwap.is

pub returns-in-FetchAdd : goal.returns-in-FetchAdd
unfolding extension_for
returns-in-FetchAdd c = simp (c.in-FetchAdd.is, ← c.fetch_add-a.ensures)
