use Rattle.std.proofs.Common.{◌≡◌, true, false, ltb, sym, ap, ◌∙◌, is_some, eq-eqb, ne_eqb}
use borrow.Author.Tests.{le-leb, lt-leb}
use Rattle.table.specs.Table.{region_capacity, key_row, free_row}
use Rattle.table.proofs.Search.{found-is, found-some, found-none}
use Rattle.pair.specs.Host.{add_status, add_regions}
use Rattle.pair.specs.Answer.{executed, status_number}
use Rattle.pair.specs.declared.Status.TheVariants as status
use Rattle.host_calls.proofs.add_region.Goals as goal

pub returns-then-pair-eq-ERROR : goal.returns-then-pair-eq-ERROR
unfolding add_status add_regions executed status_number
returns-then-pair-eq-ERROR c =
    let A = c.args in
    let s : add_status A.pair A.regions.now A.region ≡ status.WrongState = simp (eq-eqb _ _ c.if-pair-eq-ERROR.true) in
    record { value = sym s; regions_after = simp s }

pub returns-then-unsound : goal.returns-then-unsound
unfolding add_status add_regions executed status_number
returns-then-unsound c =
    let A = c.args in
    let s : add_status A.pair A.regions.now A.region ≡ status.OutOfRange = simp (ne_eqb _ _ c.if-pair-eq-ERROR.false, ← c.unsound.ensures, c.if-unsound.true) in
    record { value = sym s; regions_after = simp s }

pub returns-then-off : goal.returns-then-off
unfolding add_status add_regions executed status_number
returns-then-off c =
    let A = c.args in
    let s : add_status A.pair A.regions.now A.region ≡ status.OutOfRange = simp (ne_eqb _ _ c.if-pair-eq-ERROR.false, ← c.unsound.ensures, c.if-unsound.false, ← c.region_outside-off.ensures, c.if-off.true) in
    record { value = sym s; regions_after = simp s }

pub returns-then-is_some : goal.returns-then-is_some
unfolding add_status add_regions executed status_number
returns-then-is_some c =
    let A = c.args in
    let used : ltb (key_row c.from.result A.regions.now) region_capacity ≡ true = sym (found-is _) ∙ ap is_some (sym c.key_row.ensures) ∙ sym c.is_some.ensures ∙ c.if-is_some.true in
    let s : add_status A.pair A.regions.now A.region ≡ status.KeyInUse = simp (ne_eqb _ _ c.if-pair-eq-ERROR.false, ← c.unsound.ensures, c.if-unsound.false, ← c.region_outside-off.ensures, c.if-off.false, ← c.from.ensures, used) in
    record { value = sym s; regions_after = simp s }

pub returns-in_default : goal.returns-in_default
unfolding add_status add_regions executed status_number
returns-in_default c =
    let A = c.args in
    let used : ltb (key_row c.from.result A.regions.now) region_capacity ≡ false = sym (found-is _) ∙ ap is_some (sym c.key_row.ensures) ∙ sym c.is_some.ensures ∙ c.if-is_some.false in
    let none = found-none (free_row A.regions.now) (sym c.in_default.is ∙ c.free_row.ensures) in
    let s : add_status A.pair A.regions.now A.region ≡ status.TableFull = simp (ne_eqb _ _ c.if-pair-eq-ERROR.false, ← c.unsound.ensures, c.if-unsound.false, ← c.region_outside-off.ensures, c.if-off.false, ← c.from.ensures, used, le-leb _ _ none) in
    record { value = sym s; regions_after = simp s }

pub returns : goal.returns
unfolding add_status add_regions executed status_number
returns c =
    let A = c.args in
    let used : ltb (key_row c.from.result A.regions.now) region_capacity ≡ false = sym (found-is _) ∙ ap is_some (sym c.key_row.ensures) ∙ sym c.is_some.ensures ∙ c.if-is_some.false in
    let some = found-some (free_row A.regions.now) c.in-Some.free (sym c.in-Some.is ∙ c.free_row.ensures) in
    let s : add_status A.pair A.regions.now A.region ≡ status.Executed = simp (ne_eqb _ _ c.if-pair-eq-ERROR.false, ← c.unsound.ensures, c.if-unsound.false, ← c.region_outside-off.ensures, c.if-off.false, ← c.from.ensures, used, some.0, lt-leb _ _ some.1) in
    record { value = sym s; regions_after = simp s (simp (some.0, ← c.region_row.ensures)) }
