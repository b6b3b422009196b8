use mathlib.Core.Path.{refl}
use borrow.Author.Rules.{rules}
use Rattle.lemmas.proofs.Tables.{passes}
use Rattle.opcode.specs.Opcode.{kind_of, place_in, place_of, send_write_follows, follows_of, length_of, low_class}
use Rattle.opcode.proofs.Rows.{row-class}
use Rattle.opcode.proofs.table_class.Goals as goal

pub overflow_add-result-3 : goal.overflow_add-result-3
overflow_add-result-3 c = search rules

-- refl is the test of the whole table

pub returns : goal.returns
unfolding passes low_class kind_of place_in place_of send_write_follows follows_of length_of
returns c =
    row-class _ _ _ _ c.args.low c.requires _ _ _ _ _ c.row_of-row.ensures.value c.digit-before.ensures c.digit-below.ensures
    c.digit-follows.ensures c.digit-words.ensures refl
