use Rattle.std.proofs.Common.{arith}
use Rattle.std.proofs.lemmas.Grind.{common_steps}
use Rattle.header.specs.Read.{read_header, read_by, read_checks, read_reason, read_check, read_number, header_of}
use Rattle.decode.proofs.read.Goals as goal

pub returns-then-bad_length : goal.returns-then-bad_length
unfolding read_header read_by read_checks read_reason read_check read_number header_of
returns-then-bad_length c = grind (arith, common_steps)

pub returns-then-bth-ne0 : goal.returns-then-bth-ne0
unfolding read_header read_by read_checks read_reason read_check read_number header_of
returns-then-bth-ne0 c = grind (arith, common_steps)

pub returns-then-other_service : goal.returns-then-other_service
unfolding read_header read_by read_checks read_reason read_check read_number header_of
returns-then-other_service c = grind (arith, common_steps)

pub returns-then-p-class : goal.returns-then-p-class
unfolding read_header read_by read_checks read_reason read_check read_number header_of
returns-then-p-class c = grind (arith, common_steps)

pub returns : goal.returns
unfolding read_header read_by read_checks read_reason read_check read_number header_of
returns c = grind (arith, common_steps)
