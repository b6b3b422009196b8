use Rattle.std.proofs.Common.{arith}
use Rattle.std.proofs.lemmas.Grind.{common_steps}
use Rattle.header.specs.Read.{header_of, read_by, read_check}
use Rattle.header.specs.Check.{header_checks, header_reason, admitted}
use Rattle.request_spec.specs.Packet.{packet_of}
use Rattle.decode.specs.Reason.{bth_reason}
use Rattle.decode.proofs.admit.Goals as goal

pub returns-then-bad_length : goal.returns-then-bad_length
unfolding header_of read_by read_check header_checks header_reason admitted packet_of bth_reason
returns-then-bad_length c = grind (arith, common_steps)

pub returns-in_err-bth_reason : goal.returns-in_err-bth_reason
unfolding header_of read_by read_check header_checks header_reason admitted packet_of bth_reason
returns-in_err-bth_reason c = grind (arith, common_steps)

pub returns : goal.returns
unfolding header_of read_by read_check header_checks header_reason admitted packet_of bth_reason
returns c = grind (arith, common_steps)
