-- The refusals of calls that write or count, and their numbers.
use Rattle.std.specs.Prelude.{ℕ}
use Rattle.header.specs.declared.Refusal.{Refusal}
use Rattle.header.specs.declared.Refusal.TheVariants.{OutOfRange, OutputShort, BadNumber}

abbrev pub out_of_range : ℕ
out_of_range = 34

abbrev pub output_short : ℕ
output_short = 35

abbrev pub bad_number : ℕ
bad_number = 39

abbrev pub refusal_number : Refusal → ℕ
refusal_number OutOfRange = out_of_range
refusal_number OutputShort = output_short
refusal_number BadNumber = bad_number
