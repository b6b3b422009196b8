-- The request checks, by the rules' order: which one failed.
use Rattle.std.specs.Prelude.{ℕ, Result, Ok, Err}
use Rattle.request_spec.specs.declared.RequestCheck.{RequestCheck}
use Rattle.request_spec.specs.declared.RequestCheck.TheVariants as check

-- none failed
abbrev pub none : ℕ
none = 0

abbrev pub sequence : ℕ
sequence = 1

abbrev pub function : ℕ
function = 2

abbrev pub pad : ℕ
pad = 3

abbrev pub dma_length : ℕ
dma_length = 4

abbrev pub entry : ℕ
entry = 5

abbrev pub key : ℕ
key = 6

abbrev pub lengths : ℕ
lengths = 7

-- not in the rules' list, and made between 5 and 6: the entry's row is out of range, so no call wrote it
abbrev pub entry_outside : ℕ
entry_outside = 8

-- the number of a check, by which the laws speak of it
abbrev pub check_number : RequestCheck → ℕ
check_number check.Sequence = sequence
check_number check.Function = function
check_number check.Pad = pad
check_number check.DmaLength = dma_length
check_number check.Entry = entry
check_number check.EntryOutside = entry_outside
check_number check.Key = key
check_number check.Lengths = lengths

-- and of what the checks find: that of the one that failed, or none
abbrev pub found_number : Result Unit RequestCheck → ℕ
found_number (Ok done) = none
found_number (Err check) = check_number check
