-- The numbers that the rules give to the answers.
use Rattle.std.specs.Prelude.{ℕ}
use Rattle.header.specs.Read.{quiet_drop}
use Rattle.header.specs.Refusal as Refusal

abbrev pub executed : ℕ
executed = 0

abbrev pub acknowledged : ℕ
acknowledged = 1

abbrev pub read_accepted : ℕ
read_accepted = 2

abbrev pub atomic_executed : ℕ
atomic_executed = 3

abbrev pub duplicate_answered : ℕ
duplicate_answered = 4

abbrev pub dropped : ℕ
dropped = quiet_drop

abbrev pub abandoned : ℕ
abandoned = 6

abbrev pub sequence_nak : ℕ
sequence_nak = 16

abbrev pub invalid_request_nak : ℕ
invalid_request_nak = 17

abbrev pub access_nak : ℕ
access_nak = 18

abbrev pub not_ready_nak : ℕ
not_ready_nak = 19

abbrev pub read_unfinished : ℕ
read_unfinished = 32

abbrev pub table_full : ℕ
table_full = 33

abbrev pub out_of_range : ℕ
out_of_range = Refusal.out_of_range

abbrev pub output_short : ℕ
output_short = Refusal.output_short

abbrev pub wrong_state : ℕ
wrong_state = 36

abbrev pub no_such_key : ℕ
no_such_key = 37

abbrev pub key_in_use : ℕ
key_in_use = 38

abbrev pub bad_number : ℕ
bad_number = Refusal.bad_number
