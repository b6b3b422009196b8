-- Opcodes, in the low five bits, where kind and place alone do not say which headers follow.
use Rattle.std.specs.Prelude.{ℕ}

abbrev pub send_last_immediate : ℕ
send_last_immediate = 3

abbrev pub send_only_immediate : ℕ
send_only_immediate = 5

abbrev pub write_first : ℕ
write_first = 6

abbrev pub write_last_immediate : ℕ
write_last_immediate = 9

abbrev pub write_only : ℕ
write_only = 10

abbrev pub write_only_immediate : ℕ
write_only_immediate = 11

abbrev pub read_response_first : ℕ
read_response_first = 13

abbrev pub read_response_middle : ℕ
read_response_middle = 14

abbrev pub read_response_last : ℕ
read_response_last = 15

abbrev pub read_response_only : ℕ
read_response_only = 16
