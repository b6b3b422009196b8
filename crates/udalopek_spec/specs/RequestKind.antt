-- The kinds of request that a caller names to cut a message.
use Rattle.std.specs.Prelude.{ℕ}

abbrev pub send : ℕ
send = 0

abbrev pub send_immediate : ℕ
send_immediate = 1

abbrev pub write : ℕ
write = 2

abbrev pub write_immediate : ℕ
write_immediate = 3

abbrev pub read : ℕ
read = 4

abbrev pub cmp_swap : ℕ
cmp_swap = 5

abbrev pub fetch_add : ℕ
fetch_add = 6
