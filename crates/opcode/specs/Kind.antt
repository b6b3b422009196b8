-- Kinds: each by the first opcode that has it, in the low five bits.
use Rattle.std.specs.Prelude.{ℕ}

abbrev pub send : ℕ
send = 0

abbrev pub write : ℕ
write = 6

abbrev pub read : ℕ
read = 12

abbrev pub read_response : ℕ
read_response = 13

abbrev pub acknowledge : ℕ
acknowledge = 17

abbrev pub atomic_acknowledge : ℕ
atomic_acknowledge = 18

abbrev pub cmp_swap : ℕ
cmp_swap = 19

abbrev pub fetch_add : ℕ
fetch_add = 20

abbrev pub reserved : ℕ
reserved = 21
