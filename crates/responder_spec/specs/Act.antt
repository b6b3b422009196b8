-- What is done to memory: nothing, the packet's payload is stored, or an atomic is run.
use Rattle.std.specs.Prelude.{ℕ}

abbrev pub nothing : ℕ
nothing = 0

abbrev pub store : ℕ
store = 1

abbrev pub fetch_add : ℕ
fetch_add = 2

abbrev pub cmp_swap : ℕ
cmp_swap = 3
