-- The headers that follow the BTH.
use Rattle.std.specs.Prelude.{ℕ}

abbrev pub none : ℕ
none = 0

abbrev pub reth : ℕ
reth = 1

abbrev pub reth_immediate : ℕ
reth_immediate = 2

abbrev pub immediate : ℕ
immediate = 3

abbrev pub atomic_eth : ℕ
atomic_eth = 4

abbrev pub aeth : ℕ
aeth = 5

abbrev pub aeth_atomic_ack : ℕ
aeth_atomic_ack = 6
