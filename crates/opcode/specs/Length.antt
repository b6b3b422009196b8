-- Bytes of each header.
use Rattle.std.specs.Prelude.{ℕ}

abbrev pub bth : ℕ
bth = 12

abbrev pub reth : ℕ
reth = 16

abbrev pub immediate : ℕ
immediate = 4

abbrev pub atomic_eth : ℕ
atomic_eth = 28

abbrev pub aeth : ℕ
aeth = 4

abbrev pub atomic_ack_eth : ℕ
atomic_ack_eth = 8
