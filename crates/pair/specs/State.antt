-- The states of a pair.
use Rattle.std.specs.Prelude.{ℕ}

abbrev pub init : ℕ
init = 0

abbrev pub ready : ℕ
ready = 1

abbrev pub error : ℕ
error = 2
