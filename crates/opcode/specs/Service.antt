-- Services: the opcode's bits 7 to 5.
use Rattle.std.specs.Prelude.{ℕ}

abbrev pub rc : ℕ
rc = 0

abbrev pub uc : ℕ
uc = 1
