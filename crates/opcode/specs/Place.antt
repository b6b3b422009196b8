-- Places in the message: with no immediate, a SEND's or a WRITE's opcode is kind plus place.
use Rattle.std.specs.Prelude.{ℕ, Bool, ◌||◌, leb, eqb}

abbrev pub first : ℕ
first = 0

abbrev pub middle : ℕ
middle = 1

abbrev pub last : ℕ
last = 2

abbrev pub only : ℕ
only = 4

-- First and Middle are followed by more; Last and Only, whose numbers are the higher ones, end the message
unfoldable pub ends : ℕ → Bool
ends place = leb last place

-- First and Only begin it
unfoldable pub starts : ℕ → Bool
starts place = eqb place first || eqb place only
