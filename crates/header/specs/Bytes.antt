-- Numbers in bytes, high byte first.
use Rattle.std.specs.Prelude.{ℕ, ◌+◌, ◌*◌, ◌/◌, ◌%◌, ◌<◌, Bool, true, false, List, [], ◌∷◌, ◌++◌, get_or}

-- the number in 2, 3, 4 and 8 bytes of p from i on
abbrev pub be2 : List ℕ → ℕ → ℕ
be2 p i = get_or p i 0 * 256 + get_or p (i + 1) 0

abbrev pub be3 : List ℕ → ℕ → ℕ
be3 p i = get_or p i 0 * 65536 + be2 p (i + 1)

abbrev pub be4 : List ℕ → ℕ → ℕ
be4 p i = get_or p i 0 * 16777216 + be3 p (i + 1)

abbrev pub be8 : List ℕ → ℕ → ℕ
be8 p i = be4 p i * 4294967296 + be4 p (i + 4)

-- a number as 2, 3, 4 and 8 bytes
abbrev pub two : ℕ → List ℕ
two x = x / 256 % 256 ∷ x % 256 ∷ []

abbrev pub three : ℕ → List ℕ
three x = x / 65536 % 256 ∷ two x

abbrev pub four : ℕ → List ℕ
four x = x / 16777216 % 256 ∷ three x

abbrev pub eight : ℕ → List ℕ
eight x = four (x / 4294967296) ++ four x

-- a bit
abbrev pub bit : Bool → ℕ
bit true = 1
bit false = 0

-- every element is a byte
abbrev pub Bytes : List ℕ → Type 0
Bytes p = (i : ℕ) → get_or p i 0 < 256
