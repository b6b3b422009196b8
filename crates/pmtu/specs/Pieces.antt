-- Bytes cut at the PMTU.
use Rattle.std.specs.Prelude.{ℕ, zero, suc, ◌+◌, ◌*◌, ◌/◌, ◌%◌, min, Bool, cond, ◌||◌, List, [], ◌++◌, eqb, take, drop}
use Rattle.opcode.specs.Place as Place
use Rattle.pmtu.specs.declared.Range.{Range}

-- the PMTUs
unfoldable pub pmtu_fits : ℕ → Bool
pmtu_fits pmtu = eqb pmtu 256 || (eqb pmtu 512 || (eqb pmtu 1024 || (eqb pmtu 2048 || eqb pmtu 4096)))

-- n bytes are 1 piece if n is 0, else n / PMTU, rounded up
unfoldable pub pieces : ℕ → ℕ → ℕ
pieces n pmtu = cond (eqb n 0) 1 (n / pmtu + cond (eqb (n % pmtu) 0) 0 1)

-- the place of piece i of count, by its number in an opcode
unfoldable pub place_at : ℕ → ℕ → ℕ
place_at count i =
    cond (eqb count 1) Place.only (cond (eqb i 0) Place.first (cond (eqb (i + 1) count) Place.last Place.middle))

-- piece i of the bytes d: PMTU bytes, or as many as there are, from i x PMTU on
unfoldable pub piece_at : List ℕ → ℕ → ℕ → List ℕ
piece_at d pmtu i = take pmtu (drop (i * pmtu) d)

-- the same by numbers: from where to where it goes in n bytes
unfoldable pub part_at : ℕ → ℕ → ℕ → Range
part_at n pmtu i = record { start = min (i * pmtu) n; end = min (i * pmtu + pmtu) n }

-- k pieces from i on, put together
unfoldable pub joined : (ℕ → List ℕ) → ℕ → ℕ → List ℕ
joined piece i zero = []
joined piece i (suc k) = piece i ++ joined piece (suc i) k
