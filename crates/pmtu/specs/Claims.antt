-- What is proved of pieces, each statement by a name; the proofs stand in proofs/.
use Rattle.std.specs.Prelude.{ℕ, suc, ◌+◌, ◌-◌, ◌*◌, ◌%◌, ◌≤◌, ◌<◌, ◌≡◌, true, List, ◌⊎◌, length, take, drop}
use Rattle.pmtu.specs.Pieces.{pmtu_fits, pieces, place_at, piece_at, part_at, joined}

-- The count is at least 1, enough for all bytes, and the least such.
pub record Counted (n pmtu count : ℕ) : Type 0 where
  pub some : 1 ≤ count
  pub enough : n ≤ count * pmtu
  pub least : (k : ℕ) → 1 ≤ k → n ≤ k * pmtu → count ≤ k

abbrev pub Counts : Type 0
Counts = (n pmtu : ℕ) → 0 < pmtu → Counted n pmtu (pieces n pmtu)

-- All pieces in order, put together, are the bytes.
abbrev pub Joins : Type 0
Joins = (d : List ℕ) (pmtu : ℕ) → 0 < pmtu → joined (piece_at d pmtu) 0 (pieces (length d) pmtu) ≡ d

-- Every piece but the last has PMTU bytes; the last has the rest, and of several at least 1; none has more than the
-- PMTU.
abbrev pub Full : Type 0
Full =
    (d : List ℕ) (pmtu i : ℕ) → 0 < pmtu → suc i < pieces (length d) pmtu
    → (length (piece_at d pmtu i) ≡ pmtu) × (i * pmtu + pmtu < length d)

abbrev pub Rest : Type 0
Rest =
    (d : List ℕ) (pmtu i : ℕ) → 0 < pmtu → suc i ≡ pieces (length d) pmtu
    → (i * pmtu + length (piece_at d pmtu i) ≡ length d) × (0 < i → 0 < length (piece_at d pmtu i))

abbrev pub AtMost : Type 0
AtMost = (d : List ℕ) (pmtu i : ℕ) → length (piece_at d pmtu i) ≤ pmtu

-- A piece is the part that the numbers say, within the bytes.
abbrev pub Parts : Type 0
Parts =
    (d : List ℕ) (pmtu i : ℕ)
    → take ((part_at (length d) pmtu i).end - (part_at (length d) pmtu i).start) (drop (part_at (length d) pmtu i).start d)
    ≡ piece_at d pmtu i

abbrev pub PartsWithin : Type 0
PartsWithin = (n pmtu i : ℕ) → ((part_at n pmtu i).start ≤ (part_at n pmtu i).end) × ((part_at n pmtu i).end ≤ n)

-- One piece is Only; of several, 0 is First, the last one Last, and those between are Middles.
pub record Placed (count : ℕ) : Type 0 where
  pub only : count ≡ 1 → place_at count 0 ≡ 4
  pub first : 1 < count → place_at count 0 ≡ 0
  pub middle : (i : ℕ) → 0 < i → suc i < count → place_at count i ≡ 1
  pub last : (i : ℕ) → 0 < i → suc i ≡ count → place_at count i ≡ 2

abbrev pub Places : Type 0
Places = (count : ℕ) → Placed count

-- There are five PMTUs.
abbrev pub IsPmtu : ℕ → Type 0
IsPmtu pmtu = (pmtu ≡ 256) ⊎ ((pmtu ≡ 512) ⊎ ((pmtu ≡ 1024) ⊎ ((pmtu ≡ 2048) ⊎ (pmtu ≡ 4096))))

abbrev pub Pmtus : Type 0
Pmtus = (pmtu : ℕ) → (pmtu_fits pmtu ≡ true → IsPmtu pmtu) × (IsPmtu pmtu → pmtu_fits pmtu ≡ true)

abbrev pub PmtuBounds : Type 0
PmtuBounds = (pmtu : ℕ) → IsPmtu pmtu → (256 ≤ pmtu) × (pmtu ≤ 4096) × (pmtu % 4 ≡ 0)
