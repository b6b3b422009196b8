-- Lists of words.
use Rattle.std.specs.Prelude.{ℕ, ◌%◌, ◌^◌, Bool, true, false, cond, not, List, [], ◌∷◌, eqb, get_or}

-- word i, and its low bits
abbrev pub word : List ℕ → ℕ → ℕ
word w i = get_or w i 0

abbrev pub low : ℕ → List ℕ → ℕ → ℕ
low bits w i = word w i % 2 ^ bits

-- a flag is 1 or 0; any other word counts as 1
unfoldable pub flag : ℕ → Bool
flag x = not (eqb x 0)

-- two lists are the same, their lengths too
unfoldable pub eq_words : List ℕ → List ℕ → Bool
eq_words [] [] = true
eq_words [] (y ∷ ys) = false
eq_words (x ∷ xs) [] = false
eq_words (x ∷ xs) (y ∷ ys) = cond (eqb x y) (eq_words xs ys) false
