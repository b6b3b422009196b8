-- Eight bytes of memory as one number, low byte first, and the two atomic operations on it.
use Rattle.std.specs.Prelude.{ℕ, zero, suc, ◌+◌, ◌*◌, ◌/◌, ◌%◌, ◌^◌, cond, List, [], ◌∷◌, length, take, drop, ◌==◌, nat_le}
use Rattle.memory.specs.Memory.{store}

-- the n low bytes of x, the lowest first
unfoldable pub low_bytes : ℕ → ℕ → List ℕ
low_bytes zero x = []
low_bytes (suc n) x = x % 256 ∷ low_bytes n (x / 256)

-- the number that bytes are, the lowest first
unfoldable pub low_number : List ℕ → ℕ
low_number [] = 0
low_number (b ∷ d) = b + 256 * low_number d

-- the number in the 8 bytes from at on; 0 where they do not lie in memory
unfoldable pub word_at : List ℕ → ℕ → ℕ
word_at m at = cond (nat_le (at + 8) (length m)) (low_number (take 8 (drop at m))) 0

-- memory with x in those 8 bytes; unchanged where they do not lie in it
unfoldable pub store_word : List ℕ → ℕ → ℕ → List ℕ
store_word m at x = store m at (low_bytes 8 x)

-- memory after FetchAdd of x: the sum starts again from 0 at 2^64
unfoldable pub fetch_added : List ℕ → ℕ → ℕ → List ℕ
fetch_added m at x = store_word m at ((word_at m at + x) % 2 ^ 64)

-- memory after CmpSwap: swap is stored where the number is compare
unfoldable pub swapped : List ℕ → ℕ → ℕ → ℕ → List ℕ
swapped m at compare swap = cond (word_at m at == compare) (store_word m at swap) m
