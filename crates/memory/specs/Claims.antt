-- What is proved of bytes stored in memory and of its words, each statement by a name; the proofs stand in
-- proofs/Overwrite.antt and proofs/Words.antt.
use Rattle.std.specs.Prelude.{◌≡◌, ℕ, ◌+◌, ◌-◌, ◌/◌, ◌%◌, ◌^◌, ◌<◌, ◌≤◌, List, length, take, drop, ◌≢◌, slice_index}
use Rattle.memory.specs.Memory.{store}
use Rattle.memory.specs.Word.{low_bytes, low_number, word_at, store_word, fetch_added, swapped}

-- Memory keeps its length.
abbrev pub LengthKept : Type 0
LengthKept = (m : List ℕ) (at : ℕ) (d : List ℕ) → length (store m at d) ≡ length m

-- Bytes that fit are found where they were stored, and none before or after them changed.
abbrev pub Found : Type 0
Found = (m : List ℕ) (at : ℕ) (d : List ℕ) → at + length d ≤ length m → take (length d) (drop at (store m at d)) ≡ d

abbrev pub BeforeKept : Type 0
BeforeKept = (m : List ℕ) (at : ℕ) (d : List ℕ) → at + length d ≤ length m → take at (store m at d) ≡ take at m

abbrev pub AfterKept : Type 0
AfterKept =
    (m : List ℕ) (at : ℕ) (d : List ℕ) → at + length d ≤ length m
    → drop (at + length d) (store m at d) ≡ drop (at + length d) m

-- Bytes that do not fit change nothing.
abbrev pub NothingOver : Type 0
NothingOver = (m : List ℕ) (at : ℕ) (d : List ℕ) → length m < at + length d → store m at d ≡ m

-- every element a byte
abbrev pub Bytes : List ℕ → Type 0
Bytes d = (i : ℕ) → slice_index d i < 256

-- The n low bytes of a number are n bytes; put together they are its remainder, so below 256 ^ n the number itself.
abbrev pub LowLength : Type 0
LowLength = (n x : ℕ) → length (low_bytes n x) ≡ n

abbrev pub BytesNumber : Type 0
BytesNumber = (n x : ℕ) → low_number (low_bytes n x) ≡ x % 256 ^ n

-- Bytes come back from their number, which is within their width.
abbrev pub NumberBytes : Type 0
NumberBytes = (d : List ℕ) → Bytes d → low_bytes (length d) (low_number d) ≡ d

abbrev pub WordBelow : Type 0
WordBelow = (m : List ℕ) (at : ℕ) → Bytes m → word_at m at < 2 ^ 64

-- A word that lies in memory: byte i from its start weighs 256 ^ i.
abbrev pub LowFirst : Type 0
LowFirst =
    (m : List ℕ) (at x i : ℕ) → at + 8 ≤ length m → i < 8
    → slice_index (store_word m at x) (at + i) ≡ x / 256 ^ i % 256

-- What was stored is read, and storing what was read changes nothing.
abbrev pub WordBack : Type 0
WordBack = (m : List ℕ) (at x : ℕ) → at + 8 ≤ length m → x < 2 ^ 64 → word_at (store_word m at x) at ≡ x

abbrev pub WordKept : Type 0
WordKept = (m : List ℕ) (at : ℕ) → Bytes m → at + 8 ≤ length m → store_word m at (word_at m at) ≡ m

-- A word that does not lie in memory is 0, and nothing is stored.
abbrev pub WordOver : Type 0
WordOver =
    (m : List ℕ) (at x y : ℕ) → length m < at + 8
    → (word_at m at ≡ 0) × (store_word m at x ≡ m) × (fetch_added m at x ≡ m) × (swapped m at x y ≡ m)

-- Of two states of memory, only the word at index at may differ.
pub record OnlyWord (m new : List ℕ) (at : ℕ) : Type 0 where
  pub kept : length new ≡ length m
  pub before : take at new ≡ take at m
  pub after : drop (at + 8) new ≡ drop (at + 8) m

-- Wherever the word lies, nothing else changes.
abbrev pub WordWithin : Type 0
WordWithin = (m : List ℕ) (at x : ℕ) → OnlyWord m (store_word m at x) at

abbrev pub FetchWithin : Type 0
FetchWithin = (m : List ℕ) (at x : ℕ) → OnlyWord m (fetch_added m at x) at

abbrev pub SwapWithin : Type 0
SwapWithin = (m : List ℕ) (at compare swap : ℕ) → OnlyWord m (swapped m at compare swap) at

-- FetchAdd leaves the sum, by its remainder; past 2^64 - 1 it starts again from 0.
abbrev pub Fetched : Type 0
Fetched =
    (m : List ℕ) (at x : ℕ) → at + 8 ≤ length m → word_at (fetch_added m at x) at ≡ (word_at m at + x) % 2 ^ 64

abbrev pub FetchWraps : Type 0
FetchWraps =
    (m : List ℕ) (at : ℕ) → at + 8 ≤ length m → word_at m at ≡ 2 ^ 64 - 1 → word_at (fetch_added m at 2) at ≡ 1

-- CmpSwap leaves swap where the word was compare, and memory as it was where it was not.
abbrev pub SwapEqual : Type 0
SwapEqual =
    (m : List ℕ) (at compare swap : ℕ) → at + 8 ≤ length m → swap < 2 ^ 64 → word_at m at ≡ compare
    → word_at (swapped m at compare swap) at ≡ swap

abbrev pub SwapUnequal : Type 0
SwapUnequal =
    (m : List ℕ) (at compare swap : ℕ) → (word_at m at ≢ compare) → swapped m at compare swap ≡ m

-- Of two states of memory, only the n bytes from offset on may differ.
pub record OnlyBytes (old new : List ℕ) (offset n : ℕ) : Type 0 where
  pub kept : length new ≡ length old
  pub before : take offset new ≡ take offset old
  pub after : drop (offset + n) new ≡ drop (offset + n) old
