-- Laws of eight bytes of memory taken as one number.
use Rattle.std.proofs.Common.{◌≡◌, ℕ, zero, suc, ◌+◌, ◌*◌, ◌/◌, ◌%◌, ◌^◌, ◌<◌, ◌≤◌, Bool, true, false, cond, eqb, leb, List, [], ◌∷◌, ◌++◌, length, get_or, take, drop, sym, refl, ap, ◌∙◌, subst, mod-lt, mod-eq_of_lt, pow-suc, arith, length-drop, take-append-drop, length-take, take_all, get_or-drop, get_or-take, drop-drop, eq-eqb, ne_eqb, le-leb, leb-false, leb-true}
use Rattle.std.specs.Int.{w64, from_le_bytes}
use Rattle.lemmas.proofs.Lists.{elements, take-elements}
use native.Mathlib.Nat.{mod-add-div, add-mul-mod_self_left, div-div-eq-div-mul}
use borrow.Author.Tests.{lt-leb}
use Rattle.memory.specs.Memory.{overwrite, store}
use Rattle.memory.specs.Word.{low_bytes, low_number, word_at, store_word, fetch_added, swapped}
use Rattle.memory.specs.Claims.{Bytes, LowLength, BytesNumber, NumberBytes, WordBelow, LowFirst, WordBack}
use Rattle.memory.specs.Claims.{WordKept, WordOver, OnlyWord, WordWithin, FetchWithin, SwapWithin, Fetched}
use Rattle.memory.specs.Claims.{FetchWraps, SwapEqual, SwapUnequal}
use Rattle.memory.proofs.Overwrite.{store-overwrite, store-past, length-store, store_found, store-before, store-after}

-- a part that lies in memory has its whole length
pub part_length : (m : List ℕ) (at n : ℕ) → at + n ≤ length m → length (take n (drop at m)) ≡ n
part_length m at n h = simp (length-take, length-drop) (omega arith)

-- a number of two parts, the low one first
number_append : (d e : List ℕ) → low_number (d ++ e) ≡ low_number d + 256 ^ length d * low_number e
unfolding low_number
number_append [] e = omega arith
number_append (b ∷ d) e = rw pow-suc (omega (arith, number_append d e))

-- eight bytes are the number that the library reads in them
pub from_bytes : (d : List ℕ) → length d ≡ 8 → from_le_bytes w64 d ≡ low_number d
unfolding low_number elements
from_bytes d l =
    let whole : d ≡ elements d 0 8 = sym (take_all 8 d (omega arith)) ∙ take-elements d 0 8 (omega arith) in
    omega (arith, ap low_number whole)

-- the bytes of a number
pub low-length : LowLength
unfolding low_bytes
low-length zero x = refl
low-length (suc n) x = ap suc (low-length n (x / 256))

power_pos : (n : ℕ) → 0 < 256 ^ n
power_pos zero = omega arith
power_pos (suc n) = rw pow-suc (omega (arith, power_pos n))

-- the remainder by a product, digit by digit
mod-mul : (x p : ℕ) → 0 < p → x % 256 + 256 * (x / 256 % p) ≡ x % (256 * p)
mod-mul x p h =
    let q = x / 256 in
    let r = x % 256 + 256 * (q % p) in
    let small : r < 256 * p = omega (arith, mod-lt q h) in
    let whole : r + 256 * p * (q / p) ≡ x = omega (arith, mod-add-div q p) in
    sym (mod-eq_of_lt small) ∙ (sym (add-mul-mod_self_left r (256 * p) (q / p)) ∙ ap (λ k. k % (256 * p)) whole)

pub bytes-number : BytesNumber
unfolding low_bytes low_number
bytes-number zero x = omega arith
bytes-number (suc n) x =
    let e : 256 * 256 ^ n ≡ 256 ^ suc n = rw pow-suc (omega arith) in
    rw (bytes-number n (x / 256), ← e) (mod-mul x (256 ^ n) (power_pos n))

pub number-bytes : NumberBytes
unfolding low_bytes low_number
number-bytes [] h = refl
number-bytes (b ∷ d) h =
    let low : (b + 256 * low_number d) % 256 ≡ b = omega (arith, h 0) in
    let high : (b + 256 * low_number d) / 256 ≡ low_number d = omega (arith, h 0) in
    rw (low, high) (ap (λ l. b ∷ l) (number-bytes d (λ i. h (suc i))))

-- byte i of a number
pub low-at : (n x i : ℕ) → i < n → get_or (low_bytes n x) i 0 ≡ x / 256 ^ i % 256
unfolding low_bytes
low-at zero x i h = absurd (omega arith)
low-at (suc n) x zero h = omega arith
low-at (suc n) x (suc i) h =
    let e : 256 * 256 ^ i ≡ 256 ^ suc i = rw pow-suc (omega arith) in
    rw (low-at n (x / 256) i (omega arith), div-div-eq-div-mul, e)

-- the word where its bytes lie in memory, and 0 where they do not
pub word_in : (m : List ℕ) (at : ℕ) → at + 8 ≤ length m → word_at m at ≡ low_number (take 8 (drop at m))
unfolding word_at
word_in m at h = rw (le-leb (at + 8) (length m) h)

pub word_out : (m : List ℕ) (at : ℕ) → length m < at + 8 → word_at m at ≡ 0
unfolding word_at
word_out m at h = rw (lt-leb (at + 8) (length m) h)

-- where they do not, nothing is stored
pub word-past : (m : List ℕ) (at x : ℕ) → length m < at + 8 → store_word m at x ≡ m
unfolding store_word low_bytes
word-past m at x h = store-past m at (low_bytes 8 x) h

pub length-word : (m : List ℕ) (at x : ℕ) → length (store_word m at x) ≡ length m
unfolding store_word
length-word m at x = length-store m at (low_bytes 8 x)

-- what was stored is read
word-stored : (m : List ℕ) (at x : ℕ) → at + 8 ≤ length m → word_at (store_word m at x) at ≡ x % 2 ^ 64
unfolding store_word low_bytes
word-stored m at x h =
    let l : at + 8 ≤ length (store_word m at x) = omega (arith, length-word m at x) in
    word_in (store_word m at x) at l ∙ (ap low_number (store_found m at (low_bytes 8 x) h) ∙ bytes-number 8 x)

pub word_back : WordBack
word_back m at x h small = word-stored m at x h ∙ mod-eq_of_lt small

-- byte by byte
pub low_first : LowFirst
unfolding store_word low_bytes
low_first m at x i h below =
    sym (get_or-drop at (store_word m at x) i 0)
    ∙ (sym (get_or-take 8 (drop at (store_word m at x)) i 0 below)
    ∙ (ap (λ l. get_or l i 0) (store_found m at (low_bytes 8 x) h) ∙ low-at 8 x i below))

-- bytes of memory are bytes
bytes_take : (n : ℕ) (l : List ℕ) → Bytes l → Bytes (take n l)
bytes_take zero l h i = omega arith
bytes_take (suc n) [] h i = omega arith
bytes_take (suc n) (b ∷ l) h zero = h 0
bytes_take (suc n) (b ∷ l) h (suc i) = bytes_take n l (λ j. h (suc j)) i

word_bytes : (m : List ℕ) (at : ℕ) → Bytes m → Bytes (take 8 (drop at m))
word_bytes m at h = bytes_take 8 (drop at m) (λ i. rw (get_or-drop at m i 0) (h (at + i)))

-- what was read and stored again changes nothing
bytes_back : (m : List ℕ) (at : ℕ) → Bytes m → at + 8 ≤ length m → low_bytes 8 (word_at m at) ≡ take 8 (drop at m)
bytes_back m at b h =
    rw (word_in m at h)
    (subst (λ n. low_bytes n (low_number (take 8 (drop at m))) ≡ take 8 (drop at m)) (part_length m at 8 h)
    (number-bytes (take 8 (drop at m)) (word_bytes m at b)))

pub word_kept : WordKept
unfolding store_word overwrite
word_kept m at b h =
    let d = take 8 (drop at m) in
    let l : length d ≡ 8 = part_length m at 8 h in
    let fits : at + length d ≤ length m = omega arith in
    let rest : d ++ drop (at + length d) m ≡ drop at m =
    ap (λ n. d ++ drop (at + n) m) l ∙ (ap (λ z. d ++ z) (sym (drop-drop 8 at m)) ∙ take-append-drop 8 (drop at m)) in
    ap (store m at) (bytes_back m at b h)
    ∙ (store-overwrite m at d fits ∙ (ap (λ z. take at m ++ z) rest ∙ take-append-drop at m))

-- FetchAdd
pub fetched : Fetched
unfolding fetch_added
fetched m at x h = word-stored m at _ h ∙ omega arith

pub fetch-wraps : FetchWraps
fetch-wraps m at h e = fetched m at 2 h ∙ omega arith

-- a choice by equality, when the two are equal and when they are not
chosen : (a b : ℕ) (l n : List ℕ) → a ≡ b → cond (eqb a b) l n ≡ l
chosen a b l n e = rw (eq-eqb a b e)

passed : (a b : ℕ) (l n : List ℕ) → (a ≡ b → ⊥) → cond (eqb a b) l n ≡ n
passed a b l n e = rw (ne_eqb a b e)

-- CmpSwap
pub swap-equal : SwapEqual
unfolding swapped
swap-equal m at compare swap h small e =
    ap (λ l. word_at l at) (chosen (word_at m at) _ _ m (omega arith)) ∙ (word-stored m at _ h ∙ omega arith)

pub swap-unequal : SwapUnequal
unfolding swapped
swap-unequal m at compare swap e = passed (word_at m at) _ _ m (λ same. e (omega arith))

-- nothing but the word changes
unchanged : (m : List ℕ) (at : ℕ) → OnlyWord m m at
unchanged m at = record { kept = refl; before = refl; after = refl }

pub word-within : WordWithin
unfolding store_word low_bytes
word-within m at x = go (leb (at + 8) (length m)) refl
  where
    go : (b : Bool) → leb (at + 8) (length m) ≡ b → OnlyWord m (store_word m at x) at
    go true e =
        let h : at + 8 ≤ length m = leb-true (at + 8) (length m) e in
        record {
          kept = length-word m at x;
          before = store-before m at (low_bytes 8 x) h;
          after = store-after m at (low_bytes 8 x) h;
        }
    go false e = subst (λ n. OnlyWord m n at) (sym (word-past m at x (leb-false (at + 8) (length m) e))) (unchanged m at)

pub fetch-within : FetchWithin
unfolding fetch_added
fetch-within m at x = word-within m at _

-- nor does a store that a test may leave out
word-or-not : (b : Bool) (m : List ℕ) (at x : ℕ) → OnlyWord m (cond b (store_word m at x) m) at
word-or-not true m at x = word-within m at x
word-or-not false m at x = unchanged m at

pub swap-within : SwapWithin
unfolding swapped
swap-within m at compare swap = word-or-not (eqb (word_at m at) _) m at _

-- a choice of two that are equal
either : (b : Bool) {l m : List ℕ} → l ≡ m → cond b l m ≡ m
either true e = e
either false e = refl

-- and past the end nothing at all
pub word_over : WordOver
unfolding fetch_added swapped
word_over m at x y h = (word_out m at h, word-past m at x h, word-past m at _ h, either (eqb (word_at m at) _) (word-past m at _ h))

-- a word of bytes fits 64 bits
pub word_below : WordBelow
word_below m at b = go (leb (at + 8) (length m)) refl
  where
    go : (t : Bool) → leb (at + 8) (length m) ≡ t → word_at m at < 2 ^ 64
    go true e =
        let h : at + 8 ≤ length m = leb-true (at + 8) (length m) e in
        let back : word_at m at % 256 ^ 8 ≡ word_at m at =
        sym (bytes-number 8 (word_at m at)) ∙ (ap low_number (bytes_back m at b h) ∙ sym (word_in m at h)) in
        omega arith
    go false e = omega (arith, word_out m at (leb-false (at + 8) (length m) e))
