-- Numbers and their bytes, high byte first: the arithmetic behind every header's fields.
use Prim.Native.Nat.{ℕ, ◌+◌, ◌*◌, ◌/◌, ◌%◌, ◌<◌, ◌^◌}
use mathlib.Core.Path.{◌≡◌}
use mathlib.Core.List.{[], ◌∷◌}
use native.Mathlib.Omega.{arith}

-- the low bytes of a number, put together, are its remainder
two-rest : (x : ℕ) → x / 256 % 256 * 256 + x % 256 ≡ x % 65536
two-rest x = omega arith

three-rest : (x : ℕ) → x / 65536 % 256 * 65536 + (x / 256 % 256 * 256 + x % 256) ≡ x % 16777216
three-rest x = rw (two-rest x) (omega arith)

four-rest : (x : ℕ)
    → x / 16777216 % 256 * 16777216 + (x / 65536 % 256 * 65536 + (x / 256 % 256 * 256 + x % 256)) ≡ x % 4294967296
four-rest x = rw (three-rest x) (omega arith)

-- so a number within its width is the number of its bytes
pub two-value : (x : ℕ) → x < 2 ^ 16 → x / 256 % 256 * 256 + x % 256 ≡ x
two-value x h = rw (two-rest x) (omega arith)

pub three-value : (x : ℕ) → x < 2 ^ 24 → x / 65536 % 256 * 65536 + (x / 256 % 256 * 256 + x % 256) ≡ x
three-value x h = rw (three-rest x) (omega arith)

pub four-value : (x : ℕ) → x < 2 ^ 32
    → x / 16777216 % 256 * 16777216 + (x / 65536 % 256 * 65536 + (x / 256 % 256 * 256 + x % 256)) ≡ x
four-value x h = rw (four-rest x) (omega arith)

halves : (x : ℕ) → x < 2 ^ 64 → x / 4294967296 % 4294967296 * 4294967296 + x % 4294967296 ≡ x
halves x h = omega arith

pub eight-value : (x : ℕ) → x < 2 ^ 64
    → (x / 4294967296 / 16777216 % 256 * 16777216 + (x / 4294967296 / 65536 % 256 * 65536 + (x / 4294967296 / 256 % 256 * 256 + x / 4294967296 % 256))) * 4294967296
    + (x / 16777216 % 256 * 16777216 + (x / 65536 % 256 * 65536 + (x / 256 % 256 * 256 + x % 256)))
    ≡ x
eight-value x h = rw (four-rest (x / 4294967296), four-rest x) (halves x h)

-- bytes put together and taken apart again
module _ (a b c d : ℕ) (ha : a < 256) (hb : b < 256) (hc : c < 256) (hd : d < 256) where
  pub two_bytes : (c * 256 + d) / 256 % 256 ∷ (c * 256 + d) % 256 ∷ [] ≡ c ∷ d ∷ []
  two_bytes =
      let p : (c * 256 + d) / 256 % 256 ≡ c = omega arith in
      let q : (c * 256 + d) % 256 ≡ d = omega arith in
      λ i. p i ∷ q i ∷ []

  pub three-bytes : (b * 65536 + (c * 256 + d)) / 65536 % 256 ∷ (b * 65536 + (c * 256 + d)) / 256 % 256 ∷ (b * 65536 + (c * 256 + d)) % 256 ∷ []
      ≡ b ∷ c ∷ d ∷ []
  three-bytes =
      let n : (b * 65536 + (c * 256 + d)) / 65536 % 256 ≡ b = omega arith in
      let p : (b * 65536 + (c * 256 + d)) / 256 % 256 ≡ c = omega arith in
      let q : (b * 65536 + (c * 256 + d)) % 256 ≡ d = omega arith in
      λ i. n i ∷ p i ∷ q i ∷ []

  pub four_bytes : (a * 16777216 + (b * 65536 + (c * 256 + d))) / 16777216 % 256
      ∷ (a * 16777216 + (b * 65536 + (c * 256 + d))) / 65536 % 256
      ∷ (a * 16777216 + (b * 65536 + (c * 256 + d))) / 256 % 256
      ∷ (a * 16777216 + (b * 65536 + (c * 256 + d))) % 256
      ∷ []
      ≡ a ∷ b ∷ c ∷ d ∷ []
  four_bytes =
      let m : (a * 16777216 + (b * 65536 + (c * 256 + d))) / 16777216 % 256 ≡ a = omega arith in
      let n : (a * 16777216 + (b * 65536 + (c * 256 + d))) / 65536 % 256 ≡ b = omega arith in
      let p : (a * 16777216 + (b * 65536 + (c * 256 + d))) / 256 % 256 ≡ c = omega arith in
      let q : (a * 16777216 + (b * 65536 + (c * 256 + d))) % 256 ≡ d = omega arith in
      λ i. m i ∷ n i ∷ p i ∷ q i ∷ []

  pub four_below : a * 16777216 + (b * 65536 + (c * 256 + d)) < 4294967296
  four_below = omega arith

-- two halves of a 64-bit number, taken apart again
module _ (x y : ℕ) (h : y < 4294967296) where
  pub high_half : (x * 4294967296 + y) / 4294967296 ≡ x
  high_half = omega arith

  pub low_half : (x * 4294967296 + y) / 16777216 % 256 ∷ (x * 4294967296 + y) / 65536 % 256 ∷ (x * 4294967296 + y) / 256 % 256 ∷ (x * 4294967296 + y) % 256 ∷ []
      ≡ y / 16777216 % 256 ∷ y / 65536 % 256 ∷ y / 256 % 256 ∷ y % 256 ∷ []
  low_half =
      let m : (x * 4294967296 + y) / 16777216 % 256 ≡ y / 16777216 % 256 = omega arith in
      let n : (x * 4294967296 + y) / 65536 % 256 ≡ y / 65536 % 256 = omega arith in
      let p : (x * 4294967296 + y) / 256 % 256 ≡ y / 256 % 256 = omega arith in
      let q : (x * 4294967296 + y) % 256 ≡ y % 256 = omega arith in
      λ i. m i ∷ n i ∷ p i ∷ q i ∷ []
