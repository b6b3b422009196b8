-- Writing undoes reading.
use Prim.Native.Nat.{ℕ, zero, suc, ◌+◌, ◌-◌, ◌*◌, ◌/◌, ◌%◌, ◌^◌, ◌≤◌, ◌<◌}
use mathlib.Core.Path.{◌≡◌, refl, sym, ap, subst, ◌∙◌}
use mathlib.Core.Bool.{Bool, true, false}
use mathlib.Core.List.{List, [], ◌∷◌, ◌++◌}
use native.Mathlib.Omega.{arith}
use lib.Dec.{leb}
use lib.ListN.{length, get_or, take, drop}
use borrow.Author.Tests.{leb-true, leb-false}
use Rattle.lemmas.proofs.Numbers.{two_bytes, three-bytes, four_bytes, four_below, high_half, low_half}
use Rattle.lemmas.proofs.Lists.{elements, take-elements, elements-join}
use Rattle.opcode.specs.Opcode.{class_of, length_of}
use Rattle.opcode.proofs.Classes.{class-length, class-follows}
use Rattle.header.specs.Bytes.{bit, Bytes, be4, be8, four, eight}
use Rattle.header.specs.Read.{bth_of, reth_of, atomic_of, aeth_of, extension_of, header_of}
use Rattle.header.specs.Write.{bth_bytes, reth_bytes, atomic_bytes, aeth_bytes, extension_bytes, header_bytes, follows_by, header_fits, header_length, written, written_out}
use Rattle.header.specs.Claims.{BthWidths, RethWidths, AethWidths, Widths, WriteBack}
use Rattle.header.proofs.Reasons.{Read, accepted}
use Rattle.header.proofs.Drops.{was_read}
use Rattle.header.proofs.Widths.{below_64, bth-fits, extension-fits}
use Rattle.header.proofs.Writes.{both-fit, done}
use Rattle.std.specs.Prelude.{Ok}

-- the flags' byte, from its fields
flags-forth : (x : ℕ) → x < 256
    → bit (leb 128 x) * 128 + bit (leb 64 (x % 128)) * 64 + x / 16 % 4 % 4 * 16 + x % 16 % 16 ≡ x
flags-forth x h = go (leb 128 x) (leb 64 (x % 128)) refl refl
  where
    go : (s m : Bool) → leb 128 x ≡ s → leb 64 (x % 128) ≡ m
        → bit s * 128 + bit m * 64 + x / 16 % 4 % 4 * 16 + x % 16 % 16 ≡ x
    go true true e f = let a : 128 ≤ x = leb-true 128 x e in let b : 64 ≤ x % 128 = leb-true 64 (x % 128) f in omega arith
    go true false e f = let a : 128 ≤ x = leb-true 128 x e in let b : x % 128 < 64 = leb-false 64 (x % 128) f in omega arith
    go false true e f = let a : x < 128 = leb-false 128 x e in let b : 64 ≤ x % 128 = leb-true 64 (x % 128) f in omega arith
    go false false e f = let a : x < 128 = leb-false 128 x e in let b : x % 128 < 64 = leb-false 64 (x % 128) f in omega arith

ack-forth : (x : ℕ) → x < 256 → bit (leb 128 x) * 128 + x % 128 % 128 ≡ x
ack-forth x h = go (leb 128 x) refl
  where
    go : (s : Bool) → leb 128 x ≡ s → bit s * 128 + x % 128 % 128 ≡ x
    go true e = let a : 128 ≤ x = leb-true 128 x e in omega arith
    go false e = let a : x < 128 = leb-false 128 x e in omega arith

-- the bytes of the fields, for a list of bytes
module _ (p : List ℕ) (B : Bytes p) where
  four-forth : (i : ℕ) → four (be4 p i) ≡ get_or p i 0 ∷ get_or p (i + 1) 0 ∷ get_or p (i + 1 + 1) 0 ∷ get_or p (i + 1 + 1 + 1) 0 ∷ []
  four-forth i =
      four_bytes (get_or p i 0) (get_or p (i + 1) 0) (get_or p (i + 1 + 1) 0) (get_or p (i + 1 + 1 + 1) 0) (B i) (B (i + 1)) (B (i + 1 + 1)) (B (i + 1 + 1 + 1))

  below : (i : ℕ) → be4 p i < 4294967296
  below i =
      four_below (get_or p i 0) (get_or p (i + 1) 0) (get_or p (i + 1 + 1) 0) (get_or p (i + 1 + 1 + 1) 0) (B i) (B (i + 1)) (B (i + 1 + 1)) (B (i + 1 + 1 + 1))

  eight-forth : (i : ℕ) → eight (be8 p i) ≡ four (be4 p i) ++ four (be4 p (i + 4))
  eight-forth i =
      let a = ap four (high_half (be4 p i) (be4 p (i + 4)) (below (i + 4))) in
      let b = low_half (be4 p i) (be4 p (i + 4)) (below (i + 4)) in
      λ j. a j ++ b j

  word : (i : ℕ) → be8 p i < 2 ^ 64
  word i = omega (arith, below i, below (i + 4))

  bth-forth : bth_bytes (bth_of p) ≡ elements p 0 12
  unfolding bth_of bth_bytes elements
  bth-forth =
      let z : 0 < 256 = omega arith in
      let f = flags-forth (get_or p 1 0) (B 1) in
      let k = two_bytes 0 0 (get_or p 2 0) (get_or p 3 0) z z (B 2) (B 3) in
      let d = three-bytes 0 (get_or p 5 0) (get_or p 6 0) (get_or p 7 0) z (B 5) (B 6) (B 7) in
      let a = ack-forth (get_or p 8 0) (B 8) in
      let n = three-bytes 0 (get_or p 9 0) (get_or p 10 0) (get_or p 11 0) z (B 9) (B 10) (B 11) in
      λ i. (get_or p 0 0 ∷ f i ∷ k i) ++ ((get_or p 4 0 ∷ d i) ++ (a i ∷ n i))

  reth-forth : reth_bytes (reth_of p) ≡ elements p 12 16
  unfolding reth_of reth_bytes elements
  reth-forth =
      let a = eight-forth 12 in
      let b = four-forth 12 in
      let c = four-forth 16 in
      let k = four-forth 20 in
      let l = four-forth 24 in
      ap (λ x. x ++ (four (be4 p 20) ++ four (be4 p 24))) a ∙ (λ i. (b i ++ c i) ++ (k i ++ l i))

  atomic-forth : atomic_bytes (atomic_of p) ≡ elements p 12 28
  unfolding atomic_of atomic_bytes elements
  atomic-forth =
      let a = eight-forth 12 in
      let s = eight-forth 24 in
      let c = eight-forth 32 in
      (λ i. a i ++ (four (be4 p 20) ++ (s i ++ c i)))
      ∙ (λ i. (four-forth 12 i ++ four-forth 16 i) ++ (four-forth 20 i ++ ((four-forth 24 i ++ four-forth 28 i) ++ (four-forth 32 i ++ four-forth 36 i))))

  aeth-forth : aeth_bytes (aeth_of p) ≡ elements p 12 4
  unfolding aeth_of aeth_bytes elements
  aeth-forth =
      let z : 0 < 256 = omega arith in
      let n = three-bytes 0 (get_or p 13 0) (get_or p 14 0) (get_or p 15 0) z (B 13) (B 14) (B 15) in
      λ i. get_or p 12 0 ∷ n i

-- what is read, by the class's number, is of that class, within its widths, and has the packet's bytes
record Forth (p : List ℕ) (f : ℕ) : Type 0 where
  follows : follows_by (extension_of f p) ≡ f
  widths : Widths (extension_of f p)
  bytes : extension_bytes (extension_of f p) ≡ elements p 12 (length_of f - 12)

-- a number that is at most 6 is one of seven
seven : (P : ℕ → Type 0) → P 0 → P 1 → P 2 → P 3 → P 4 → P 5 → P 6 → (f : ℕ) → f ≤ 6 → P f
seven P a b c d e g k zero h = a
seven P a b c d e g k (suc zero) h = b
seven P a b c d e g k (suc (suc zero)) h = c
seven P a b c d e g k (suc (suc (suc zero))) h = d
seven P a b c d e g k (suc (suc (suc (suc zero)))) h = e
seven P a b c d e g k (suc (suc (suc (suc (suc zero))))) h = g
seven P a b c d e g k (suc (suc (suc (suc (suc (suc zero)))))) h = k
seven P a b c d e g k (suc (suc (suc (suc (suc (suc (suc n))))))) h = absurd (omega arith)

whole : (f : ℕ) → f ≤ 6 → 12 + (length_of f - 12) ≡ length_of f
unfolding length_of
whole = seven (λ f. 12 + (length_of f - 12) ≡ length_of f) refl refl refl refl refl refl refl

module _ (p : List ℕ) (B : Bytes p) where
  reth-within : RethWidths (reth_of p)
  unfolding reth_of
  reth-within = (omega (arith, word p B 12), omega (arith, below p B 20), omega (arith, below p B 24))

  aeth-within : AethWidths (aeth_of p)
  unfolding aeth_of
  aeth-within = (omega (arith, B 12), omega (arith, B 13, B 14, B 15))

  forth-0 : Forth p 0
  unfolding extension_of follows_by extension_bytes length_of elements
  forth-0 = record { follows = refl; widths = tt; bytes = refl }

  forth-1 : Forth p 1
  unfolding extension_of follows_by extension_bytes length_of
  forth-1 = record { follows = refl; widths = reth-within; bytes = reth-forth p B }

  forth-2 : Forth p 2
  unfolding extension_of follows_by extension_bytes length_of elements
  forth-2 = record { follows = refl; widths = (reth-within, omega (arith, below p B 28)); bytes = λ i. reth-forth p B i ++ four-forth p B 28 i }

  forth-3 : Forth p 3
  unfolding extension_of follows_by extension_bytes length_of elements
  forth-3 = record { follows = refl; widths = omega (arith, below p B 12); bytes = four-forth p B 12 }

  forth-4 : Forth p 4
  unfolding extension_of follows_by extension_bytes length_of atomic_of
  forth-4 = record { follows = refl; widths = (omega (arith, word p B 12), omega (arith, below p B 20), omega (arith, word p B 24), omega (arith, word p B 32)); bytes = atomic-forth p B }

  forth-5 : Forth p 5
  unfolding extension_of follows_by extension_bytes length_of
  forth-5 = record { follows = refl; widths = aeth-within; bytes = aeth-forth p B }

  forth-6 : Forth p 6
  unfolding extension_of follows_by extension_bytes length_of elements
  forth-6 =
      record {
        follows = refl;
        widths = (aeth-within, omega (arith, word p B 16));
        bytes = ap (λ x. aeth_bytes (aeth_of p) ++ x) (eight-forth p B 16) ∙ (λ i. aeth-forth p B i ++ (four-forth p B 16 i ++ four-forth p B 20 i));
      }

  forth : (f : ℕ) → f ≤ 6 → Forth p f
  forth = seven (Forth p) forth-0 forth-1 forth-2 forth-3 forth-4 forth-5 forth-6

  bth-within : Read p → BthWidths (bth_of p)
  unfolding bth_of
  bth-within R =
      record {
        opcode = omega (arith, below_64 (get_or p 0 0) R.known);
        pad = omega arith;
        tver = R.tver;
        pkey = omega (arith, B 2, B 3);
        reserved8 = omega (arith, B 4);
        dest = omega (arith, B 5, B 6, B 7);
        reserved7 = omega arith;
        psn = omega (arith, B 9, B 10, B 11);
      }

  pub header-fits : Read p → header_fits (header_of p) ≡ true
  unfolding header_of
  header-fits R =
      let f = (class_of (bth_of p).opcode).follows in
      let F = forth f (class-follows (bth_of p).opcode) in
      both-fit (header_of p) (bth-fits (bth_of p) (bth-within R)) (extension-fits f (extension_of f p) (sym F.follows) F.widths)

  -- the header's bytes are the packet's first
  pub packet-bytes : (f : ℕ) → f ≤ 6 → bth_bytes (bth_of p) ++ extension_bytes (extension_of f p) ≡ elements p 0 (length_of f)
  packet-bytes f h = (λ i. bth-forth p B i ++ (forth f h).bytes i) ∙ (elements-join p 0 12 (length_of f - 12) ∙ ap (elements p 0) (whole f h))

  first-bytes : (f : ℕ) → f ≤ 6 → length_of f ≤ length p
      → bth_bytes (bth_of p) ++ extension_bytes (extension_of f p) ≡ take (length_of f) p
  first-bytes f h l = packet-bytes f h ∙ sym (take-elements p 0 (length_of f) (omega arith))

  pub read-follows : (f : ℕ) → f ≤ 6 → f ≡ follows_by (extension_of f p)
  read-follows f h = sym (forth f h).follows

  header-bytes : Read p → header_bytes (header_of p) ≡ take (header_length (header_of p)) p
  unfolding header_bytes header_of header_length
  header-bytes R =
      let op = (bth_of p).opcode in
      let e : length_of (class_of op).follows ≡ (class_of op).length = sym (class-length op) in
      first-bytes (class_of op).follows (class-follows op) (subst (λ n. n ≤ length p) (sym e) R.room) ∙ ap (λ n. take n p) e

pub write-back : WriteBack
write-back p B h e out room =
    let A = accepted p h e in
    let R = (was_read p A.0).1 in
    subst
    (λ z. header_length z ≤ length out → (written z (length out) ≡ Ok (header_length z)) × (written_out z out ≡ take (header_length z) p ++ drop (header_length z) out))
    A.1
    (λ r. let D = done (header_of p) out (header-fits p B R) r in
    (D.0, D.1 ∙ ap (λ x. x ++ drop (header_length (header_of p)) out) (header-bytes p B R)))
    room
