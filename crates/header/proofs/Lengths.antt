-- How long the bytes of a header are.
use Prim.Native.Nat.{◌+◌, ◌%◌, ◌≤◌}
use mathlib.Core.Path.{◌≡◌, refl, sym, ap, ◌∙◌}
use mathlib.Core.Bool.{true, ◌&&◌}
use native.Mathlib.Omega.{arith}
use lib.Dec.{eqb}
use lib.ListN.{length, length-append}
use borrow.Author.Tests.{eqb-true}
use Rattle.lemmas.proofs.Tests.{and_left, and_right}
use Rattle.opcode.specs.Opcode.{class_of, length_of}
use Rattle.opcode.proofs.Classes.{class-length}
use Rattle.header.specs.Write.{bth_bytes, reth_bytes, atomic_bytes, aeth_bytes, extension_bytes, header_bytes, bth_fits, widths_fit, follows_by, extension_fits, header_fits, header_length}
use Rattle.header.specs.declared.Bth.{Bth}
use Rattle.header.specs.declared.Extension.{Extension}
use Rattle.header.specs.declared.Extension.TheVariants.{Bare, Remote, RemoteImmediate, Immediate, Atomic, Acknowledge, AtomicAcknowledge}
use Rattle.header.specs.declared.Header.{Header}

pub length-bth : (b : Bth) → length (bth_bytes b) ≡ 12
unfolding bth_bytes
length-bth b = refl

pub length-extension : (e : Extension) → 12 + length (extension_bytes e) ≡ length_of (follows_by e)
unfolding extension_bytes follows_by length_of reth_bytes atomic_bytes aeth_bytes
length-extension Bare = refl
length-extension (Remote r) = refl
length-extension (RemoteImmediate r i) = refl
length-extension (Immediate i) = refl
length-extension (Atomic a) = refl
length-extension (Acknowledge a) = refl
length-extension (AtomicAcknowledge a v) = refl

-- what a header that fits is made of
pub record Fits (h : Header) : Type 0 where
  pub bth : bth_fits h.bth ≡ true
  pub follows : (class_of h.bth.opcode).follows ≡ follows_by h.extension
  pub widths : widths_fit h.extension ≡ true

pub fits : (h : Header) → header_fits h ≡ true → Fits h
unfolding header_fits extension_fits
fits h e =
    let x = and_right (bth_fits h.bth) (eqb (class_of h.bth.opcode).follows (follows_by h.extension) && widths_fit h.extension) e in
    record {
      bth = and_left (bth_fits h.bth) (eqb (class_of h.bth.opcode).follows (follows_by h.extension) && widths_fit h.extension) e;
      follows = eqb-true (class_of h.bth.opcode).follows (follows_by h.extension) (and_left (eqb (class_of h.bth.opcode).follows (follows_by h.extension)) (widths_fit h.extension) x);
      widths = and_right (eqb (class_of h.bth.opcode).follows (follows_by h.extension)) (widths_fit h.extension) x;
    }

-- a header's length, by the headers it has
pub length-is : (h : Header) → header_fits h ≡ true → header_length h ≡ 12 + length (extension_bytes h.extension)
unfolding header_length
length-is h e = class-length h.bth.opcode ∙ (ap length_of (fits h e).follows ∙ sym (length-extension h.extension))

pub length-header : (h : Header) → header_fits h ≡ true → length (header_bytes h) ≡ header_length h
unfolding header_bytes
length-header h e = length-append (bth_bytes h.bth) (extension_bytes h.extension) ∙ (ap (λ n. n + length (extension_bytes h.extension)) (length-bth h.bth) ∙ sym (length-is h e))

-- every header is a whole number of words
pub length-words : (e : Extension) → (12 + length (extension_bytes e)) % 4 ≡ 0
unfolding extension_bytes reth_bytes atomic_bytes aeth_bytes
length-words Bare = refl
length-words (Remote r) = refl
length-words (RemoteImmediate r i) = refl
length-words (Immediate i) = refl
length-words (Atomic a) = refl
length-words (Acknowledge a) = refl
length-words (AtomicAcknowledge a v) = refl

pub length_most : (e : Extension) → 12 + length (extension_bytes e) ≤ 40
unfolding extension_bytes reth_bytes atomic_bytes aeth_bytes
length_most Bare = omega arith
length_most (Remote r) = omega arith
length_most (RemoteImmediate r i) = omega arith
length_most (Immediate i) = omega arith
length_most (Atomic a) = omega arith
length_most (Acknowledge a) = omega arith
length_most (AtomicAcknowledge a v) = omega arith
