-- Writing step by step: from what each function answered to what the definitions say.
use Prim.Native.Nat.{ℕ, ◌+◌, ◌≤◌, ◌<◌}
use mathlib.Core.Path.{◌≡◌, sym, ap, subst, ◌∙◌}
use mathlib.Core.Bool.{Bool, true, false, not}
use mathlib.Core.List.{List, ◌++◌}
use native.Mathlib.Omega.{arith}
use lib.ListN.{length, length-append}
use Rattle.std.specs.Prelude.{Ok, Err}
use Rattle.lemmas.proofs.Tests.{not-true, not-false}
use Rattle.opcode.specs.Opcode.{class_of}
use Rattle.opcode.specs.declared.OpcodeClass.{OpcodeClass}
use Rattle.memory.specs.Memory.{store}
use Rattle.memory.proofs.Overwrite.{length-store, store-twice}
use Rattle.header.specs.Write.{header_fits, header_length, bth_bytes, extension_bytes, written, written_out}
use Rattle.header.specs.declared.Header.{Header}
use Rattle.header.specs.declared.Extension.{Extension}
use Rattle.header.specs.declared.Refusal.TheVariants.{OutputShort, BadNumber}
use Rattle.header.proofs.Lengths.{length-is}
use Rattle.header.proofs.Writes.{refused, short, done, two-parts}

-- no such header
pub by-fields : (h : Header) (out : List ℕ) (u : Bool) → u ≡ not (header_fits h) → u ≡ true
    → (Err BadNumber ≡ written h (length out)) × (out ≡ written_out h out)
by-fields h out u e t =
    let R = refused h out (not-true (header_fits h) u e t) in
    (sym R.0, sym R.1)

-- what holds after that: the header fits, and k is the class of its opcode
module _ (h : Header) (out : List ℕ) (u : Bool) (e : u ≡ not (header_fits h)) (f : u ≡ false) (k : OpcodeClass)
    (is : k ≡ class_of h.bth.opcode) where
  size : k.length ≡ header_length h
  unfolding header_length
  size = ap (λ z. z.length) is

  good : header_fits h ≡ true
  good = not-false (header_fits h) u e f

  -- a refusal by the output's length
  pub by_length : length out < k.length → (Err OutputShort ≡ written h (length out)) × (out ≡ written_out h out)
  by_length l =
      let R = short h out good (subst (λ n. length out < n) size l) in
      (sym R.0, sym R.1)

  -- there is room for the headers after the BTH, in what the BTH's bytes b left
  pub room : (b m : List ℕ) → k.length ≤ length out → m ≡ store out 0 b
      → 12 + length (extension_bytes h.extension) ≤ length m
  room b m l q =
      let s : length m ≡ length out = ap length q ∙ length-store out 0 b in
      let n : header_length h ≤ length out = subst (λ z. z ≤ length out) size l in
      omega (arith, length-is h good)

  -- the header written: the BTH's bytes b first, the other headers into what that left
  pub whole : (b m w : List ℕ) → k.length ≤ length out → b ≡ bth_bytes h.bth → m ≡ store out 0 b
      → w ≡ store m 12 (extension_bytes h.extension)
      → (Ok k.length ≡ written h (length out)) × (w ≡ written_out h out)
  whole b m w l p q r =
      let n : header_length h ≤ length out = subst (λ s. s ≤ length out) size l in
      let D = done h out good n in (
        ap Ok size ∙ sym D.0,
        r ∙ (ap (λ z. store z 12 (extension_bytes h.extension)) (q ∙ ap (store out 0) p) ∙ (two-parts h out good n ∙ sym D.1)),
      )

-- headers in two parts, b and c, the second written behind the first
pub in_two : (out b c m w : List ℕ) (e : Extension) (n : ℕ) → extension_bytes e ≡ b ++ c → 12 + length b ≡ n
    → 12 + length (extension_bytes e) ≤ length out → m ≡ store out 12 b → w ≡ store m n c
    → w ≡ store out 12 (extension_bytes e)
in_two out b c m w e n x l r p q =
    let k : length (extension_bytes e) ≡ length b + length c = ap length x ∙ length-append b c in
    let j : store (store out 12 b) (12 + length b) c ≡ store out 12 (b ++ c) = store-twice out 12 b c (omega arith) in
    q ∙ (ap (λ z. store z n c) p ∙ (subst (λ z. store (store out 12 b) z c ≡ store out 12 (b ++ c)) l j ∙ ap (store out 12) (sym x)))
