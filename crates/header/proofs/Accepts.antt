-- What is read and what is written, in plain conditions.
use Prim.Native.Nat.{ℕ, ◌≤◌, ◌<◌}
use mathlib.Core.Path.{◌≡◌, refl, sym, ap, subst, ◌∙◌}
use mathlib.Core.Bool.{Bool, true, false, true≢false}
use mathlib.Core.List.{List, ◌++◌}
use mathlib.Core.Logic.{◌⊎◌, inl, inr}
use native.Mathlib.Omega.{arith}
use lib.Dec.{ltb}
use lib.ListN.{length, get_or, drop}
use borrow.Author.Tests.{ltb-true, ltb-false}
use Rattle.opcode.specs.Opcode.{class_of}
use Rattle.header.specs.Read.{bth_of, header_of}
use Rattle.header.specs.Write.{header_fits, header_length, header_bytes, written, written_out}
use Rattle.header.specs.Layout.{whole_length, after_in}
use Rattle.header.specs.Claims.{Reads, Writable, WritesBy, Writes}
use Rattle.header.proofs.Lengths.{fits}
use Rattle.header.proofs.Reasons.{good_length, no-reason, read-by}
use Rattle.header.proofs.Widths.{known, bth-fits, bth-widths, widths-of, extension-fits}
use Rattle.header.proofs.Table.{headers-by-opcode}
use Rattle.header.proofs.Writes as Written
use Rattle.header.specs.declared.Header.{Header}
use Rattle.header.specs.declared.Refusal.{Refusal}
use Rattle.header.specs.declared.Refusal.TheVariants.{OutputShort, BadNumber}
use Rattle.std.specs.Prelude.{Result, Ok, Err}

pub reads : Reads
unfolding bth_of
reads p low high words tver opcode room =
    read-by p (header_of p)
    (no-reason p (good_length (length p) low high words) (record { tver = tver; known = known (get_or p 0 0) opcode; room = room }))
    refl

-- the test of a header is the plain conditions
pub fits-writable : (h : Header) → header_fits h ≡ true → Writable h
fits-writable h e =
    let F = fits h e in
    record {
      bth = bth-widths h.bth F.bth;
      headers = (headers-by-opcode h.bth.opcode).headers h.extension F.follows;
      widths = widths-of h.extension F.widths;
    }

pub writable-fits : (h : Header) → Writable h → header_fits h ≡ true
writable-fits h W =
    let f = (headers-by-opcode h.bth.opcode).only h.extension W.headers in
    Written.both-fit h (bth-fits h.bth W.bth) (extension-fits (class_of h.bth.opcode).follows h.extension f W.widths)

size_is : (h : Header) → Writable h → header_length h ≡ whole_length (after_in h.extension)
unfolding header_length
size_is h W = (headers-by-opcode h.bth.opcode).bytes ∙ ap whole_length W.headers

-- which of the three it is
module _ (h : Header) (out : List ℕ) where
  abbrev size : ℕ
  size = whole_length (after_in h.extension)

  abbrev answer : Result ℕ Refusal
  answer = written h (length out)

  unfit : (Writable h → ⊥) → (answer ≡ Err BadNumber) × (written_out h out ≡ out)
  unfit n = Written.refused h out (off (header_fits h) refl)
    where
      off : (b : Bool) → header_fits h ≡ b → header_fits h ≡ false
      off true e = absurd (n (fits-writable h e))
      off false e = e

  short : Writable h → length out < size → (answer ≡ Err OutputShort) × (written_out h out ≡ out)
  short W l = Written.short h out (writable-fits h W) (omega (arith, size_is h W, l))

  done : Writable h → size ≤ length out → (answer ≡ Ok size) × (written_out h out ≡ header_bytes h ++ drop size out)
  done W l =
      subst (λ n. (answer ≡ Ok n) × (written_out h out ≡ header_bytes h ++ drop n out)) (size_is h W)
      (Written.done h out (writable-fits h W) (omega (arith, size_is h W, l)))

  abbrev Three : Type 0
  Three = (Writable h → ⊥) ⊎ ((Writable h × (length out < size)) ⊎ (Writable h × (size ≤ length out)))

  three : Three
  three = go (header_fits h) (ltb (length out) size) refl refl
    where
      go : (g s : Bool) → header_fits h ≡ g → ltb (length out) size ≡ s → Three
      go false s e f = inl (λ W. true≢false (sym (writable-fits h W) ∙ e))
      go true true e f = inr (inl (fits-writable h e, ltb-true (length out) size f))
      go true false e f = inr (inr (fits-writable h e, ltb-false (length out) size f))

  by_three : WritesBy h out size answer (written_out h out)
  by_three =
      record {
        unfit = unfit;
        short = short;
        done = done;
        only39 = λ e. was39 e three;
        only35 = λ e. was35 e three;
        only = λ n e. was n e three;
        answers = which three;
      }
    where
      was39 : answer ≡ Err BadNumber → Three → Writable h → ⊥
      was39 e (inl n) W = n W
      was39 e (inr (inl c)) W = let f = (short c.0 c.1).0 in cc
      was39 e (inr (inr c)) W = let f = (done c.0 c.1).0 in cc

      was35 : answer ≡ Err OutputShort → Three → Writable h × (length out < size)
      was35 e (inl n) = let f = (unfit n).0 in absurd cc
      was35 e (inr (inl c)) = c
      was35 e (inr (inr c)) = let f = (done c.0 c.1).0 in absurd cc

      was : (n : ℕ) → answer ≡ Ok n → Three → Writable h × (size ≤ length out) × (n ≡ size)
      was n e (inl f) = let g = (unfit f).0 in absurd cc
      was n e (inr (inl c)) = let f = (short c.0 c.1).0 in absurd cc
      was n e (inr (inr c)) = let f = (done c.0 c.1).0 in (c.0, c.1, cc)

      which : Three → (answer ≡ Err BadNumber) ⊎ ((answer ≡ Err OutputShort) ⊎ (answer ≡ Ok size))
      which (inl n) = inl (unfit n).0
      which (inr (inl c)) = inr (inl (short c.0 c.1).0)
      which (inr (inr c)) = inr (inr (done c.0 c.1).0)

pub writes : Writes
writes h out = by_three h out
