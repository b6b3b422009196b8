-- Headers and messages by words and numbers.
use Prim.Native.Nat.{ℕ}
use mathlib.Core.Path.{◌≡◌, refl, sym, ap, ◌∙◌}
use mathlib.Core.Bool.{Bool, true, false, cond}
use mathlib.Core.List.{List, [], ◌∷◌}
use lib.Dec.{ltb}
use lib.ListN.{length}
use borrow.Author.Tests.{lt-ltb}
use Rattle.std.specs.Prelude.{Result, Ok, Err, ⊤}
use Rattle.std.specs.Result.{result_and}
use Rattle.sequence.specs.declared.Psn.{Psn}
use Rattle.header.specs.Read.{read_reason, read_number, read_check}
use Rattle.header.proofs.Drops.{read-dropped-by}
use Rattle.header.specs.Write.{written, written_out, answer_number, done_bytes}
use Rattle.header.specs.declared.Header.{Header}
use Rattle.header.specs.declared.Refusal.{Refusal}
use Rattle.header.proofs.Writes.{refused-by}
use Rattle.cut_spec.specs.Cut.{cut_written, cut_out}
use Rattle.cut_spec.specs.Next.{next_answer, next_psn}
use Rattle.cut_spec.specs.declared.Connection.{Connection}
use Rattle.cut_spec.specs.declared.Request.{Request}
use Rattle.cut_spec.proofs.Answers.{follows}
use Rattle.cut_spec.proofs.Fitting.{passed}
use Rattle.cut_spec.proofs.Shapes.{limit-in}
use Rattle.abi_spec.specs.Words.{eq_words}
use Rattle.abi_spec.specs.Fields.{bth_from, bth_words, extension_from, extension_words}
use Rattle.abi_spec.specs.Claims.{BthFields, ExtensionFields}
use Rattle.abi_spec.proofs.Headers.{bth-back, extension-back, header-fits}
use Rattle.abi_spec.proofs.Laws.{same_self, same-is}
use Rattle.udalopek_spec.specs.Cutting.{request_of, following_psn, cut_report, cut_number, cut_output, cut_words}
use Rattle.udalopek_spec.specs.Headers.{reported_bth, reported_extension, read_header_number, read_report, read_bth, read_extension}
use Rattle.udalopek_spec.specs.Headers.{own_words, header_from, write_number, write_output, write_report}
use Rattle.udalopek_spec.specs.Claims.{CutIs, ReadIs, WriteIs, WriteBad, ReadKeeps, WriteKeeps, CutKeeps}
use Rattle.udalopek_spec.proofs.Claims.{cut-reports}
use Rattle.udalopek_spec.proofs.Steps.{first as firstly, second}

-- what a check let through passed it
let-through : {A : Type 0} (check : Result ⊤ Refusal) (answer : Result A Refusal) (x : A) → result_and check answer ≡ Ok x → check ≡ Ok tt
let-through (Ok y) answer x e = refl
let-through (Err r) answer x e = absurd cc

-- a cut that is not refused has a next message
module _ (c : Connection) (r : Request) (d : List ℕ) (first : Psn) (i room : ℕ) where
  goes_on_lem : (n : ℕ) → cut_written c r d first i room ≡ Ok n → next_answer r (length d) c.pmtu first ≡ Ok (next_psn r (length d) c.pmtu first)
  unfolding cut_written
  goes_on_lem n e =
      let p = passed c r (length d) first.0 i (let-through _ _ n e) in
      (follows r (length d) c.pmtu first).next p.0.pmtu p.0.first (limit-in r (length d) p.1)

  told : (n : ℕ) → cut_written c r d first i room ≡ Ok n
      → cut_report (answer_number (cut_written c r d first i room)) (done_bytes (cut_written c r d first i room)) (following_psn (next_answer r (length d) c.pmtu first))
      ≡ n ∷ (next_psn r (length d) c.pmtu first).0 ∷ []
  unfolding cut_report answer_number following_psn
  told n e = λ j. cut_report (answer_number (e j)) (done_bytes (e j)) (following_psn (goes_on_lem n e j))

pub cut-is : CutIs
unfolding request_of cut_number cut_output cut_words
cut-is c address key size swap compare immediate d first i out = (
  record { number = refl; output = refl; told = told c _ d first i (length out) },
  record { number = refl; output = refl; told = told c _ d first i (length out) },
  record { number = refl; output = refl; told = told c _ d first i (length out) },
  record { number = refl; output = refl; told = told c _ d first i (length out) },
  record { number = refl; output = refl; told = told c _ d first i (length out) },
  record { number = refl; output = refl; told = told c _ d first i (length out) },
  record { number = refl; output = refl; told = told c _ d first i (length out) },
  λ kind h. sym (firstly _ 39 _ (lt-ltb 6 kind h)),
)

pub read_is : ReadIs
unfolding read_header_number read_report read_bth read_extension read_number read_check reported_bth reported_extension
read_is p b e h a = (rw a, rw a, rw a, rw a)

-- the words of a header are those of the header that they say
own : (h : Header) → BthFields h.bth → ExtensionFields h.extension
    → (header_from (bth_words h.bth) (extension_words h.extension) ≡ h) × (own_words (bth_words h.bth) (extension_words h.extension) ≡ true)
unfolding own_words
own h f g =
    let b = bth-back h.bth f in
    let e = extension-back h.extension g in (
      λ i. record { bth = b i; extension = e i },
      (λ i. cond (eq_words (bth_words h.bth) (bth_words (b i))) (eq_words (extension_words h.extension) (extension_words (e i))) false)
          ∙ (λ i. cond (same_self (bth_words h.bth) i) (same_self (extension_words h.extension) i) false),
    )

pub write-is : WriteIs
unfolding write_number write_output write_report
write-is h out f g =
    let o = own h f g in (
      sym (firstly _ _ 39 o.1) ∙ ap (λ x. answer_number (written x (length out))) o.0,
      sym (firstly _ _ out o.1) ∙ ap (λ x. written_out x out) o.0,
      sym (firstly _ _ (0 ∷ []) o.1) ∙ ap (λ x. done_bytes (written x (length out)) ∷ []) o.0,
    )

-- words that pass as their own are those of a header that fits them
pub write-bad : WriteBad
unfolding write_number own_words
write-bad b e out n = sym (second _ _ 39 (go (eq_words b (bth_words (bth_from b))) (eq_words e (extension_words (extension_from e))) refl refl))
  where
    go : (x y : Bool) → eq_words b (bth_words (bth_from b)) ≡ x → eq_words e (extension_words (extension_from e)) ≡ y → cond x y false ≡ false
    go true true p q = let f = header-fits b e in absurd (n (header_from b e) f.0 f.1 ((same-is _ _).0 p) ((same-is _ _).0 q))
    go true false p q = refl
    go false y p q = refl

-- what is left of a call that is refused
pub read_keeps : ReadKeeps
unfolding read_header_number read_report read_bth read_extension read_number read_check reported_bth reported_extension
read_keeps p b e n =
    let drop = (read-dropped-by p (read_reason p) refl).1 n in
    let a = drop.2 in
    (rw a, rw a (ap (λ k. k ∷ []) drop.1), rw a, rw a)

pub write_keeps : WriteKeeps
unfolding write_number write_output write_report written_out
write_keeps b e out = go (own_words b e)
  where
    h : Header
    h = header_from b e

    go : (o : Bool) → (cond o (answer_number (written h (length out))) 39 ≡ 0 → ⊥)
        → (cond o (written_out h out) out ≡ out) × (cond o (done_bytes (written h (length out)) ∷ []) (0 ∷ []) ≡ 0 ∷ [])
    go true n = let refused = (refused-by (written h (length out)) n).1 in (rw refused, rw refused)
    go false n = (refl, refl)

pub cut_keeps : CutKeeps
unfolding cut_number cut_output cut_words cut_out
cut_keeps kind c r d first i out = go (ltb 6 kind)
  where
    a : Result ℕ Refusal
    a = cut_written c r d first i (length out)

    psn : ℕ
    psn = following_psn (next_answer r (length d) c.pmtu first)

    go : (o : Bool) → (cond o 39 (answer_number a) ≡ 0 → ⊥)
        → (cond o out (cut_out c r d first i out) ≡ out) × (cond o (0 ∷ 0 ∷ []) (cut_report (answer_number a) (done_bytes a) psn) ≡ 0 ∷ 0 ∷ [])
    go true n = (refl, refl)
    go false n = (
      rw (refused-by (cut_written c r d first i (length out)) n).1,
      (cut-reports (done_bytes a) psn).1 (answer_number a) n,
    )
