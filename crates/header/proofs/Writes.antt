-- What writing answers and leaves, by what it tests.
use Prim.Native.Nat.{ℕ, ◌+◌, ◌≤◌, ◌<◌}
use mathlib.Core.Path.{◌≡◌, refl, sym, ap, subst, ◌∙◌}
use mathlib.Core.Bool.{Bool, true, false, cond}
use mathlib.Core.List.{List, ◌++◌}
use native.Mathlib.Omega.{arith}
use lib.Dec.{ltb}
use lib.ListN.{length, drop}
use borrow.Author.Tests.{lt-ltb, le-ltb, ltb-true, ltb-false}
use Rattle.std.specs.Prelude.{Result, Ok, Err, IsErrAnd}
use Rattle.opcode.specs.Opcode.{class_of}
use Rattle.memory.specs.Memory.{store}
use Rattle.memory.proofs.Overwrite.{store-overwrite, store-twice, overwrite-start}
use Rattle.header.specs.Write.{bth_bytes, extension_bytes, header_bytes, bth_fits, extension_fits, header_fits, header_length, written, answer_number, write_answer, written_out}
use Rattle.header.specs.Claims.{RefusalNumbers, WriteNumbers}
use Rattle.header.proofs.Lengths.{length-bth, length-is, length-header}
use Rattle.header.specs.declared.Header.{Header}
use Rattle.header.specs.declared.Refusal.{Refusal}
use Rattle.header.specs.declared.Refusal.TheVariants.{OutputShort, BadNumber}

pub bth-off : (h : Header) → bth_fits h.bth ≡ false → header_fits h ≡ false
unfolding header_fits
bth-off h e = rw e

pub extension-off : (h : Header) → bth_fits h.bth ≡ true
    → extension_fits (class_of h.bth.opcode).follows h.extension ≡ false → header_fits h ≡ false
unfolding header_fits
extension-off h e f = rw (e, f)

pub both-fit : (h : Header) → bth_fits h.bth ≡ true
    → extension_fits (class_of h.bth.opcode).follows h.extension ≡ true → header_fits h ≡ true
unfolding header_fits
both-fit h e f = rw (e, f)

-- the answer and the output
pub refused : (h : Header) (out : List ℕ) → header_fits h ≡ false
    → (written h (length out) ≡ Err BadNumber) × (written_out h out ≡ out)
unfolding written written_out
refused h out e = (rw e, rw e)

pub short : (h : Header) (out : List ℕ) → header_fits h ≡ true → length out < header_length h
    → (written h (length out) ≡ Err OutputShort) × (written_out h out ≡ out)
unfolding written written_out
short h out e l =
    let few = lt-ltb (length out) (header_length h) l in
    (rw (e, few), rw (e, few))

pub done : (h : Header) (out : List ℕ) → header_fits h ≡ true → header_length h ≤ length out
    → (written h (length out) ≡ Ok (header_length h)) × (written_out h out ≡ header_bytes h ++ drop (header_length h) out)
unfolding written written_out
done h out e l =
    let enough = le-ltb (length out) (header_length h) l in
    (rw (e, enough), rw (e, enough))

-- the BTH written, and then the headers after it
pub two-parts : (h : Header) (out : List ℕ) → header_fits h ≡ true → header_length h ≤ length out
    → store (store out 0 (bth_bytes h.bth)) 12 (extension_bytes h.extension) ≡ header_bytes h ++ drop (header_length h) out
unfolding header_bytes
two-parts h out e l =
    let b = bth_bytes h.bth in
    let x = extension_bytes h.extension in
    let lb : 0 + length b ≡ 12 = omega (arith, length-bth h.bth) in
    let lx : header_length h ≡ 12 + length x = length-is h e in
    let both : 0 + length b + length x ≤ length out = omega arith in
    let joined : store (store out 0 b) 12 x ≡ store out 0 (b ++ x) =
    subst (λ n. store (store out 0 b) n x ≡ store out 0 (b ++ x)) lb (store-twice out 0 b x both) in
    let size : length (b ++ x) ≡ header_length h = length-header h e in
    let room : 0 + length (b ++ x) ≤ length out = omega arith in
    joined ∙ (store-overwrite out 0 (b ++ x) room ∙ (overwrite-start out (b ++ x) ∙ ap (λ n. (b ++ x) ++ drop n out) size))

-- what an answer of bytes written tells
pub record Written (h : Header) (out : List ℕ) (n : ℕ) : Type 0 where
  pub good : header_fits h ≡ true
  pub size : n ≡ header_length h
  pub room : header_length h ≤ length out

pub was-written : (h : Header) (out : List ℕ) (n : ℕ) → written h (length out) ≡ Ok n → Written h out n
was-written h out n e = go (header_fits h) (ltb (length out) (header_length h)) refl refl
  where
    go : (g s : Bool) → header_fits h ≡ g → ltb (length out) (header_length h) ≡ s → Written h out n
    go false s p q = let no : Err BadNumber ≡ Ok n = sym (refused h out p).0 ∙ e in absurd cc
    go true true p q =
        let no : Err OutputShort ≡ Ok n = sym (short h out p (ltb-true (length out) (header_length h) q)).0 ∙ e in
        absurd cc
    go true false p q =
        let room : header_length h ≤ length out = ltb-false (length out) (header_length h) q in
        let same : Ok (header_length h) ≡ Ok n = sym (done h out p room).0 ∙ e in
        record { good = p; size = cc; room = room }

-- the numbers
over : (h : Header) (n : ℕ) → header_fits h ≡ false → write_answer h n ≡ 39
unfolding write_answer
over h n e = rw e

lacking : (h : Header) (n : ℕ) → header_fits h ≡ true → n < header_length h → write_answer h n ≡ 35
unfolding write_answer
lacking h n e l = rw (e, lt-ltb n (header_length h) l)

pub fine : (h : Header) (n : ℕ) → header_fits h ≡ true → header_length h ≤ n → write_answer h n ≡ 0
unfolding write_answer
fine h n e l = rw (e, le-ltb n (header_length h) l)

pub refusal-numbers : RefusalNumbers
refusal-numbers = (refl, refl, refl)

pub write-numbers : WriteNumbers
unfolding written write_answer answer_number
write-numbers h n = go (header_fits h) (ltb n (header_length h))
  where
    go : (fits short : Bool) → answer_number (cond fits (cond short (Err OutputShort) (Ok (header_length h))) (Err BadNumber))
        ≡ cond fits (cond short 35 0) 39
    go false short = refl
    go true true = refl
    go true false = refl

-- an answer r that is a has the number k of a; and what else is promised with it
pub told : {A : Type 0} (number : A → ℕ) (r a : A) (k : ℕ) → number a ≡ k → r ≡ a → (r ≡ a) × (number r ≡ k)
told number r a k n e = (e, ap number e ∙ n)

pub numbered : {A B : Type 0} (r a : Result A Refusal) (k : ℕ) → answer_number a ≡ k → (r ≡ a) × B → (r ≡ a) × ((answer_number r ≡ k) × B)
numbered r a k n e = (e.0, (ap answer_number e.0 ∙ n, e.1))

-- what a `?` hands on is the refusal that it met
pub handed-on : {A : Type 0} (answer : Result A Refusal) (refusal : Refusal) → IsErrAnd answer (λ r. r ≡ refusal) → answer ≡ Err refusal
handed-on (Ok x) refusal h = absurd h
handed-on (Err r) refusal h = ap Err h

-- an answer whose number is not 0 is a refusal
pub refused-by : {A : Type 0} (answer : Result A Refusal) → (answer_number answer ≡ 0 → ⊥) → (refusal : Refusal) × (answer ≡ Err refusal)
unfolding answer_number
refused-by (Ok x) n = absurd (n refl)
refused-by (Err refusal) n = (refusal, refl)
