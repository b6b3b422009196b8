-- Laws of bytes stored in memory.
use Rattle.std.proofs.Common.{◌≡◌, ℕ, ◌+◌, ◌-◌, ◌≤◌, Bool, true, false, cond, leb, List, [], ◌∷◌, ◌++◌, length, take, drop, sym, refl, ap, ◌∙◌, subst, append_assoc, arith, length-append, length-drop, take-append-drop, length-take, drop-drop, take_at, drop_at, le-leb, leb-true}
use lib.Seq.{drop-append-add}
use borrow.Author.Tests.{lt-leb}
use borrow.Rule.Slice.PartMut.{put_mid}
use Rattle.memory.specs.Memory.{overwrite, store}
use Rattle.memory.specs.Claims.{LengthKept, Found, BeforeKept, AfterKept, NothingOver}

-- what fits is stored
pub store-overwrite : (m : List ℕ) (at : ℕ) (d : List ℕ) → at + length d ≤ length m → store m at d ≡ overwrite m at d
unfolding store
store-overwrite m at d h = rw (le-leb (at + length d) (length m) h)

-- what does not fit is not
pub store-past : NothingOver
unfolding store
store-past m at d h = rw (lt-leb (at + length d) (length m) h)

-- the length is kept
pub length-overwrite : (m : List ℕ) (at : ℕ) (d : List ℕ) → at + length d ≤ length m → length (overwrite m at d) ≡ length m
unfolding overwrite
length-overwrite m at d h = simp (length-append, length-take, length-drop) (omega arith)

pub length-store : LengthKept
unfolding store
length-store m at d = go (leb (at + length d) (length m)) refl
  where
    go : (b : Bool) → leb (at + length d) (length m) ≡ b → length (cond b (overwrite m at d) m) ≡ length m
    go true e = length-overwrite m at d (leb-true (at + length d) (length m) e)
    go false e = refl

beside : (d e x : List ℕ) → overwrite (d ++ x) (length d) e ≡ (d ++ e) ++ drop (length e) x
unfolding overwrite
beside d e x = rw (take_at d x (length d) refl, drop-append-add d x (length e), append_assoc d e)

front : (m : List ℕ) (at : ℕ) (d : List ℕ) → at + length d ≤ length m → length (take at m) ≡ at
front m at d h = simp length-take (omega arith)

-- what was stored is there
pub store_found : Found
unfolding overwrite
store_found m at d h =
    let l : length (take at m) ≡ at = front m at d h in
    rw (store-overwrite m at d h, drop_at (take at m) (d ++ drop (at + length d) m) at l) (take_at d (drop (at + length d) m) (length d) refl)

-- and nothing else moved
pub store-before : BeforeKept
unfolding overwrite
store-before m at d h = rw (store-overwrite m at d h) (take_at (take at m) (d ++ drop (at + length d) m) at (front m at d h))

pub store-after : AfterKept
unfolding overwrite
store-after m at d h =
    let l : length (take at m ++ d) ≡ at + length d = simp (length-append, length-take) (omega arith) in
    let e : take at m ++ (d ++ drop (at + length d) m) ≡ (take at m ++ d) ++ drop (at + length d) m =
    sym (append_assoc (take at m) d (drop (at + length d) m)) in
    rw (store-overwrite m at d h, e) (drop_at (take at m ++ d) (drop (at + length d) m) (at + length d) l)

-- at the start of memory
pub overwrite-start : (m d : List ℕ) → overwrite m 0 d ≡ d ++ drop (length d) m
unfolding overwrite
overwrite-start m d =
    let e : 0 + length d ≡ length d = omega arith in
    ap (λ n. d ++ drop n m) e

-- two parts side by side are one
pub overwrite-twice : (m : List ℕ) (at : ℕ) (d e : List ℕ) → at ≤ length m
    → overwrite (overwrite m at d) (at + length d) e ≡ overwrite m at (d ++ e)
unfolding overwrite
overwrite-twice m at d e h =
    let P = take at m ++ d in
    let x = drop (at + length d) m in
    let l : length P ≡ at + length d = simp (length-append, length-take) (omega arith) in
    let first : overwrite m at d ≡ P ++ x = sym (append_assoc (take at m) d x) in
    let n : at + length d + length e ≡ at + length (d ++ e) = omega (arith, length-append d e) in
    let rest : drop (length e) x ≡ drop (at + length (d ++ e)) m = drop-drop (length e) (at + length d) m ∙ ap (λ k. drop k m) n in
    ap (λ z. overwrite z (at + length d) e) first
    ∙ (subst (λ k. overwrite (P ++ x) k e ≡ (P ++ e) ++ drop (length e) x) l (beside P e x)
    ∙ (ap (λ z. (P ++ e) ++ z) rest
    ∙ (ap (λ z. z ++ drop (at + length (d ++ e)) m) (append_assoc (take at m) d e)
    ∙ append_assoc (take at m) (d ++ e) (drop (at + length (d ++ e)) m))))

pub store-twice : (m : List ℕ) (at : ℕ) (d e : List ℕ) → at + length d + length e ≤ length m
    → store (store m at d) (at + length d) e ≡ store m at (d ++ e)
store-twice m at d e h =
    let one : store m at d ≡ overwrite m at d = store-overwrite m at d (omega arith) in
    let same : length (overwrite m at d) ≡ length m = length-overwrite m at d (omega arith) in
    let two : store (overwrite m at d) (at + length d) e ≡ overwrite (overwrite m at d) (at + length d) e = store-overwrite (overwrite m at d) (at + length d) e (omega arith) in
    let whole : at + length (d ++ e) ≤ length m = omega (arith, length-append d e) in
    ap (λ z. store z (at + length d) e) one ∙ (two ∙ (overwrite-twice m at d e (omega arith) ∙ sym (store-overwrite m at (d ++ e) whole)))

-- a part of memory that holds the bytes, put back, is the memory with the bytes over it
module _ (m d : List ℕ) (at e : ℕ) (l : at + length d ≡ e) where
  pub copied : put_mid at (e - at) m d ≡ overwrite m at d
  unfolding overwrite
  copied =
      let k : at + (e - at) ≡ at + length d = omega arith in
      ap (λ x. take at m ++ (d ++ x)) (drop-drop (e - at) at m ∙ ap (λ n. drop n m) k)

-- no bytes change nothing, wherever they go
pub overwrite-none : (m : List ℕ) (at : ℕ) (d : List ℕ) → length d ≡ 0 → overwrite m at d ≡ m
unfolding overwrite
overwrite-none m at [] e =
    let k : at + 0 ≡ at = omega arith in
    ap (λ n. take at m ++ drop n m) k ∙ take-append-drop at m
overwrite-none m at (b ∷ d) e = absurd (omega arith)

pub store-none : (m : List ℕ) (at : ℕ) (d : List ℕ) → length d ≡ 0 → store m at d ≡ m
unfolding store
store-none m at d e = go (leb (at + length d) (length m))
  where
    go : (b : Bool) → cond b (overwrite m at d) m ≡ m
    go true = overwrite-none m at d e
    go false = refl
