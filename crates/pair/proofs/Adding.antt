-- Regions added and removed: which answer the calls give, and what they leave.
use Prim.Native.Nat.{ℕ, ◌≤◌, ◌<◌}
use mathlib.Core.Path.{◌≡◌, refl, sym, ap, ◌∙◌}
use mathlib.Core.Bool.{Bool, true, false, true≢false}
use mathlib.Core.List.{List}
use mathlib.Core.Logic.{◌⊎◌, inl, inr}
use native.Mathlib.Omega.{arith}
use lib.Dec.{eqb, ltb, leb}
use lib.ListN.{set}
use borrow.Author.Tests.{lt-ltb, le-leb, lt-leb, eq-eqb, ne_eqb, ltb-true, ltb-false, leb-true, leb-false, eqb-true, eqb-false}
use Rattle.table.specs.Table.{region_outside, region_row, no_region, key_row, free_row}
use Rattle.table.specs.View.{region_of}
use Rattle.table.specs.Claims.{HasKey, RegionFits}
use Rattle.table.proofs.Regions.{first_one, region-tested, key-found, free-found, added, removed}
use Rattle.table.specs.declared.Region.{Region}
use Rattle.pair.specs.declared.Pair.{Pair}
use Rattle.pair.specs.declared.Status.{Status}
use Rattle.pair.specs.declared.Status.TheVariants as status
use Rattle.pair.specs.Answer.{status_number, executed}
use Rattle.pair.specs.Sound.{pair_unsound}
use Rattle.pair.specs.Host.{add_status, add_regions, remove_status, remove_regions}
use Rattle.pair.specs.Claims.{RemoveFirst, Sound, InUse, Full, AddError, AddRange, AddUsed, AddFull, AddDone, RemoveUnknown, RemoveDone}
use Rattle.pair.proofs.Known.{holds-true, either, kept, done, unsound, sound}

-- Add region
key-used : (key : ℕ) (rows : List (List ℕ)) → InUse key rows → key_row key rows < 16
key-used key rows (i, b, k) = go (ltb i (key_row key rows)) refl
  where
    go : (t : Bool) → ltb i (key_row key rows) ≡ t → key_row key rows < 16
    go true e = absurd ((key-found key rows).before i (ltb-true i (key_row key rows) e) k)
    go false e = omega (arith, ltb-false i (key_row key rows) e)

key-unused : (key : ℕ) (rows : List (List ℕ)) → (InUse key rows → ⊥) → key_row key rows ≡ 16
key-unused key rows h = go (ltb (key_row key rows) 16) refl
  where
    go : (t : Bool) → ltb (key_row key rows) 16 ≡ t → key_row key rows ≡ 16
    go true e =
        let b : key_row key rows < 16 = ltb-true (key_row key rows) 16 e in
        absurd (h (key_row key rows, b, (key-found key rows).found b))
    go false e = omega (arith, ltb-false (key_row key rows) 16 e, (key-found key rows).bound)

full-free : (rows : List (List ℕ)) → Full rows → 16 ≤ free_row rows
full-free rows h = go (leb 16 (free_row rows)) refl
  where
    go : (t : Bool) → leb 16 (free_row rows) ≡ t → 16 ≤ free_row rows
    go true e = leb-true 16 (free_row rows) e
    go false e =
        let b : free_row rows < 16 = leb-false 16 (free_row rows) e in
        absurd (h (free_row rows) b ((free-found rows).found b))

free-room : (rows : List (List ℕ)) → (Full rows → ⊥) → free_row rows < 16
free-room rows h = go (leb 16 (free_row rows)) refl
  where
    go : (t : Bool) → leb 16 (free_row rows) ≡ t → free_row rows < 16
    go true e = absurd (h (λ i b. (free-found rows).before i (omega (arith, leb-true 16 (free_row rows) e))))
    go false e = leb-false 16 (free_row rows) e

module _ (q : Pair) (rows : List (List ℕ)) (r : Region) where
  add-refused : (s : Status) → add_status q rows r ≡ s → executed s ≡ false
      → (status_number (add_status q rows r) ≡ status_number s) × (add_regions q rows r ≡ rows)
  unfolding add_regions
  add-refused s e h = (ap status_number e, kept (add_status q rows r) s _ rows e h)

  error-add : q.state ≡ 2 → add_status q rows r ≡ status.WrongState
  unfolding add_status
  error-add h = rw (eq-eqb q.state 2 h)

  range-add : (q.state ≡ 2 → ⊥) → (Sound q → ⊥) ⊎ (RegionFits q.setup.memory r → ⊥) → add_status q rows r ≡ status.OutOfRange
  unfolding add_status
  range-add h (inl u) = rw (ne_eqb q.state 2 h, unsound q u)
  range-add h (inr u) = rw (ne_eqb q.state 2 h, holds-true off (λ e. u ((region-tested q.setup.memory r).0 e))) (either (pair_unsound q))
    where
      off : Bool
      off = region_outside r.address r.length r.offset q.setup.memory

  module _ (h : q.state ≡ 2 → ⊥) (S : Sound q) (f : RegionFits q.setup.memory r) where
    used-add : key_row r.key rows < 16 → add_status q rows r ≡ status.KeyInUse
    unfolding add_status
    used-add u =
        rw (ne_eqb q.state 2 h, sound q S, (region-tested q.setup.memory r).1 f, lt-ltb (key_row r.key rows) 16 u)

    full-add : key_row r.key rows ≡ 16 → 16 ≤ free_row rows → add_status q rows r ≡ status.TableFull
    unfolding add_status
    full-add u v =
        rw (ne_eqb q.state 2 h, sound q S, (region-tested q.setup.memory r).1 f, u, le-leb 16 (free_row rows) v)

    pub done-add : key_row r.key rows ≡ 16 → free_row rows < 16 → add_status q rows r ≡ status.Executed
    unfolding add_status
    done-add u v =
        rw (ne_eqb q.state 2 h, sound q S, (region-tested q.setup.memory r).1 f, u, lt-leb 16 (free_row rows) v)

    pub added-regions : key_row r.key rows ≡ 16 → free_row rows < 16 → add_regions q rows r ≡ set rows (free_row rows) (region_row r)
    unfolding add_regions executed status_number
    added-regions u v = done (add_status q rows r) status.Executed (set rows (free_row rows) (region_row r)) rows (done-add u v) refl

pub add-error : AddError
unfolding executed status_number
add-error q rows r h = add-refused q rows r status.WrongState (error-add q rows r h) refl

pub add-range : AddRange
unfolding executed status_number
add-range q rows r h u = add-refused q rows r status.OutOfRange (range-add q rows r h u) refl

pub add-used : AddUsed
unfolding executed status_number
add-used q rows r (h, S, f) u = add-refused q rows r status.KeyInUse (used-add q rows r h S f (key-used r.key rows u)) refl

pub add-full : AddFull
unfolding executed status_number
add-full q rows r (h, S, f) u v =
    add-refused q rows r status.TableFull (full-add q rows r h S f (key-unused r.key rows u) (full-free rows v)) refl

pub add_done : AddDone
unfolding status_number
add_done q rows r (h, S, f) u v l =
    let k : key_row r.key rows ≡ 16 = key-unused r.key rows u in
    let m : free_row rows < 16 = free-room rows v in
    let e = added-regions q rows r h S f k m in
    let a = added rows r l f.some k m in (
      ap status_number (done-add q rows r h S f k m),
      ap (region_of r.key) e ∙ a.0,
      λ key ne. ap (region_of key) e ∙ a.1 key ne,
    )

-- Remove region
unknown-remove : (rows : List (List ℕ)) (key : ℕ) → key_row key rows ≡ 16 → remove_status rows key ≡ status.NoSuchKey
unfolding remove_status
unknown-remove rows key h = rw h

pub done-remove : (rows : List (List ℕ)) (key : ℕ) → key_row key rows < 16 → remove_status rows key ≡ status.Executed
unfolding remove_status
done-remove rows key h = rw (lt-leb 16 (key_row key rows) h)

pub remove-unknown : RemoveUnknown
unfolding remove_regions executed status_number
remove-unknown rows key h =
    let e = unknown-remove rows key (key-unused key rows h) in
    (ap status_number e, kept (remove_status rows key) status.NoSuchKey _ rows e refl)

removed-row : (rows : List (List ℕ)) (key : ℕ) → key_row key rows < 16 → remove_regions rows key ≡ set rows (key_row key rows) no_region
unfolding remove_regions executed status_number
removed-row rows key h = done (remove_status rows key) status.Executed (set rows (key_row key rows) no_region) rows (done-remove rows key h) refl

pub remove_first : RemoveFirst
unfolding status_number
remove_first rows key i h F =
    let same : key_row key rows ≡ i = first_one (HasKey key) rows (key_row key rows) i (key-found key rows) F in
    let b : key_row key rows < 16 = omega arith in
    (ap status_number (done-remove rows key b), removed-row rows key b ∙ ap (λ k. set rows k no_region) same)

pub remove-done : RemoveDone
unfolding remove_regions executed status_number
remove-done memory rows key S u =
    let b : key_row key rows < 16 = key-used key rows u in
    let e = done-remove rows key b in
    let n = removed-row rows key b in
    let a = removed memory rows key S b in
    (ap status_number e, ap (region_of key) n ∙ a.0, λ other ne. ap (region_of other) n ∙ a.1 other ne)

-- what a sound pair's table is after the call: the same, or with one row more
abbrev pub AddEither : Pair → List (List ℕ) → Region → Type 0
AddEither q rows r =
    (add_regions q rows r ≡ rows)
    ⊎ (RegionFits q.setup.memory r × (key_row r.key rows ≡ 16) × (free_row rows < 16) × (add_regions q rows r ≡ set rows (free_row rows) (region_row r)))

pub add-either : (q : Pair) (rows : List (List ℕ)) (r : Region) → Sound q
    → AddEither q rows r
unfolding executed status_number
add-either q rows r S = one (eqb q.state 2) refl (region_outside r.address r.length r.offset q.setup.memory) refl
  where
    two : (q.state ≡ 2 → ⊥) → RegionFits q.setup.memory r → (c : Bool) → ltb (key_row r.key rows) 16 ≡ c → (d : Bool) → leb 16 (free_row rows) ≡ d
        → AddEither q rows r
    two h f true x d y = inl (add-refused q rows r status.KeyInUse (used-add q rows r h S f (ltb-true (key_row r.key rows) 16 x)) refl).1
    two h f false x true y =
        let k : key_row r.key rows ≡ 16 = omega (arith, ltb-false (key_row r.key rows) 16 x, (key-found r.key rows).bound) in
        inl (add-refused q rows r status.TableFull (full-add q rows r h S f k (leb-true 16 (free_row rows) y)) refl).1
    two h f false x false y =
        let k : key_row r.key rows ≡ 16 = omega (arith, ltb-false (key_row r.key rows) 16 x, (key-found r.key rows).bound) in
        let m : free_row rows < 16 = leb-false 16 (free_row rows) y in
        inr (f, k, m, added-regions q rows r h S f k m)

    one : (a : Bool) → eqb q.state 2 ≡ a → (b : Bool) → region_outside r.address r.length r.offset q.setup.memory ≡ b
        → AddEither q rows r
    one true x b y = inl (add-error q rows r (eqb-true q.state 2 x)).1
    one false x true y = inl (add-range q rows r (eqb-false q.state 2 x) (inr (λ f. true≢false (sym y ∙ (region-tested q.setup.memory r).1 f)))).1
    one false x false y =
        two (eqb-false q.state 2 x) ((region-tested q.setup.memory r).0 y) (ltb (key_row r.key rows) 16) refl (leb 16 (free_row rows)) refl
