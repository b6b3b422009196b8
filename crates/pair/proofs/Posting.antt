-- Entries posted: which answer the call gives, and what it leaves.
use Prim.Native.Nat.{ℕ, suc, ◌+◌, ◌-◌, ◌≤◌, ◌<◌}
use mathlib.Core.Path.{◌≡◌, refl, sym, ap, subst, ◌∙◌}
use mathlib.Core.Bool.{Bool, true, false, cond, true≢false}
use mathlib.Core.List.{List, [], ◌∷◌, ◌++◌}
use mathlib.Core.Logic.{◌⊎◌, inl, inr}
use native.Mathlib.Omega.{arith}
use lib.Dec.{eqb, leb}
use lib.ListN.{length, set, take, drop, length-append, take-append-drop}
use lib.Seq.{take-append-le, drop-append-le}
use borrow.Author.Tests.{lt-leb, eq-eqb, ne_eqb, leb-true, leb-false, eqb-true, eqb-false}
use Rattle.lemmas.proofs.Auto.{tests}
use Rattle.pmtu.specs.Claims.{IsPmtu}
use Rattle.table.specs.Table.{entry_capacity, entry_slot, outside, entry_row}
use Rattle.table.specs.View.{ring_from, one_more}
use Rattle.table.specs.Claims.{EntryFits}
use Rattle.table.proofs.Rings.{entry-ring, ring-length}
use Rattle.table.proofs.Regions.{entry-tested}
use Rattle.table.specs.declared.Entry.{Entry}
use Rattle.pair.specs.declared.Pair.{Pair}
use Rattle.pair.specs.declared.Status.{Status}
use Rattle.pair.specs.declared.Status.TheVariants as status
use Rattle.pair.specs.Answer.{status_number, executed}
use Rattle.pair.specs.Pair.{blank_pair, fresh_pair, moved}
use Rattle.pair.specs.Sound.{pair_unsound}
use Rattle.pair.specs.Host.{entry_count, entries_full, post_status, posted, post_entries}
use Rattle.pair.specs.View.{held_of, waiting_of, entries_of}
use Rattle.pair.specs.Claims.{Unmoved, HeldFirst, HeldNone, BlankUnsound, IsBlank, SetupSound, MessageSound, Sound, PostError, PostRange, PostFull, PostDone, HeldWaiting, BlankRefused}
use Rattle.pair.proofs.Known.{unmoved, holds-true, either, kept, done, unsound, sound}
use Rattle.pair.proofs.Begin.{reset-never, ready-wrong}
use Rattle.pair.proofs.Adding.{add-error}

-- Post entry
pub held-waiting : HeldWaiting
unfolding held_of waiting_of
held-waiting q rows = go (eqb q.message.kind 0)
  where
    go : (t : Bool) → cond t (take 1 (entries_of q rows)) [] ++ cond t (drop 1 (entries_of q rows)) (entries_of q rows) ≡ entries_of q rows
    go true = take-append-drop 1 (entries_of q rows)
    go false = refl

pub held_none : HeldNone
unfolding held_of
held_none q rows h = rw (ne_eqb q.message.kind 0 h)

-- so they are those that the ring counts
counted : (q : Pair) (rows : List (List ℕ)) → length (held_of q rows) + length (waiting_of q rows) ≡ q.entries.count
counted q rows =
    sym (length-append (held_of q rows) (waiting_of q rows))
    ∙ (ap length (held-waiting q rows) ∙ ring-length entry_slot rows q.entries.head 0 q.entries.count)

-- a SEND that is open holds an entry
pub held-some : (q : Pair) → Sound q → q.message.kind ≡ 0 → 1 ≤ q.entries.count
held-some q S k = go S.message
  where
    go : MessageSound q → 1 ≤ q.entries.count
    go (inl e) = absurd (omega arith)
    go (inr (inl (e, some, stored))) = some
    go (inr (inr (e, a, b, c))) = absurd (omega arith)

pub held_first : HeldFirst
unfolding held_of ring_from
held_first q rows S k =
    let some : 1 ≤ q.entries.count = held-some q S k in
    let n : q.entries.count ≡ suc (q.entries.count - 1) = omega arith in
    rw (eq-eqb q.message.kind 0 k) (ap (λ c. take 1 (ring_from entry_slot rows q.entries.head 0 c)) n)

module _ (q : Pair) (rows : List (List ℕ)) (e : Entry) where
  post-refused : (s : Status) → post_status q e ≡ s → executed s ≡ false
      → ((status_number (posted q e).status ≡ status_number s) × ((posted q e).pair ≡ q)) × (post_entries q rows e ≡ rows)
  unfolding posted post_entries
  post-refused s d h = (
    (ap status_number d, kept (post_status q e) s _ q d h),
    kept (post_status q e) s _ rows d h,
  )

  error-post : q.state ≡ 2 → post_status q e ≡ status.WrongState
  unfolding post_status
  error-post h = rw (eq-eqb q.state 2 h)

  range-post : (q.state ≡ 2 → ⊥) → (Sound q → ⊥) ⊎ (EntryFits q.setup.memory e → ⊥) → post_status q e ≡ status.OutOfRange
  unfolding post_status
  range-post h (inl u) = rw (ne_eqb q.state 2 h, unsound q u)
  range-post h (inr u) =
      rw (ne_eqb q.state 2 h, holds-true (outside e.offset e.length q.setup.memory) (λ d. u ((entry-tested q.setup.memory e).0 d)))
      (either (pair_unsound q))

  module _ (h : q.state ≡ 2 → ⊥) (S : Sound q) (f : EntryFits q.setup.memory e) where
    full-post : entry_capacity ≤ entry_count q → post_status q e ≡ status.TableFull
    unfolding post_status
    full-post n =
        rw (ne_eqb q.state 2 h, sound q S, (entry-tested q.setup.memory e).1 f, holds-true (entries_full q) (λ z. omega (arith, tests)))

    pub done-post : entry_count q < entry_capacity → post_status q e ≡ status.Executed
    unfolding post_status
    done-post n =
        rw (ne_eqb q.state 2 h, sound q S, (entry-tested q.setup.memory e).1 f, lt-leb entry_capacity (entry_count q) n)

    pub posted-pair : entry_count q < entry_capacity → (posted q e).pair ≡ moved q q.state (one_more q.entries)
    unfolding posted executed status_number
    posted-pair n = done (post_status q e) status.Executed (moved q q.state (one_more q.entries)) q (done-post n) refl

    pub posted-entries : entry_count q < entry_capacity
        → post_entries q rows e ≡ set rows (entry_slot q.entries.head q.entries.count) (entry_row e)
    unfolding post_entries executed status_number
    posted-entries n =
        done (post_status q e) status.Executed (set rows (entry_slot q.entries.head q.entries.count) (entry_row e)) rows (done-post n) refl

  -- the lists, by those of the ring
  abbrev after : Pair
  after = moved q q.state (one_more q.entries)

  abbrev stored : List (List ℕ)
  stored = set rows (entry_slot q.entries.head q.entries.count) (entry_row e)

  module _ (S : Sound q) (n : q.entries.count < entry_capacity) (l : length rows ≡ entry_capacity) where
    more : entries_of after stored ≡ entries_of q rows ++ (entry_row e ∷ [])
    more = entry-ring.appends rows q.entries (entry_row e) l n

    first : q.message.kind ≡ 0 → 1 ≤ length (entries_of q rows)
    first k = omega (arith, ring-length entry_slot rows q.entries.head 0 q.entries.count, held-some q S k)

    waiting-more : waiting_of after stored ≡ waiting_of q rows ++ (entry_row e ∷ [])
    unfolding waiting_of
    waiting-more = go (eqb q.message.kind 0) refl
      where
        go : (t : Bool) → eqb q.message.kind 0 ≡ t
            → cond t (drop 1 (entries_of after stored)) (entries_of after stored) ≡ cond t (drop 1 (entries_of q rows)) (entries_of q rows) ++ (entry_row e ∷ [])
        go true d = ap (drop 1) more ∙ drop-append-le 1 (entries_of q rows) (entry_row e ∷ []) (first (eqb-true q.message.kind 0 d))
        go false d = more

    held_same : held_of after stored ≡ held_of q rows
    unfolding held_of
    held_same = go (eqb q.message.kind 0) refl
      where
        go : (t : Bool) → eqb q.message.kind 0 ≡ t → cond t (take 1 (entries_of after stored)) [] ≡ cond t (take 1 (entries_of q rows)) []
        go true d = ap (take 1) more ∙ take-append-le 1 (entries_of q rows) (entry_row e ∷ []) (first (eqb-true q.message.kind 0 d))
        go false d = refl

pub post-error : PostError
unfolding executed status_number
post-error q rows e h = post-refused q rows e status.WrongState (error-post q rows e h) refl

pub post-range : PostRange
unfolding executed status_number
post-range q rows e h u = post-refused q rows e status.OutOfRange (range-post q rows e h u) refl

pub post-full : PostFull
unfolding executed status_number
post-full q rows e (h, S, f) n =
    post-refused q rows e status.TableFull (full-post q rows e h S f (omega (arith, counted q rows))) refl

pub post-done : PostDone
unfolding posted status_number
post-done q rows e (h, S, f) m l =
    let n : q.entries.count < entry_capacity = omega (arith, counted q rows) in
    let p = posted-pair q rows e h S f n in
    let t = posted-entries q rows e h S f n in
    record {
      number = ap status_number (done-post q rows e h S f n);
      state = ap (λ x. x.state) p;
      unmoved = subst (Unmoved q) (sym p) (unmoved q q.state (one_more q.entries) refl);
      waiting = ap (λ x. waiting_of x (post_entries q rows e)) p ∙ (ap (waiting_of (after q rows e)) t ∙ waiting-more q rows e S n (omega arith));
      held = ap (λ x. held_of x (post_entries q rows e)) p ∙ (ap (held_of (after q rows e)) t ∙ held_same q rows e S n (omega arith));
    }

-- what a sound pair and its entries are after the call: the same, or with one entry more
abbrev pub PostEither : Pair → List (List ℕ) → Entry → Type 0
PostEither q rows e =
    (((posted q e).pair ≡ q) × (post_entries q rows e ≡ rows))
    ⊎ (EntryFits q.setup.memory e
    × (q.entries.count < entry_capacity)
    × ((posted q e).pair ≡ moved q q.state (one_more q.entries))
    × (post_entries q rows e ≡ set rows (entry_slot q.entries.head q.entries.count) (entry_row e)))

pub post-either : (q : Pair) (rows : List (List ℕ)) (e : Entry) → Sound q
    → PostEither q rows e
unfolding executed status_number
post-either q rows e S =
    go (eqb q.state 2) refl (outside e.offset e.length q.setup.memory) refl (leb entry_capacity (entry_count q)) refl
  where
    same : (n : ℕ) → ((status_number (posted q e).status ≡ n) × ((posted q e).pair ≡ q)) × (post_entries q rows e ≡ rows)
        → PostEither q rows e
    same n ((a, b), c) = inl (b, c)

    go : (a : Bool) → eqb q.state 2 ≡ a → (b : Bool) → outside e.offset e.length q.setup.memory ≡ b
        → (c : Bool) → leb entry_capacity (entry_count q) ≡ c
        → PostEither q rows e
    go true x b y c z = same 36 (post-error q rows e (eqb-true q.state 2 x))
    go false x true y c z =
        same 34 (post-range q rows e (eqb-false q.state 2 x) (inr (λ f. true≢false (sym y ∙ (entry-tested q.setup.memory e).1 f))))
    go false x false y true z =
        same 33
        (post-refused q rows e status.TableFull
        (full-post q rows e (eqb-false q.state 2 x) S ((entry-tested q.setup.memory e).0 y) (leb-true entry_capacity (entry_count q) z)) refl)
    go false x false y false z =
        let h = eqb-false q.state 2 x in
        let f : EntryFits q.setup.memory e = (entry-tested q.setup.memory e).0 y in
        let n : q.entries.count < entry_capacity = leb-false entry_capacity (entry_count q) z in
        inr (f, n, posted-pair q rows e h S f n, posted-entries q rows e h S f n)

-- The blank pair
unset : SetupSound blank_pair.setup → ⊥
unfolding blank_pair
unset (f, h) = go f.pmtu
  where
    go : IsPmtu 0 → ⊥
    go (inl e) = omega arith
    go (inr (inl e)) = omega arith
    go (inr (inr (inl e))) = omega arith
    go (inr (inr (inr (inl e)))) = omega arith
    go (inr (inr (inr (inr e)))) = omega arith

pub is-blank : IsBlank
unfolding blank_pair fresh_pair
is-blank =
    record {
      numbers = (refl, refl, refl, refl, refl);
      start = (refl, refl, refl);
      functions = (refl, refl, refl, refl);
      state = refl;
      rest = record { setup = refl; state = refl; expected = refl; msn = refl; nakmark = refl; message = refl; entries = refl; read = refl; saved = refl };
    }

pub blank-unsound : BlankUnsound
blank-unsound S = unset S.setup

pub blank-refused : BlankRefused
unfolding blank_pair
blank-refused rows r e = (
  (reset-never blank_pair rows unset).0,
  ready-wrong blank_pair (λ z. omega arith),
  add-error blank_pair rows r refl,
  post-error blank_pair rows e refl,
)
