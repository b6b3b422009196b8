-- A pair and its tables stay sound.
use Prim.Native.Nat.{ℕ, ◌≤◌, ◌<◌}
use mathlib.Core.Path.{◌≡◌, refl, sym, ap, subst}
use mathlib.Core.Bool.{Bool, true, false, cond}
use mathlib.Core.List.{List, [], ◌∷◌}
use mathlib.Core.Logic.{inl, inr}
use native.Mathlib.Omega.{arith}
use lib.Dec.{eqb}
use lib.ListN.{length, get_or, set, get_or-replicate}
use borrow.Author.Tests.{eqb-true, eqb-false}
use Rattle.table.specs.Table.{region_capacity, entry_capacity, saved_capacity, entry_slot, entry_row, no_region, key_row}
use Rattle.table.specs.View.{one_more}
use Rattle.table.specs.Claims.{EntryFits, HasKey, RegionsSound}
use Rattle.table.proofs.Rings.{entry-ring, posted-sound}
use Rattle.table.proofs.Regions.{added-sound, removed-sound, no_key}
use Rattle.table.specs.declared.Region.{Region}
use Rattle.table.specs.declared.Entry.{Entry}
use Rattle.pair.specs.declared.Setup.{Setup}
use Rattle.pair.specs.declared.Pair.{Pair}
use Rattle.pair.specs.Answer.{executed}
use Rattle.pair.specs.Pair.{fresh_pair, moved}
use Rattle.pair.specs.Host.{no_regions, set_up_regions, reset_regions, made_ready, add_regions, remove_status, remove_regions, posted, post_entries}
use Rattle.pair.specs.Calls.{changed, Whole, HostCall, begun, called, called_all}
use Rattle.pair.specs.Calls.HostCall.{SetUp, Reset, MakeReady, AddRegion, RemoveRegion, PostEntry}
use Rattle.pair.specs.Claims.{SetupSound, MessageSound, Sound, WholeSound, Accepted, BegunSound, CallsSound}
use Rattle.pair.proofs.Begin.{set-up-pair, set-up-regions, reset-pair, reset-regions, ready-wrong, ready-pair}
use Rattle.pair.proofs.Adding.{AddEither, add-either}
use Rattle.pair.proofs.Posting.{PostEither, post-either, held-some}

-- a fresh pair beside empty regions
empty-sound : (memory : ℕ) → RegionsSound memory no_regions
empty-sound memory =
    record {
      rows16 = refl;
      each = λ i h. inl (ap (λ x. get_or x 2 0) (get_or-replicate region_capacity i no_region [] h));
      once = λ i j key h k x y. absurd (no_key key (subst (HasKey key) (get_or-replicate region_capacity i no_region [] h) x));
    }

fresh-sound : (s : Setup) → SetupSound s → Sound (fresh_pair s)
unfolding fresh_pair
fresh-sound s (f, limit) =
    record {
      setup = (f, limit);
      state = omega arith;
      expected = f.start;
      msn = omega arith;
      entries = (omega arith, omega arith);
      saved = (omega arith, omega arith);
      message = inl refl;
      read = inl refl;
    }

fresh-whole : (s : Setup) (entries saved : List (List ℕ)) → SetupSound s → length entries ≡ entry_capacity → length saved ≡ saved_capacity
    → WholeSound (record { pair = fresh_pair s; regions = no_regions; entries = entries; saved = saved })
unfolding fresh_pair
fresh-whole s entries saved h e l =
    record {
      pair = fresh-sound s h;
      regions = empty-sound s.memory;
      entries = record { sized = e; each = λ i b. absurd (omega arith) };
      saved = record { sized = l; each = λ i b. absurd (omega arith) };
      held = λ z. absurd (omega arith);
    }

pub begun-sound : BegunSound
unfolding begun
begun-sound s regions entries saved h e l =
    subst (λ q. WholeSound (record { pair = q; regions = set_up_regions s regions; entries = entries; saved = saved })) (sym (set-up-pair s h))
    (subst (λ x. WholeSound (record { pair = fresh_pair s; regions = x; entries = entries; saved = saved })) (sym (set-up-regions s regions h))
    (fresh-whole s entries saved h e l))

reset-kept : (w : Whole) → WholeSound w → WholeSound (called w Reset)
unfolding called
reset-kept w W =
    let h = W.pair.setup in
    subst (λ q. WholeSound (changed w q (reset_regions w.pair w.regions) w.entries)) (sym (reset-pair w.pair h))
    (subst (λ x. WholeSound (changed w (fresh_pair w.pair.setup) x w.entries)) (sym (reset-regions w.pair w.regions h))
    (fresh-whole w.pair.setup w.entries w.saved h W.entries.sized W.saved.sized))

-- a sound pair that becomes Ready
ready-sound : (q : Pair) → Sound q → Sound (moved q 1 q.entries)
ready-sound q S =
    record {
      setup = S.setup;
      state = omega arith;
      expected = S.expected;
      msn = S.msn;
      entries = S.entries;
      saved = S.saved;
      message = S.message;
      read = S.read;
    }

ready-kept : (w : Whole) → WholeSound w → WholeSound (called w MakeReady)
unfolding called
ready-kept w W = go (eqb w.pair.state 0) refl
  where
    go : (t : Bool) → eqb w.pair.state 0 ≡ t
        → WholeSound (changed w (made_ready w.pair).pair w.regions w.entries)
    go true e =
        subst (λ q. WholeSound (changed w q w.regions w.entries)) (sym (ready-pair w.pair (eqb-true w.pair.state 0 e) W.pair))
        (record { pair = ready-sound w.pair W.pair; regions = W.regions; entries = W.entries; saved = W.saved; held = W.held })
    go false e =
        subst (λ q. WholeSound (changed w q w.regions w.entries)) (sym (ready-wrong w.pair (eqb-false w.pair.state 0 e)).1) W

with-regions : (w : Whole) (rows : List (List ℕ)) → WholeSound w → RegionsSound w.pair.setup.memory rows
    → WholeSound (changed w w.pair rows w.entries)
with-regions w rows W R = record { pair = W.pair; regions = R; entries = W.entries; saved = W.saved; held = W.held }

add_kept : (w : Whole) (r : Region) → WholeSound w → WholeSound (called w (AddRegion r))
unfolding called
add_kept w r W = with-regions w (add_regions w.pair w.regions r) W (go (add-either w.pair w.regions r W.pair))
  where
    go : AddEither w.pair w.regions r
        → RegionsSound w.pair.setup.memory (add_regions w.pair w.regions r)
    go (inl e) = subst (RegionsSound w.pair.setup.memory) (sym e) W.regions
    go (inr (f, k, m, e)) =
        subst (RegionsSound w.pair.setup.memory) (sym e) (added-sound w.pair.setup.memory w.regions r W.regions f k m)

remove-kept : (w : Whole) (key : ℕ) → WholeSound w → WholeSound (called w (RemoveRegion key))
unfolding called remove_regions
remove-kept w key W = with-regions w (remove_regions w.regions key) W (go (executed (remove_status w.regions key)))
  where
    go : (t : Bool) → RegionsSound w.pair.setup.memory (cond t (set w.regions (key_row key w.regions) no_region) w.regions)
    go true = removed-sound w.pair.setup.memory w.regions key W.regions
    go false = W.regions

-- a sound pair with an entry more
pub one-more-sound : (q : Pair) → Sound q → q.entries.count < entry_capacity → Sound (moved q q.state (one_more q.entries))
one-more-sound q S n =
    record {
      setup = S.setup;
      state = S.state;
      expected = S.expected;
      msn = S.msn;
      entries = (S.entries.0, omega arith);
      saved = S.saved;
      message = go S.message;
      read = S.read;
    }
  where
    go : MessageSound q → MessageSound (moved q q.state (one_more q.entries))
    go (inl e) = inl e
    go (inr (inl (e, some, stored))) = inr (inl (e, omega arith, stored))
    go (inr (inr e)) = inr (inr e)

-- post entry leaves pair and entries as they were, or with one entry more: what holds of both holds afterwards
pub post-cases : (q : Pair) (rows : List (List ℕ)) (e : Entry) (P : Pair → List (List ℕ) → Type 0) → Sound q → P q rows
    → (EntryFits q.setup.memory e → q.entries.count < entry_capacity → P (moved q q.state (one_more q.entries)) (set rows (entry_slot q.entries.head q.entries.count) (entry_row e)))
    → P (posted q e).pair (post_entries q rows e)
post-cases q rows e P S same more = go (post-either q rows e S)
  where
    go : PostEither q rows e → P (posted q e).pair (post_entries q rows e)
    go (inl (a, b)) = subst (λ x. P x (post_entries q rows e)) (sym a) (subst (P q) (sym b) same)
    go (inr (f, n, a, b)) = subst (λ x. P x (post_entries q rows e)) (sym a) (subst (P (moved q q.state (one_more q.entries))) (sym b) (more f n))

-- the entry held stays the same row
pub held_kept : (q : Pair) (rows : List (List ℕ)) (e : Entry) → Sound q → q.entries.count < entry_capacity → q.message.kind ≡ 0
    → q.message.stored ≤ get_or (get_or rows (entry_slot q.entries.head 0) []) 2 0
    → q.message.stored ≤ get_or (get_or (set rows (entry_slot q.entries.head q.entries.count) (entry_row e)) (entry_slot q.entries.head 0) []) 2 0
held_kept q rows e S n k h =
    subst (λ x. q.message.stored ≤ get_or x 2 0) (sym (entry-ring.keeps rows q.entries (entry_row e) 0 n (held-some q S k))) h

post-kept : (w : Whole) (e : Entry) → WholeSound w → WholeSound (called w (PostEntry e))
unfolding called
post-kept w e W =
    post-cases w.pair w.entries e (λ q rows. WholeSound (changed w q w.regions rows)) W.pair W
    (λ f n.
    record {
      pair = one-more-sound w.pair W.pair n;
      regions = W.regions;
      entries = posted-sound w.pair.setup.memory w.entries w.pair.entries e W.entries n f;
      saved = W.saved;
      held = λ k. held_kept w.pair w.entries e W.pair n k (W.held k);
    })

called-sound : (w : Whole) (c : HostCall) → Accepted c → WholeSound w → WholeSound (called w c)
unfolding called
called-sound w (SetUp s) h W = begun-sound s w.regions w.entries w.saved h W.entries.sized W.saved.sized
called-sound w Reset h W = reset-kept w W
called-sound w MakeReady h W = ready-kept w W
called-sound w (AddRegion r) h W = add_kept w r W
called-sound w (RemoveRegion key) h W = remove-kept w key W
called-sound w (PostEntry e) h W = post-kept w e W

pub calls-sound : CallsSound
unfolding called_all
calls-sound w [] h W = W
calls-sound w (c ∷ cs) (h, hs) W = calls-sound (called w c) cs hs (called-sound w c h W)
