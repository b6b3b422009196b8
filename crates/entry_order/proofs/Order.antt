-- Each call keeps the entries in order, so every list of calls does.
use Prim.Native.Nat.{ℕ, zero, suc, ◌+◌, ◌-◌, ◌%◌, ◌≤◌, ◌<◌}
use mathlib.Core.Path.{◌≡◌, refl, sym, ap, ◌∙◌}
use mathlib.Core.Bool.{Bool, true, false, cond, true≢false}
use mathlib.Core.List.{List, [], ◌∷◌, ◌++◌, append-nil, append_assoc, map, map-append}
use native.Mathlib.Omega.{arith}
use lib.Dec.{eqb, leb}
use lib.ListN.{length, get_or, set, length-set}
use borrow.Author.Tests.{leb-false}
use Rattle.responder_spec.specs.Arrival.{arriving_at}
use Rattle.responder_spec.specs.Inbound.{inbound, left_by}
use Rattle.table.specs.Table.{entry_capacity, entry_slot, outside, entry_row}
use Rattle.table.specs.View.{ring_from, in_ring, one_more}
use Rattle.table.specs.declared.Ring.{Ring}
use Rattle.table.specs.declared.Entry.{Entry}
use Rattle.table.proofs.Rings.{entry-slots, entry-ring}
use Rattle.pair.specs.Answer.{status_number, executed}
use Rattle.pair.specs.Pair.{fresh_pair, blank_pair, moved}
use Rattle.pair.specs.Sound.{pair_unsound}
use Rattle.pair.specs.Host.{set_up_status, set_up, reset_status, reset_to, ready_status, made_ready, entry_count, post_status, posted, post_entries}
use Rattle.pair.specs.Calls.{HostCall, begun, called}
use Rattle.pair.specs.Calls.HostCall.{SetUp, Reset, MakeReady, AddRegion, RemoveRegion, PostEntry}
use Rattle.pair.specs.declared.Setup.{Setup}
use Rattle.pair.specs.declared.Pair.{Pair}
use Rattle.pair.specs.declared.Status.TheVariants.{Executed, TableFull, OutOfRange, WrongState}
use Rattle.pair.proofs.Begin.{reset-pair}
use Rattle.pair.proofs.Posting.{held-waiting}
use Rattle.responder_spec.specs.Calls.{drained, reports}
use Rattle.answer_laws.specs.Entries.{Uses}
use Rattle.responder_spec.specs.declared.Completion.{Completion}
use Rattle.answer_laws.proofs.Uses.{inbound-uses, next-uses}
use Rattle.entry_order.specs.Order.{AnyCall, History, new_history, goes, hosted, history_after, ran, PostingOrder, EntriesInOrder, SinceSetUp, SinceReset}
use Rattle.entry_order.specs.Order.AnyCall.{Host, Inbound, Next}

-- what is kept: the entries held and waiting are the rows of the ring, and the table has all its rows
record Kept (posted : List (List ℕ)) (reported : List Completion) (rows : List (List ℕ)) (r : Ring) : Type 0 where
  sized : length rows ≡ entry_capacity
  completed : List (List ℕ)
  names : map (λ c. c.number) reported ≡ map (λ row. get_or row 0 0) completed
  order : posted ≡ completed ++ in_ring entry_slot rows r

abbrev Keeps : History → Type 0
Keeps x = Kept x.posted x.completions x.whole.entries x.whole.pair.entries

-- an empty ring
empty : (rows : List (List ℕ)) (r : Ring) → length rows ≡ entry_capacity → r.count ≡ 0 → Kept [] [] rows r
unfolding ring_from
empty rows r l z = record { sized = l; completed = []; names = refl; order = ap (ring_from entry_slot rows r.head 0) (sym z) }

-- the first row of a ring, and the rest
first : (rows : List (List ℕ)) (head n : ℕ) → head < entry_capacity → 1 ≤ n
    → ring_from entry_slot rows head 0 n ≡ get_or rows head [] ∷ in_ring entry_slot rows (record { head = (head + 1) % entry_capacity; count = n - 1 })
unfolding ring_from entry_slot
first rows head zero h s = absurd (omega arith)
first rows head (suc n) h s =
    let m : n ≡ suc n - 1 = omega arith in
    λ i.
    get_or rows (entry-slots.start head h i) []
    ∷ (sym (entry-ring.takes rows head n) ∙ ap (λ k. in_ring entry_slot rows (record { head = (head + 1) % entry_capacity; count = k })) m) i

-- a post that is accepted finds a row free
room : (q : Pair) (e : Entry) → executed (post_status q e) ≡ true → q.entries.count < entry_capacity
unfolding post_status executed status_number
room q e =
    go (eqb q.state 2) (pair_unsound q) (outside e.offset e.length q.setup.memory) (leb entry_capacity (entry_count q)) refl
  where
    go : (a b c d : Bool) → leb entry_capacity (entry_count q) ≡ d
        → executed (cond a WrongState (cond b OutOfRange (cond c OutOfRange (cond d TableFull Executed)))) ≡ true
        → q.entries.count < entry_capacity
    go true b c d z h = absurd (true≢false (sym h))
    go false true c d z h = absurd (true≢false (sym h))
    go false false true d z h = absurd (true≢false (sym h))
    go false false false true z h = absurd (true≢false (sym h))
    go false false false false z h = leb-false entry_capacity (entry_count q) z

-- neither a fresh pair nor the blank one has entries
none : (s : Setup) → (set_up s).pair.entries.count ≡ 0
unfolding set_up fresh_pair blank_pair
none s = go (executed (set_up_status s))
  where
    go : (b : Bool) → (cond b (fresh_pair s) blank_pair).entries.count ≡ 0
    go true = refl
    go false = refl

module _ (x : History) (k : Keeps x) where
  abbrev q : Pair
  q = x.whole.pair

  abbrev rows : List (List ℕ)
  rows = x.whole.entries

  -- nothing posted, nothing reported, the ring as it was
  same : (reported : List Completion) (new : Ring) → reported ≡ x.completions → new ≡ q.entries → Kept x.posted reported rows new
  same reported new n e =
      record {
        sized = k.sized;
        completed = k.completed;
        names = ap (map (λ c. c.number)) n ∙ k.names;
        order = k.order ∙ ap (λ r. k.completed ++ in_ring entry_slot rows r) (sym e);
      }

  -- an entry posted is the last that waits
  more : (row : List ℕ) → q.entries.count < entry_capacity
      → Kept (x.posted ++ (row ∷ [])) x.completions (set rows (entry_slot q.entries.head q.entries.count) row)
      (one_more q.entries)
  more row h =
      record {
        sized = length-set rows (entry_slot q.entries.head q.entries.count) row ∙ k.sized;
        completed = k.completed;
        names = k.names;
        order =
            ap (λ l. l ++ (row ∷ [])) k.order
            ∙ (append_assoc k.completed (in_ring entry_slot rows q.entries) (row ∷ [])
            ∙ ap (λ l. k.completed ++ l) (sym (entry-ring.appends rows q.entries row k.sized h)));
      }

  -- an entry completed is the first that was held or waited
  fewer : (c : Completion) (new : Ring) → Uses q.entries rows c new → c.some ≡ true
      → Kept x.posted (x.completions ++ (c ∷ [])) rows new
  fewer c new U s =
      let row = get_or rows q.entries.head [] in
      record {
        sized = k.sized;
        completed = k.completed ++ (row ∷ []);
        names =
            map-append (λ c. c.number) x.completions (c ∷ [])
            ∙ ((λ i. k.names i ++ (U.names s i ∷ [])) ∙ sym (map-append (λ row. get_or row 0 0) k.completed (row ∷ [])));
        order =
            k.order
            ∙ (ap (λ l. k.completed ++ l)
            (first rows q.entries.head q.entries.count (U.there s).0 (U.there s).1
            ∙ ap (λ r. row ∷ in_ring entry_slot rows r) (sym (U.moves s)))
            ∙ sym (append_assoc k.completed (row ∷ []) (in_ring entry_slot rows new)));
      }

  -- what a call of the responder reports
  reported : (c : Completion) (new : Ring) → Uses q.entries rows c new → Kept x.posted (x.completions ++ reports c) rows new
  reported c new U = go c.some refl
    where
      go : (b : Bool) → c.some ≡ b → Kept x.posted (x.completions ++ cond b (c ∷ []) []) rows new
      go true e = fewer c new U e
      go false e = same (x.completions ++ []) new (append-nil x.completions) (U.stays e)

  -- the calls of the host
  reset-keeps : Keeps (hosted x Reset)
  unfolding hosted called reset_to fresh_pair
  reset-keeps = go (executed (reset_status q)) refl
    where
      go : (b : Bool) → executed (reset_status q) ≡ b
          → Keeps (cond b (new_history (called x.whole Reset)) (goes x (called x.whole Reset)))
      go true e = empty rows _ k.sized (ap (λ b. (cond b (fresh_pair q.setup) q).entries.count) e)
      go false e = same _ _ refl (ap (λ b. (cond b (fresh_pair q.setup) q).entries) e)

  ready-keeps : Keeps (hosted x MakeReady)
  unfolding hosted called made_ready
  ready-keeps = same _ _ refl (go (executed (ready_status q)))
    where
      go : (b : Bool) → (cond b (moved q 1 q.entries) q).entries ≡ q.entries
      go true = refl
      go false = refl

  post-keeps : (e : Entry) → Keeps (hosted x (PostEntry e))
  unfolding hosted called posted post_entries
  post-keeps e = go (executed (post_status q e)) (room q e)
    where
      go : (b : Bool) → (b ≡ true → q.entries.count < entry_capacity)
          → Kept (cond b (x.posted ++ (entry_row e ∷ [])) x.posted) x.completions
          (cond b (set rows (entry_slot q.entries.head q.entries.count) (entry_row e)) rows)
          (cond b (moved q q.state (one_more q.entries)) q).entries
      go true h = more (entry_row e) (h refl)
      go false h = k

  hosted-keeps : (c : HostCall) → Keeps (hosted x c)
  unfolding hosted called begun
  hosted-keeps (SetUp s) = empty rows _ k.sized (none s)
  hosted-keeps Reset = reset-keeps
  hosted-keeps MakeReady = ready-keeps
  hosted-keeps (AddRegion r) = k
  hosted-keeps (RemoveRegion key) = k
  hosted-keeps (PostEntry e) = post-keeps e

  step_keeps : (c : AnyCall) → Keeps (history_after x c)
  unfolding history_after inbound left_by drained
  step_keeps (Host c) = hosted-keeps c
  step_keeps (Inbound m p out) = reported _ _ (inbound-uses (arriving_at x.whole m p out))
  step_keeps (Next m out) = reported _ _ (next-uses q rows m out)

all : (calls : List AnyCall) (x : History) → Keeps x → Keeps (ran x calls)
unfolding ran
all [] x k = k
all (c ∷ calls) x k = all calls (history_after x c) (step_keeps x k c)

in_order : (x : History) → Keeps x → PostingOrder x
in_order x k =
    record {
      completed = k.completed;
      reported = k.names;
      order = k.order ∙ ap (λ l. k.completed ++ l) (sym (held-waiting x.whole.pair x.whole.entries));
    }

pub entries-in-order : EntriesInOrder
entries-in-order w calls l z = in_order (ran (new_history w) calls) (all calls (new_history w) (empty w.entries w.pair.entries l z))

pub since-set-up : SinceSetUp
unfolding begun
since-set-up s regions entries saved calls l = entries-in-order (begun s regions entries saved) calls l (none s)

pub since-reset : SinceReset
unfolding called fresh_pair
since-reset w calls S l = entries-in-order (called w Reset) calls l (ap (λ q. q.entries.count) (reset-pair w.pair S))
