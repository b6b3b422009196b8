-- A decision that executes packet k keeps the two runs together, if it does what the plain run does.
use Prim.Native.Nat.{ℕ, suc, ◌+◌, ◌≤◌, ◌<◌}
use mathlib.Core.Path.{◌≡◌, refl, sym, subst}
use mathlib.Core.Bool.{Bool, true, false, cond}
use mathlib.Core.List.{List, [], ◌∷◌, ◌++◌, map}
use native.Mathlib.Omega.{arith}
use lib.Dec.{eqb}
use lib.ListN.{length, drop}
use borrow.Author.Tests.{eqb-true, eq-eqb, ne_eqb, le-leb}
use Rattle.lemmas.proofs.Auto.{tests}
use Rattle.sequence.specs.Sequence.{after, psn_after, msn_next}
use Rattle.table.specs.Table.{entry_slot}
use Rattle.table.specs.View.{in_ring}
use Rattle.table.specs.declared.Entry.{Entry}
use Rattle.pair.specs.Answer.{status_number}
use Rattle.pair.specs.declared.OpenMessage.{OpenMessage}
use Rattle.pair.specs.declared.Pair.{Pair}
use Rattle.responder_spec.specs.Apply.{pair_by, executed_pair, memory_by, msn_by, read_answer_by, entries_by, pair_by_number}
use Rattle.responder_spec.specs.Calls.{reports}
use Rattle.responder_spec.specs.declared.Decision.{Decision}
use Rattle.delivery_spec.specs.Stream.{Message, packet_count, Slot, slot, psn_count, number_along}
use Rattle.delivery_spec.specs.Plain.{Plain, completions_for, memory_after, is_read, held_now, waiting_now, is_last, slot_needs_entry, execute_with}
use Rattle.delivery_spec.specs.Demand.{Run, AllLongEnough, entry_of}
use Rattle.delivery_spec.proofs.Numbers.{along-suc}
use Rattle.delivery_steps.proofs.Chain.{Turn, further}
use Rattle.delivery_steps.proofs.Rel.{IsOf, Holding, OpenedFor, Link, step_by}

-- an answer from 0 to 3 is that of an executed packet
pub executed-by : (q : Pair) (d : Decision) → status_number d.status ≤ 3 → pair_by q d ≡ executed_pair q d
unfolding pair_by pair_by_number
executed-by q d h = rw (le-leb (status_number d.status) 3 h)

-- what stands open after packet k of S
pub opened-next : (S : List Slot) (k : ℕ) (u : OpenMessage) (held : List Entry) → Turn (slot S k) (slot S (suc k)) → (slot S k).index < packet_count (slot S k).message
    → (is_last (slot S k) ≡ true → (u.kind ≡ 255) × (held ≡ []))
    → (is_last (slot S k) ≡ false → IsOf (further (slot S k)) u × Holding (slot S k).message.request (length (slot S k).message.bytes) held)
    → OpenedFor (eqb (slot S (suc k)).index 0) (slot S (suc k)) u held
opened-next S k u held turn inside done more = go (is_last (slot S k)) refl
  where
    go : (b : Bool) → is_last (slot S k) ≡ b → OpenedFor (eqb (slot S (suc k)).index 0) (slot S (suc k)) u held
    go true e =
        let z : (slot S (suc k)).index ≡ 0 = turn.last (eqb-true (suc (slot S k).index) (packet_count (slot S k).message) e) in
        subst (λ b. OpenedFor b (slot S (suc k)) u held) (sym (eq-eqb (slot S (suc k)).index 0 z)) (done e)
    go false e =
        let l : suc (slot S k).index < packet_count (slot S k).message = omega (arith, tests) in
        subst (λ t. OpenedFor (eqb t.index 0) t u held) (sym (turn.more l))
        (subst (λ b. OpenedFor b (further (slot S k)) u held) (sym (ne_eqb (suc (slot S k).index) 0 (λ z. absurd (omega arith)))) (more e))

drop-long : (ms : List Message) (es : List Entry) → AllLongEnough ms es → AllLongEnough ms (drop 1 es)
drop-long ms [] h = h
drop-long ms (e ∷ es) h = h.1

module _ (ms : List Message) (S : List Slot) (p : Plain) (x : Run) (d : Decision) (b : List ℕ) where
  -- what the decision d has to do, the packet's bytes being b and its entry e
  pub record Does (e : Entry) : Type 0 where
    pub status : status_number d.status ≤ 3
    pub psns : d.progress.psns ≡ psn_count (slot S p.k)
    pub ends : d.progress.ends ≡ is_last (slot S p.k)
    pub reads : (read_answer_by d.reply x.whole.pair.read (msn_by d.progress.ends x.whole.pair.msn)).remaining ≡ cond (is_read (slot S p.k).message.request) (psn_count (slot S p.k)) p.r
    pub memory :
        memory_by d.change x.memory b
        ≡ memory_after (slot S p.k).message.request x.whole.regions (slot S p.k).message.connection.pmtu
        (slot S p.k).message.bytes (slot S p.k).index e p.memory
    pub completion :
        reports d.progress.completion
        ≡ cond (is_last (slot S p.k)) (completions_for (slot S p.k).message.request e (length (slot S p.k).message.bytes)) []
    pub entries :
        map entry_of (in_ring entry_slot x.whole.entries (entries_by d.progress.completion.some x.whole.pair.entries))
        ≡ cond (is_last (slot S p.k)) [] (held_now p (slot S p.k)) ++ waiting_now p (slot S p.k)
    pub opened : OpenedFor (eqb (slot S (suc p.k)).index 0) (slot S (suc p.k)) d.progress.message (cond (is_last (slot S p.k)) [] (held_now p (slot S p.k)))

  module _ (L : Link ms S p x) (lt : p.k < length S) (e : Entry) (D : Does e) where
    number-next : (psn_after p.expected (psn_count (slot S p.k))).0 ≡ after x.whole.pair.setup.start.0 (number_along S (suc p.k))
    number-next = omega (arith, L.number, along-suc S p.k lt)

    waiting-long : (n : Bool) → AllLongEnough ms (cond n (drop 1 p.waiting) p.waiting)
    waiting-long true = drop-long ms p.waiting L.long
    waiting-long false = L.long

    pub executes : Link ms S (execute_with x.whole.regions p (slot S p.k) e) (step_by x d b)
    unfolding execute_with executed_pair msn_by
    executes =
        subst
        (λ q. Link ms S (execute_with x.whole.regions p (slot S p.k) e) (record {
          whole = record
              { pair = q; regions = x.whole.regions; entries = x.whole.entries; saved = (step_by x d b).whole.saved };
          memory = (step_by x d b).memory;
          completions = (step_by x d b).completions;
        }))
        (sym (executed-by x.whole.pair d D.status))
        (record {
          ready = L.ready;
          expected = λ i. psn_after (L.expected i) (D.psns i);
          msn = λ i. cond (D.ends i) (msn_next (L.msn i)) (L.msn i);
          entries = D.entries;
          reads = D.reads;
          memory = D.memory;
          completions = λ i. L.completions i ++ D.completion i;
          within = lt;
          number = number-next;
          long = waiting-long (slot_needs_entry (slot S p.k));
          opened = D.opened;
        })
