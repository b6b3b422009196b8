-- Each of the three calls keeps the two runs together.
use Prim.Native.Nat.{ℕ, ◌+◌, ◌-◌, ◌<◌}
use mathlib.Core.Path.{◌≡◌, refl, sym, ap, subst, ◌∙◌}
use mathlib.Core.Bool.{Bool, true, false, cond, not, ◌||◌}
use mathlib.Core.List.{List, [], ◌∷◌, ◌++◌, append_assoc, map}
use native.Mathlib.Omega.{arith}
use lib.Dec.{leb, ltb, eqb}
use lib.ListN.{length, set, length-append}
use borrow.Author.Tests.{eqb-true, eq-eqb, leb-false}
use Rattle.header.specs.Check.{admitted}
use Rattle.table.specs.Table.{outside, entry_row, entry_slot}
use Rattle.table.specs.View.{in_ring, one_more}
use Rattle.table.proofs.Rings.{entry-ring}
use Rattle.table.specs.declared.Entry.{Entry}
use Rattle.pair.specs.Answer.{status_number, executed}
use Rattle.pair.specs.Pair.{moved}
use Rattle.pair.specs.Sound.{pair_unsound}
use Rattle.pair.specs.Host.{post_status, posted, post_entries}
use Rattle.pair.specs.Calls.{called}
use Rattle.pair.specs.declared.Status.{Status}
use Rattle.pair.specs.declared.Status.TheVariants as status
use Rattle.pair.proofs.Known.{sound}
use Rattle.request_spec.specs.Packet.{packet_of}
use Rattle.responder_spec.specs.Steady.{Steady}
use Rattle.responder_spec.specs.Decide.{no_reply, reads_full, inbound_refusal, or_drop, packet_decision, decision}
use Rattle.responder_spec.specs.Apply.{memory_by, acts_atomic, saved_by, pair_by, with, pair_by_number}
use Rattle.responder_spec.specs.Inbound.{left_by, inbound}
use Rattle.responder_spec.specs.Response.{next_status, one_fewer, next_response}
use Rattle.responder_spec.specs.Calls.{drained}
use Rattle.responder_spec.specs.declared.Decision.{Decision}
use Rattle.delivery_spec.specs.Stream.{Message, Slot, slot, packet_at}
use Rattle.delivery_spec.specs.Plain.{Plain, with_responses, with_waiting, deliver, plain_step}
use Rattle.delivery_spec.specs.Plain.Call.{Hand, Next, Post}
use Rattle.delivery_spec.specs.Demand.{handing, Run, step, LongEnough, AllLongEnough, Handed, Posted, entry_of}
use Rattle.delivery_steps.proofs.Chain.{Good}
use Rattle.delivery_steps.proofs.Cutting.{cut_packet, admits, is-packet}
use Rattle.delivery_steps.proofs.Rel.{Link, step_by, eased, eases}
use Rattle.delivery_steps.proofs.Entries.{count-is}
use Rattle.delivery_steps.proofs.Deliver.{arrives}

-- an entry at the end of a list
map_last : (rows : List (List ℕ)) (e : Entry) → map entry_of (rows ++ (entry_row e ∷ [])) ≡ map entry_of rows ++ (e ∷ [])
unfolding entry_row
map_last [] e = refl
map_last (row ∷ rows) e = ap (λ es. entry_of row ∷ es) (map_last rows e)

long-last : (ms : List Message) (es : List Entry) (e : Entry) → AllLongEnough ms es → LongEnough ms e → AllLongEnough ms (es ++ (e ∷ []))
long-last ms [] e h l = (l, tt)
long-last ms (y ∷ es) e h l = (h.0, long-last ms es e h.1 l)

module _ (ms : List Message) (S : List Slot) (p : Plain) (x : Run) (L : Link ms S p x) (Y : Steady x.whole)
    (G : Good x.whole.pair.setup x.whole.regions ms S) where
  unsound-no : pair_unsound x.whole.pair ≡ false
  unsound-no = sound x.whole.pair Y.pair

  abbrev deciding : ℕ → List ℕ → Decision
  deciding j out = decision (handing x (packet_at (slot S j)) out)

  hand-is : (j : ℕ) (out : List ℕ) → step S x (Hand j out) ≡ step_by x (deciding j out) (packet_at (slot S j))
  unfolding step inbound left_by
  hand-is j out = refl

  -- a refusal changes nothing
  short : (b : List ℕ) → Link ms S p (step_by x (no_reply status.OutputShort) b)
  unfolding no_reply status_number pair_by pair_by_number saved_by memory_by acts_atomic
  short b = eases L x.whole.pair.nakmark x.whole.pair.read p.r L.reads

  astray : (b : List ℕ) → Link ms S p (step_by x (no_reply status.OutOfRange) b)
  unfolding no_reply status_number pair_by pair_by_number saved_by memory_by acts_atomic
  astray b = eases L x.whole.pair.nakmark x.whole.pair.read p.r L.reads

  busy : (b : List ℕ) → Link ms S p (step_by x (no_reply status.ReadUnfinished) b)
  unfolding no_reply status_number pair_by pair_by_number saved_by memory_by acts_atomic
  busy b = eases L x.whole.pair.nakmark x.whole.pair.read p.r L.reads

  -- the refusals are those of the plain run
  abbrev refusal : Bool → Bool → Bool → Status
  refusal a b c = cond a status.OutputShort (cond (not b) status.OutOfRange (cond (not c) status.ReadUnfinished status.Executed))

  refusal_is : (out : List ℕ)
      → inbound_refusal x.whole.pair (length x.memory) (length out)
      ≡ refusal (ltb (length out) 24) (eqb (length p.memory) x.whole.pair.setup.memory) (eqb p.r 0)
  unfolding inbound_refusal reads_full
  refusal_is out =
      λ i.
      cond (ltb (length out) 24) status.OutputShort
      (cond (not (eqb (length (L.memory i)) x.whole.pair.setup.memory)) status.OutOfRange
      (cond (unsound-no i) status.OutOfRange (cond (not (eqb (L.reads i) 0)) status.ReadUnfinished status.Executed)))

  -- a packet of the stream passes the header checks
  permitted : (j : ℕ) → j < length S
      → or_drop (admitted x.whole.pair.setup.service x.whole.pair.setup.ours x.whole.pair.setup.pkey (eqb x.whole.pair.state 1) (packet_at (slot S j)))
      (λ h. packet_decision x.whole (packet_of h (length (packet_at (slot S j)))))
      ≡ packet_decision x.whole (cut_packet (slot S j))
  permitted j i =
      let H = G.stands j i in
      let f = Y.pair.setup.0 in
      rw (eq-eqb x.whole.pair.state 1 L.ready, admits x.whole.pair.setup f (slot S j) H.outgoing)
      (ap (packet_decision x.whole) (is-packet x.whole.pair.setup f (slot S j) H.outgoing))

  pub hand : x.whole.pair.setup.service ≡ 0 → (j : ℕ) (out : List ℕ) → Handed x.whole.pair.setup S p j out
      → Link ms S (plain_step x.whole.pair.setup x.whole.regions S p (Hand j out)) (step S x (Hand j out))
  unfolding decision executed status_number
  hand R j out D =
      subst (λ y. Link ms S (plain_step x.whole.pair.setup x.whole.regions S p (Hand j out)) y) (sym (hand-is j out))
      (subst (λ r. Link ms S (plain_step x.whole.pair.setup x.whole.regions S p (Hand j out)) (step_by x (by r) (packet_at (slot S j)))) (sym (refusal_is out))
      (go (ltb (length out) 24) (eqb (length p.memory) x.whole.pair.setup.memory) (eqb p.r 0) refl refl refl))
    where
      by : Status → Decision
      by r =
          cond (executed r)
          (or_drop (admitted x.whole.pair.setup.service x.whole.pair.setup.ours x.whole.pair.setup.pkey (eqb x.whole.pair.state 1) (packet_at (slot S j)))
          (λ h. packet_decision x.whole (packet_of h (length (packet_at (slot S j))))))
          (no_reply r)

      go : (a b c : Bool) → ltb (length out) 24 ≡ a → eqb (length p.memory) x.whole.pair.setup.memory ≡ b → eqb p.r 0 ≡ c
          → Link ms S (cond (a || (not b || not c)) p (deliver x.whole.regions S p j)) (step_by x (by (refusal a b c)) (packet_at (slot S j)))
      go true b c e f g = short (packet_at (slot S j))
      go false false c e f g = astray (packet_at (slot S j))
      go false true false e f g = busy (packet_at (slot S j))
      go false true true e f g =
          let m = eqb-true (length p.memory) x.whole.pair.setup.memory f in
          rw (permitted j D.inside)
          (arrives ms S p x L Y G j D.inside R m (D.near (λ i. e i || (not (f i) || not (g i)))))

  -- next response
  next-is : (out : List ℕ)
      → next_status x.whole.pair (length x.memory) (length out)
      ≡ cond (eqb p.r 0) status.WrongState
      (cond (ltb (length out) (16 + x.whole.pair.setup.pmtu)) status.OutputShort
      (cond (not (eqb (length p.memory) x.whole.pair.setup.memory)) status.OutOfRange status.Executed))
  unfolding next_status
  next-is out =
      λ i.
      cond (eqb (L.reads i) 0) status.WrongState
      (cond (ltb (length out) (16 + x.whole.pair.setup.pmtu)) status.OutputShort
      (cond (not (eqb (length (L.memory i)) x.whole.pair.setup.memory)) status.OutOfRange
      (cond (unsound-no i) status.OutOfRange status.Executed)))

  pub next : (out : List ℕ) → Link ms S (plain_step x.whole.pair.setup x.whole.regions S p (Next out)) (step S x (Next out))
  unfolding step drained next_response executed status_number
  next out =
      subst (λ r. Link ms S (plain_step x.whole.pair.setup x.whole.regions S p (Next out)) (by r)) (sym (next-is out))
      (go (eqb p.r 0) (ltb (length out) (16 + x.whole.pair.setup.pmtu)) (eqb (length p.memory) x.whole.pair.setup.memory))
    where
      by : Status → Run
      by r =
          record {
            whole =
                record {
                  pair = cond (executed r) (with x.whole.pair x.whole.pair.state x.whole.pair.nakmark (one_fewer x.whole.pair.read)) x.whole.pair;
                  regions = x.whole.regions;
                  entries = x.whole.entries;
                  saved = x.whole.saved;
                };
            memory = x.memory;
            completions = x.completions ++ [];
          }

      same : Link ms S p (eased x x.whole.pair.nakmark x.whole.pair.read (x.completions ++ []))
      same = eases L x.whole.pair.nakmark x.whole.pair.read p.r L.reads

      go : (a b c : Bool)
          → Link ms S (cond (a || (b || not c)) p (with_responses p (p.r - 1)))
          (by (cond a status.WrongState (cond b status.OutputShort (cond (not c) status.OutOfRange status.Executed))))
      go true b c = same
      go false true c = same
      go false false false = same
      go false false true =
          eases L x.whole.pair.nakmark (one_fewer x.whole.pair.read) (p.r - 1) (ap (λ n. n - 1) L.reads)

  -- post entry
  post_is : (e : Entry)
      → post_status x.whole.pair e
      ≡ cond (ltb x.whole.pair.setup.memory (e.offset + e.length)) status.OutOfRange
      (cond (leb 16 (length p.held + length p.waiting)) status.TableFull status.Executed)
  unfolding post_status outside
  post_is e =
      let n : x.whole.pair.entries.count ≡ length p.held + length p.waiting =
      count-is x.whole.entries x.whole.pair.entries (p.held ++ p.waiting) L.entries ∙ length-append p.held p.waiting in
      λ i.
      cond (eqb (L.ready i) 2) status.WrongState
      (cond (unsound-no i) status.OutOfRange
      (cond (ltb x.whole.pair.setup.memory (e.offset + e.length)) status.OutOfRange (cond (leb 16 (n i)) status.TableFull status.Executed)))

  posts : (e : Entry) → length p.held + length p.waiting < 16 → LongEnough ms e
      → Link ms S (with_waiting p (p.waiting ++ (e ∷ [])))
      (record {
        whole =
            record {
              pair = moved x.whole.pair x.whole.pair.state (one_more x.whole.pair.entries);
              regions = x.whole.regions;
              entries = set x.whole.entries (entry_slot x.whole.pair.entries.head x.whole.pair.entries.count) (entry_row e);
              saved = x.whole.saved;
            };
        memory = x.memory;
        completions = x.completions;
      })
  posts e h l =
      let n : x.whole.pair.entries.count ≡ length p.held + length p.waiting =
      count-is x.whole.entries x.whole.pair.entries (p.held ++ p.waiting) L.entries ∙ length-append p.held p.waiting in
      record {
        ready = L.ready;
        expected = L.expected;
        msn = L.msn;
        entries =
            ap (map entry_of) (entry-ring.appends x.whole.entries x.whole.pair.entries (entry_row e) Y.entries.sized (omega arith))
            ∙ (map_last (in_ring entry_slot x.whole.entries x.whole.pair.entries) e
            ∙ (ap (λ es. es ++ (e ∷ [])) L.entries ∙ append_assoc p.held p.waiting (e ∷ [])));
        reads = L.reads;
        memory = L.memory;
        completions = L.completions;
        within = L.within;
        number = L.number;
        long = long-last ms p.waiting e L.long l;
        opened = L.opened;
      }

  pub post : (e : Entry) → Posted x.whole.pair.setup ms p e → Link ms S (plain_step x.whole.pair.setup x.whole.regions S p (Post e)) (step S x (Post e))
  unfolding step called posted post_entries executed status_number
  post e D =
      subst (λ r. Link ms S (plain_step x.whole.pair.setup x.whole.regions S p (Post e)) (by r)) (sym (post_is e))
      (go (ltb x.whole.pair.setup.memory (e.offset + e.length)) (leb 16 (length p.held + length p.waiting)) refl refl)
    where
      by : Status → Run
      by r =
          record {
            whole =
                record {
                  pair = cond (executed r) (moved x.whole.pair x.whole.pair.state (one_more x.whole.pair.entries)) x.whole.pair;
                  regions = x.whole.regions;
                  entries = cond (executed r) (set x.whole.entries (entry_slot x.whole.pair.entries.head x.whole.pair.entries.count) (entry_row e)) x.whole.entries;
                  saved = x.whole.saved;
                };
            memory = x.memory;
            completions = x.completions;
          }

      go : (a b : Bool) → ltb x.whole.pair.setup.memory (e.offset + e.length) ≡ a → leb 16 (length p.held + length p.waiting) ≡ b
          → Link ms S (cond (a || b) p (with_waiting p (p.waiting ++ (e ∷ [])))) (by (cond a status.OutOfRange (cond b status.TableFull status.Executed)))
      go true b f g = L
      go false true f g = L
      go false false f g =
          posts e (leb-false 16 (length p.held + length p.waiting) g) (D.long (λ i. f i || g i))
