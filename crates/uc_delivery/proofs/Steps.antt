-- A packet of the message, before a pair where it follows: the decision, and the run that it leaves.
use Prim.Native.Nat.{ℕ, ◌+◌}
use mathlib.Core.Path.{◌≡◌, ap, ◌∙◌}
use mathlib.Core.Bool.{Bool, true, false}
use mathlib.Core.List.{List, ◌++◌}
use borrow.Author.Tests.{eq-eqb}
use Rattle.sequence.specs.Sequence.{distance, psn_after}
use Rattle.sequence.specs.declared.Psn.{Psn}
use Rattle.sequence.specs.declared.Msn.{Msn}
use Rattle.table.specs.declared.Ring.{Ring}
use Rattle.pair.specs.Answer.{status_number}
use Rattle.pair.specs.Calls.{Whole}
use Rattle.pair.specs.declared.Setup.{Setup}
use Rattle.pair.specs.declared.OpenMessage.{OpenMessage}
use Rattle.pair.specs.declared.Pair.{Pair}
use Rattle.cut_spec.specs.Claims.{kind_number}
use Rattle.request_spec.specs.Verdict.{carrying, current, request_check}
use Rattle.request_spec.specs.declared.Packet.{Packet}
use Rattle.responder_spec.specs.Decide.{decision, packet_decision, head_entry, region_for, orphaned, strays, closed_by, store_payload, uc_execute, uc_checked_decision, uc_decision}
use Rattle.responder_spec.specs.Apply.{executed_pair, pair_by, memory_by, saved_by, saved_ring_by, entries_by, msn_by, read_answer_by, acts_atomic, pair_by_number}
use Rattle.answer_laws.specs.Answers.{Willing}
use Rattle.responder_spec.specs.Calls.{reports}
use Rattle.responder_spec.specs.Inbound.{inbound, left_by}
use Rattle.responder_spec.specs.declared.Completion.{Completion}
use Rattle.responder_spec.specs.declared.Decision.{Decision}
use Rattle.answer_laws.proofs.Answers.{goes}
use Rattle.decision_laws.proofs.Views.{number-taken}
use Rattle.delivery_spec.specs.Stream.{Slot, packet_at}
use Rattle.delivery_spec.specs.Demand.{handing, Run, taken}
use Rattle.delivery_steps.proofs.Chain.{Sent}
use Rattle.delivery_steps.proofs.Rel.{step_by}
use Rattle.delivery_steps.proofs.Cutting.{cut_packet, admits, is-packet}

-- Not refused, the header checks passed: the rules of the unreliable connection decide
module _ (x : Run) (out : List ℕ) (t : Slot) (W : Willing (handing x (packet_at t) out)) (uc : x.whole.pair.setup.service ≡ 1) (ready : x.whole.pair.state ≡ 1)
    (H : Sent x.whole.pair.setup t) where
  abbrev q : Pair
  q = x.whole.pair

  abbrev pub region_at : OpenMessage → List ℕ
  region_at u = region_for (kind_number t.message.request) u.key x.whole.regions

  pub decided-is : decision (handing x (packet_at t) out)
      ≡ uc_decision (cut_packet t) q.setup q.expected q.message q.entries.count (head_entry q x.whole.entries) (region_at (current q.message (cut_packet t)))
  unfolding decision packet_decision
  decided-is =
      let f = W.sound.setup.0 in
      rw (goes (handing x (packet_at t) out) W, eq-eqb q.state 1 ready, admits q.setup f t H)
      (ap (packet_decision x.whole) (is-packet q.setup f t H)
      ∙ rw (eq-eqb q.setup.service 1 uc))

pub taken_is : (x : Run) (p out : List ℕ) (d : Decision)
    → decision (handing x p out) ≡ d
    → taken x p out ≡ step_by x d p
unfolding inbound left_by
taken_is x p out d e = ap (λ c. step_by x c p) e

-- The run of w, with what a SEND or WRITE moves
abbrev pub at : Whole → Psn → Msn → Bool → OpenMessage → Ring → List ℕ → List Completion → Run
at w expected msn nakmark message entries memory completions =
    record {
      whole =
          record {
            pair =
                record {
                  setup = w.pair.setup;
                  state = w.pair.state;
                  expected = expected;
                  msn = msn;
                  nakmark = nakmark;
                  message = message;
                  entries = entries;
                  read = w.pair.read;
                  saved = w.pair.saved;
                };
            regions = w.regions;
            entries = w.entries;
            saved = w.saved;
          };
      memory = memory;
      completions = completions;
    }

-- a payload stored, and no answer sent
pub stored-out : (w : Whole) (e : Psn) (n : Msn) (b : Bool) (u : OpenMessage) (r : Ring) (m : List ℕ) (cs : List Completion)
    (p : List ℕ) (k : Packet) (t : OpenMessage) (entry region : List ℕ)
    → let d = store_payload false (1 + distance k.psn.0 e.0) k t entry region in
    step_by (at w e n b u r m cs) d p
    ≡ at w (psn_after k.psn 1) (msn_by d.progress.ends n) false d.progress.message (entries_by d.progress.completion.some r) (memory_by d.change m p) (cs ++ reports d.progress.completion)
unfolding pair_by pair_by_number status_number executed_pair store_payload read_answer_by saved_ring_by saved_by acts_atomic memory_by
stored-out w e n b u r m cs p k t entry region =
    let d = store_payload false (1 + distance k.psn.0 e.0) k t entry region in
    ap
    (λ x. at w x (msn_by d.progress.ends n) false d.progress.message (entries_by d.progress.completion.some r)
    (memory_by d.change m p) (cs ++ reports d.progress.completion))
    (number-taken k.psn e)

-- what the rules decide of a SEND or WRITE that follows and passes the checks
pub delivers : (p : Packet) (s : Setup) (expected : Psn) (opened : OpenMessage) (count : ℕ) (entry region : List ℕ)
    → orphaned p.place opened.kind ≡ false
    → strays p expected opened.kind ≡ false
    → request_check s (closed_by p.place opened) p count entry region ≡ 0
    → carrying p.kind ≡ true
    → uc_decision p s expected opened count entry region
    ≡ store_payload false (1 + distance p.psn.0 expected.0) p (current opened p) entry region
unfolding uc_decision uc_checked_decision uc_execute
delivers p s expected opened count entry region o t z c = rw (o, t, z, c)
