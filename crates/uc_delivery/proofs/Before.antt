-- What came before the message: any bytes.
use Prim.Native.Nat.{ℕ, ◌+◌, ◌-◌, ◌%◌, ◌^◌, ◌<◌}
use mathlib.Core.Path.{◌≡◌, refl, sym, ap, subst, ◌∙◌}
use mathlib.Core.Bool.{true, false}
use mathlib.Core.List.{List, [], ◌∷◌}
use mathlib.Core.Logic.{◌⊎◌, inl, inr}
use native.Mathlib.Omega.{arith}
use lib.ListN.{get_or}
use borrow.Author.Tests.{eqb-false}
use Rattle.sequence.specs.Sequence.{psn_after}
use Rattle.sequence.specs.declared.Psn.{Psn}
use Rattle.header.specs.Bytes.{Bytes}
use Rattle.header.specs.Read.{bth_of, header_of}
use Rattle.pair.specs.Answer.{status_number}
use Rattle.pair.specs.Calls.{begun}
use Rattle.pair.proofs.Kept.{begun-sound, calls-sound}
use Rattle.request_spec.specs.Packet.{packet_of, packet_in}
use Rattle.responder_spec.specs.Decide.{decision, no_reply, store_payload}
use Rattle.responder_spec.specs.Apply.{executed_pair, pair_by, pair_by_number, read_answer_by}
use Rattle.responder_spec.specs.declared.Decision.{Decision}
use Rattle.decision_laws.proofs.Rows.Quiet.{dropped, short, range, unfinished}
use Rattle.decision_laws.proofs.Rows.UcRow.{unheard, abandon, deliver}
use Rattle.decision_laws.proofs.Rows.AnyRow.{reliable, unreliable}
use Rattle.decision_laws.proofs.Rows.{Quiet, UcRow, AnyRow, decided-row}
use Rattle.effect_laws.proofs.Sizes.{inbound-lengths}
use Rattle.decision_laws.proofs.Views.{number-taken}
use Rattle.sound_laws.proofs.Kept.{steady, inbound-steady, psn-below}
use Rattle.delivery_spec.specs.Stream.{Message}
use Rattle.delivery_steps.proofs.Rel.{step_by}
use Rattle.delivery_spec.specs.Demand.{handing, Run, taken, Addressed}
use Rattle.delivery_spec.proofs.Made.{all-idle, accepted, begun-idle}
use Rattle.uc_delivery.specs.Message.{StandsMade, Apart, Earlier, heard, AllBytes, Foreign, MayCome, MayComeOn, ApartOn, WholeAfter, PartAfter}
use Rattle.uc_delivery.proofs.Lost.{kind-open, handed-in-part}
use Rattle.uc_delivery.proofs.Whole.{handed-whole}
use Rattle.uc_delivery.proofs.Steps.{taken_is}

pub stands-made : StandsMade
stands-made s regions entries saved calls h uc e l none ready =
    let w = begun s regions entries saved in
    let I = all-idle s w calls none (begun-idle s regions entries saved h) in
    let S = calls-sound w calls (accepted calls none) (begun-sound s regions entries saved h e l) in
    (record { steady = steady _ S; unreliable = ap (λ t. t.service) I.setup ∙ uc; ready = ready; idle = I.read }, I.message)

module _ (x : Run) (p out : List ℕ) (uc : x.whole.pair.setup.service ≡ 1) where
  abbrev decides : Decision
  decides = decision (handing x p out)

  row : UcRow Quiet x.whole.pair (packet_in p) decides
  row = go (decided-row (handing x p out))
    where
      go : AnyRow Quiet x.whole (packet_in p) decides → UcRow Quiet x.whole.pair (packet_in p) decides
      go (reliable e r) = absurd (eqb-false x.whole.pair.setup.service 1 e uc)
      go (unreliable e r) = r

  -- set-up, state and READ stay; the open message and the number expected stay, or none is open, or the packet's number
  -- plus 1 is expected
  pub record Leaves (y : Run) : Type 0 where
    pub setup : y.whole.pair.setup ≡ x.whole.pair.setup
    pub state : y.whole.pair.state ≡ x.whole.pair.state
    pub read : y.whole.pair.read ≡ x.whole.pair.read
    pub next : ((y.whole.pair.message ≡ x.whole.pair.message) × (y.whole.pair.expected ≡ x.whole.pair.expected))
        ⊎ ((y.whole.pair.message.kind ≡ 255) ⊎ (y.whole.pair.expected ≡ psn_after (bth_of p).psn 1))

  leaves_by : (d : Decision) → UcRow Quiet x.whole.pair (packet_in p) d → Leaves (step_by x d p)
  unfolding pair_by pair_by_number status_number executed_pair no_reply store_payload read_answer_by packet_of header_of
  leaves_by d (unheard a dropped) = record { setup = refl; state = refl; read = refl; next = inl (refl, refl) }
  leaves_by d (unheard a short) = record { setup = refl; state = refl; read = refl; next = inl (refl, refl) }
  leaves_by d (unheard a range) = record { setup = refl; state = refl; read = refl; next = inl (refl, refl) }
  leaves_by d (unheard a unfinished) = record { setup = refl; state = refl; read = refl; next = inl (refl, refl) }
  leaves_by d (abandon h) = record { setup = refl; state = refl; read = refl; next = inr (inl refl) }
  leaves_by d (deliver t entry region w) =
      record { setup = refl; state = refl; read = refl; next = inr (inr (number-taken (bth_of p).psn x.whole.pair.expected)) }

  pub leaves : Leaves (taken x p out)
  leaves = subst Leaves (sym (taken_is x p out decides refl)) (leaves_by decides row)

comes-one : (outs : ℕ → List ℕ) (m : Message) (first : Psn) (x : Run) (p out : List ℕ) → Bytes p → MayCome outs m first x → MayCome outs m first (taken x p out)
comes-one outs m first x p out B K =
    let S = K.standing in
    let l = leaves x p out S.unreliable in
    record {
      standing =
          record {
            steady = inbound-steady (handing x p out) (psn-below p B) S.steady;
            unreliable = ap (λ s. s.service) l.setup ∙ S.unreliable;
            ready = l.state ∙ S.ready;
            idle = ap (λ a. a.remaining) l.read ∙ S.idle;
          };
      memory =
          (inbound-lengths (handing x p out)).0
          ∙ (K.memory ∙ ap (λ s. s.memory) (sym l.setup));
      outputs = K.outputs;
      first24 = K.first24;
      addressed = subst (λ s. Addressed s m) (sym l.setup) K.addressed;
      carries = K.carries;
    }

pub may-come-on : MayComeOn
unfolding heard
may-come-on outs m first x [] K B = K
may-come-on outs m first x (a ∷ rest) K B =
    may-come-on outs m first (taken x a.packet a.output) rest (comes-one outs m first x a.packet a.output B.0 K) B.1

-- the number before a later packet's is that of the packet before it
before-it : (first : Psn) (n psn i : ℕ) → n < 2 ^ 24 → psn ≡ (n + 1) % 16777216 → 0 < i → psn ≡ (psn_after first i).0 → n ≡ (psn_after first (i - 1)).0
before-it first n psn i h e o f = omega arith

apart_from : (m : Message) (first : Psn) (x : Run) (before : List Earlier) → x.whole.pair.setup.service ≡ 1 → AllBytes before
    → Apart x.whole m first
    → Foreign m first before
    → Apart (heard x before).whole m first
unfolding heard
apart_from m first x [] uc B A F = A
apart_from m first x (a ∷ rest) uc B A F =
    let l = leaves x a.packet a.output uc in
    apart_from m first (taken x a.packet a.output) rest (ap (λ s. s.service) l.setup ∙ uc) B.1 (go l.next A) F.1
  where
    y : Run
    y = taken x a.packet a.output

    go : ((y.whole.pair.message ≡ x.whole.pair.message) × (y.whole.pair.expected ≡ x.whole.pair.expected))
        ⊎ ((y.whole.pair.message.kind ≡ 255) ⊎ (y.whole.pair.expected ≡ psn_after (bth_of a.packet).psn 1))
        → Apart x.whole m first
        → Apart y.whole m first
    go (inl (e, f)) (inl z) = inl (λ k. z (ap (λ u. u.kind) (sym e) ∙ k))
    go (inl (e, f)) (inr z) = inr (λ i o h g. z i o h (ap (λ p. p.0) (sym f) ∙ g))
    go (inr (inl e)) A = inl (λ k. kind-open m.request (sym k ∙ e))
    go (inr (inr e)) A =
        inr (λ i o h g. F.0 (i - 1) (omega arith) (before-it first (bth_of a.packet).psn.0 y.whole.pair.expected.0 i (psn-below a.packet B.0) (ap (λ p. p.0) e) (omega (arith, o)) g))

pub apart-on : ApartOn
apart-on outs m first x before K B A F = apart_from m first x before K.standing.unreliable B A F

pub whole-after : WholeAfter
whole-after outs m first x before K B allowed sup = handed-whole outs m first (heard x before) (may-come-on outs m first x before K B) allowed sup

pub part-after : PartAfter
part-after outs m first x before chosen K B n lost a =
    handed-in-part outs m first (heard x before) chosen (may-come-on outs m first x before K B) n lost (go a)
  where
    go : (get_or chosen 0 false ≡ true) ⊎ (Apart x.whole m first × Foreign m first before)
        → (get_or chosen 0 false ≡ true) ⊎ Apart (heard x before).whole m first
    go (inl e) = inl e
    go (inr (A, F)) = inr (apart-on outs m first x before K B A F)
