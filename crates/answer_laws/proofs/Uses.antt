-- A completion uses up the entry at the head of the ring, and nothing else does.
use Prim.Native.Nat.{ℕ, ◌+◌, ◌≤◌}
use mathlib.Core.Path.{◌≡◌, refl, sym, ap, subst, ◌∙◌}
use mathlib.Core.Bool.{Bool, true, false, cond, ◌&&◌, ◌||◌, true≢false}
use mathlib.Core.List.{List}
use mathlib.Core.Logic.{inl, inr}
use native.Mathlib.Omega.{arith}
use lib.Dec.{eqb, leb}
use lib.ListN.{length, get_or}
use Rattle.pair.specs.Calls.{Whole}
use Rattle.opcode.specs.Place.{ends}
use Rattle.table.specs.Table.{entry_slot}
use Rattle.table.specs.declared.Ring.{Ring}
use Rattle.pair.specs.Answer.{status_number, executed}
use Rattle.pair.specs.Claims.{Sound}
use Rattle.pair.specs.declared.OpenMessage.{OpenMessage}
use Rattle.pair.specs.declared.Pair.{Pair}
use Rattle.pair.specs.declared.Status.TheVariants as status
use Rattle.request_spec.specs.Verdict.{uses_entry, payload_size, current}
use Rattle.request_spec.specs.declared.Packet.{Packet}
use Rattle.responder_spec.specs.declared.Completion.{Completion}
use Rattle.responder_spec.specs.declared.Decision.{Decision}
use Rattle.responder_spec.specs.Decide.{no_completion, no_reply, acknowledging, completes, completion_of, store_payload, run_atomic, head_entry, decision}
use Rattle.responder_spec.specs.Apply.{ring_taken, entries_by, executed_pair, with, pair_by_number, pair_by}
use Rattle.responder_spec.specs.Inbound.{left_by, inbound}
use Rattle.responder_spec.specs.Response.{next_status, one_fewer, next_response}
use Rattle.request_spec.specs.Packet.{packet_in}
use Rattle.answer_laws.specs.Entries.{Uses, InboundUses, NextUses}
use Rattle.decision_laws.proofs.Codes.{some-entry}
use Rattle.decision_laws.proofs.Checked.{checked}
use Rattle.decision_laws.proofs.Rows.Row.{quiet, ahead, invalid, access, unready, ack_duplicate, read_duplicate, atomic_duplicate, stored, begin, swap}
use Rattle.decision_laws.proofs.Rows.UcRow.{unheard, abandon, deliver}
use Rattle.decision_laws.proofs.Rows.AnyRow.{reliable, unreliable}
use Rattle.decision_laws.proofs.Rows.{region_by, Quiet, Row, UcRow, AnyRow, either, decided-row}
use Rattle.decision_laws.proofs.Views.{viewed-sound}
use Rattle.decision_laws.proofs.Ways.Way.{away, places, exchanges, delivers}
use Rattle.decision_laws.proofs.Ways.{Way, viewed_in, Other, code_by, few, decided-way}
use Rattle.answer_laws.proofs.Answers.{head_first}

-- what a decision leaves of the ring: with no completion it stays, and a packet that is executed with one moves it
module _ (q : Pair) (d : Decision) where
  kept : d.progress.completion.some ≡ false → (pair_by q d).entries ≡ q.entries
  unfolding pair_by pair_by_number executed_pair entries_by
  kept h =
      let n = status_number d.status in
      let same : Pair → Type 0 = λ x. x.entries ≡ q.entries in
      either same (leb n 3) (ap (λ b. cond b (ring_taken q.entries) q.entries) h)
      (either same (eqb n 4) refl
      (either same (eqb n 16 || eqb n 19) refl (either same (eqb n 17 || eqb n 18) refl (either same (eqb n 6) refl refl))))

  taken : leb (status_number d.status) 3 ≡ true → d.progress.completion.some ≡ true → (pair_by q d).entries ≡ ring_taken q.entries
  unfolding pair_by pair_by_number executed_pair entries_by
  taken s h = rw (s, h)

-- nothing completes
silent-uses : (old : Ring) (entries : List (List ℕ)) (c : Completion) (new : Ring) → c.some ≡ false → new ≡ old
    → Uses old entries c new
silent-uses old entries c new e r =
    record {
      there = λ h. absurd (true≢false (sym h ∙ e));
      names = λ h. absurd (true≢false (sym h ∙ e));
      moves = λ h. absurd (true≢false (sym h ∙ e));
      stays = λ h. r;
    }

-- what completes uses an entry, and names the number that it was given
abbrev uses : Packet → Bool
uses k = uses_entry k.kind k.operands.immediate

completed : (k : Packet) (m : OpenMessage) (number : ℕ) → (completion_of k m number).some ≡ true
    → (uses k ≡ true) × ((completion_of k m number).number ≡ number)
unfolding completion_of completes uses_entry
completed k m number = go (ends k.place) (uses k)
  where
    report : Completion
    report =
        record {
          some = true;
          number = number;
          length = cond (eqb k.kind 0) (m.stored + payload_size k) m.length;
          immediate = k.operands.immediate;
          value = k.operands.value;
        }

    go : (a b : Bool) → (cond (a && b) report no_completion).some ≡ true
        → (b ≡ true) × ((cond (a && b) report no_completion).number ≡ number)
    go true true h = (refl, refl)
    go true false h = absurd (true≢false (sym h))
    go false b h = absurd (true≢false (sym h))

-- the answers of a payload stored are none of the others
few-apart : (b : Bool) → Other (status_number (cond b status.Acknowledged status.Executed)) → ⊥
unfolding status_number
few-apart true (inl e) = omega arith
few-apart true (inr h) = omega arith
few-apart false (inl e) = omega arith
few-apart false (inr h) = omega arith

module _ (w : Whole) (k : Packet) where
  abbrev M : OpenMessage
  M = current w.pair.message k

  abbrev entry : List ℕ
  entry = head_entry w.pair w.entries

  -- one was there: it was held, or it waited
  some : (v : Whole) → Sound v.pair → code_by v k ≡ 0 → uses k ≡ true → 1 ≤ v.pair.entries.count
  some v S z u =
      let C = checked v.pair.setup v.pair.message k v.pair.entries.count (head_entry v.pair v.entries) (region_by v k) z in
      some-entry v.pair k S C.sequence C.waiting u

  -- a payload stored, whatever the answer and however many PSNs are taken
  store-uses : Sound w.pair → (d : Decision) → leb (status_number d.status) 3 ≡ true
      → d.progress.completion ≡ completion_of k M (get_or entry 0 0)
      → (uses k ≡ true → 1 ≤ w.pair.entries.count)
      → Uses w.pair.entries w.entries d.progress.completion (pair_by w.pair d).entries
  unfolding ring_taken entry_slot
  store-uses S d s c t =
      let known : d.progress.completion.some ≡ true → (uses k ≡ true) × (d.progress.completion.number ≡ get_or entry 0 0) =
      subst (λ x. x.some ≡ true → (uses k ≡ true) × (x.number ≡ get_or entry 0 0)) (sym c) (completed k M (get_or entry 0 0)) in
      record {
        there = λ h. (S.entries.0, t (known h).0);
        names = λ h. (known h).1 ∙ ap (λ row. get_or row 0 0) (head_first w S);
        moves = λ h. taken w.pair d s h;
        stays = λ h. kept w.pair d h;
      }

  -- with every other answer nothing completes
  silent : (d : Decision) → Row Quiet w k d → Other (status_number d.status)
      → d.progress.completion.some ≡ false
  unfolding no_reply acknowledging run_atomic store_payload
  silent d (quiet a x) o = refl
  silent d ahead o = refl
  silent d invalid o = refl
  silent d access o = refl
  silent d unready o = refl
  silent d ack_duplicate o = refl
  silent d (read_duplicate at n a s) o = refl
  silent d (atomic_duplicate v e) o = refl
  silent d (stored t row region x) o = absurd (few-apart k.ackreq o)
  silent d (begin at n a s) o = refl
  silent d (swap t region x) o = refl

  uc-silent : (d : Decision) → UcRow Quiet w.pair k d → Other (status_number d.status) → d.progress.completion.some ≡ false
  unfolding no_reply store_payload
  uc-silent d (unheard a x) o = refl
  uc-silent d (abandon h) o = refl
  uc-silent d (deliver t row region x) o = absurd (few-apart false o)

  away-silent : (d : Decision) → AnyRow Quiet w k d → Other (status_number d.status)
      → d.progress.completion.some ≡ false
  away-silent d (reliable c r) = silent d r
  away-silent d (unreliable c r) = uc-silent d r

  unused : (d : Decision) → d.progress.completion.some ≡ false → Uses w.pair.entries w.entries d.progress.completion (pair_by w.pair d).entries
  unused d e = silent-uses w.pair.entries w.entries d.progress.completion (pair_by w.pair d).entries e (kept w.pair d e)

  uses-by : (d : Decision) → Way w k d → AnyRow Quiet w k d
      → Uses w.pair.entries w.entries d.progress.completion (pair_by w.pair d).entries
  unfolding store_payload run_atomic status_number
  uses-by d (away x o) r = unused x (away-silent x r o)
  uses-by d (places S z c) r = store-uses S d (few k.ackreq) refl (some w S z)
  uses-by d (exchanges S z c f) r = unused d refl
  uses-by d (delivers S n z c) r = store-uses S d refl refl (some (viewed_in k.place w) (viewed-sound k.place w.pair S) z)

pub inbound-uses : InboundUses
unfolding inbound left_by decision
inbound-uses a =
    let d = decision a in
    uses-by a.whole (packet_in a.packet) d (decided-way a)
    (decided-row a)

pub next-uses : NextUses
unfolding next_response
next-uses q entries m out =
    silent-uses q.entries entries no_completion _ refl (go (executed (next_status q (length m) (length out))))
  where
    go : (b : Bool) → (cond b (with q q.state q.nakmark (one_fewer q.read)) q).entries ≡ q.entries
    go true = refl
    go false = refl
