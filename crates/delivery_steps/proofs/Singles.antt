-- Packet k is a READ or an atomic: a message of one packet.
use Prim.Native.Nat.{ℕ, suc, ◌+◌, ◌-◌, ◌*◌, ◌≤◌, ◌<◌}
use mathlib.Core.Path.{◌≡◌, sym, ap, subst, ◌∙◌}
use mathlib.Core.Bool.{true, false, cond, true≢false}
use mathlib.Core.List.{List, [], ◌++◌, map}
use native.Mathlib.Omega.{arith}
use lib.Dec.{eqb}
use lib.ListN.{length, drop}
use borrow.Author.Tests.{eq-eqb, ne_eqb}
use Rattle.pmtu.specs.Pieces.{pieces}
use Rattle.pmtu.proofs.Counting.{counts, bounds}
use Rattle.table.specs.Table.{entry_slot, no_region, memory_offset}
use Rattle.table.specs.View.{in_ring, region_of}
use Rattle.pair.specs.Answer.{status_number}
use Rattle.pair.specs.declared.OpenMessage.{OpenMessage}
use Rattle.cut_spec.specs.Message.{message_length}
use Rattle.cut_spec.specs.Claims.{kind_number}
use Rattle.cut_spec.proofs.Shapes.{cut-one}
use Rattle.request_spec.specs.Verdict.{bytes_to_come, current}
use Rattle.responder_spec.specs.Steady.{Steady}
use Rattle.responder_spec.specs.Decide.{no_completion, region_for, accept_read, run_atomic}
use Rattle.responder_spec.specs.Apply.{memory_by, read_answer_by, entries_by}
use Rattle.responder_spec.specs.Calls.{reports}
use Rattle.delivery_spec.specs.Stream.{Message, packet_count, Slot, slot, psn_count, packet_at}
use Rattle.delivery_spec.specs.Plain.{Plain, region_offset, completions_for, first_of, slot_needs_entry, is_last, held_now, waiting_now}
use Rattle.delivery_spec.specs.Demand.{Run, entry_of}
use Rattle.delivery_steps.proofs.Chain.{Stands, Good}
use Rattle.delivery_steps.proofs.Cutting.{place_for, cut_packet}
use Rattle.delivery_steps.proofs.Operands.{address_of, key_of}
use Rattle.delivery_steps.proofs.Rel.{IsOf, OpenedFor, Link}
use Rattle.delivery_steps.proofs.Verdicts.{offset-is}
use Rattle.delivery_steps.proofs.Checks.{now}
use Rattle.delivery_steps.proofs.Entries.{entries_by_lem}
use Rattle.delivery_steps.proofs.Effects.{Does, opened-next}
use Rattle.delivery_steps.proofs.Requests.{Single, Reads, Swaps}

module _ (ms : List Message) (S : List Slot) (p : Plain) (x : Run) (L : Link ms S p x) (Y : Steady x.whole)
    (G : Good x.whole.pair.setup x.whole.regions ms S) (lt : p.k < length S)
    (O : Single (slot S p.k).message.request) where
  abbrev t : Slot
  t = slot S p.k

  H : Stands x.whole.pair.setup x.whole.regions t
  H = G.stands p.k lt

  abbrev M : OpenMessage
  M = current x.whole.pair.message (cut_packet t)

  abbrev region : List ℕ
  region = region_for (kind_number t.message.request) M.key x.whole.regions

  N : IsOf t M
  N = now x.whole.pair.setup x.whole.regions Y.pair.setup.0 t H x.whole.pair.message p.held L.opened

  one-packet : packet_count t.message ≡ 1
  one-packet = cut-one t.message.request (length t.message.bytes) t.message.connection.pmtu O.bare

  zeroth : t.index ≡ 0
  zeroth = omega (arith, one-packet, H.outgoing.inside)

  last-is : is_last t ≡ true
  last-is = eq-eqb (suc t.index) (packet_count t.message) (omega (arith, zeroth, one-packet))

  idle : (x.whole.pair.message.kind ≡ 255) × (p.held ≡ [])
  idle = subst (λ b. OpenedFor b t x.whole.pair.message p.held) (eq-eqb t.index 0 zeroth) L.opened

  stored-none : M.stored ≡ 0
  stored-none = N.stored ∙ omega (arith, ap (λ i. i * t.message.connection.pmtu) zeroth)

  needs-entry-is : slot_needs_entry t ≡ false
  needs-entry-is = O.needs_entry_at t.index (packet_count t.message)

  ring-is : map entry_of (in_ring entry_slot x.whole.entries (entries_by false x.whole.pair.entries)) ≡ cond (is_last t) [] (held_now p t) ++ waiting_now p t
  ring-is =
      entries_by_lem x.whole.entries x.whole.pair.entries (p.held ++ p.waiting) L.entries false (λ z. absurd (true≢false (sym z)))
      ∙ (ap (λ h. h ++ p.waiting) idle.1 ∙ λ i. cond (sym last-is i) [] (held_now p t) ++ cond (sym needs-entry-is i) (drop 1 p.waiting) p.waiting)

  opened-is : OpenedFor (eqb (slot S (suc p.k)).index 0) (slot S (suc p.k)) x.whole.pair.message (cond (is_last t) [] (held_now p t))
  opened-is =
      opened-next S p.k x.whole.pair.message (cond (is_last t) [] (held_now p t)) (G.turn p.k lt) H.outgoing.inside
      (λ e. (idle.0, ap (λ b. cond b [] (held_now p t)) e))
      (λ e. absurd (true≢false (sym last-is ∙ e)))

  unreported : reports no_completion ≡ cond (is_last t) (completions_for t.message.request (first_of (held_now p t)) (length t.message.bytes)) []
  unreported = rw last-is (sym (O.completions (first_of (held_now p t)) (length t.message.bytes)))

  pub reads : Reads t.message.request
      → Does ms S p x (accept_read (cut_packet t) M x.whole.pair.message region x.whole.pair.setup.pmtu) (packet_at t) (first_of (held_now p t))
  unfolding accept_read status_number read_answer_by memory_by
  reads R =
      let n : pieces M.length x.whole.pair.setup.pmtu ≡ psn_count t =
      (λ i. pieces (N.length i) (sym H.outgoing.addressed.pmtu i)) ∙ sym (R.psn_count (length t.message.bytes) t.message.connection.pmtu) in
      let some : 1 ≤ pieces M.length x.whole.pair.setup.pmtu =
      (counts M.length x.whole.pair.setup.pmtu (omega (arith, (bounds x.whole.pair.setup.pmtu Y.pair.setup.0.pmtu).0))).some in
      record {
        status = omega arith;
        psns = n;
        ends = sym last-is;
        reads = rw (ne_eqb (pieces M.length x.whole.pair.setup.pmtu) 0 (λ z. absurd (omega arith)), R.read) n;
        memory = L.memory ∙ sym (R.memory-is x.whole.regions t.message.connection.pmtu t.message.bytes t.index (first_of (held_now p t)) p.memory);
        completion = unreported;
        entries = ring-is;
        opened = opened-is;
      }

  -- an atomic's word is where the address lies
  at-is : (k act : ℕ) (does : List ℕ → ℕ → ℕ → ℕ → List ℕ) → Swaps t.message.request k act does → (eqb k 0 ≡ false)
      → memory_offset region M.address M.length ≡ region_offset x.whole.regions (key_of t.message.request) (address_of t.message.request)
  unfolding region_for bytes_to_come
  at-is k act does W z =
      let eight : M.length ≡ 8 = N.length ∙ W.named (length t.message.bytes) in
      let r : region ≡ region_of (key_of t.message.request) x.whole.regions =
      ap (λ j. cond (eqb j 0) no_region (region_of M.key x.whole.regions)) W.kind
      ∙ (ap (λ b. cond b no_region (region_of M.key x.whole.regions)) z ∙ ap (λ j. region_of j x.whole.regions) N.key) in
      let w =
      offset-is x.whole.pair.setup.memory k (key_of t.message.request) (address_of t.message.request) 8 0
      x.whole.regions (λ y. y.atomic) M Y.regions W.rights N.address stored-none eight (omega arith)
      (W.right x.whole.pair.setup x.whole.regions (length t.message.bytes) H.allowed) (omega arith) in
      let a : M.address ≡ M.address + M.stored = omega (arith, stored-none) in
      let l : M.length ≡ M.length - M.stored = omega (arith, stored-none) in
      let none :
      region_offset x.whole.regions (key_of t.message.request) (address_of t.message.request) + 0
      ≡ region_offset x.whole.regions (key_of t.message.request) (address_of t.message.request) =
      omega arith in
      (λ i. memory_offset (r i) (a i) (l i)) ∙ (w.0 ∙ none)

  pub swaps : (k act : ℕ) (does : List ℕ → ℕ → ℕ → ℕ → List ℕ) → Swaps t.message.request k act does → (eqb k 0 ≡ false)
      → Does ms S p x (run_atomic (cut_packet t) M x.whole.pair.message region) (packet_at t) (first_of (held_now p t))
  unfolding run_atomic status_number read_answer_by
  swaps k act does W z =
      let n = message_length t.message.request (length t.message.bytes) in
      let D = run_atomic (cut_packet t) M x.whole.pair.message region in
      let a : D.change.act ≡ act = ap (λ j. cond (eqb j 20) 2 3) W.kind ∙ W.act-is in
      record {
        status = omega arith;
        psns = sym (W.psn_count t.message.connection.pmtu);
        ends = sym last-is;
        reads = L.reads ∙ ap (λ b. cond b (psn_count t) p.r) (sym W.read);
        memory =
            W.acts D.change x.memory (packet_at t) a
            ∙ ((λ i. does (L.memory i) (at-is k act does W z i) (cut_packet t).operands.compare (cut_packet t).operands.swap)
            ∙ sym (W.memory-is n (place_for t) x.whole.regions t.message.connection.pmtu t.message.bytes t.index (first_of (held_now p t)) p.memory));
        completion = unreported;
        entries = ring-is;
        opened = opened-is;
      }
