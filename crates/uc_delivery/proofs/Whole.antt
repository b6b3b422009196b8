-- A message handed in whole.
use Prim.Native.Nat.{ℕ, zero, suc, ◌+◌, ◌-◌, ◌*◌, ◌^◌, ◌≤◌, ◌<◌}
use mathlib.Core.Path.{◌≡◌, refl, sym, ap, subst, ◌∙◌}
use mathlib.Core.Bool.{Bool, true, false, cond, not, ◌&&◌}
use mathlib.Core.List.{List, [], ◌++◌, append-nil}
use mathlib.Core.Logic.{◌⊎◌, inl, inr}
use native.Mathlib.Omega.{arith}
use native.Mathlib.Nat.{zero-mul}
use lib.Dec.{eqb, leb}
use lib.ListN.{length, take, drop, replicate, length-take, length-drop}
use lib.Seq.{take-add, take_all}
use borrow.Author.Tests.{eq-eqb, ne_eqb, leb-true, leb-false}
use Rattle.sequence.specs.Sequence.{distance, psn_after}
use Rattle.sequence.specs.declared.Psn.{Psn}
use Rattle.sequence.proofs.Circle.{after-after}
use Rattle.memory.specs.Memory.{overwrite}
use Rattle.memory.proofs.Overwrite.{overwrite-twice, overwrite-none}
use Rattle.opcode.specs.Place.{starts}
use Rattle.pmtu.specs.Pieces.{piece_at}
use Rattle.pmtu.specs.Claims.{Counted}
use Rattle.pmtu.proofs.Counting.{counts, bounds}
use Rattle.pair.specs.Calls.{Whole}
use Rattle.pair.specs.Pair.{no_message}
use Rattle.pair.specs.Claims.{SetupFit}
use Rattle.pair.specs.declared.Setup.{Setup}
use Rattle.pair.specs.declared.OpenMessage.{OpenMessage}
use Rattle.cut_spec.specs.Claims.{Carrier, kind_number}
use Rattle.cut_spec.specs.declared.Request.{Request}
use Rattle.cut_spec.specs.declared.Request.TheVariants.{Send, SendImmediate, Write, WriteImmediate, Read, CmpSwap, FetchAdd}
use Rattle.cut_spec.proofs.Shapes.{cut-many}
use Rattle.request_spec.specs.Verdict.{payload_size, current}
use Rattle.responder_spec.specs.Decide.{closed_by, orphaned, strays, message_after}
use Rattle.responder_spec.specs.Apply.{entries_by, msn_by, ring_taken}
use Rattle.responder_spec.specs.Steady.{Steady}
use Rattle.responder_spec.specs.declared.Completion.{Completion}
use Rattle.delivery_spec.specs.Stream.{Message, Slot, packet_count, packet_at}
use Rattle.delivery_spec.specs.Plain.{takes_entry, is_last, completions_for}
use Rattle.delivery_spec.specs.Demand.{Run, taken, Addressed, Permitted}
use Rattle.delivery_steps.proofs.Cutting.{place_for, cut_packet}
use Rattle.delivery_steps.proofs.Places.{starts-at}
use Rattle.delivery_steps.proofs.Rel.{IsOf, OpenedFor}
use Rattle.uc_delivery.specs.Message.{Standing, HasEntry, first_waiting, target, handed_all, handed, HandedWhole}
use Rattle.uc_delivery.proofs.Steps.{at}
use Rattle.uc_delivery.proofs.Follow.{holding, holds, held_at, Follows, steps, more, done, bounded, kept, steady}

-- piece after piece, a message is stored as one
grows : (m : List ℕ) (base : ℕ) (d : List ℕ) (pmtu i : ℕ) → (length d ≡ 0) ⊎ (base ≤ length m) → i * pmtu ≤ length d
    → overwrite (overwrite m base (take (i * pmtu) d)) (base + i * pmtu) (piece_at d pmtu i) ≡ overwrite m base (take (suc i * pmtu) d)
unfolding piece_at
grows m base d pmtu i (inl z) h =
    let a : length (take (i * pmtu) d) ≡ 0 = simp length-take (omega arith) in
    let b : length (take pmtu (drop (i * pmtu) d)) ≡ 0 = simp (length-take, length-drop) (omega arith) in
    let c : length (take (suc i * pmtu) d) ≡ 0 = simp length-take (omega arith) in
    overwrite-none (overwrite m base (take (i * pmtu) d)) (base + i * pmtu) (take pmtu (drop (i * pmtu) d)) b
    ∙ (overwrite-none m base (take (i * pmtu) d) a ∙ sym (overwrite-none m base (take (suc i * pmtu) d) c))
grows m base d pmtu i (inr g) h =
    let l : length (take (i * pmtu) d) ≡ i * pmtu = simp length-take (omega arith) in
    let k : i * pmtu + pmtu ≡ suc i * pmtu = omega arith in
    ap (λ n. overwrite (overwrite m base (take (i * pmtu) d)) (base + n) (take pmtu (drop (i * pmtu) d))) (sym l)
    ∙ (overwrite-twice m base (take (i * pmtu) d) (take pmtu (drop (i * pmtu) d)) g
    ∙ ap (overwrite m base) (sym (take-add (i * pmtu) pmtu d) ∙ ap (λ n. take n d) k))

-- the packets take all bytes, and fewer of them do not
pub packets-counted : (s : Setup) (m : Message) → SetupFit s → Addressed s m → Carrier m.request → Counted (length m.bytes) m.connection.pmtu (packet_count m)
packets-counted s m f A c =
    let l : 256 ≤ s.pmtu = (bounds s.pmtu f.pmtu).0 in
    let p : m.connection.pmtu ≡ s.pmtu = A.pmtu in
    subst (Counted (length m.bytes) m.connection.pmtu) (sym (cut-many m.request (length m.bytes) m.connection.pmtu c))
    (counts (length m.bytes) m.connection.pmtu (omega arith))

open-kind : (r : Request) → Carrier r → eqb (kind_number r) 255 ≡ false
open-kind Send c = refl
open-kind (SendImmediate v) c = refl
open-kind (Write t) c = refl
open-kind (WriteImmediate t v) c = refl
open-kind (Read a) c = absurd c
open-kind (CmpSwap a) c = absurd c
open-kind (FetchAdd t v) c = absurd c

module _ (w : Whole) (m : Message) (first : Psn) (P : Permitted w.pair.setup w.regions m) (Cr : Carrier m.request)
    (small : first.0 < 2 ^ 24) (S : Standing w) (sup : HasEntry w m) where
  abbrev uc : w.pair.setup.service ≡ 1
  uc = S.unreliable

  abbrev slot : ℕ → Slot
  slot i = record { message = m; first = first; index = i }

  abbrev F : ℕ → Psn → OpenMessage → Type 0
  F = Follows w m first P Cr small S.unreliable S.ready S.idle sup

  -- the first packet follows whatever is open and expected
  begins : 0 < packet_count m → (E : Psn) (u : OpenMessage) → F 0 E u
  unfolding orphaned strays closed_by
  begins h E u =
      let s : starts (place_for (slot 0)) ≡ true = starts-at (packet_count m) 0 h in
      record { orphan = rw s; stray = rw s; opened = (ap (λ b. (cond b no_message u).kind) s, refl) }

  -- the others follow where their message is open and they are expected
  stays : (i : ℕ) → suc i < packet_count m → (u : OpenMessage) → closed_by (place_for (slot (suc i))) u ≡ u
  unfolding closed_by
  stays i h u = ap (λ b. cond b no_message u) (starts-at (packet_count m) (suc i) h ∙ ne_eqb (suc i) 0 (λ z. absurd (omega arith)))

  goes_on_lem : (i : ℕ) → suc i < packet_count m → (u : OpenMessage) → IsOf (slot (suc i)) u → F (suc i) (psn_after first (suc i)) u
  unfolding orphaned strays
  goes_on_lem i h u I =
      let s : starts (place_for (slot (suc i))) ≡ false = starts-at (packet_count m) (suc i) h ∙ ne_eqb (suc i) 0 (λ z. absurd (omega arith)) in
      let k : eqb u.kind 255 ≡ false = ap (λ n. eqb n 255) I.kind ∙ open-kind m.request Cr in
      let e : eqb (distance (psn_after first (suc i)).0 (psn_after first (suc i)).0) 0 ≡ true = eq-eqb (distance (psn_after first (suc i)).0 (psn_after first (suc i)).0) 0 (omega arith) in
      record {
        orphan = rw (s, k);
        stray = rw (s, e) (ap not (eq-eqb u.kind (kind_number m.request) I.kind));
        opened =
            subst (λ b. OpenedFor b (slot (suc i)) (closed_by (place_for (slot (suc i))) u) (held_at b m.request (first_waiting w))) (sym (ne_eqb (suc i) 0 (λ z. absurd (omega arith))))
            (subst (λ v. OpenedFor false (slot (suc i)) v (holding m.request (first_waiting w))) (sym (stays i h u))
            (I, holds m.request (first_waiting w) (length m.bytes) sup.long));
      }

  abbrev base : ℕ
  base = target m.request w.regions (first_waiting w)

  abbrev pmtu : ℕ
  pmtu = m.connection.pmtu

  counted : Counted (length m.bytes) m.connection.pmtu (packet_count m)
  counted = packets-counted w.pair.setup m S.steady.pair.setup.0 P.addressed Cr

  within : (i : ℕ) → i < packet_count m → i * m.connection.pmtu ≤ length m.bytes
  within zero h = omega (arith, zero-mul m.connection.pmtu)
  within (suc i) h = go (leb (length m.bytes) (suc i * m.connection.pmtu)) refl
    where
      go : (b : Bool) → leb (length m.bytes) (suc i * m.connection.pmtu) ≡ b → suc i * m.connection.pmtu ≤ length m.bytes
      go true e = absurd (omega (arith, h, counted.least (suc i) (omega arith) (leb-true (length m.bytes) (suc i * m.connection.pmtu) e)))
      go false e = omega (arith, leb-false (length m.bytes) (suc i * m.connection.pmtu) e)

  whole-taken : length m.bytes ≤ packet_count m * m.connection.pmtu
  whole-taken = counted.enough

  next-psn : (i : ℕ) → psn_after (psn_after first i) 1 ≡ psn_after first (suc i)
  next-psn i = let e : i + 1 ≡ suc i = omega arith in after-after first i 1 ∙ ap (psn_after first) e

  module _ (x0 : List ℕ) (cs : List Completion) (outs : ℕ → List ℕ) (room : (i : ℕ) → 24 ≤ length (outs i)) (B : (length m.bytes ≡ 0) ⊎ (base ≤ length x0)) where
    abbrev memory_at : ℕ → List ℕ
    memory_at i = overwrite x0 (target m.request w.regions (first_waiting w)) (take (i * m.connection.pmtu) m.bytes)

    abbrev final : Run
    final = handed_all (record { whole = w; memory = x0; completions = cs }) m first

    -- from packet i on, k more behind it
    rest : (k i : ℕ) → suc (i + k) ≡ packet_count m → (E : Psn) (b : Bool) (u : OpenMessage) (mem : List ℕ) → F i E u
        → mem ≡ memory_at i
        → Steady (at w E w.pair.msn b u w.pair.entries mem cs).whole
        → length mem ≡ w.pair.setup.memory
        → handed outs m first (at w E w.pair.msn b u w.pair.entries mem cs) i (replicate (suc k) true) ≡ final
    unfolding handed entries_by msn_by ring_taken
    rest zero i n E b u mem G e Y l =
        let h : i < packet_count m = omega arith in
        let last : is_last (slot i) ≡ true = eq-eqb (suc i) (packet_count m) (omega arith) in
        let s = steps w m first P Cr small S.unreliable S.ready S.idle sup i h E w.pair.msn b u mem cs G Y l (outs i) (room i) in
        let z = done w m first P Cr small S.unreliable S.ready S.idle sup i h E w.pair.msn b u mem cs G Y l last in
        s
        ∙ λ j.
        at w ((next-psn i ∙ ap (psn_after first) (omega' i n)) j) (msn_by (last j) w.pair.msn) false (z j) (entries_by (last j && takes_entry m.request) w.pair.entries)
        ((ap (λ y. overwrite y (base + i * pmtu) (piece_at m.bytes pmtu i)) e ∙ (grows x0 base m.bytes pmtu i B (within i h) ∙ ap (overwrite x0 base) (filled i n))) j)
        (cs ++ cond (last j) (completions_for m.request (first_waiting w) (length m.bytes)) [])
      where
        omega' : (i : ℕ) → suc (i + 0) ≡ packet_count m → suc i ≡ packet_count m
        omega' i n = omega arith

        filled : (i : ℕ) → suc (i + 0) ≡ packet_count m → take (suc i * m.connection.pmtu) m.bytes ≡ m.bytes
        filled i n =
            take_all (suc i * m.connection.pmtu) m.bytes (subst (λ k. length m.bytes ≤ k * m.connection.pmtu) (sym (omega' i n)) whole-taken)
    rest (suc k) i n E b u mem G e Y l =
        let h : i < packet_count m = omega arith in
        let more-come : is_last (slot i) ≡ false = ne_eqb (suc i) (packet_count m) (λ z. absurd (omega arith)) in
        let v = message_after (place_for (slot i)) (current (closed_by (place_for (slot i)) u) (cut_packet (slot i))) (payload_size (cut_packet (slot i))) in
        let mem2 = overwrite mem (base + i * pmtu) (piece_at m.bytes pmtu i) in
        let y = at w (psn_after first (suc i)) w.pair.msn false v w.pair.entries mem2 cs in
        let s : taken (at w E w.pair.msn b u w.pair.entries mem cs) (packet_at (slot i)) (outs i) ≡ y =
        steps w m first P Cr small S.unreliable S.ready S.idle sup i h E w.pair.msn b u mem cs G Y l (outs i) (room i)
        ∙ ((λ j.
        at w (next-psn i j) (msn_by (more-come j) w.pair.msn) false v (entries_by (more-come j && takes_entry m.request) w.pair.entries) mem2
        (cs ++ cond (more-come j) (completions_for m.request (first_waiting w) (length m.bytes)) []))
        ∙ λ j. at w (psn_after first (suc i)) w.pair.msn false v w.pair.entries mem2 (append-nil cs j)) in
        let I = more w m first P Cr small S.unreliable S.ready S.idle sup i h E w.pair.msn b u mem cs G Y l more-come in
        let message-after-memory : mem2 ≡ memory_at (suc i) = ap (λ y. overwrite y (base + i * pmtu) (piece_at m.bytes pmtu i)) e ∙ grows x0 base m.bytes pmtu i B (within i h) in
        let Z : Steady y.whole = subst (λ z. Steady z.whole) s (steady w m first P Cr small S.unreliable S.ready S.idle sup i h E w.pair.msn b u mem cs G Y l (outs i)) in
        let L : length mem2 ≡ w.pair.setup.memory =
        ap (λ z. length z.memory) (sym s) ∙ kept w m first P Cr small S.unreliable S.ready S.idle sup i h E w.pair.msn b u mem cs G Y l (outs i) in
        ap (λ z. handed outs m first z (suc i) (replicate (suc k) true)) s
        ∙ rest k (suc i) (omega arith) (psn_after first (suc i)) false v mem2 (goes_on_lem i (omega arith) v I) message-after-memory Z L

pub handed-whole : HandedWhole
handed-whole outs m first x K allowed sup =
    let w = x.whole in
    let P : Permitted w.pair.setup w.regions m = record { allowed = allowed; addressed = K.addressed } in
    let S = K.standing in
    let small : first.0 < 2 ^ 24 = omega (arith, K.first24) in
    let n : 1 ≤ packet_count m = (counted w m first P K.carries small S sup).some in
    let G = begins w m first P K.carries small S sup n w.pair.expected w.pair.message in
    let k = packet_count m - 1 in
    let e : suc k ≡ packet_count m = omega arith in
    let b =
    bounded w m first P K.carries small S.unreliable S.ready S.idle sup 0 n w.pair.expected w.pair.msn w.pair.nakmark w.pair.message
    x.memory x.completions G S.steady K.memory in
    let none : x.memory ≡ overwrite x.memory (target m.request w.regions (first_waiting w)) (take (0 * m.connection.pmtu) m.bytes) =
    sym
    (overwrite-none x.memory (target m.request w.regions (first_waiting w)) (take (0 * m.connection.pmtu) m.bytes) (simp length-take (omega (arith, zero-mul m.connection.pmtu)))) in
    subst (λ j. handed outs m first x 0 (replicate j true) ≡ handed_all x m first) e
    (rest w m first P K.carries small S sup x.memory x.completions outs K.outputs b k 0 (omega arith) w.pair.expected w.pair.nakmark
    w.pair.message x.memory G none S.steady K.memory)
