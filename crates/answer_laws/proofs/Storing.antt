-- Where the bytes of a message went, and what is reported to the host.
use Prim.Native.Nat.{ℕ, ◌+◌, ◌-◌, ◌≤◌, ◌<◌}
use mathlib.Core.Path.{◌≡◌, refl, sym, ap, subst, ◌∙◌}
use mathlib.Core.Bool.{Bool, true, false, cond, ◌||◌}
use mathlib.Core.List.{List}
use mathlib.Core.Logic.{◌⊎◌, inl, inr}
use native.Mathlib.Omega.{arith}
use lib.Dec.{eqb}
use lib.ListN.{length, get_or}
use borrow.Author.Tests.{eq-eqb, ne_eqb}
use Rattle.responder_spec.specs.Arrival.{Arrival}
use Rattle.opcode.specs.Opcode as Opcode
use Rattle.opcode.specs.Opcode.{follows_of, low_class}
use Rattle.header.specs.Read.{bth_of, extension_of, header_of}
use Rattle.memory.specs.Memory.{store}
use Rattle.memory.specs.Word.{word_at, fetch_added, swapped}
use Rattle.memory.specs.Claims.{OnlyWord}
use Rattle.memory.proofs.Overwrite.{store-none}
use Rattle.memory.proofs.Words.{fetch-within, swap-within}
use Rattle.packet.specs.Packet.{payload_of}
use Rattle.opcode.specs.Place.{ends}
use Rattle.table.specs.View.{region_of, saved_rows}
use Rattle.pair.specs.Answer.{status_number}
use Rattle.pair.specs.Claims.{Sound}
use Rattle.pair.specs.declared.OpenMessage.{OpenMessage}
use Rattle.pair.specs.declared.Pair.{Pair}
use Rattle.pair.specs.declared.Status.TheVariants as status
use Rattle.request_spec.specs.Packet.{operands_of, packet_of}
use Rattle.request_spec.specs.Verdict.{carrying, bytes_to_come, payload_size, current}
use Rattle.table.specs.Table.{memory_offset}
use Rattle.request_spec.specs.Claims.{Place, InSequence, HasMore, Ends, IsAtomic, Gives, GivesRest, LengthsGood, IsCurrent, JudgedBy}
use Rattle.request_spec.proofs.Conditions.{current-tested}
use Rattle.request_spec.proofs.Order.{current-one, order}
use Rattle.request_spec.proofs.Taken.{any_place}
use Rattle.request_spec.specs.declared.Packet.{Packet}
use Rattle.responder_spec.specs.declared.Decision.{Decision}
use Rattle.responder_spec.specs.Decide.{completes, completion_of, message_after, target_offset, store_payload, run_atomic, region_for, head_entry, decision}
use Rattle.responder_spec.specs.Apply.{saved_by, memory_by, executed_pair, pair_by_number, pair_by}
use Rattle.responder_spec.specs.Inbound.{left_by, inbound}
use Rattle.effect_laws.specs.Effects.{Silent}
use Rattle.answer_laws.specs.Answers.{entry_at_head, Completes, StoresPayload, InboundStores, OnRegion, InboundSwaps}
use Rattle.request_spec.specs.Packet.{packet_in}
use Rattle.memory.specs.Claims.{OnlyBytes}
use Rattle.decision_laws.proofs.Rows.{region_by}
use Rattle.decision_laws.proofs.Codes.Bare.{swaps, adds}
use Rattle.decision_laws.proofs.Codes.{class-is}
use Rattle.effect_laws.proofs.Refusals.{inbound-meant}
use Rattle.effect_laws.proofs.Effects.{silent}
use Rattle.answer_laws.proofs.Answers.{head_first, code_by_lem, high}
use Rattle.decision_laws.proofs.Ways.Way.{away, places, exchanges, delivers}
use Rattle.decision_laws.proofs.Ways.{viewed_in, acts, code_by, decided-way, only-by, only-stored, payload-size}
use Rattle.decision_laws.proofs.Ways.{payload-is, ends-true, ends-false, few, which, which-atomic, region-is}
use Rattle.decision_laws.proofs.Ways.{or-true, and-false, Way}
use Rattle.decision_laws.proofs.Views.{viewed-sound, current-closed}

-- Storing
module _ (arrival : Arrival) (S : Sound arrival.whole.pair) (n : length arrival.memory ≡ arrival.whole.pair.setup.memory)
    (z : code_by arrival.whole (packet_in arrival.packet) ≡ 0) where
  abbrev q : Pair
  q = arrival.whole.pair

  abbrev p : List ℕ
  p = arrival.packet

  abbrev m : List ℕ
  m = arrival.memory

  abbrev k : Packet
  k = packet_in p

  abbrev M : OpenMessage
  M = current q.message (packet_in p)

  abbrev entry : List ℕ
  entry = entry_at_head arrival.whole

  abbrev region : List ℕ
  region = region_of (current q.message (packet_in p)).key arrival.whole.regions

  place-known : Place (packet_in p).place
  unfolding packet_of header_of
  place-known = any_place (bth_of p).opcode

  judged : JudgedBy q.setup q.message k M q.entries.count entry region 0
  judged =
      subst (λ e. JudgedBy q.setup q.message k M q.entries.count e region 0) (head_first arrival.whole S)
      (subst (JudgedBy q.setup q.message k M q.entries.count (head_entry q arrival.whole.entries) region)
      (sym (code_by_lem q.setup q.message k q.entries.count (head_entry q arrival.whole.entries) arrival.whole.regions) ∙ z)
      (order q.setup q.message k M q.entries.count (head_entry q arrival.whole.entries) region place-known (current-tested q.message k place-known)))

  -- the bytes of a WRITE are no more than those still to come
  rest : LengthsGood k q.setup.pmtu M (get_or entry 2 0) → k.kind ≡ 6 → M.stored + (k.body - k.pad) ≤ M.length
  rest L e = go place-known
    where
      go : Place k.place → M.stored + (k.body - k.pad) ≤ M.length
      go (inl (inl x)) = omega (arith, L.more e (inl x))
      go (inl (inr x)) = omega (arith, L.whole e (inr x))
      go (inr (inl x)) = omega (arith, L.more e (inr x))
      go (inr (inr x)) = omega (arith, L.whole e (inl x))

  abbrev D : Decision
  D = store_payload (packet_in p).ackreq 1 (packet_in p) (current q.message (packet_in p)) (head_entry q arrival.whole.entries) (region_by arrival.whole (packet_in p))

  stored-memory : (at : ℕ) → target_offset k.kind M (head_entry q arrival.whole.entries) (region_by arrival.whole k) ≡ at → memory_by D.change m p ≡ store m at (payload_of p)
  unfolding memory_by store_payload
  stored-memory at e = λ i. store m (e i) (payload-is p i)

  at_entry : k.kind ≡ 0 → target_offset k.kind M (head_entry q arrival.whole.entries) (region_by arrival.whole k) ≡ get_or entry 1 0 + M.stored
  unfolding target_offset
  at_entry e = rw (eq-eqb k.kind 0 e) (ap (λ r. get_or r 1 0 + M.stored) (head_first arrival.whole S))

  at-region : k.kind ≡ 6 → 0 < M.length - M.stored
      → target_offset k.kind M (head_entry q arrival.whole.entries) (region_by arrival.whole k) ≡ get_or region 3 0 + (M.address + M.stored - get_or region 1 0)
  unfolding target_offset memory_offset bytes_to_come
  at-region e h =
      rw (ne_eqb k.kind 0 (λ x. omega arith), ne_eqb (M.length - M.stored) 0 (λ x. omega arith))
      (ap (λ r. get_or r 3 0 + (M.address + M.stored - get_or r 1 0)) (region-is k.kind M.key arrival.whole.regions (λ x. omega arith)))

  at_none : k.kind ≡ 6 → M.length - M.stored ≡ 0 → target_offset k.kind M (head_entry q arrival.whole.entries) (region_by arrival.whole k) ≡ 0
  unfolding target_offset memory_offset bytes_to_come
  at_none e h = rw (ne_eqb k.kind 0 (λ x. omega arith), eq-eqb (M.length - M.stored) 0 h)

  -- a Middle or Last is of the message's kind
  same_kind : InSequence q.message.kind k.kind k.place → M.kind ≡ k.kind
  same_kind I = go place-known
    where
      C : IsCurrent q.message k M
      C = current-tested q.message k place-known

      go : Place k.place → M.kind ≡ k.kind
      go (inl b) = ap (λ x. x.kind) (C.own b)
      go (inr g) = ap (λ x. x.kind) (C.old g) ∙ I.onward g

  -- what completes
  completed : (length : ℕ) → Ends k.place → (k.kind ≡ 0) ⊎ (k.operands.immediate ≡ true)
      → cond (eqb k.kind 0) (M.stored + payload_size k) M.length ≡ length
      → Completes k (get_or entry 0 0) length (completion_of k M (get_or (head_entry q arrival.whole.entries) 0 0))
  unfolding completion_of completes
  completed length h u e =
      rw (ends-true k.place h, uses u)
      (record { some = refl; entry = ap (λ r. get_or r 0 0) (head_first arrival.whole S); length = e; immediate = refl; value = refl })
    where
      uses : (k.kind ≡ 0) ⊎ (k.operands.immediate ≡ true) → (eqb k.kind 0 || k.operands.immediate) ≡ true
      uses (inl x) = rw (eq-eqb k.kind 0 x)
      uses (inr x) = rw x (or-true (eqb k.kind 0))

  unreported-by : k.kind ≡ 6 → k.operands.immediate ≡ false → Silent (completion_of k M (get_or (head_entry q arrival.whole.entries) 0 0))
  unfolding completion_of completes
  unreported-by e i = rw (ne_eqb k.kind 0 (λ x. omega arith), i, and-false (ends k.place)) silent

  onward-by : HasMore k.place → Silent (completion_of k M (get_or (head_entry q arrival.whole.entries) 0 0))
  unfolding completion_of completes
  onward-by h = rw (ends-false k.place h) silent

  -- the message that is open afterwards
  ran : (pair_by q D).message ≡ message_after k.place M (payload_size k)
  unfolding pair_by pair_by_number store_payload executed_pair
  ran = rw (few k.ackreq)

  opened : (size : ℕ) → payload_size k ≡ size → M.kind ≡ k.kind → HasMore k.place
      → (pair_by q D).message ≡ (record { kind = k.kind; stored = M.stored + size; address = M.address; key = M.key; length = M.length })
  unfolding message_after
  opened size e f h = ran ∙ rw (ends-false k.place h) (λ i. record { kind = f i; stored = M.stored + e i; address = M.address; key = M.key; length = M.length })

  payload-size-is : payload_size k ≡ length (payload_of p)
  unfolding payload_size
  payload-size-is = sym (payload-size p)

  stores-by : carrying k.kind ≡ true → StoresPayload arrival k M (left_by arrival D)
  unfolding left_by store_payload
  stores-by c =
      let T = judged.none.0 refl in
      let L = T.7 in
      let size = payload-size p in
      record {
        kind = which q.setup k.kind T.1 c;
        carried = size;
        sends =
            λ e.
            let f : M.stored + length (payload_of p) ≤ get_or entry 2 0 = omega (arith, size, L.fits e) in
            let w : get_or entry 1 0 + get_or entry 2 0 ≤ q.setup.memory = T.5 (inl e) in
            let s = stored-memory (get_or entry 1 0 + M.stored) (at_entry e) in
            record {
              lies = w;
              fits = f;
              stands = s;
              only =
                  subst (λ x. OnlyBytes m x (get_or entry 1 0) (get_or entry 2 0)) (sym s)
                  (only-stored m (payload_of p) (get_or entry 1 0 + M.stored) (get_or entry 1 0) (get_or entry 2 0) (omega arith) (omega (arith, f)) (omega (arith, w, n)));
            };
        writes =
            λ e h.
            let G = T.6.writes e h in
            let f : length (payload_of p) ≤ M.length - M.stored = omega (arith, size, rest L e) in
            let at = get_or region 3 0 + (M.address + M.stored - get_or region 1 0) in
            let s = stored-memory at (at-region e h) in
            record {
              gives = G;
              fits = f;
              stands = s;
              only =
                  subst (λ x. OnlyBytes m x (get_or region 3 0) (get_or region 2 0)) (sym s)
                  (only-stored m (payload_of p) at (get_or region 3 0) (get_or region 2 0) (omega arith) (omega (arith, f, G.from, G.to)) (omega (arith, G.within, n)));
            };
        nothing =
            λ e h.
            let z : length (payload_of p) ≡ 0 = omega (arith, size, rest L e, h) in
            stored-memory 0 (at_none e h) ∙ store-none m 0 (payload_of p) z;
        sent-whole =
            λ e h.
            completed (M.stored + length (payload_of p)) h (inl e)
            (rw (eq-eqb k.kind 0 e) (ap (λ x. M.stored + x) payload-size-is));
        written = λ e h i. completed M.length h (inr i) (rw (ne_eqb k.kind 0 (λ x. omega arith)));
        unreported = λ e i. unreported-by e i;
        onward = λ h. onward-by h;
        opens = λ h. opened (length (payload_of p)) payload-size-is (same_kind T.0) h;
      }

  -- an atomic is a message of one packet, of 8 bytes
  atomic-form : IsAtomic (packet_in p).kind → ((packet_in p).place ≡ 4) × ((packet_in p).operands.length ≡ 8)
  unfolding packet_of header_of low_class Opcode.place_of follows_of extension_of operands_of
  atomic-form (inl e) =
      let c = class-is (bth_of p).opcode 19 swaps e in
      (ap (λ x. x.place) c, ap (λ x. (operands_of (extension_of x.follows p)).length) c)
  atomic-form (inr e) =
      let c = class-is (bth_of p).opcode 20 adds e in
      (ap (λ x. x.place) c, ap (λ x. (operands_of (extension_of x.follows p)).length) c)

  abbrev owned : OpenMessage
  owned =
      record {
        kind = (packet_in p).kind;
        stored = 0;
        address = (packet_in p).operands.address;
        key = (packet_in p).operands.key;
        length = (packet_in p).operands.length;
      }

  abbrev E : Decision
  E = run_atomic (packet_in p) (current q.message (packet_in p)) q.message (region_by arrival.whole (packet_in p))

  -- the region of the atomic's key
  abbrev word : List ℕ
  word = region_of (packet_in p).operands.key arrival.whole.regions

  abbrev at : ℕ
  at = get_or (region_of (packet_in p).operands.key arrival.whole.regions) 3 0 + ((packet_in p).operands.address - get_or (region_of (packet_in p).operands.key arrival.whole.regions) 1 0)

  own-message : IsAtomic k.kind → M ≡ owned
  own-message a = (current-tested q.message k place-known).own (inr (atomic-form a).0)

  at-word : IsAtomic k.kind → memory_offset (region_by arrival.whole k) M.address M.length ≡ at
  unfolding memory_offset
  at-word a =
      let h = high k.kind a in
      let eight = (atomic-form a).1 in
      ap (λ x. memory_offset (region_for k.kind x.key arrival.whole.regions) x.address x.length) (own-message a)
      ∙ (ap (λ r. memory_offset r k.operands.address k.operands.length) (region-is k.kind k.operands.key arrival.whole.regions (λ x. omega arith))
      ∙ rw (ne_eqb k.operands.length 0 (λ x. omega arith)))

  gives-word : IsAtomic k.kind → GivesRest region 6 q.setup.memory M → Gives word 6 q.setup.memory k.operands.address 8
  gives-word a G =
      let eight = (atomic-form a).1 in
      let H : GivesRest word 6 q.setup.memory owned = subst (λ x. GivesRest (region_of x.key arrival.whole.regions) 6 q.setup.memory x) (own-message a) G in
      let b : k.operands.address + 0 ≡ k.operands.address = omega arith in
      let s : k.operands.length - 0 ≡ 8 = omega arith in
      subst (λ x. Gives word 6 q.setup.memory x 8) b
      (subst (λ x. Gives word 6 q.setup.memory (k.operands.address + 0) x) s (H (omega arith)))

  fetch-memory : k.kind ≡ 20 → memory_by E.change m p ≡ fetch_added m at k.operands.swap
  unfolding memory_by run_atomic
  fetch-memory e = rw (eq-eqb k.kind 20 e) (ap (λ x. fetch_added m x k.operands.swap) (at-word (inr e)))

  swap-memory : k.kind ≡ 19 → memory_by E.change m p ≡ swapped m at k.operands.compare k.operands.swap
  unfolding memory_by run_atomic
  swap-memory e =
      rw (ne_eqb k.kind 20 (λ x. omega arith)) (ap (λ x. swapped m x k.operands.compare k.operands.swap) (at-word (inl e)))

  -- what it was is arrival.whole.saved
  saved-word : IsAtomic k.kind → saved_by q.saved E.change E.reply.psn arrival.whole.saved m ≡ saved_rows arrival.whole.saved q.saved k.psn.0 (word_at m at)
  unfolding saved_by run_atomic
  saved-word a =
      ap (λ b. cond b (saved_rows arrival.whole.saved q.saved k.psn.0 (word_at m (memory_offset (region_by arrival.whole k) M.address M.length))) arrival.whole.saved) (acts (eqb k.kind 20))
      ∙ ap (λ x. saved_rows arrival.whole.saved q.saved k.psn.0 (word_at m x)) (at-word a)

  one_word : IsAtomic k.kind → OnlyWord m (memory_by E.change m p) at
  one_word (inl e) = subst (λ x. OnlyWord m x at) (sym (swap-memory e)) (swap-within m at k.operands.compare k.operands.swap)
  one_word (inr e) = subst (λ x. OnlyWord m x at) (sym (fetch-memory e)) (fetch-within m at k.operands.swap)

  swaps-by : carrying k.kind ≡ false → eqb k.kind 12 ≡ false → OnRegion word q k m (memory_by E.change m p) arrival.whole.saved (saved_by q.saved E.change E.reply.psn arrival.whole.saved m)
  swaps-by c r =
      let T = judged.none.0 refl in
      let a = which-atomic q.setup k.kind T.1 c r in
      let G = gives-word a (T.6.atomics a) in
      let O = one_word a in
      record {
        kind = a;
        gives = G;
        fetch = fetch-memory;
        swap = swap-memory;
        saved = saved-word a;
        only =
            only-by m (memory_by E.change m p) at 8 (get_or word 3 0) (get_or word 2 0) O.kept O.before O.after (omega arith)
            (omega (arith, G.from, G.to));
      }

-- On the unreliable connection the packet finds the message that it leaves open, and is not answered
module _ (a : Arrival) (n : ℕ) where
  -- what arrives, with the pair as the packet finds it
  abbrev seen : Arrival
  seen = record { whole = viewed_in (packet_in a.packet).place a.whole; memory = a.memory; packet = a.packet; out = a.out }

  abbrev v : Pair
  v = seen.whole.pair

  abbrev stored_at : Bool → ℕ → OpenMessage → Decision
  stored_at asked psns t = store_payload asked psns (packet_in a.packet) t (head_entry a.whole.pair a.whole.entries) (region_for (packet_in a.packet).kind t.key a.whole.regions)

  same-message : (t : OpenMessage) → (pair_by a.whole.pair (stored_at false n t)).message ≡ (pair_by v (stored_at (packet_in a.packet).ackreq 1 t)).message
  unfolding pair_by pair_by_number store_payload executed_pair status_number
  same-message t = sym (rw (few (packet_in a.packet).ackreq))

  unseen : (t : OpenMessage) → StoresPayload seen (packet_in a.packet) t (left_by seen (stored_at (packet_in a.packet).ackreq 1 t))
      → StoresPayload a (packet_in a.packet) t (left_by a (stored_at false n t))
  unfolding left_by memory_by store_payload
  unseen t P =
      record {
        kind = P.kind;
        carried = P.carried;
        sends = P.sends;
        writes = P.writes;
        nothing = P.nothing;
        sent-whole = P.sent-whole;
        written = P.written;
        unreported = P.unreported;
        onward = P.onward;
        opens = λ h. same-message t ∙ P.opens h;
      }

  uc_executed : Sound a.whole.pair → length a.memory ≡ a.whole.pair.setup.memory → code_by seen.whole (packet_in a.packet) ≡ 0 → carrying (packet_in a.packet).kind ≡ true
      → StoresPayload a (packet_in a.packet) (current a.whole.pair.message (packet_in a.packet)) (left_by a (stored_at false n (current a.whole.pair.message (packet_in a.packet))))
  uc_executed S w z c =
      subst (λ t. StoresPayload a (packet_in a.packet) t (left_by a (stored_at false n t))) (current-closed a.whole.pair.message (packet_in a.packet))
      (unseen (current v.message (packet_in a.packet)) (stores-by seen (viewed-sound (packet_in a.packet).place a.whole.pair S) w z c))

-- the two claims: any other decision has another answer
module _ (a : Arrival) (w : length a.memory ≡ a.whole.pair.setup.memory) where
  stores-way : (d : Decision) → Way a.whole (packet_in a.packet) d → (status_number d.status ≡ 0) ⊎ (status_number d.status ≡ 1)
      → StoresPayload a (packet_in a.packet) (current a.whole.pair.message (packet_in a.packet)) (left_by a d)
  unfolding run_atomic status_number
  stores-way d (away e (inl x)) (inl y) = absurd (omega arith)
  stores-way d (away e (inl x)) (inr y) = absurd (omega arith)
  stores-way d (away e (inr x)) (inl y) = absurd (omega arith)
  stores-way d (away e (inr x)) (inr y) = absurd (omega arith)
  stores-way d (places S z c) h = stores-by a S w z c
  stores-way d (exchanges S z c r) (inl y) = absurd (omega arith)
  stores-way d (exchanges S z c r) (inr y) = absurd (omega arith)
  stores-way d (delivers S n z c) h = uc_executed a n S w z c

  low-number : (b : Bool) → status_number (cond b status.Acknowledged status.Executed) ≡ 3 → ⊥
  unfolding status_number
  low-number true e = omega arith
  low-number false e = omega arith

  swaps-way : (d : Decision) → Way a.whole (packet_in a.packet) d → status_number d.status ≡ 3
      → OnRegion (region_of (packet_in a.packet).operands.key a.whole.regions) a.whole.pair (packet_in a.packet) a.memory (memory_by d.change a.memory a.packet) a.whole.saved (saved_by a.whole.pair.saved d.change d.reply.psn a.whole.saved a.memory)
  unfolding store_payload
  swaps-way d (away e (inl x)) y = absurd (omega arith)
  swaps-way d (away e (inr x)) y = absurd (omega arith)
  swaps-way d (places S z c) y = absurd (low-number (packet_in a.packet).ackreq y)
  swaps-way d (delivers S n z c) y = absurd (low-number false y)
  swaps-way d (exchanges S z c r) y = swaps-by a S w z c r

small : (n : ℕ) → (n ≡ 0) ⊎ (n ≡ 1) → n < 32
small n (inl e) = omega arith
small n (inr e) = omega arith

pub inbound-stores : InboundStores
unfolding inbound left_by decision packet_of header_of
inbound-stores a t C h =
    let d = decision a in
    let w = (inbound-meant a (small (status_number d.status) h)).1 in
    subst (λ x. StoresPayload a (packet_in a.packet) x (left_by a d)) (sym (current-one a.whole.pair.message (packet_in a.packet) t (any_place (bth_of a.packet).opcode) C))
    (stores-way a w d (decided-way a) h)

pub inbound-swaps : InboundSwaps
unfolding inbound left_by decision
inbound-swaps a h =
    let d = decision a in
    let w = (inbound-meant a (omega (arith, h))).1 in
    swaps-way a w d (decided-way a) h
