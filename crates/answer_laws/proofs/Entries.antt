-- What no call does on the unreliable connection, and where the entry of a closed message goes.
use Prim.Native.Nat.{ℕ, suc, ◌+◌, ◌-◌, ◌%◌, ◌≤◌}
use mathlib.Core.Path.{◌≡◌, refl, sym, ap, subst, ◌∙◌}
use mathlib.Core.List.{List, [], ◌∷◌}
use mathlib.Core.Logic.{◌⊎◌, inl, inr}
use native.Mathlib.Omega.{arith}
use lib.Dec.{eqb}
use lib.ListN.{length, take, drop, get_or}
use borrow.Author.Tests.{eq-eqb}
use Rattle.responder_spec.specs.Arrival.{Arrival, Left}
use Rattle.header.specs.Read.{header_of}
use Rattle.packet.specs.Packet.{payload_of}
use Rattle.table.specs.Table.{entry_capacity, entry_slot}
use Rattle.table.specs.View.{in_ring}
use Rattle.table.specs.declared.Ring.{Ring}
use Rattle.table.proofs.Rings.{entry-ring}
use Rattle.pair.specs.View.{entries_of, held_of, waiting_of}
use Rattle.pair.specs.Claims.{Sound}
use Rattle.pair.specs.declared.OpenMessage.{OpenMessage}
use Rattle.pair.specs.declared.Pair.{Pair}
use Rattle.pair.proofs.Posting.{held-waiting, held-some, held_first}
use Rattle.request_spec.specs.Packet.{packet_of}
use Rattle.request_spec.specs.Claims.{Begins, GoesOn}
use Rattle.responder_spec.specs.Inbound.{inbound}
use Rattle.effect_laws.specs.Effects.{Unchanged, Abandons, StoresPacket, Table}
use Rattle.lemmas.specs.OneOf.{OneOf}
use Rattle.answer_laws.specs.Answers.{entry_at_head, Completes, StoresPayload}
use Rattle.request_spec.specs.Packet.{packet_in}
use Rattle.answer_laws.specs.Unreliable.{UcKeeps, UcLeaves, EntryBack, HeldEntryTaken}
use Rattle.effect_laws.proofs.Effects.{inbound-table}
use Rattle.effect_laws.proofs.Numbers.{uc-answers}
use Rattle.effect_laws.proofs.Refusals.{inbound-meant}
use Rattle.answer_laws.proofs.Answers.{head_first}
use Rattle.answer_laws.proofs.Storing.{inbound-stores}

-- by the row of each answer
module _ (a : Arrival) (l : Left) where
  unchanged-keeps : Unchanged a l → UcKeeps a l
  unchanged-keeps U =
      record {
        setup = ap (λ x. x.setup) U.pair;
        state = ap (λ x. x.state) U.pair;
        nakmark = λ e. ap (λ x. x.nakmark) U.pair ∙ e;
        read = ap (λ x. x.read) U.pair;
        ring = ap (λ x. x.saved) U.pair;
        saved = U.unexecuted.saved;
        outgoing = U.outgoing;
        out = U.out;
      }

  abandons-keeps : Abandons a l → UcKeeps a l
  abandons-keeps A =
      record {
        setup = A.setup;
        state = A.state;
        nakmark = λ e. A.nakmark ∙ e;
        read = A.read;
        ring = A.ring;
        saved = A.unexecuted.saved;
        outgoing = A.outgoing;
        out = A.out;
      }

  stores-keeps : StoresPacket a l → l.outgoing ≡ 0 → l.out ≡ a.out → UcKeeps a l
  stores-keeps X s o =
      record {
        setup = X.executed.setup;
        state = X.executed.state;
        nakmark = λ e. X.executed.nakmark;
        read = X.read;
        ring = X.ring;
        saved = X.saved;
        outgoing = s;
        out = o;
      }

pub uc-leaves : UcLeaves
uc-leaves a s = go (uc-answers a s)
  where
    l : Left
    l = inbound a

    T : Table a (inbound a)
    T = inbound-table a

    quiet : (l.number ≡ 5) ⊎ (32 ≤ l.number) → UcKeeps a l
    quiet h = unchanged-keeps a l (T.quiet h)

    go : OneOf (0 ∷ 5 ∷ 6 ∷ 32 ∷ 34 ∷ 35 ∷ []) l.number → UcKeeps a l
    go (inl e) = let E = T.executes e in stores-keeps a l E.0 E.1 E.2
    go (inr (inl e)) = quiet (inl e)
    go (inr (inr (inl e))) = abandons-keeps a l (T.abandons e)
    go (inr (inr (inr (inl e)))) = quiet (inr (omega (arith, e)))
    go (inr (inr (inr (inr (inl e))))) = quiet (inr (omega (arith, e)))
    go (inr (inr (inr (inr (inr (inl e)))))) = quiet (inr (omega (arith, e)))
    go (inr (inr (inr (inr (inr (inr x)))))) = elim x [ ]

-- with no message open nothing is held; with a SEND open the first is
none-held : (r : Pair) (rows : List (List ℕ)) → r.message ≡ (record { kind = 255; stored = 0; address = 0; key = 0; length = 0 })
    → (held_of r rows ≡ []) × (waiting_of r rows ≡ entries_of r rows)
unfolding held_of waiting_of
none-held r rows e =
    let n : eqb r.message.kind 0 ≡ eqb 255 0 = ap (λ x. eqb x.kind 0) e in
    (rw n, rw n)

one-held : (r : Pair) (rows : List (List ℕ)) → r.message.kind ≡ 0
    → (held_of r rows ≡ take 1 (entries_of r rows)) × (waiting_of r rows ≡ drop 1 (entries_of r rows))
unfolding held_of waiting_of
one-held r rows e = (rw (eq-eqb r.message.kind 0 e), rw (eq-eqb r.message.kind 0 e))

pub entry-back : EntryBack
entry-back a e =
    let A = (inbound-table a).abandons e in
    let N = none-held (inbound a).whole.pair a.whole.entries A.message in
    (N.0, N.1 ∙ (ap (in_ring entry_slot a.whole.entries) A.entries ∙ sym (held-waiting a.whole.pair a.whole.entries)))

-- a First or Only is no Middle or Last
apart : (place : ℕ) → Begins place → GoesOn place → ⊥
apart place (inl b) (inl g) = omega arith
apart place (inl b) (inr g) = omega arith
apart place (inr b) (inl g) = omega arith
apart place (inr b) (inr g) = omega arith

-- the ring without its first
rest-ring : (rows : List (List ℕ)) (r : Ring) → 1 ≤ r.count
    → in_ring entry_slot rows (record { head = (r.head + 1) % entry_capacity; count = r.count - 1 }) ≡ drop 1 (in_ring entry_slot rows r)
unfolding entry_slot
rest-ring rows r some =
    let n : suc (r.count - 1) ≡ r.count = omega arith in
    entry-ring.takes rows r.head (r.count - 1) ∙ ap (λ c. drop 1 (in_ring entry_slot rows (record { head = r.head; count = c }))) n

module _ (arrival : Arrival) (open-send : arrival.whole.pair.message.kind ≡ 0) (send : (packet_in arrival.packet).kind ≡ 0)
    (b : Begins (packet_in arrival.packet).place) (e : (inbound arrival).number ≡ 0) where
  abbrev l : Left
  l = inbound arrival

  abbrev own : OpenMessage
  own =
      record {
        kind = (packet_in arrival.packet).kind;
        stored = 0;
        address = (packet_in arrival.packet).operands.address;
        key = (packet_in arrival.packet).operands.key;
        length = (packet_in arrival.packet).operands.length;
      }

  stores-payload : StoresPayload arrival (packet_in arrival.packet) own l
  stores-payload =
      inbound-stores arrival own
      (record { own = λ g. refl; old = λ g. absurd (apart (packet_in arrival.packet).place b g) }) (inl e)

  stores-packet : StoresPacket arrival l
  stores-packet = ((inbound-table arrival).executes e).0

  sound : Sound arrival.whole.pair
  sound = (inbound-meant arrival (omega (arith, e))).2

  -- a First: the ring is as before, and the SEND is open again
  first-kept : (packet_in arrival.packet).place ≡ 0 → (held_of l.whole.pair arrival.whole.entries ≡ held_of arrival.whole.pair arrival.whole.entries) × (waiting_of l.whole.pair arrival.whole.entries ≡ waiting_of arrival.whole.pair arrival.whole.entries)
  first-kept z =
      let H = one-held l.whole.pair arrival.whole.entries (ap (λ x. x.kind) (stores-payload.opens (inl z)) ∙ send) in
      let G = one-held arrival.whole.pair arrival.whole.entries open-send in
      let s = ap (in_ring entry_slot arrival.whole.entries) (stores-packet.silent (stores-payload.onward (inl z)).some) in
      (H.0 ∙ (ap (take 1) s ∙ sym G.0), H.1 ∙ (ap (drop 1) s ∙ sym G.1))

  -- an Only: the first of the ring is done with, and no message open
  completed : (packet_in arrival.packet).place ≡ 4 → Completes (packet_in arrival.packet) (get_or (entry_at_head arrival.whole) 0 0) (length (payload_of arrival.packet)) l.completion
  completed z =
      let n : 0 + length (payload_of arrival.packet) ≡ length (payload_of arrival.packet) = omega arith in
      subst (λ x. Completes (packet_in arrival.packet) (get_or (entry_at_head arrival.whole) 0 0) x l.completion) n (stores-payload.sent-whole send (inr z))

  only-taken : (packet_in arrival.packet).place ≡ 4 → (held_of l.whole.pair arrival.whole.entries ≡ []) × (waiting_of l.whole.pair arrival.whole.entries ≡ waiting_of arrival.whole.pair arrival.whole.entries)
  unfolding packet_of header_of
  only-taken z =
      let N = none-held l.whole.pair arrival.whole.entries (stores-packet.ends (omega (arith, z))).1 in
      let s = ap (in_ring entry_slot arrival.whole.entries) (stores-packet.completes (completed z).some) in
      (N.0, N.1 ∙ (s ∙ (rest-ring arrival.whole.entries arrival.whole.pair.entries (held-some arrival.whole.pair sound open-send) ∙ sym (one-held arrival.whole.pair arrival.whole.entries open-send).1)))

pub held-entry-taken : HeldEntryTaken
held-entry-taken a o k b e =
    let S = sound a o k b e in
    record {
      held = held_first a.whole.pair a.whole.entries S o ∙ ap (λ x. x ∷ []) (head_first a.whole S);
      stands = (stores-payload a o k b e).sends k;
      waiting = go b;
      first = λ z. (first-kept a o k b e z).0;
      only = λ z. ((only-taken a o k b e z).0, completed a o k b e z);
    }
  where
    go : Begins (packet_in a.packet).place → waiting_of (inbound a).whole.pair a.whole.entries ≡ waiting_of a.whole.pair a.whole.entries
    go (inl z) = (first-kept a o k b e z).1
    go (inr z) = (only-taken a o k b e z).1
