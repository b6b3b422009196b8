-- A packet of the stream, before a pair that stands where the packet follows, passes each request check.
use Prim.Native.Nat.{ℕ, suc, ◌+◌, ◌-◌, ◌*◌, ◌≤◌}
use mathlib.Core.Path.{◌≡◌, refl, sym, ap, subst, ◌∙◌}
use mathlib.Core.Bool.{Bool, true, false, cond, not, ◌&&◌, true≢false}
use mathlib.Core.List.{List, [], ◌∷◌, ◌++◌}
use mathlib.Core.Logic.{◌⊎◌, inl, inr}
use native.Mathlib.Omega.{arith}
use lib.Dec.{eqb}
use lib.ListN.{length, get_or}
use borrow.Author.Tests.{eqb-true, eq-eqb, ne_eqb}
use Rattle.packet.specs.Packet.{pad_of}
use Rattle.opcode.specs.Place.{starts, ends}
use Rattle.pmtu.proofs.Counting.{bounds}
use Rattle.table.specs.Table.{outside}
use Rattle.table.specs.Claims.{RegionsSound}
use Rattle.table.specs.declared.Entry.{Entry}
use Rattle.pair.specs.declared.Setup.{Setup}
use Rattle.pair.specs.declared.OpenMessage.{OpenMessage}
use Rattle.pair.specs.Claims.{SetupFit}
use Rattle.cut_spec.specs.Message.{message_length}
use Rattle.cut_spec.specs.Claims.{Carrier, kind_number}
use Rattle.cut_spec.specs.declared.Connection.{Connection}
use Rattle.cut_spec.specs.declared.Request.{Request}
use Rattle.cut_spec.specs.declared.Request.TheVariants.{Send, SendImmediate, Write, WriteImmediate, Read, CmpSwap, FetchAdd}
use Rattle.cut_spec.proofs.Fits.{decide, none-carried}
use Rattle.cut_spec.proofs.Shapes.{cut-one}
use Rattle.sequence.specs.declared.Psn.{Psn}
use Rattle.request_spec.specs.Verdict.{out_of_sequence, pad_early, entries_waiting, none_waiting, uses_entry, entry_outside, current}
use Rattle.responder_spec.specs.Decide.{region_for}
use Rattle.delivery_spec.specs.Stream.{packet_count, Slot}
use Rattle.delivery_spec.specs.Plain.{none, slot_needs_entry}
use Rattle.delivery_steps.proofs.Chain.{Stands}
use Rattle.delivery_steps.proofs.Places.{Sizes, starts-at, ends_at, size_fits, pad-late}
use Rattle.delivery_steps.proofs.Cutting.{slot_size, place_for, cut_packet, pmtu-is, sizes}
use Rattle.delivery_steps.proofs.Operands.{address_of, key_of, named_of, Said, said}
use Rattle.delivery_steps.proofs.Rel.{Is, IsOf, OpenedFor}
use Rattle.delivery_steps.proofs.Verdicts.{Before, Behind}
use Rattle.delivery_steps.proofs.Fitting.{named-is, named-limit, enabled-is, and-false, needs-is, Room, key-good, Suits, payload-total, lengths-good}

-- a packet that needs an entry finds none held
idle : (r : Request) (c : Connection) (d : List ℕ) (first : Psn) (i : ℕ) (opened : OpenMessage) (held : List Entry)
    → slot_needs_entry (record { message = record { connection = c; request = r; bytes = d }; first = first; index = i }) ≡ true
    → OpenedFor (eqb i 0) (record { message = record { connection = c; request = r; bytes = d }; first = first; index = i }) opened held
    → (opened.kind ≡ 0 → ⊥) × (held ≡ [])
idle Send c d first i opened held q u =
    let v = subst (λ b. OpenedFor b (record { message = record { connection = c; request = Send; bytes = d }; first = first; index = i }) opened held) q u in
    ((λ z. absurd (omega (arith, v.0))), v.1)
idle (SendImmediate x) c d first i opened held q u =
    let v = subst (λ b. OpenedFor b (record { message = record { connection = c; request = SendImmediate x; bytes = d }; first = first; index = i }) opened held) q u in
    ((λ z. absurd (omega (arith, v.0))), v.1)
idle (Write y) c d first i opened held q u = absurd (true≢false (sym q))
idle (WriteImmediate y x) c d first i opened held q u = go (eqb i 0) u
  where
    go : (b : Bool) → OpenedFor b (record { message = record { connection = c; request = WriteImmediate y x; bytes = d }; first = first; index = i }) opened held
        → (opened.kind ≡ 0 → ⊥) × (held ≡ [])
    go true v = ((λ z. absurd (omega (arith, v.0))), v.1)
    go false v = ((λ z. absurd (omega (arith, v.0.kind))), v.1)
idle (Read a) c d first i opened held q u = absurd (true≢false (sym q))
idle (CmpSwap a) c d first i opened held q u = absurd (true≢false (sym q))
idle (FetchAdd y x) c d first i opened held q u = absurd (true≢false (sym q))

pub none-pad : pad_of 0 ≡ 0
unfolding pad_of
none-pad = refl

count-waiting : (k count : ℕ) → (k ≡ 0 → ⊥) → entries_waiting k count ≡ count
unfolding entries_waiting
count-waiting k count h = rw (ne_eqb k 0 h)

none_is : (waiting : List Entry) → eqb (length waiting) 0 ≡ none waiting
none_is [] = refl
none_is (e ∷ es) = ne_eqb (length (e ∷ es)) 0 (λ z. absurd (omega arith))

-- the message of a packet: begun by the first, open before all others
module _ (s : Setup) (regions : List (List ℕ)) (f : SetupFit s) (t : Slot) (h : Stands s regions t) (opened : OpenMessage) where
  starts_is : starts (place_for t) ≡ eqb t.index 0
  starts_is = starts-at (packet_count t.message) t.index h.outgoing.inside

  pub says : Said t.message.request (message_length t.message.request (length t.message.bytes)) (place_for t) (cut_packet t).operands
  says = said t.message.request (message_length t.message.request (length t.message.bytes)) (packet_count t.message) t.index

  pub begun : eqb t.index 0 ≡ true → IsOf t (current opened (cut_packet t))
  unfolding current
  begun z =
      let e = starts_is ∙ z in
      let b = says.begins e in
      rw e
      (record {
        kind = refl;
        stored = omega (arith, ap (λ k. k * t.message.connection.pmtu) (eqb-true t.index 0 z));
        address = b.0;
        key = b.1;
        length = b.2 ∙ named-is t.message.request (length t.message.bytes);
      })

  going : eqb t.index 0 ≡ false → current opened (cut_packet t) ≡ opened
  unfolding current
  going z = rw (starts_is ∙ z)

module _ (s : Setup) (regions : List (List ℕ)) (f : SetupFit s) (t : Slot) (h : Stands s regions t) (opened : OpenMessage) (held : List Entry)
    (U : OpenedFor (eqb t.index 0) t opened held) where
  pub ends_is : ends (place_for t) ≡ eqb (suc t.index) (packet_count t.message)
  ends_is = ends_at (packet_count t.message) t.index h.outgoing.inside

  -- the message that the packet is of
  pub now : IsOf t (current opened (cut_packet t))
  now = go (eqb t.index 0) refl U
    where
      go : (b : Bool) → eqb t.index 0 ≡ b → OpenedFor b t opened held → IsOf t (current opened (cut_packet t))
      go true z u = begun s regions f t h opened z
      go false z u = subst (IsOf t) (sym (going s regions f t h opened z)) u.0

  sequence-is : out_of_sequence opened.kind (kind_number t.message.request) (place_for t) ≡ false
  unfolding out_of_sequence
  sequence-is = rw (starts_is s regions f t h opened) (go (eqb t.index 0) U)
    where
      go : (b : Bool) → OpenedFor b t opened held
          → cond b (not (eqb opened.kind 255)) (not (eqb opened.kind (kind_number t.message.request))) ≡ false
      go true u = ap not (eq-eqb opened.kind 255 u.0)
      go false u = ap not (eq-eqb opened.kind (kind_number t.message.request) u.0.kind)

  -- a request that carries bytes, or none
  pad-is : (Carrier t.message.request ⊎ (Carrier t.message.request → ⊥)) → pad_early (place_for t) (pad_of (slot_size t)) ≡ false
  unfolding pad_early pad_of
  pad-is (inl c) =
      pad-late (packet_count t.message) t.index h.outgoing.inside (slot_size t) t.message.connection.pmtu (length t.message.bytes) (sizes s f t h.outgoing c)
      (bounds t.message.connection.pmtu (pmtu-is s f t h.outgoing)).2
  pad-is (inr c) =
      let z : pad_of (slot_size t) ≡ 0 = ap pad_of (none-carried t.message.connection t.message.request t.message.bytes t.index c) in
      rw z (and-false (not (ends (place_for t))))

  pub before : Before s opened (cut_packet t)
  before =
      record {
        sequence = sequence-is;
        enabled = enabled-is s regions t.message.request (length t.message.bytes) h.allowed;
        pad = pad-is (decide t.message.request);
        limit =
            (says s regions f t h opened).limit (subst (λ n. n ≤ 1048576) (sym (named-is t.message.request (length t.message.bytes)))
            (named-limit t.message.request (length t.message.bytes) h.outgoing.addressed.limit));
      }

  -- an entry is wanting exactly where the plain run says so
  pub waiting-is : (waiting : List Entry) (count : ℕ) → count ≡ length (held ++ waiting)
      → none_waiting (kind_number t.message.request) (place_for t) (cut_packet t).operands.immediate opened.kind count ≡ (slot_needs_entry t && none waiting)
  unfolding none_waiting
  waiting-is waiting count e =
      rw (needs-is t.message.request (place_for t) t.index (packet_count t.message) (cut_packet t).operands.immediate
      (starts_is s regions f t h opened) ends_is (says s regions f t h opened).immediate)
      (go (slot_needs_entry t) refl)
    where
      go : (b : Bool) → slot_needs_entry t ≡ b → (b && eqb (entries_waiting opened.kind count) 0) ≡ (b && none waiting)
      go false q = refl
      go true q =
          let i = idle t.message.request t.message.connection t.message.bytes t.first t.index opened held q U in
          rw (count-waiting opened.kind count i.0) (rw (e ∙ ap (λ x. length (x ++ waiting)) i.1) (none_is waiting))

  now-here : Is (kind_number t.message.request) (t.index * s.pmtu) (address_of t.message.request) (key_of t.message.request)
      (named_of t.message.request (length t.message.bytes)) (current opened (cut_packet t))
  now-here =
      subst
      (λ z. Is (kind_number t.message.request) (t.index * z) (address_of t.message.request) (key_of t.message.request)
      (named_of t.message.request (length t.message.bytes)) (current opened (cut_packet t)))
      h.outgoing.addressed.pmtu now

  sizes-here : Carrier t.message.request → Sizes t.index (packet_count t.message) (slot_size t) s.pmtu (length t.message.bytes)
  sizes-here c =
      subst (λ z. Sizes t.index (packet_count t.message) (slot_size t) z (length t.message.bytes)) h.outgoing.addressed.pmtu (sizes s f t h.outgoing c)

  room-is : Room t.message.request (t.index * s.pmtu) (length t.message.bytes)
  room-is = go t.message.request refl
    where
      within : Carrier t.message.request → t.index * s.pmtu ≤ length t.message.bytes
      within c = omega (arith, payload-total t.index (packet_count t.message) (slot_size t) s.pmtu (length t.message.bytes) h.outgoing.inside (sizes-here c))

      zeroth : packet_count t.message ≡ 1 → t.index * s.pmtu ≡ 0
      zeroth e =
          let i : t.index ≡ 0 = omega (arith, h.outgoing.inside) in
          omega (arith, ap (λ k. k * s.pmtu) i)

      go : (x : Request) → t.message.request ≡ x → Room x (t.index * s.pmtu) (length t.message.bytes)
      go Send e = tt
      go (SendImmediate v) e = tt
      go (Write y) e = within (subst Carrier (sym e) tt)
      go (WriteImmediate y v) e = within (subst Carrier (sym e) tt)
      go (Read a) e = zeroth (cut-one t.message.request (length t.message.bytes) t.message.connection.pmtu (λ c. subst Carrier e c))
      go (CmpSwap a) e = zeroth (cut-one t.message.request (length t.message.bytes) t.message.connection.pmtu (λ c. subst Carrier e c))
      go (FetchAdd y v) e = zeroth (cut-one t.message.request (length t.message.bytes) t.message.connection.pmtu (λ c. subst Carrier e c))

  pub behind : (entry : List ℕ) → RegionsSound s.memory regions
      → (uses_entry (kind_number t.message.request) (cut_packet t).operands.immediate ≡ true → outside (get_or entry 1 0) (get_or entry 2 0) s.memory ≡ false)
      → Suits t.message.request (length t.message.bytes) (get_or entry 2 0)
      → Behind s opened (cut_packet t) entry (region_for (kind_number t.message.request) (current opened (cut_packet t)).key regions)
  unfolding entry_outside
  behind entry sound inside suits =
      record {
        entry_in = both (uses_entry (kind_number t.message.request) (cut_packet t).operands.immediate) (outside (get_or entry 1 0) (get_or entry 2 0) s.memory) inside;
        key = key-good t.message.request s regions (length t.message.bytes) (t.index * s.pmtu) (current opened (cut_packet t)) sound h.allowed now-here room-is;
        lengths =
            lengths-good t.message.request s regions (cut_packet t) (current opened (cut_packet t)) t.index (packet_count t.message) (slot_size t) (length t.message.bytes) (get_or entry 2 0)
            refl refl ends_is h.outgoing.inside h.allowed now-here
            (λ c. (sizes-here c, size_fits (packet_count t.message) t.index h.outgoing.inside (slot_size t) s.pmtu (length t.message.bytes) (sizes-here c)))
            (λ c. let z = none-carried t.message.connection t.message.request t.message.bytes t.index c in (z, ap pad_of z ∙ none-pad))
            suits;
      }
    where
      both : (a b : Bool) → (a ≡ true → b ≡ false) → (a && b) ≡ false
      both true b g = g refl
      both false b g = refl
