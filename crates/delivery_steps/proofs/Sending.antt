-- Packet k of a SEND is executed.
use Prim.Native.Nat.{ℕ, ◌+◌, ◌-◌, ◌*◌, ◌≤◌, ◌<◌}
use mathlib.Core.Path.{◌≡◌, refl, sym, ap, subst, ◌∙◌}
use mathlib.Core.Bool.{Bool, true, false, cond, ◌&&◌, true≢false}
use mathlib.Core.List.{List, [], ◌∷◌, ◌++◌, map}
use native.Mathlib.Omega.{arith}
use lib.Dec.{eqb}
use lib.ListN.{length, get_or, take, drop, take-append-drop}
use borrow.Author.Tests.{ltb-false}
use Rattle.lemmas.proofs.Tests.{and-true}
use Rattle.memory.specs.Memory.{overwrite}
use Rattle.opcode.specs.Place.{ends}
use Rattle.pmtu.specs.Pieces.{piece_at}
use Rattle.table.specs.Table.{entry_slot, outside}
use Rattle.table.specs.View.{in_ring}
use Rattle.table.specs.declared.Entry.{Entry}
use Rattle.pair.specs.Claims.{SetupFit}
use Rattle.pair.specs.declared.OpenMessage.{OpenMessage}
use Rattle.cut_spec.specs.Claims.{kind_number}
use Rattle.request_spec.specs.Verdict.{payload_size, current}
use Rattle.responder_spec.specs.Steady.{Steady}
use Rattle.responder_spec.specs.Decide.{head_entry, region_for, completion_of, message_after, store_payload}
use Rattle.responder_spec.specs.Apply.{memory_by, entries_by}
use Rattle.responder_spec.specs.Calls.{reports}
use Rattle.delivery_spec.specs.Stream.{Message, packet_count, Slot, slot, packet_at}
use Rattle.delivery_spec.specs.Plain.{Plain, takes_entry, completions_for, none, first_of, slot_needs_entry, is_last, held_now, waiting_now}
use Rattle.delivery_spec.specs.Demand.{Run, AllLongEnough, LongEnough, entry_of}
use Rattle.delivery_steps.proofs.Chain.{Stands, Good}
use Rattle.delivery_steps.proofs.Cutting.{place_for, cut_packet}
use Rattle.delivery_steps.proofs.Rel.{OpenedFor, Link}
use Rattle.delivery_steps.proofs.Checks.{ends_is}
use Rattle.delivery_steps.proofs.Entries.{entries_by_lem, count-is, head-is, entry-fits}
use Rattle.delivery_steps.proofs.Effects.{Does, opened-next}
use Rattle.delivery_steps.proofs.Requests.{Carries, Sends}
use Rattle.delivery_steps.proofs.InMemory.{send-memory-is, send-completes, send-long}
use Rattle.delivery_steps.proofs.Storing.{storing-completes, storing-answers, storing-reads, message-after-last, message-after-more}

-- the first of the entries that wait, where some do
first-waiting : (ms : List Message) (es : List Entry) → none es ≡ false → AllLongEnough ms es
    → (take 1 es ≡ first_of es ∷ []) × LongEnough ms (first_of es) × (1 ≤ length es)
first-waiting ms [] e h = absurd (true≢false e)
first-waiting ms (x ∷ es) e h = (refl, h.0, omega arith)

-- the entries after packet k of a SEND, by whether it is the first and the last
taking : (a b : Bool) (held waiting : List Entry) → (a ≡ true → held ≡ []) → (a ≡ false → (e : Entry) × (held ≡ e ∷ []))
    → cond b (drop 1 (held ++ waiting)) (held ++ waiting)
    ≡ cond b [] (cond a (take 1 waiting) held) ++ cond a (drop 1 waiting) waiting
taking true true held waiting f g = ap (λ h. drop 1 (h ++ waiting)) (f refl)
taking true false held waiting f g = ap (λ h. h ++ waiting) (f refl) ∙ sym (take-append-drop 1 waiting)
taking false true held waiting f g = let e = g refl in ap (λ h. drop 1 (h ++ waiting)) e.1
taking false false held waiting f g = refl

module _ (ms : List Message) (S : List Slot) (p : Plain) (x : Run) (L : Link ms S p x) (Y : Steady x.whole)
    (G : Good x.whole.pair.setup x.whole.regions ms S) (lt : p.k < length S)
    (ml : length p.memory ≡ x.whole.pair.setup.memory)
    (C : Carries (slot S p.k).message.request) (Z : Sends (slot S p.k).message.request)
    (free : (slot_needs_entry (slot S p.k) && none p.waiting) ≡ false) where
  abbrev t : Slot
  t = slot S p.k

  abbrev entry : List ℕ
  entry = head_entry x.whole.pair x.whole.entries

  H : Stands x.whole.pair.setup x.whole.regions t
  H = G.stands p.k lt

  -- the entry: taken now, or held
  pub record Entered : Type 0 where
    pub some : 1 ≤ x.whole.pair.entries.count
    pub is : held_now p t ≡ entry_of entry ∷ []
    pub large : length t.message.bytes ≤ get_or entry 2 0

  pub entered : Entered
  entered = go (eqb t.index 0) refl L.opened
    where
      needs-entry-is : slot_needs_entry t ≡ eqb t.index 0
      needs-entry-is = Z.needs_entry_at t.index (packet_count t.message)

      count : x.whole.pair.entries.count ≡ length (p.held ++ p.waiting)
      count = count-is x.whole.entries x.whole.pair.entries (p.held ++ p.waiting) L.entries

      head : 1 ≤ x.whole.pair.entries.count → entry_of entry ≡ first_of (p.held ++ p.waiting)
      head h = head-is x.whole.entries x.whole.pair.entries (p.held ++ p.waiting) L.entries h

      go : (b : Bool) → eqb t.index 0 ≡ b → OpenedFor b t x.whole.pair.message p.held → Entered
      go true e u =
          let w = first-waiting ms p.waiting (subst (λ b. (b && none p.waiting) ≡ false) (needs-entry-is ∙ e) free) L.long in
          let c : 1 ≤ x.whole.pair.entries.count = omega (arith, count ∙ ap (λ h. length (h ++ p.waiting)) u.1, w.2) in
          let i : entry_of entry ≡ first_of p.waiting = head c ∙ ap (λ h. first_of (h ++ p.waiting)) u.1 in
          record {
            some = c;
            is = ap (λ b. cond b (take 1 p.waiting) p.held) (needs-entry-is ∙ e) ∙ (w.0 ∙ ap (λ y. y ∷ []) (sym i));
            large =
                subst (λ y. length t.message.bytes ≤ y.length) (sym i)
                (Z.least (length t.message.bytes) (first_of p.waiting).length (G.large (first_of p.waiting) w.1 p.k lt));
          }
      go false e u =
          let w = Z.held (length t.message.bytes) p.held u.1 in
          let c : 1 ≤ x.whole.pair.entries.count = omega (arith, count ∙ ap (λ h. length (h ++ p.waiting)) w.1) in
          let i : entry_of entry ≡ w.0 = head c ∙ ap (λ h. first_of (h ++ p.waiting)) w.1 in
          record {
            some = c;
            is = ap (λ b. cond b (take 1 p.waiting) p.held) (needs-entry-is ∙ e) ∙ (w.1 ∙ ap (λ y. y ∷ []) (sym i));
            large = subst (λ y. length t.message.bytes ≤ y.length) (sym i) w.2;
          }

  abbrev M : OpenMessage
  M = current x.whole.pair.message (cut_packet t)

  abbrev region : List ℕ
  region = region_for (kind_number t.message.request) M.key x.whole.regions

  fits : SetupFit x.whole.pair.setup
  fits = Y.pair.setup.0

  first-is : first_of (held_now p t) ≡ entry_of entry
  first-is = ap first_of entered.is

  memory-is : memory_by (store_payload (cut_packet t).ackreq 1 (cut_packet t) M entry region).change x.memory (packet_at t)
      ≡ overwrite p.memory ((first_of (held_now p t)).offset + t.index * t.message.connection.pmtu) (piece_at t.message.bytes t.message.connection.pmtu t.index)
  unfolding outside
  memory-is =
      let d = piece_at t.message.bytes t.message.connection.pmtu t.index in
      let o : get_or entry 1 0 + get_or entry 2 0 ≤ x.whole.pair.setup.memory =
      ltb-false x.whole.pair.setup.memory (get_or entry 1 0 + get_or entry 2 0)
      (entry-fits x.whole.pair.setup.memory x.whole.entries x.whole.pair.entries Y.entries entered.some) in
      ap (λ m. memory_by (store_payload (cut_packet t).ackreq 1 (cut_packet t) M entry region).change m (packet_at t)) L.memory
      ∙ (send-memory-is x.whole.pair.setup x.whole.regions fits t H x.whole.pair.message p.held L.opened C entry Z p.memory (omega (arith, o, ml)) entered.large
      ∙ ap (λ e. overwrite p.memory (e.offset + t.index * t.message.connection.pmtu) d) (sym first-is))

  last-is : ends (place_for t) ≡ is_last t
  last-is = ends_is x.whole.pair.setup x.whole.regions fits t H x.whole.pair.message p.held L.opened

  ring-is : (a b : Bool) → slot_needs_entry t ≡ a → (is_last t && takes_entry t.message.request) ≡ b → is_last t ≡ b
      → map entry_of (in_ring entry_slot x.whole.entries (entries_by b x.whole.pair.entries))
      ≡ cond (is_last t) [] (held_now p t) ++ waiting_now p t
  ring-is a b e f g =
      entries_by_lem x.whole.entries x.whole.pair.entries (p.held ++ p.waiting) L.entries b (λ z. entered.some)
      ∙ (taking a b p.held p.waiting (λ z. started z) (λ z. going z)
      ∙ λ i. cond (sym g i) [] (cond (sym e i) (take 1 p.waiting) p.held) ++ cond (sym e i) (drop 1 p.waiting) p.waiting)
    where
      started : a ≡ true → p.held ≡ []
      started z = (subst (λ y. OpenedFor y t x.whole.pair.message p.held) (sym (Z.needs_entry_at t.index (packet_count t.message)) ∙ (e ∙ z)) L.opened).1

      going : a ≡ false → (y : Entry) × (p.held ≡ y ∷ [])
      going z =
          let u = subst (λ y. OpenedFor y t x.whole.pair.message p.held) (sym (Z.needs_entry_at t.index (packet_count t.message)) ∙ (e ∙ z)) L.opened in
          let w = Z.held (length t.message.bytes) p.held u.1 in
          (w.0, w.1)

  pub sends : Does ms S p x (store_payload (cut_packet t).ackreq 1 (cut_packet t) M entry region) (packet_at t) (first_of (held_now p t))
  unfolding store_payload
  sends =
      record {
        status = storing-answers x.whole.pair.setup x.whole.regions fits t H x.whole.pair.message p.held L.opened C entry region;
        psns = sym (C.psn_count t.message.connection.pmtu);
        ends = last-is;
        reads = storing-reads x.whole.pair.setup x.whole.regions fits t H x.whole.pair.message p.held L.opened C entry region x.whole.pair.read _ p.r L.reads;
        memory = memory-is ∙ sym (Z.memory-is x.whole.regions t.message.connection.pmtu t.message.bytes t.index (first_of (held_now p t)) p.memory);
        completion = completion-is.0;
        entries =
            ap (λ b. map entry_of (in_ring entry_slot x.whole.entries (entries_by b x.whole.pair.entries))) completion-is.1
            ∙ ring-is (slot_needs_entry t) (is_last t && takes_entry t.message.request) refl refl (sym (and-true (is_last t)) ∙ ap (λ b. is_last t && b) (sym Z.takes_entry));
        opened =
            opened-next S p.k (message_after (place_for t) M (payload_size (cut_packet t))) (cond (is_last t) [] (held_now p t)) (G.turn p.k lt) H.outgoing.inside
            (λ e. (message-after-last x.whole.pair.setup x.whole.regions fits t H x.whole.pair.message p.held L.opened C entry region e, ap (λ b. cond b [] (held_now p t)) e))
            (λ e. (
              message-after-more x.whole.pair.setup x.whole.regions fits t H x.whole.pair.message p.held L.opened C entry region e,
              Z.holding (length t.message.bytes) (cond (is_last t) [] (held_now p t)) (entry_of entry) (ap (λ b. cond b [] (held_now p t)) e ∙ entered.is) entered.large,
            ));
      }
    where
      completion-is :
          (reports (completion_of (cut_packet t) M (get_or entry 0 0))
          ≡ cond (is_last t) (completions_for t.message.request (first_of (held_now p t)) (length t.message.bytes)) [])
          × ((completion_of (cut_packet t) M (get_or entry 0 0)).some ≡ (is_last t && takes_entry t.message.request))
      completion-is =
          storing-completes x.whole.pair.setup x.whole.regions fits t H x.whole.pair.message p.held L.opened C entry region
          (first_of (held_now p t)) (send-completes x.whole.pair.setup x.whole.regions fits t H x.whole.pair.message p.held L.opened C entry Z)
          (λ e. ap (λ y. y.number) (sym first-is))
          (send-long x.whole.pair.setup x.whole.regions fits t H x.whole.pair.message p.held L.opened C entry Z)
