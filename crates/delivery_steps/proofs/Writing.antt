-- Packet k of a WRITE is executed.
use Prim.Native.Nat.{ℕ, ◌+◌, ◌-◌, ◌*◌, ◌≤◌, ◌<◌}
use mathlib.Core.Path.{◌≡◌, refl, sym, ap, subst, ◌∙◌}
use mathlib.Core.Bool.{Bool, true, false, cond, ◌&&◌, true≢false}
use mathlib.Core.List.{List, [], ◌∷◌, ◌++◌, map}
use native.Mathlib.Omega.{arith}
use lib.Dec.{eqb}
use lib.ListN.{length, get_or, take, drop}
use Rattle.memory.specs.Memory.{overwrite}
use Rattle.opcode.specs.Place.{ends}
use Rattle.pmtu.specs.Pieces.{piece_at}
use Rattle.table.specs.Table.{entry_slot}
use Rattle.table.specs.View.{in_ring}
use Rattle.table.specs.declared.Entry.{Entry}
use Rattle.pair.specs.Claims.{SetupFit}
use Rattle.pair.specs.declared.OpenMessage.{OpenMessage}
use Rattle.cut_spec.specs.Claims.{kind_number}
use Rattle.request_spec.specs.Verdict.{payload_size, current}
use Rattle.responder_spec.specs.Steady.{Steady}
use Rattle.responder_spec.specs.Decide.{head_entry, region_for, completion_of, message_after, store_payload}
use Rattle.responder_spec.specs.Apply.{memory_by, entries_by}
use Rattle.responder_spec.specs.Calls.{reports}
use Rattle.delivery_spec.specs.Stream.{Message, packet_count, Slot, slot, packet_at}
use Rattle.delivery_spec.specs.Plain.{Plain, region_offset, takes_entry, completions_for, none, first_of, slot_needs_entry, is_last, held_now, waiting_now}
use Rattle.delivery_spec.specs.Demand.{Run, entry_of}
use Rattle.delivery_steps.proofs.Chain.{Stands, Good}
use Rattle.delivery_steps.proofs.Cutting.{place_for, cut_packet}
use Rattle.delivery_steps.proofs.Operands.{address_of, key_of}
use Rattle.delivery_steps.proofs.Rel.{OpenedFor, Link}
use Rattle.delivery_steps.proofs.Checks.{ends_is}
use Rattle.delivery_steps.proofs.Entries.{entries_by_lem, count-is, head-is}
use Rattle.delivery_steps.proofs.Effects.{Does, opened-next}
use Rattle.delivery_steps.proofs.Requests.{Carries, Writes}
use Rattle.delivery_steps.proofs.InMemory.{write-memory-is, write-completes, write-long}
use Rattle.delivery_steps.proofs.Storing.{storing-completes, storing-answers, storing-reads, message-after-last, message-after-more}

-- a message that took the entry at the head
head-taken : (es : List Entry) → none es ≡ false → (first_of (take 1 es) ≡ first_of es) × (1 ≤ length es)
head-taken [] e = absurd (true≢false e)
head-taken (y ∷ es) e = (refl, omega arith)

-- the entries after packet k of a WRITE, by whether it is the last and takes one
giving : (b c : Bool) (waiting : List Entry)
    → cond (b && c) (drop 1 waiting) waiting ≡ cond b [] (cond (b && c) (take 1 waiting) []) ++ cond (b && c) (drop 1 waiting) waiting
giving true true waiting = refl
giving true false waiting = refl
giving false c waiting = refl

module _ (ms : List Message) (S : List Slot) (p : Plain) (x : Run) (L : Link ms S p x) (Y : Steady x.whole)
    (G : Good x.whole.pair.setup x.whole.regions ms S) (lt : p.k < length S)
    (ml : length p.memory ≡ x.whole.pair.setup.memory)
    (C : Carries (slot S p.k).message.request) (Z : Writes (slot S p.k).message.request)
    (free : (slot_needs_entry (slot S p.k) && none p.waiting) ≡ false) where
  abbrev t : Slot
  t = slot S p.k

  abbrev entry : List ℕ
  entry = head_entry x.whole.pair x.whole.entries

  H : Stands x.whole.pair.setup x.whole.regions t
  H = G.stands p.k lt

  abbrev M : OpenMessage
  M = current x.whole.pair.message (cut_packet t)

  abbrev region : List ℕ
  region = region_for (kind_number t.message.request) M.key x.whole.regions

  fits : SetupFit x.whole.pair.setup
  fits = Y.pair.setup.0

  none-held : p.held ≡ []
  none-held = go (eqb t.index 0) L.opened
    where
      go : (b : Bool) → OpenedFor b t x.whole.pair.message p.held → p.held ≡ []
      go true u = u.1
      go false u = Z.held (length t.message.bytes) p.held u.1

  last-is : ends (place_for t) ≡ is_last t
  last-is = ends_is x.whole.pair.setup x.whole.regions fits t H x.whole.pair.message p.held L.opened

  needs-entry-is : slot_needs_entry t ≡ (is_last t && takes_entry t.message.request)
  needs-entry-is = Z.needs_entry_at t.index (packet_count t.message) ∙ ap (λ b. is_last t && b) (sym Z.takes_entry)

  -- where an entry is taken, there is one
  pub taken : slot_needs_entry t ≡ true → (1 ≤ x.whole.pair.entries.count) × (entry_of entry ≡ first_of (held_now p t))
  taken e =
      let w = head-taken p.waiting (subst (λ b. (b && none p.waiting) ≡ false) e free) in
      let c : 1 ≤ x.whole.pair.entries.count =
      omega (arith, count-is x.whole.entries x.whole.pair.entries (p.held ++ p.waiting) L.entries ∙ ap (λ h. length (h ++ p.waiting)) none-held, w.1) in (
        c,
        head-is x.whole.entries x.whole.pair.entries (p.held ++ p.waiting) L.entries c
            ∙ (ap (λ h. first_of (h ++ p.waiting)) none-held ∙ (sym w.0 ∙ ap (λ b. first_of (cond b (take 1 p.waiting) p.held)) (sym e))),
      )

  abbrev piece : List ℕ
  piece = piece_at t.message.bytes t.message.connection.pmtu t.index

  abbrev target : ℕ
  target = region_offset x.whole.regions (key_of t.message.request) (address_of t.message.request) + t.index * t.message.connection.pmtu

  memory-is : memory_by (store_payload (cut_packet t).ackreq 1 (cut_packet t) M entry region).change x.memory (packet_at t) ≡ overwrite p.memory target piece
  memory-is =
      ap (λ m. memory_by (store_payload (cut_packet t).ackreq 1 (cut_packet t) M entry region).change m (packet_at t)) L.memory
      ∙ write-memory-is x.whole.pair.setup x.whole.regions fits t H x.whole.pair.message p.held L.opened C entry Z Y.regions p.memory ml

  ring-is : map entry_of (in_ring entry_slot x.whole.entries (entries_by (is_last t && takes_entry t.message.request) x.whole.pair.entries))
      ≡ cond (is_last t) [] (held_now p t) ++ waiting_now p t
  ring-is =
      entries_by_lem x.whole.entries x.whole.pair.entries (p.held ++ p.waiting) L.entries (is_last t && takes_entry t.message.request) (λ z. (taken (needs-entry-is ∙ z)).0)
      ∙ (ap (λ h. cond (is_last t && takes_entry t.message.request) (drop 1 (h ++ p.waiting)) (h ++ p.waiting)) none-held
      ∙ (giving (is_last t) (takes_entry t.message.request) p.waiting
      ∙ λ i. cond (is_last t) [] (cond (sym needs-entry-is i) (take 1 p.waiting) (sym none-held i)) ++ cond (sym needs-entry-is i) (drop 1 p.waiting) p.waiting))

  more-held : is_last t ≡ false → cond (is_last t) [] (held_now p t) ≡ []
  more-held e =
      ap (λ b. cond b [] (held_now p t)) e
      ∙ (ap (λ b. cond b (take 1 p.waiting) p.held) (needs-entry-is ∙ ap (λ b. b && takes_entry t.message.request) e) ∙ none-held)

  pub writes : Does ms S p x (store_payload (cut_packet t).ackreq 1 (cut_packet t) M entry region) (packet_at t) (first_of (held_now p t))
  unfolding store_payload
  writes =
      record {
        status = storing-answers x.whole.pair.setup x.whole.regions fits t H x.whole.pair.message p.held L.opened C entry region;
        psns = sym (C.psn_count t.message.connection.pmtu);
        ends = last-is;
        reads = storing-reads x.whole.pair.setup x.whole.regions fits t H x.whole.pair.message p.held L.opened C entry region x.whole.pair.read _ p.r L.reads;
        memory = memory-is ∙ sym (Z.memory-is x.whole.regions t.message.connection.pmtu t.message.bytes t.index (first_of (held_now p t)) p.memory);
        completion = completion-is.0;
        entries = ap (λ b. map entry_of (in_ring entry_slot x.whole.entries (entries_by b x.whole.pair.entries))) completion-is.1 ∙ ring-is;
        opened =
            opened-next S p.k (message_after (place_for t) M (payload_size (cut_packet t))) (cond (is_last t) [] (held_now p t)) (G.turn p.k lt) H.outgoing.inside
            (λ e. (message-after-last x.whole.pair.setup x.whole.regions fits t H x.whole.pair.message p.held L.opened C entry region e, ap (λ b. cond b [] (held_now p t)) e))
            (λ e. (
              message-after-more x.whole.pair.setup x.whole.regions fits t H x.whole.pair.message p.held L.opened C entry region e,
              Z.holding (length t.message.bytes) (cond (is_last t) [] (held_now p t)) (more-held e),
            ));
      }
    where
      completion-is :
          (reports (completion_of (cut_packet t) M (get_or entry 0 0))
          ≡ cond (is_last t) (completions_for t.message.request (first_of (held_now p t)) (length t.message.bytes)) [])
          × ((completion_of (cut_packet t) M (get_or entry 0 0)).some ≡ (is_last t && takes_entry t.message.request))
      completion-is =
          storing-completes x.whole.pair.setup x.whole.regions fits t H x.whole.pair.message p.held L.opened C entry region
          (first_of (held_now p t)) (write-completes x.whole.pair.setup x.whole.regions fits t H x.whole.pair.message p.held L.opened C entry Z)
          (λ e. ap (λ y. y.number) (taken (needs-entry-is ∙ e)).1)
          (λ e. write-long x.whole.pair.setup x.whole.regions fits t H x.whole.pair.message p.held L.opened C entry Z)
