-- Packet i of a permitted message, before a pair where it follows, is executed: what the run is then.
use Prim.Native.Nat.{ℕ, zero, suc, ◌+◌, ◌-◌, ◌*◌, ◌^◌, ◌≤◌, ◌<◌}
use mathlib.Core.Path.{◌≡◌, refl, sym, ap, subst, ◌∙◌}
use mathlib.Core.Bool.{Bool, true, false, cond, ◌&&◌, true≢false}
use mathlib.Core.List.{List, [], ◌∷◌, ◌++◌}
use mathlib.Core.Logic.{◌⊎◌, inl, inr}
use native.Mathlib.Omega.{arith}
use lib.Dec.{eqb}
use lib.ListN.{length, get_or, replicate, length-append, length-replicate}
use borrow.Author.Tests.{eqb-true, eqb-false, ltb-false}
use Rattle.sequence.specs.Sequence.{distance, psn_after}
use Rattle.sequence.specs.declared.Psn.{Psn}
use Rattle.sequence.specs.declared.Msn.{Msn}
use Rattle.memory.specs.Memory.{overwrite}
use Rattle.pmtu.specs.Pieces.{piece_at}
use Rattle.table.specs.Table.{outside, entry_slot}
use Rattle.table.specs.declared.Entry.{Entry}
use Rattle.pair.specs.Calls.{Whole}
use Rattle.pair.specs.Claims.{SetupFit}
use Rattle.pair.specs.Pair.{no_message}
use Rattle.pair.specs.declared.OpenMessage.{OpenMessage}
use Rattle.pair.specs.declared.Pair.{Pair}
use Rattle.cut_spec.specs.Claims.{Carrier, kind_number}
use Rattle.cut_spec.specs.declared.Request.{Request}
use Rattle.cut_spec.specs.declared.Request.TheVariants.{Send, SendImmediate, Write, WriteImmediate, Read, CmpSwap, FetchAdd}
use Rattle.request_spec.specs.Verdict.{carrying, uses_entry, payload_size, current, request_check, expected_check}
use Rattle.responder_spec.specs.declared.Decision.{Decision}
use Rattle.responder_spec.specs.Decide.{decision, region_for, closed_by, orphaned, strays, completion_of, message_after, store_payload}
use Rattle.responder_spec.specs.Apply.{memory_by, entries_by, msn_by}
use Rattle.answer_laws.specs.Answers.{Willing}
use Rattle.responder_spec.specs.Steady.{Steady}
use Rattle.responder_spec.specs.declared.Completion.{Completion}
use Rattle.decision_laws.proofs.Views.{current-closed, same_code}
use Rattle.effect_laws.proofs.Sizes.{inbound-lengths}
use Rattle.sound_laws.proofs.Kept.{inbound-steady}
use Rattle.responder_spec.specs.Calls.{reports}
use Rattle.delivery_spec.specs.Stream.{Message, Slot, packet_count, packet_at}
use Rattle.delivery_spec.specs.Plain.{takes_entry, needs_entry_at, slot_needs_entry, is_last, none, completions_for, region_offset}
use Rattle.delivery_spec.specs.Demand.{handing, Run, taken, Permitted, AtLeast}
use Rattle.delivery_steps.proofs.Chain.{Stands}
use Rattle.delivery_steps.proofs.Cutting.{place_for, cut_packet, psn-small}
use Rattle.delivery_steps.proofs.Operands.{address_of, key_of, immediate_of}
use Rattle.delivery_steps.proofs.Rel.{IsOf, Holding, OpenedFor}
use Rattle.delivery_steps.proofs.Verdicts.{passes}
use Rattle.delivery_steps.proofs.Fitting.{Suits, and-false}
use Rattle.delivery_steps.proofs.Checks.{ends_is, says, before, behind, waiting-is}
use Rattle.delivery_steps.proofs.Entries.{entry-fits}
use Rattle.delivery_steps.proofs.Requests.{Carries, Sends, Writes, send-carries, send-imm-carries, write-carries, write-imm-carries, send-sends, send-imm-sends, write-writes, write-imm-writes}
use Rattle.delivery_steps.proofs.Storing.{storing-completes, message-after-more}
use Rattle.delivery_steps.proofs.InMemory.{in_place, send-memory-is, send-completes, send-long, write-memory-is, write-completes, write-long}
use Rattle.uc_delivery.specs.Message.{first_waiting, HasEntry, target}
use Rattle.uc_delivery.proofs.Steps.{decided-is, taken_is, at, stored-out, delivers}

-- a SEND or a WRITE
pub kinds : (r : Request) → Carrier r → Carries r × (Sends r ⊎ Writes r)
kinds Send c = (send-carries, inl send-sends)
kinds (SendImmediate v) c = (send-imm-carries v, inl (send-imm-sends v))
kinds (Write t) c = (write-carries t, inr (write-writes t))
kinds (WriteImmediate t v) c = (write-imm-carries t v, inr (write-imm-writes t v))
kinds (Read a) c = absurd c
kinds (CmpSwap a) c = absurd c
kinds (FetchAdd t v) c = absurd c

-- what an open message of it holds
abbrev pub holding : Request → Entry → List Entry
holding Send e = e ∷ []
holding (SendImmediate v) e = e ∷ []
holding (Write t) e = []
holding (WriteImmediate t v) e = []
holding (Read a) e = []
holding (CmpSwap a) e = []
holding (FetchAdd t v) e = []

pub holds : (r : Request) (e : Entry) (n : ℕ) → AtLeast e.length r n → Holding r n (holding r e)
holds Send e n l = (e, refl, l)
holds (SendImmediate v) e n l = (e, refl, l)
holds (Write t) e n l = refl
holds (WriteImmediate t v) e n l = refl
holds (Read a) e n l = refl
holds (CmpSwap a) e n l = refl
holds (FetchAdd t v) e n l = refl

suits : (r : Request) (n most : ℕ) → AtLeast most r n → Suits r n most
suits Send n most l = l
suits (SendImmediate v) n most l = l
suits (Write t) n most l = tt
suits (WriteImmediate t v) n most l = tt
suits (Read a) n most l = tt
suits (CmpSwap a) n most l = tt
suits (FetchAdd t v) n most l = tt

-- what is held before packet i: nothing before the first
abbrev pub held_at : Bool → Request → Entry → List Entry
held_at begins r e = cond begins [] (holding r e)

-- a packet that needs an entry is of a message that takes one, and finds none held; and what is held was taken
needs-takes : (r : Request) (i n : ℕ) → needs_entry_at r i n ≡ true → takes_entry r ≡ true
needs-takes Send i n h = refl
needs-takes (SendImmediate v) i n h = refl
needs-takes (Write t) i n h = absurd (true≢false (sym h))
needs-takes (WriteImmediate t v) i n h = refl
needs-takes (Read a) i n h = absurd (true≢false (sym h))
needs-takes (CmpSwap a) i n h = absurd (true≢false (sym h))
needs-takes (FetchAdd t v) i n h = absurd (true≢false (sym h))

none-write : (b : Bool) → ◌≡◌ {A = List Entry} (cond b [] []) []
none-write true = refl
none-write false = refl

needs-none : (r : Request) (i n : ℕ) (e : Entry) → needs_entry_at r i n ≡ true → held_at (eqb i 0) r e ≡ []
needs-none Send i n e h = ap (λ b. cond b [] (e ∷ [])) h
needs-none (SendImmediate v) i n e h = ap (λ b. cond b [] (e ∷ [])) h
needs-none (Write t) i n e h = none-write (eqb i 0)
needs-none (WriteImmediate t v) i n e h = none-write (eqb i 0)
needs-none (Read a) i n e h = none-write (eqb i 0)
needs-none (CmpSwap a) i n e h = none-write (eqb i 0)
needs-none (FetchAdd t v) i n e h = none-write (eqb i 0)

held-there : (r : Request) (b : Bool) (e : Entry) (count : ℕ) → (takes_entry r ≡ true → 1 ≤ count) → length (held_at b r e) ≤ count
held-there r true e count h = omega arith
held-there Send false e count h = h refl
held-there (SendImmediate v) false e count h = h refl
held-there (Write t) false e count h = omega arith
held-there (WriteImmediate t v) false e count h = omega arith
held-there (Read a) false e count h = omega arith
held-there (CmpSwap a) false e count h = omega arith
held-there (FetchAdd t v) false e count h = omega arith

none-some : (k : ℕ) (e : Entry) → 1 ≤ k → none (replicate k e) ≡ false
none-some zero e h = absurd (omega arith)
none-some (suc k) e h = refl

-- a packet uses an entry only if its message takes one
uses-takes : (r : Request) (last imm : Bool) → Carrier r → imm ≡ (last && immediate_of r) → uses_entry (kind_number r) imm ≡ true → takes_entry r ≡ true
unfolding uses_entry
uses-takes Send last imm c e h = refl
uses-takes (SendImmediate v) last imm c e h = refl
uses-takes (Write t) last imm c e h = absurd (true≢false (sym h ∙ (e ∙ and-false last)))
uses-takes (WriteImmediate t v) last imm c e h = refl
uses-takes (Read a) last imm c e h = absurd c
uses-takes (CmpSwap a) last imm c e h = absurd c
uses-takes (FetchAdd t v) last imm c e h = absurd c

pub carries-bytes : (r : Request) → Carrier r → carrying (kind_number r) ≡ true
unfolding carrying
carries-bytes Send c = refl
carries-bytes (SendImmediate v) c = refl
carries-bytes (Write t) c = refl
carries-bytes (WriteImmediate t v) c = refl
carries-bytes (Read a) c = absurd c
carries-bytes (CmpSwap a) c = absurd c
carries-bytes (FetchAdd t v) c = absurd c

target-send : (r : Request) → Sends r → (regions : List (List ℕ)) (e : Entry) → target r regions e ≡ e.offset
target-send Send Z regions e = refl
target-send (SendImmediate v) Z regions e = refl
target-send (Write t) Z regions e = absurd (omega (arith, Z.kind))
target-send (WriteImmediate t v) Z regions e = absurd (omega (arith, Z.kind))
target-send (Read a) Z regions e = absurd (omega (arith, Z.kind))
target-send (CmpSwap a) Z regions e = absurd (omega (arith, Z.kind))
target-send (FetchAdd t v) Z regions e = absurd (omega (arith, Z.kind))

target-write : (r : Request) → Writes r → (regions : List (List ℕ)) (e : Entry) → target r regions e ≡ region_offset regions (key_of r) (address_of r)
target-write Send Z regions e = absurd (omega (arith, Z.kind))
target-write (SendImmediate v) Z regions e = absurd (omega (arith, Z.kind))
target-write (Write t) Z regions e = refl
target-write (WriteImmediate t v) Z regions e = refl
target-write (Read a) Z regions e = absurd (omega (arith, Z.kind))
target-write (CmpSwap a) Z regions e = absurd (omega (arith, Z.kind))
target-write (FetchAdd t v) Z regions e = absurd (omega (arith, Z.kind))

module _ (w : Whole) (m : Message) (first : Psn) (P : Permitted w.pair.setup w.regions m) (Cr : Carrier m.request)
    (small : first.0 < 2 ^ 24) (uc : w.pair.setup.service ≡ 1) (ready : w.pair.state ≡ 1) (idle : w.pair.read.remaining ≡ 0)
    (sup : HasEntry w m) where
  abbrev pub slot : ℕ → Slot
  slot i = record { message = m; first = first; index = i }

  abbrev pub entry : List ℕ
  entry = get_or w.entries (entry_slot w.pair.entries.head 0) []

  abbrev pub held : ℕ → List Entry
  held i = held_at (eqb i 0) m.request (first_waiting w)

  -- packet i follows where E is expected and u open
  pub record Follows (i : ℕ) (E : Psn) (u : OpenMessage) : Type 0 where
    pub orphan : orphaned (place_for (slot i)) u.kind ≡ false
    pub stray : strays (cut_packet (slot i)) E u.kind ≡ false
    pub opened : OpenedFor (eqb i 0) (slot i) (closed_by (place_for (slot i)) u) (held i)

  pub stands : (i : ℕ) → i < packet_count m → Stands w.pair.setup w.regions (slot i)
  stands i h = record { allowed = P.allowed; outgoing = record { addressed = P.addressed; served = inr (uc, Cr); inside = h; first = small } }

  module _ (i : ℕ) (h : i < packet_count m) (E : Psn) (n : Msn) (b : Bool) (u : OpenMessage) (mem : List ℕ) (cs : List Completion) (F : Follows i E u)
      (Y : Steady (at w E n b u w.pair.entries mem cs).whole) (ml : length mem ≡ w.pair.setup.memory) where
    abbrev x : Run
    x = at w E n b u w.pair.entries mem cs

    abbrev q : Pair
    q = (at w E n b u w.pair.entries mem cs).whole.pair

    abbrev t : Slot
    t = slot i

    -- the message that the packet leaves open
    abbrev v : OpenMessage
    v = closed_by (place_for (slot i)) u

    abbrev M : OpenMessage
    M = current (closed_by (place_for (slot i)) u) (cut_packet (slot i))

    abbrev region : List ℕ
    region = region_for (kind_number m.request) (current (closed_by (place_for (slot i)) u) (cut_packet (slot i))).key w.regions

    H : Stands w.pair.setup w.regions t
    H = stands i h

    f : SetupFit w.pair.setup
    f = Y.pair.setup.0

    abbrev waiting : List Entry
    waiting = replicate (w.pair.entries.count - length (held i)) (first_waiting w)

    count-is : w.pair.entries.count ≡ length (held i ++ waiting)
    count-is =
        let l = held-there m.request (eqb i 0) (first_waiting w) w.pair.entries.count (λ e. omega (arith, sup.some e)) in
        omega (arith, length-append (held i) waiting, length-replicate (w.pair.entries.count - length (held i)) (first_waiting w), l)

    wanted : (slot_needs_entry t && none waiting) ≡ false
    wanted = go (slot_needs_entry t) refl
      where
        go : (c : Bool) → slot_needs_entry t ≡ c → (c && none waiting) ≡ false
        go false e = refl
        go true e =
            let z = sup.some (needs-takes m.request i (packet_count m) e) in
            let k = ap length (needs-none m.request i (packet_count m) (first_waiting w) e) in
            none-some (w.pair.entries.count - length (held i)) (first_waiting w) (omega (arith, z, k))

    immediate-is : (cut_packet t).operands.immediate ≡ (is_last t && immediate_of m.request)
    immediate-is = (says w.pair.setup w.regions f t H v).immediate ∙ ap (λ c. c && immediate_of m.request) (ends_is w.pair.setup w.regions f t H v (held i) F.opened)

    -- the request checks pass it
    code-zero : expected_check w.pair.setup v (cut_packet t) w.pair.entries.count entry region ≡ 0
    code-zero =
        passes w.pair.setup v (cut_packet t) w.pair.entries.count entry region (before w.pair.setup w.regions f t H v (held i) F.opened)
        (waiting-is w.pair.setup w.regions f t H v (held i) F.opened waiting w.pair.entries.count count-is ∙ wanted)
        (behind w.pair.setup w.regions f t H v (held i) F.opened entry Y.regions
        (λ e. entry-fits w.pair.setup.memory w.entries w.pair.entries Y.entries (sup.some (uses-takes m.request (is_last t) _ Cr immediate-is e)))
        (suits m.request (length m.bytes) (get_or entry 2 0) sup.long))

    -- so the rules let it do what it would on the reliable connection, unanswered
    code_is : (m' : OpenMessage) → M ≡ m' → request_check w.pair.setup v (cut_packet t) w.pair.entries.count entry (region_for (kind_number m.request) m'.key w.regions) ≡ 0
    code_is m' e =
        subst (λ y. request_check w.pair.setup v (cut_packet t) w.pair.entries.count entry (region_for (kind_number m.request) y.key w.regions) ≡ 0) e
        (sym (same_code w.pair.setup u (cut_packet t) E w.pair.entries.count entry region F.stray) ∙ code-zero)

    abbrev d : Decision
    d = store_payload false (1 + distance (cut_packet t).psn.0 E.0) (cut_packet t) M entry region

    W : (out : List ℕ) → 24 ≤ length out → Willing (handing x (packet_at t) out)
    W out o = record { room = o; memory = ml; sound = Y.pair; idle = idle }

    decides : (out : List ℕ) → 24 ≤ length out
        → decision (handing x (packet_at t) out) ≡ d
    decides out o =
        let c = current-closed u (cut_packet t) in
        decided-is x out t (W out o) uc ready H.outgoing
        ∙ (delivers (cut_packet t) w.pair.setup E u w.pair.entries.count entry (region_for (kind_number m.request) (current u (cut_packet t)).key w.regions)
        F.orphan F.stray (code_is (current u (cut_packet t)) c) (carries-bytes m.request Cr)
        ∙ ap (λ y. store_payload false (1 + distance (cut_packet t).psn.0 E.0) (cut_packet t) y entry (region_for (kind_number m.request) y.key w.regions)) (sym c))

    C : Carries m.request
    C = (kinds m.request Cr).0

    abbrev piece : List ℕ
    piece = piece_at m.bytes m.connection.pmtu i

    memory-is : Sends m.request ⊎ Writes m.request → memory_by d.change mem (packet_at t) ≡ overwrite mem (target m.request w.regions (first_waiting w) + i * m.connection.pmtu) piece
    unfolding outside store_payload
    memory-is (inl Z) =
        let o : get_or entry 1 0 + get_or entry 2 0 ≤ w.pair.setup.memory =
        ltb-false w.pair.setup.memory (get_or entry 1 0 + get_or entry 2 0) (entry-fits w.pair.setup.memory w.entries w.pair.entries Y.entries (sup.some Z.takes_entry)) in
        send-memory-is w.pair.setup w.regions f t H v (held i) F.opened C entry Z mem (omega (arith, o, ml)) (Z.least (length m.bytes) (get_or entry 2 0) sup.long)
        ∙ ap (λ k. overwrite mem (k + i * m.connection.pmtu) piece) (sym (target-send m.request Z w.regions (first_waiting w)))
    memory-is (inr Z) =
        write-memory-is w.pair.setup w.regions f t H v (held i) F.opened C entry Z Y.regions mem ml
        ∙ ap (λ k. overwrite mem (k + i * m.connection.pmtu) piece) (sym (target-write m.request Z w.regions (first_waiting w)))

    completion-is : Sends m.request ⊎ Writes m.request
        → (reports (completion_of (cut_packet t) M (get_or entry 0 0)) ≡ cond (is_last t) (completions_for m.request (first_waiting w) (length m.bytes)) [])
        × ((completion_of (cut_packet t) M (get_or entry 0 0)).some ≡ (is_last t && takes_entry m.request))
    completion-is (inl Z) =
        storing-completes w.pair.setup w.regions f t H v (held i) F.opened C entry region (first_waiting w)
        (send-completes w.pair.setup w.regions f t H v (held i) F.opened C entry Z) (λ e. refl) (send-long w.pair.setup w.regions f t H v (held i) F.opened C entry Z)
    completion-is (inr Z) =
        storing-completes w.pair.setup w.regions f t H v (held i) F.opened C entry region (first_waiting w)
        (write-completes w.pair.setup w.regions f t H v (held i) F.opened C entry Z) (λ e. refl) (λ e. write-long w.pair.setup w.regions f t H v (held i) F.opened C entry Z)

    -- the run after the packet
    pub steps : (out : List ℕ) → 24 ≤ length out
        → taken x (packet_at t) out
        ≡ at w (psn_after (psn_after first i) 1) (msn_by (is_last t) n) false (message_after (place_for t) M (payload_size (cut_packet t))) (entries_by (is_last t && takes_entry m.request) w.pair.entries)
        (overwrite mem (target m.request w.regions (first_waiting w) + i * m.connection.pmtu) piece)
        (cs ++ cond (is_last t) (completions_for m.request (first_waiting w) (length m.bytes)) [])
    unfolding store_payload
    steps out o =
        let k = (kinds m.request Cr).1 in
        taken_is x (packet_at t) out d (decides out o)
        ∙ (stored-out w E n b u w.pair.entries mem cs (packet_at t) (cut_packet t) M entry region
        ∙ λ j.
        at w (psn_after (psn_after first i) 1) (msn_by (ends_is w.pair.setup w.regions f t H v (held i) F.opened j) n) false (message_after (place_for t) M (payload_size (cut_packet t)))
        (entries_by ((completion-is k).1 j) w.pair.entries) (memory-is k j) (cs ++ (completion-is k).0 j))

    -- more packets to come: the next one's message is open
    pub more : is_last t ≡ false → IsOf (slot (suc i)) (message_after (place_for t) M (payload_size (cut_packet t)))
    more e = message-after-more w.pair.setup w.regions f t H v (held i) F.opened C entry region e

    -- none: the message is done with
    pub done : is_last t ≡ true → message_after (place_for t) M (payload_size (cut_packet t)) ≡ no_message
    unfolding message_after
    done e = rw (ends_is w.pair.setup w.regions f t H v (held i) F.opened ∙ e)

    -- where the message goes there is memory, unless it has no bytes
    pub bounded : (length m.bytes ≡ 0) ⊎ (target m.request w.regions (first_waiting w) ≤ length mem)
    unfolding outside
    bounded = go (kinds m.request Cr).1 (eqb (length m.bytes) 0) refl
      where
        go : Sends m.request ⊎ Writes m.request → (c : Bool) → eqb (length m.bytes) 0 ≡ c
            → (length m.bytes ≡ 0) ⊎ (target m.request w.regions (first_waiting w) ≤ length mem)
        go k true z = inl (eqb-true (length m.bytes) 0 z)
        go (inl Z) false z =
            let o : get_or entry 1 0 + get_or entry 2 0 ≤ w.pair.setup.memory =
            ltb-false w.pair.setup.memory (get_or entry 1 0 + get_or entry 2 0) (entry-fits w.pair.setup.memory w.entries w.pair.entries Y.entries (sup.some Z.takes_entry)) in
            inr (omega (arith, o, ml, target-send m.request Z w.regions (first_waiting w)))
        go (inr Z) false z =
            let a = (in_place w.pair.setup w.regions f t H v (held i) F.opened C entry Z Y.regions (omega (arith, eqb-false (length m.bytes) 0 z))).1 in
            inr (omega (arith, a, ml, target-write m.request Z w.regions (first_waiting w)))

    -- memory keeps its length, and the pair stays steady
    pub kept : (out : List ℕ) → length (taken x (packet_at t) out).memory ≡ w.pair.setup.memory
    kept out = (inbound-lengths (handing x (packet_at t) out)).0 ∙ ml

    pub steady : (out : List ℕ) → Steady (taken x (packet_at t) out).whole
    steady out = inbound-steady (handing x (packet_at t) out) (psn-small w.pair.setup f t H.outgoing) Y
