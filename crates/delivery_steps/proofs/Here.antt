-- Packet k has come: it is executed, or it waits for its entry.
use Prim.Native.Nat.{ℕ, ◌+◌, ◌-◌, ◌≤◌, ◌<◌}
use mathlib.Core.Path.{◌≡◌, refl, sym, ap, subst, ◌∙◌}
use mathlib.Core.Bool.{Bool, true, false, cond, ◌&&◌, ◌||◌, true≢false}
use mathlib.Core.List.{List, ◌++◌}
use lib.Dec.{ltb, eqb}
use lib.ListN.{length, get_or}
use Rattle.memory.specs.Word.{fetch_added, swapped}
use Rattle.table.specs.Table.{outside}
use Rattle.pair.specs.Answer.{status_number}
use Rattle.pair.specs.Claims.{SetupFit}
use Rattle.pair.specs.declared.OpenMessage.{OpenMessage}
use Rattle.cut_spec.specs.Claims.{kind_number}
use Rattle.cut_spec.specs.declared.Request.{Request}
use Rattle.cut_spec.specs.declared.Request.TheVariants.{Send, SendImmediate, Write, WriteImmediate, Read, CmpSwap, FetchAdd}
use Rattle.request_spec.specs.Verdict.{carrying, none_waiting, uses_entry, current, expected_check, check_answer}
use Rattle.responder_spec.specs.Steady.{Steady}
use Rattle.responder_spec.specs.Decide.{acknowledging, failed, head_entry, region_for, store_payload, accept_read, run_atomic, execute, checked_decision, expected_decision}
use Rattle.responder_spec.specs.Apply.{memory_by, acts_atomic, saved_by, pair_by, pair_by_number}
use Rattle.responder_spec.specs.declared.Decision.{Decision}
use Rattle.delivery_spec.specs.Stream.{Message, Slot, slot, packet_at}
use Rattle.delivery_spec.specs.Plain.{Plain, none, first_of, slot_needs_entry, is_last, held_now, execute_with, execute_next}
use Rattle.delivery_spec.specs.Demand.{Run}
use Rattle.delivery_steps.proofs.Chain.{Stands, Good}
use Rattle.delivery_steps.proofs.Cutting.{place_for, cut_packet}
use Rattle.delivery_steps.proofs.Operands.{immediate_of}
use Rattle.delivery_steps.proofs.Rel.{Link, step_by, eases}
use Rattle.delivery_steps.proofs.Verdicts.{Before, Behind, unready, passes}
use Rattle.delivery_steps.proofs.Fitting.{and-false, Suits}
use Rattle.delivery_steps.proofs.Checks.{ends_is, says, before, waiting-is, behind}
use Rattle.delivery_steps.proofs.Entries.{count-is, entry-fits}
use Rattle.delivery_steps.proofs.Effects.{Does, executes}
use Rattle.delivery_steps.proofs.Requests.{Carries, Sends, Writes, Single, Reads, Swaps, send-carries}
use Rattle.delivery_steps.proofs.Requests.{send-imm-carries, write-carries, write-imm-carries, send-sends}
use Rattle.delivery_steps.proofs.Requests.{send-imm-sends, write-writes, write-imm-writes, read-single, swap-single}
use Rattle.delivery_steps.proofs.Requests.{add-single, reads-reads, adds-swaps, swaps-swaps}
use Rattle.delivery_steps.proofs.Sending.{entered, sends}
use Rattle.delivery_steps.proofs.Writing.{taken, writes}
use Rattle.delivery_steps.proofs.Singles.{reads, swaps}

module _ (ms : List Message) (S : List Slot) (p : Plain) (x : Run) (L : Link ms S p x) (Y : Steady x.whole)
    (G : Good x.whole.pair.setup x.whole.regions ms S) (lt : p.k < length S)
    (ml : length p.memory ≡ x.whole.pair.setup.memory) where
  abbrev t : Slot
  t = slot S p.k

  abbrev entry : List ℕ
  entry = head_entry x.whole.pair x.whole.entries

  H : Stands x.whole.pair.setup x.whole.regions t
  H = G.stands p.k lt

  abbrev M : OpenMessage
  M = current x.whole.pair.message (cut_packet t)

  abbrev region : List ℕ
  region = region_for (kind_number t.message.request) M.key x.whole.regions

  fits : SetupFit x.whole.pair.setup
  fits = Y.pair.setup.0

  abbrev code : ℕ
  code = expected_check x.whole.pair.setup x.whole.pair.message (cut_packet t) x.whole.pair.entries.count entry region

  passed : Before x.whole.pair.setup x.whole.pair.message (cut_packet t)
  passed = before x.whole.pair.setup x.whole.regions fits t H x.whole.pair.message p.held L.opened

  wanting :
      none_waiting (kind_number t.message.request) (place_for t) (cut_packet t).operands.immediate x.whole.pair.message.kind x.whole.pair.entries.count
      ≡ (slot_needs_entry t && none p.waiting)
  wanting =
      waiting-is x.whole.pair.setup x.whole.regions fits t H x.whole.pair.message p.held L.opened p.waiting x.whole.pair.entries.count
      (count-is x.whole.entries x.whole.pair.entries (p.held ++ p.waiting) L.entries)

  abbrev decides : Decision
  decides = expected_decision (cut_packet t) x.whole.pair.setup x.whole.pair.message x.whole.pair.entries.count entry region

  -- no entry: check 5, and the NAK mark
  waits : (slot_needs_entry t && none p.waiting) ≡ true → Link ms S p (step_by x decides (packet_at t))
  unfolding expected_decision checked_decision failed check_answer acknowledging status_number pair_by pair_by_number saved_by memory_by acts_atomic
  waits e =
      subst
      (λ c. Link ms S p (step_by x (checked_decision c (cut_packet t) x.whole.pair.setup x.whole.pair.message entry region) (packet_at t)))
      (sym (unready x.whole.pair.setup x.whole.pair.message (cut_packet t) x.whole.pair.entries.count entry region passed (wanting ∙ e)))
      (eases L true x.whole.pair.read p.r L.reads)

  -- it passes the checks: it does what d does
  goes : (d : Decision) → (slot_needs_entry t && none p.waiting) ≡ false
      → Behind x.whole.pair.setup x.whole.pair.message (cut_packet t) entry region
      → execute (cut_packet t) M x.whole.pair.message entry region x.whole.pair.setup.pmtu ≡ d
      → Does ms S p x d (packet_at t) (first_of (held_now p t))
      → Link ms S (execute_with x.whole.regions p t (first_of (held_now p t))) (step_by x decides (packet_at t))
  unfolding expected_decision checked_decision
  goes d e b q D =
      subst
      (λ c. Link ms S (execute_with x.whole.regions p t (first_of (held_now p t)))
      (step_by x (checked_decision c (cut_packet t) x.whole.pair.setup x.whole.pair.message entry region) (packet_at t)))
      (sym (passes x.whole.pair.setup x.whole.pair.message (cut_packet t) x.whole.pair.entries.count entry region passed (wanting ∙ e) b))
      (subst (λ c. Link ms S (execute_with x.whole.regions p t (first_of (held_now p t))) (step_by x c (packet_at t))) (sym q)
      (executes ms S p x d (packet_at t) L lt (first_of (held_now p t)) D))

  after-entry : (1 ≤ x.whole.pair.entries.count) → outside (get_or entry 1 0) (get_or entry 2 0) x.whole.pair.setup.memory ≡ false
  after-entry h = entry-fits x.whole.pair.setup.memory x.whole.entries x.whole.pair.entries Y.entries h

  behinds : (uses_entry (kind_number t.message.request) (cut_packet t).operands.immediate ≡ true → 1 ≤ x.whole.pair.entries.count)
      → Suits t.message.request (length t.message.bytes) (get_or entry 2 0)
      → Behind x.whole.pair.setup x.whole.pair.message (cut_packet t) entry region
  behinds u z =
      behind x.whole.pair.setup x.whole.regions fits t H x.whole.pair.message p.held L.opened entry Y.regions (λ e. after-entry (u e)) z

  immediate-is : (cut_packet t).operands.immediate ≡ (is_last t && immediate_of t.message.request)
  immediate-is =
      (says x.whole.pair.setup x.whole.regions fits t H x.whole.pair.message).immediate
      ∙ ap (λ b. b && immediate_of t.message.request) (ends_is x.whole.pair.setup x.whole.regions fits t H x.whole.pair.message p.held L.opened)

  carries-here : carrying (kind_number t.message.request) ≡ true
      → execute (cut_packet t) M x.whole.pair.message entry region x.whole.pair.setup.pmtu ≡ store_payload (cut_packet t).ackreq 1 (cut_packet t) M entry region
  unfolding execute
  carries-here e = rw e

  module _ (free : (slot_needs_entry t && none p.waiting) ≡ false) where
    abbrev Executed : Type 0
    Executed = Link ms S (execute_with x.whole.regions p t (first_of (held_now p t))) (step_by x decides (packet_at t))

    send-here : Carries t.message.request → Sends t.message.request → Executed
    unfolding carrying
    send-here C Z =
        let E = entered ms S p x L Y G lt ml C Z free in
        goes _ free (behinds (λ e. E.some) (Z.suits (length t.message.bytes) (get_or entry 2 0) E.large)) (carries-here (ap (λ k. ltb k 12) Z.kind))
        (sends ms S p x L Y G lt ml C Z free)

    write-here : Carries t.message.request → Writes t.message.request → Executed
    unfolding carrying uses_entry
    write-here C Z =
        goes _ free
        (behinds
        (λ e.
        (taken ms S p x L Y G lt ml C Z free
        (Z.needs_entry_at t.index _ ∙ (sym immediate-is ∙ subst (λ k. (eqb k 0 || (cut_packet t).operands.immediate) ≡ true) Z.kind e))).0)
        (Z.suits (length t.message.bytes) (get_or entry 2 0)))
        (carries-here (ap (λ k. ltb k 12) Z.kind))
        (writes ms S p x L Y G lt ml C Z free)

    -- a READ or atomic uses no entry
    unused : (k : ℕ) → kind_number t.message.request ≡ k → eqb k 0 ≡ false → Single t.message.request
        → uses_entry (kind_number t.message.request) (cut_packet t).operands.immediate ≡ true → 1 ≤ x.whole.pair.entries.count
    unfolding uses_entry
    unused k e z O u =
        let i : (cut_packet t).operands.immediate ≡ false = immediate-is ∙ (ap (λ b. is_last t && b) O.immediate ∙ and-false (is_last t)) in
        absurd (true≢false (sym u ∙ ((λ j. eqb (e j) 0 || i j) ∙ ap (λ b. b || false) z)))

    read_here : Single t.message.request → Reads t.message.request → Executed
    unfolding execute carrying
    read_here O R =
        goes (accept_read (cut_packet t) M x.whole.pair.message region x.whole.pair.setup.pmtu) free
        (behinds (unused 12 R.kind refl O) (O.suits (length t.message.bytes) (get_or entry 2 0)))
        (ap (λ k. cond (ltb k 12) (store_payload (cut_packet t).ackreq 1 (cut_packet t) M entry region)
        (cond (eqb k 12) (accept_read (cut_packet t) M x.whole.pair.message region x.whole.pair.setup.pmtu) (run_atomic (cut_packet t) M x.whole.pair.message region))) R.kind)
        (reads ms S p x L Y G lt O R)

    swap-here : (k act : ℕ) (does : List ℕ → ℕ → ℕ → ℕ → List ℕ) → Single t.message.request → Swaps t.message.request k act does → eqb k 0 ≡ false → Executed
    unfolding execute carrying
    swap-here k act does O W z =
        goes (run_atomic (cut_packet t) M x.whole.pair.message region) free
        (behinds (unused k W.kind z O) (O.suits (length t.message.bytes) (get_or entry 2 0)))
        (ap (λ j. cond (ltb j 12) (store_payload (cut_packet t).ackreq 1 (cut_packet t) M entry region)
        (cond (eqb j 12) (accept_read (cut_packet t) M x.whole.pair.message region x.whole.pair.setup.pmtu) (run_atomic (cut_packet t) M x.whole.pair.message region))) W.kind
        ∙ rw (W.apart.0, W.apart.1))
        (swaps ms S p x L Y G lt O k act does W z)

    by-request : (r : Request) → t.message.request ≡ r → Executed
    by-request Send e = send-here (subst Carries (sym e) send-carries) (subst Sends (sym e) send-sends)
    by-request (SendImmediate v) e = send-here (subst Carries (sym e) (send-imm-carries v)) (subst Sends (sym e) (send-imm-sends v))
    by-request (Write y) e = write-here (subst Carries (sym e) (write-carries y)) (subst Writes (sym e) (write-writes y))
    by-request (WriteImmediate y v) e = write-here (subst Carries (sym e) (write-imm-carries y v)) (subst Writes (sym e) (write-imm-writes y v))
    by-request (Read a) e = read_here (subst Single (sym e) (read-single a)) (subst Reads (sym e) (reads-reads a))
    by-request (CmpSwap a) e = swap-here 19 3 _ (subst Single (sym e) (swap-single a)) (subst (λ r. Swaps r 19 3 (λ m at c w. swapped m at c w)) (sym e) (swaps-swaps a)) refl
    by-request (FetchAdd y v) e = swap-here 20 2 _ (subst Single (sym e) (add-single y v)) (subst (λ r. Swaps r 20 2 (λ m at c w. fetch_added m at w)) (sym e) (adds-swaps y v)) refl

  pub here : Link ms S (execute_next x.whole.regions p t) (step_by x decides (packet_at t))
  here = go (slot_needs_entry t && none p.waiting) refl
    where
      go : (b : Bool) → (slot_needs_entry t && none p.waiting) ≡ b
          → Link ms S (cond b p (execute_with x.whole.regions p t (first_of (held_now p t)))) (step_by x decides (packet_at t))
      go true e = waits e
      go false e = by-request e t.message.request refl
