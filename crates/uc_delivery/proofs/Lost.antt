-- A message of which packets are lost.
use Prim.Native.Nat.{ℕ, zero, suc, ◌+◌, ◌-◌, ◌^◌, ◌≤◌, ◌<◌}
use mathlib.Core.Path.{◌≡◌, refl, sym, ap, subst, ◌∙◌}
use mathlib.Core.Bool.{Bool, true, false, not, ◌&&◌, true≢false}
use mathlib.Core.List.{List, [], ◌∷◌, append-nil}
use mathlib.Core.Logic.{◌⊎◌, inl, inr}
use native.Mathlib.Omega.{arith}
use lib.Dec.{eqb}
use lib.ListN.{length, get_or}
use borrow.Author.Tests.{eq-eqb, ne_eqb, eqb-true}
use Rattle.lemmas.proofs.Tests.{and_right}
use Rattle.sequence.specs.Sequence.{distance, psn_after}
use Rattle.sequence.specs.declared.Psn.{Psn}
use Rattle.sequence.proofs.Circle.{after-after, after-below}
use Rattle.opcode.specs.Place.{starts, ends}
use Rattle.pmtu.proofs.Counting.{bounds}
use Rattle.pair.specs.Answer.{status_number}
use Rattle.pair.specs.Claims.{SetupFit}
use Rattle.pair.specs.declared.Setup.{Setup}
use Rattle.pair.specs.declared.OpenMessage.{OpenMessage}
use Rattle.pair.specs.declared.Pair.{Pair}
use Rattle.pair.specs.declared.Status.TheVariants as status
use Rattle.cut_spec.specs.Claims.{Carrier, InLimit, kind_number}
use Rattle.cut_spec.specs.declared.Request.{Request}
use Rattle.cut_spec.specs.declared.Request.TheVariants.{Send, SendImmediate, Write, WriteImmediate, Read, CmpSwap, FetchAdd}
use Rattle.request_spec.specs.Verdict.{carrying, current, request_check, check_answer}
use Rattle.responder_spec.specs.Decide.{decision, head_entry, region_for, no_reply, orphaned, strays, closed_by, abandoning, completes, completion_of, store_payload, uc_execute, uc_checked_decision, uc_decision}
use Rattle.responder_spec.specs.Apply.{executed_pair, pair_by, pair_by_number, read_answer_by, entries_by, msn_by}
use Rattle.responder_spec.specs.Inbound.{inbound, left_by}
use Rattle.responder_spec.specs.declared.Decision.{Decision}
use Rattle.decision_laws.proofs.Views.{number-taken}
use Rattle.decision_laws.proofs.Ways.{branch}
use Rattle.effect_laws.proofs.Refusals.{inbound-answered}
use Rattle.effect_laws.proofs.Sizes.{inbound-lengths}
use Rattle.sound_laws.proofs.Kept.{inbound-steady}
use Rattle.delivery_spec.specs.Stream.{Message, Slot, packet_count, packet_at}
use Rattle.delivery_steps.proofs.Rel.{step_by}
use Rattle.delivery_spec.specs.Demand.{handing, Run, taken, Addressed}
use Rattle.delivery_steps.proofs.Chain.{Sent}
use Rattle.delivery_steps.proofs.Cutting.{place_for, cut_packet, psn-small}
use Rattle.delivery_steps.proofs.Places.{starts-at, ends_at}
use Rattle.uc_delivery.specs.Message.{MayCome, Unreported, handed, HandedInPart}
use Rattle.uc_delivery.proofs.Steps.{decided-is, taken_is}
use Rattle.uc_delivery.proofs.Follow.{carries-bytes}
use Rattle.uc_delivery.proofs.Whole.{packets-counted}

same : (a b : ℕ) → a < 2 ^ 24 → b < 2 ^ 24 → distance b a ≡ 0 → a ≡ b
same a b h k e = omega arith

-- What comes of a packet of the message: nothing, with no message open; the message closed; or it is executed
pub data Went (q : Pair) (t : Slot) : Decision → Type 0 where
  nothing : q.message.kind ≡ 255 → Went q t (no_reply status.Dropped)
  shut : Went q t (no_reply status.Abandoned)
  ran : (u : OpenMessage) (entry region : List ℕ) → Went q t (store_payload false (1 + distance (cut_packet t).psn.0 q.expected.0) (cut_packet t) u entry region)
  outside : Went q t (no_reply status.OutOfRange)

module _ (outs : ℕ → List ℕ) (m : Message) (first : Psn) (x : Run) (K : MayCome outs m first x) (i : ℕ) (h : i < packet_count m) where
  abbrev t : Slot
  t = record { message = m; first = first; index = i }

  abbrev q : Pair
  q = x.whole.pair

  H : Sent x.whole.pair.setup t
  H = record { addressed = K.addressed; served = inr (K.standing.unreliable, K.carries); inside = h; first = omega (arith, K.first24) }

  abbrev entry : List ℕ
  entry = head_entry x.whole.pair x.whole.entries

  abbrev region : List ℕ
  region = region_for (kind_number m.request) (current x.whole.pair.message (cut_packet (record { message = m; first = first; index = i }))).key x.whole.regions

  went : Went q t (uc_decision (cut_packet t) q.setup q.expected q.message q.entries.count entry region)
  unfolding uc_decision uc_checked_decision uc_execute abandoning orphaned
  went =
      let code = request_check q.setup (closed_by (place_for t) q.message) (cut_packet t) q.entries.count entry region in
      branch (Went q t) (not (starts (place_for t)) && eqb q.message.kind 255)
      (λ o. nothing (eqb-true q.message.kind 255 (and_right (not (starts (place_for t))) (eqb q.message.kind 255) o)))
      (λ o. branch (Went q t) (strays (cut_packet t) q.expected q.message.kind) (λ e. shut)
      (λ e. branch (Went q t) (eqb code 0)
      (λ z. branch (Went q t) (carrying (kind_number m.request)) (λ c. ran (current q.message (cut_packet t)) entry region)
      (λ c. absurd (true≢false (sym (carries-bytes m.request K.carries) ∙ c))))
      (λ z. branch (Went q t) (eqb (check_answer code) 34) (λ e. outside)
      (λ e. branch (Went q t) (eqb q.message.kind 255) (λ f. nothing (eqb-true q.message.kind 255 f)) (λ f. shut)))))

  abbrev decides : Decision
  decides = decision (handing x (packet_at (record { message = m; first = first; index = i })) (outs i))

  is-decided : decides ≡ uc_decision (cut_packet t) q.setup q.expected q.message q.entries.count entry region
  is-decided =
      decided-is x (outs i) t
      (record { room = K.outputs i; memory = K.memory; sound = K.standing.steady.pair; idle = K.standing.idle }) K.standing.unreliable K.standing.ready H

  -- an entry that calls posted lies in memory
  never-outside : decides ≡ no_reply status.OutOfRange → ⊥
  unfolding inbound left_by decision status_number no_reply
  never-outside e =
      let a =
      inbound-answered (handing x (packet_at t) (outs i)) (K.outputs i) K.memory K.standing.steady.pair K.standing.idle
      K.standing.steady.entries in
      let b = ap (λ d. status_number d.status) e in
      omega (arith, a, b)

  -- set-up, state and READ are as before
  record Keeps (y : Run) : Type 0 where
    setup : y.whole.pair.setup ≡ x.whole.pair.setup
    state : y.whole.pair.state ≡ x.whole.pair.state
    read : y.whole.pair.read ≡ x.whole.pair.read

  keeps : (d : Decision) → Went q t d → Keeps (step_by x d (packet_at t))
  unfolding pair_by pair_by_number status_number executed_pair no_reply store_payload read_answer_by
  keeps d (nothing e) = record { setup = refl; state = refl; read = refl }
  keeps d shut = record { setup = refl; state = refl; read = refl }
  keeps d (ran u entry region) = record { setup = refl; state = refl; read = refl }
  keeps d outside = record { setup = refl; state = refl; read = refl }

  abbrev left : Run
  left = taken x (packet_at (record { message = m; first = first; index = i })) (outs i)

  left_is : (d : Decision) → decides ≡ d → left ≡ step_by x d (packet_at t)
  left_is d e = taken_is x (packet_at t) (outs i) d e

  pub comes : MayCome outs m first left
  comes =
      let k : Keeps left = subst Keeps (sym (left_is _ is-decided)) (keeps _ went) in
      record {
        standing =
            record {
              steady = inbound-steady (handing x (packet_at t) (outs i)) (psn-small x.whole.pair.setup K.standing.steady.pair.setup.0 t H) K.standing.steady;
              unreliable = ap (λ s. s.service) k.setup ∙ K.standing.unreliable;
              ready = k.state ∙ K.standing.ready;
              idle = ap (λ a. a.remaining) k.read ∙ K.standing.idle;
            };
        memory = (inbound-lengths (handing x (packet_at t) (outs i))).0 ∙ (K.memory ∙ ap (λ s. s.memory) (sym k.setup));
        outputs = K.outputs;
        first24 = K.first24;
        addressed = subst (λ s. Addressed s m) (sym k.setup) K.addressed;
        carries = K.carries;
      }

  -- afterwards none is open, or the next packet is expected
  next-is : (d : Decision) → decides ≡ d → Went q t d
      → ((step_by x d (packet_at t)).whole.pair.message.kind ≡ 255) ⊎ ((step_by x d (packet_at t)).whole.pair.expected ≡ psn_after first (suc i))
  unfolding pair_by pair_by_number status_number executed_pair no_reply store_payload
  next-is d e (nothing z) = inl z
  next-is d e shut = inl refl
  next-is d e (ran u entry region) =
      let n : i + 1 ≡ suc i = omega arith in
      inr (number-taken (cut_packet t).psn q.expected ∙ (after-after first i 1 ∙ ap (psn_after first) n))
  next-is d e outside = absurd (never-outside e)

  pub onward : (left.whole.pair.message.kind ≡ 255) ⊎ (left.whole.pair.expected ≡ psn_after first (suc i))
  onward =
      subst (λ y. (y.whole.pair.message.kind ≡ 255) ⊎ (y.whole.pair.expected ≡ psn_after first (suc i))) (sym (left_is _ is-decided)) (next-is _ is-decided went)

  -- and nothing is reported before the last packet
  unreported-by : suc i < packet_count m → (d : Decision) → Went q t d → Unreported x (step_by x d (packet_at t))
  unfolding pair_by pair_by_number status_number executed_pair no_reply store_payload completion_of completes msn_by entries_by
  unreported-by l d (nothing e) = record { completions = append-nil x.completions; msn = refl; entries = refl }
  unreported-by l d shut = record { completions = append-nil x.completions; msn = refl; entries = refl }
  unreported-by l d (ran u entry region) =
      let e : ends (place_for t) ≡ false = ends_at (packet_count m) i h ∙ ne_eqb (suc i) (packet_count m) (λ z. absurd (omega arith)) in
      record { completions = rw e (append-nil x.completions); msn = rw e; entries = rw e }
  unreported-by l d outside = record { completions = append-nil x.completions; msn = refl; entries = refl }

  pub unreported : suc i < packet_count m → Unreported x left
  unreported l = subst (Unreported x) (sym (left_is _ is-decided)) (unreported-by l _ went)

  -- A Middle or Last that is not of the open message: nothing is reported, and none is open
  pub record Gone (y : Run) : Type 0 where
    pub closed : y.whole.pair.message.kind ≡ 255
    pub unreported : Unreported x y

  gone-quiet : q.message.kind ≡ 255 → Gone (step_by x (no_reply status.Dropped) (packet_at t))
  unfolding pair_by pair_by_number status_number no_reply
  gone-quiet e = record { closed = e; unreported = record { completions = append-nil x.completions; msn = refl; entries = refl } }

  gone-shut : Gone (step_by x (no_reply status.Abandoned) (packet_at t))
  unfolding pair_by pair_by_number status_number no_reply
  gone-shut = record { closed = refl; unreported = record { completions = append-nil x.completions; msn = refl; entries = refl } }

  not_first : 0 < i → starts (place_for t) ≡ false
  not_first o = starts-at (packet_count m) i h ∙ ne_eqb i 0 (λ z. absurd (omega arith))

  -- none open
  pub gone-none : 0 < i → q.message.kind ≡ 255 → Gone left
  unfolding uc_decision orphaned
  gone-none o e =
      subst Gone (sym (left_is (no_reply status.Dropped) (is-decided ∙ rw (not_first o, eq-eqb q.message.kind 255 e)))) (gone-quiet e)

  -- one of the other kind open
  pub gone-kind : 0 < i → (q.message.kind ≡ kind_number m.request → ⊥) → Gone left
  unfolding uc_decision orphaned strays
  gone-kind o n = go (eqb q.message.kind 255) refl (eqb (distance (psn_after first i).0 q.expected.0) 0) refl
    where
      go : (b : Bool) → eqb q.message.kind 255 ≡ b → (c : Bool) → eqb (distance (psn_after first i).0 q.expected.0) 0 ≡ c → Gone left
      go true e c f = gone-none o (eqb-true q.message.kind 255 e)
      go false e true f =
          subst Gone
          (sym (left_is (no_reply status.Abandoned) (is-decided ∙ rw (not_first o, e, f, ne_eqb q.message.kind (kind_number m.request) n)))) gone-shut
      go false e false f = subst Gone (sym (left_is (no_reply status.Abandoned) (is-decided ∙ rw (not_first o, e, f)))) gone-shut

  -- another number expected
  pub gone-other : 0 < i → (q.expected.0 ≡ (psn_after first i).0 → ⊥) → Gone left
  unfolding uc_decision orphaned strays
  gone-other o n = go (eqb q.message.kind 255) refl
    where
      away : distance (psn_after first i).0 q.expected.0 ≡ 0 → ⊥
      away z = n (same q.expected.0 (psn_after first i).0 K.standing.steady.pair.expected (after-below first i) z)

      go : (b : Bool) → eqb q.message.kind 255 ≡ b → Gone left
      go true e = gone-none o (eqb-true q.message.kind 255 e)
      go false e =
          subst Gone
          (sym (left_is (no_reply status.Abandoned) (is-decided ∙ rw (not_first o, e, ne_eqb (distance (psn_after first i).0 q.expected.0) 0 away)))) gone-shut

-- no request has the kind of a message that is not open
pub kind-open : (r : Request) → kind_number r ≡ 255 → ⊥
kind-open Send e = omega arith
kind-open (SendImmediate v) e = omega arith
kind-open (Write t) e = omega arith
kind-open (WriteImmediate t v) e = omega arith
kind-open (Read a) e = omega arith
kind-open (CmpSwap a) e = omega arith
kind-open (FetchAdd t v) e = omega arith

-- from packet j on, all that may still come is of no open message
abbrev Off : Message → Psn → Run → ℕ → Type 0
Off m first x j =
    (x.whole.pair.message.kind ≡ kind_number m.request → ⊥)
    ⊎ ((i : ℕ) → j ≤ i → i < packet_count m → x.whole.pair.expected.0 ≡ (psn_after first i).0 → ⊥)

-- the packets of a message have different numbers
apart-numbers : (first : Psn) (i j n : ℕ) → i < j → j < n → n ≤ 2 ^ 24 → (psn_after first i).0 ≡ (psn_after first j).0 → ⊥
apart-numbers first i j n a b c e = omega arith

unreported-chain : (x y z : Run) → Unreported x y → Unreported y z → Unreported x z
unreported-chain x y z a b = record { completions = b.completions ∙ a.completions; msn = b.msn ∙ a.msn; entries = b.entries ∙ a.entries }

unreported-same : (x : Run) → Unreported x x
unreported-same x = record { completions = refl; msn = refl; entries = refl }

module _ (outs : ℕ → List ℕ) (m : Message) (first : Psn) where
  abbrev packet : ℕ → List ℕ
  packet i = packet_at (record { message = m; first = first; index = i })

  -- none open: all the rest is dropped
  closed-rest : (bs : List Bool) (j : ℕ) (x : Run) → MayCome outs m first x → 0 < j → j + length bs ≡ packet_count m
      → x.whole.pair.message.kind ≡ 255
      → Unreported x (handed outs m first x j bs)
  unfolding handed
  closed-rest [] j x K o n e = unreported-same x
  closed-rest (true ∷ bs) j x K o n e =
      let g = gone-none outs m first x K j (omega arith) o e in
      let y = taken x (packet j) (outs j) in
      unreported-chain x y _ g.unreported (closed-rest bs (suc j) y (comes outs m first x K j (omega arith)) (omega arith) (omega arith) g.closed)
  closed-rest (false ∷ bs) j x K o n e = closed-rest bs (suc j) x K (omega arith) (omega arith) e

  off_rest : (bs : List Bool) (j : ℕ) (x : Run) → MayCome outs m first x → 0 < j → j + length bs ≡ packet_count m
      → Off m first x j
      → Unreported x (handed outs m first x j bs)
  unfolding handed
  off_rest [] j x K o n f = unreported-same x
  off_rest (true ∷ bs) j x K o n (inl f) =
      let g = gone-kind outs m first x K j (omega arith) o f in
      let y = taken x (packet j) (outs j) in
      unreported-chain x y _ g.unreported (closed-rest bs (suc j) y (comes outs m first x K j (omega arith)) (omega arith) (omega arith) g.closed)
  off_rest (false ∷ bs) j x K o n (inl f) = off_rest bs (suc j) x K (omega arith) (omega arith) (inl f)
  off_rest (true ∷ bs) j x K o n (inr f) =
      let g = gone-other outs m first x K j (omega arith) o (f j (omega arith) (omega arith)) in
      let y = taken x (packet j) (outs j) in
      unreported-chain x y _ g.unreported (closed-rest bs (suc j) y (comes outs m first x K j (omega arith)) (omega arith) (omega arith) g.closed)
  off_rest (false ∷ bs) j x K o n (inr f) = off_rest bs (suc j) x K (omega arith) (omega arith) (inr (λ i l h. f i (omega arith) h))

  -- up to the first that is lost
  part : (few : packet_count m ≤ 2 ^ 24) (bs : List Bool) (i : ℕ) (x : Run) → MayCome outs m first x → i + length bs ≡ packet_count m
      → ((k : ℕ) × (k < length bs) × (get_or bs k true ≡ false))
      → (get_or bs 0 false ≡ true) ⊎ Off m first x (suc i)
      → Unreported x (handed outs m first x i bs)
  unfolding handed
  part few [] i x K n lost a = absurd (omega (arith, lost.1))
  part few (false ∷ bs) i x K n lost (inl e) = absurd (true≢false (sym e))
  part few (false ∷ bs) i x K n lost (inr f) = off_rest bs (suc i) x K (omega arith) (omega arith) f
  part few (true ∷ bs) i x K n (zero, l, e) a = absurd (true≢false e)
  part few (true ∷ bs) i x K n (suc k, l, e) a =
      let h : i < packet_count m = omega arith in
      let y = taken x (packet i) (outs i) in
      unreported-chain x y _ (unreported outs m first x K i h (omega arith))
      (part few bs (suc i) y (comes outs m first x K i h) (omega arith) (k, omega arith, e) (inr (go (onward outs m first x K i h))))
    where
      go : ((taken x (packet i) (outs i)).whole.pair.message.kind ≡ 255) ⊎ ((taken x (packet i) (outs i)).whole.pair.expected ≡ psn_after first (suc i))
          → Off m first (taken x (packet i) (outs i)) (suc (suc i))
      go (inl z) = inl (λ e. kind-open m.request (sym e ∙ z))
      go (inr z) = inr (λ j b c d. apart-numbers first (suc i) j (packet_count m) (omega arith) c few (sym (ap (λ p. p.0) z) ∙ d))

limit-bytes : (r : Request) (n : ℕ) → Carrier r → InLimit r n → n ≤ 1048576
limit-bytes Send n c l = l
limit-bytes (SendImmediate v) n c l = l
limit-bytes (Write t) n c l = l
limit-bytes (WriteImmediate t v) n c l = l
limit-bytes (Read a) n c l = absurd c
limit-bytes (CmpSwap a) n c l = absurd c
limit-bytes (FetchAdd t v) n c l = absurd c

-- no message has more than 4,096 packets
few-packets : (s : Setup) (m : Message) → SetupFit s → Addressed s m → Carrier m.request → packet_count m ≤ 4096
few-packets s m f A c =
    let l : 256 ≤ s.pmtu = (bounds s.pmtu f.pmtu).0 in
    let p : m.connection.pmtu ≡ s.pmtu = A.pmtu in
    let n = limit-bytes m.request (length m.bytes) c A.limit in
    (packets-counted s m f A c).least 4096 (omega arith) (omega (arith, n))

pub handed-in-part : HandedInPart
handed-in-part outs m first x chosen K n lost a =
    let few = few-packets x.whole.pair.setup m K.standing.steady.pair.setup.0 K.addressed K.carries in
    part outs m first (omega (arith, few)) chosen 0 x K (omega (arith, n)) (lost.0, omega (arith, lost.1, n), lost.2) a
