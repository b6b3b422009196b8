-- A READ drained: call after call writes response after response.
use Prim.Native.Nat.{ℕ, zero, suc, ◌+◌, ◌-◌, ◌^◌, ◌≤◌, ◌<◌}
use mathlib.Core.Path.{◌≡◌, refl, sym, ap, subst, ◌∙◌}
use mathlib.Core.List.{List, [], ◌∷◌, ◌++◌, map}
use mathlib.Core.Logic.{◌⊎◌, inl, inr}
use native.Mathlib.Omega.{arith}
use lib.ListN.{length, take, drop, get_or}
use lib.Seq.{take_at}
use Rattle.responder_spec.specs.Arrival.{Left}
use Rattle.responder_spec.specs.Inbound.{inbound}
use Rattle.sequence.specs.Sequence.{msn_next}
use Rattle.sequence.specs.declared.Msn.{Msn}
use Rattle.packet.specs.Packet.{payload_of}
use Rattle.pmtu.specs.Pieces.{pieces, joined}
use Rattle.pair.specs.Answer.{status_number}
use Rattle.pair.specs.Claims.{Sound, ReadSound}
use Rattle.pair.specs.declared.Pair.{Pair}
use Rattle.responder_spec.specs.Apply.{with}
use Rattle.responder_spec.specs.Reply.{read_reply, index_of, response_extension, response_payload, response_header, response_bytes, reply_bytes}
use Rattle.responder_spec.specs.Response.{one_fewer, next_bytes, next_response, next_out}
use Rattle.effect_laws.specs.Effects.{Fixed, Begun, AnsweredOr, Table, NextDone}
use Rattle.response_laws.specs.Responses.{Answering}
use Rattle.reply_laws.specs.Reads.{Drain, drain, flat, Drains, ReadDrained, ReadServed}
use Rattle.decision_laws.proofs.Views.{sound-with}
use Rattle.effect_laws.proofs.Effects.{inbound-table}
use Rattle.effect_laws.proofs.Refusals.{next-answers}
use Rattle.response_laws.proofs.Responses.{responses-join}

-- the pair after one response
abbrev stepped : Pair → Pair
stepped q = with q q.state q.nakmark (one_fewer q.read)

pair_of : (q : Pair) (m out : List ℕ) → NextDone q m out → (next_response q m out).pair ≡ stepped q
pair_of q m out D =
    λ i. record {
      setup = D.fixed.setup i;
      state = D.state i;
      expected = D.fixed.expected i;
      msn = D.fixed.msn i;
      nakmark = D.nakmark i;
      message = D.fixed.message i;
      entries = D.fixed.entries i;
      read = record { remaining = D.read.remaining i; offset = D.read.offset i; length = D.read.length i; psn = D.read.psn i; msn = D.read.msn i };
      saved = D.fixed.saved i;
    }

-- it is sound too
stays-sound : (q : Pair) → Sound q → Sound (stepped q)
stays-sound q S = sound-with q (stepped q) S refl refl refl refl refl refl S.message (go S.read)
  where
    go : ReadSound q → ReadSound (stepped q)
    go (inl z) = inl (omega arith)
    go (inr z) = let b : q.read.remaining ≤ pieces q.read.length q.setup.pmtu = z.0 in inr (omega arith, z.1, z.2, z.3)

-- what one call writes
packet-of : (q : Pair) (m out : List ℕ) (i : ℕ) → NextDone q m out → i + q.read.remaining ≡ pieces q.read.length q.setup.pmtu
    → take (next_response q m out).outgoing (next_out q m out) ≡ response_bytes q.setup (read_reply q.read) m i
unfolding next_bytes reply_bytes index_of
packet-of q m out i D e =
    let b = next_bytes q m out in
    let at : pieces q.read.length q.setup.pmtu - q.read.remaining ≡ i = omega arith in
    ap (take (next_response q m out).outgoing) D.out
    ∙ (take_at b (drop (length b) out) (next_response q m out).outgoing (sym D.outgoing)
    ∙ ap (response_bytes q.setup (read_reply q.read) m) at)

-- the last n calls, from response i on
record From (q : Pair) (bytes : List ℕ) (d : Drain) (n i : ℕ) : Type 0 where
  done : (k : ℕ) → k < n → get_or d.psns k 1 ≡ 0
  written : (k : ℕ) → k < n → get_or d.packets k [] ≡ response_bytes q.setup (read_reply q.read) bytes (i + k)
  none : d.pair.read.remaining ≡ 0
  fixed : Fixed q d.pair
  state : d.pair.state ≡ q.state
  nakmark : d.pair.nakmark ≡ q.nakmark
  whole : flat (map payload_of d.packets) ≡ joined (λ k. payload_of (response_bytes q.setup (read_reply q.read) bytes k)) i n

abbrev Roomy : Pair → List (List ℕ) → Type 0
Roomy q outs = (i : ℕ) → i < length outs → 16 + q.setup.pmtu ≤ length (get_or outs i [])

-- one call more before them; a response says nothing of how many remain
more : (q : Pair) (m : List ℕ) (d : Drain) (n i x : ℕ) (b : List ℕ) → x ≡ 0 → b ≡ response_bytes q.setup (read_reply q.read) m i
    → From (stepped q) m d n (suc i)
    → From q m (record { psns = x ∷ d.psns; packets = b ∷ d.packets; pair = d.pair }) (suc n) i
unfolding response_bytes response_header response_payload response_extension joined flat
more q m d n i x b ex eb I =
    record {
      done = dones;
      written = writes;
      none = I.none;
      fixed =
          record {
            setup = I.fixed.setup;
            expected = I.fixed.expected;
            msn = I.fixed.msn;
            message = I.fixed.message;
            entries = I.fixed.entries;
            saved = I.fixed.saved;
          };
      state = I.state;
      nakmark = I.nakmark;
      whole = λ z. payload_of (eb z) ++ I.whole z;
    }
  where
    dones : (k : ℕ) → k < suc n → get_or (x ∷ d.psns) k 1 ≡ 0
    dones zero h = ex
    dones (suc k) h = I.done k (omega arith)

    writes : (k : ℕ) → k < suc n → get_or (b ∷ d.packets) k [] ≡ response_bytes q.setup (read_reply q.read) m (i + k)
    writes zero h = let e : i ≡ i + 0 = omega arith in eb ∙ ap (response_bytes q.setup (read_reply q.read) m) e
    writes (suc k) h =
        let e : suc i + k ≡ i + suc k = omega arith in
        I.written k (omega arith) ∙ ap (response_bytes q.setup (read_reply q.read) m) e

from : (outs : List (List ℕ)) (q : Pair) (m : List ℕ) (i : ℕ) → Sound q → length m ≡ q.setup.memory
    → q.read.remaining ≡ length outs → i + length outs ≡ pieces q.read.length q.setup.pmtu → Roomy q outs
    → From q m (drain q m outs) (length outs) i
unfolding drain joined flat
from [] q m i S e r c R =
    record {
      done = λ k h. absurd (omega arith);
      written = λ k h. absurd (omega arith);
      none = r;
      fixed = record { setup = refl; expected = refl; msn = refl; message = refl; entries = refl; saved = refl };
      state = refl;
      nakmark = refl;
      whole = refl;
    }
from (out ∷ outs) q m i S e r c R =
    let D = next-answers q m out (λ z. omega arith) (R 0 (omega arith)) e S in
    let I = from outs (stepped q) m (suc i) (stays-sound q S) e (omega arith) (omega arith) (λ k h. R (suc k) (omega arith)) in
    more q m (drain (next_response q m out).pair m outs) (length outs) i (status_number (next_response q m out).status)
    (take (next_response q m out).outgoing (next_out q m out)) D.number (packet-of q m out i D (omega arith))
    (subst (λ x. From (stepped q) m (drain x m outs) (length outs) (suc i)) (sym (pair_of q m out D)) I)

pub read-drained : ReadDrained
read-drained q m outs A all n R =
    let F = from outs q m 0 A.sound A.memory (sym n) (omega arith) R in
    record {
      done = F.done;
      written = λ i h. let z : 0 + i ≡ i = omega arith in F.written i h ∙ ap (response_bytes q.setup (read_reply q.read) m) z;
      none = F.none;
      fixed = F.fixed;
      state = F.state;
      nakmark = F.nakmark;
      whole =
          F.whole
          ∙ (ap (joined (λ k. payload_of (response_bytes q.setup (read_reply q.read) m k)) 0) (n ∙ all) ∙ (responses-join q m A).0);
    }

pub read-served : ReadServed
read-served a outs h S P e n R = go h
  where
    l : Left
    l = inbound a

    T : Table a l
    T = inbound-table a

    serve : (number : Msn) → l.whole.pair.setup ≡ a.whole.pair.setup
        → Begun a.whole.regions a.whole.pair.setup a.packet number l.whole.pair.read → Drains l.whole.pair a.memory outs
    serve number s B =
        let A : Answering l.whole.pair a.memory = record { sound = S; pkey = subst (λ x. x.pkey < 2 ^ 16) (sym s) P; some = B.some; memory = subst (λ x. length a.memory ≡ x.memory) (sym s) e } in
        read-drained l.whole.pair a.memory outs A (subst (λ x. l.whole.pair.read.remaining ≡ pieces l.whole.pair.read.length x.pmtu) (sym s) B.all)
        (n ∙ (ap (λ k. pieces k a.whole.pair.setup.pmtu) (sym B.length) ∙ sym B.all))
        (subst (λ x. (i : ℕ) → i < length outs → 16 + x.pmtu ≤ length (get_or outs i [])) (sym s) R)

    go : (l.number ≡ 2) ⊎ ((l.number ≡ 4) × (l.outgoing ≡ 0)) → Drains l.whole.pair a.memory outs
    go (inl two) = serve (msn_next a.whole.pair.msn) (T.accepts two).executed.setup (T.accepts two).begun
    go (inr (four, none)) = again (T.duplicates four).answer
      where
        again : AnsweredOr a l → Drains l.whole.pair a.memory outs
        again (inl (inl x, y)) = absurd (omega arith)
        again (inl (inr x, y)) = absurd (omega arith)
        again (inr z) = serve a.whole.pair.msn (T.duplicates four).fixed.setup z.2
