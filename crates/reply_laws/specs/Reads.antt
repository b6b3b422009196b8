-- A READ that is drained: by as many calls as it has responses, and together they carry the bytes asked for.
use Rattle.std.specs.Prelude.{ℕ, ◌+◌, ◌*◌, ◌^◌, ◌≤◌, ◌<◌, ◌≡◌, List, [], ◌∷◌, ◌++◌, map, ◌⊎◌, length, take, get_or}
use Rattle.responder_spec.specs.Arrival.{Arrival}
use Rattle.responder_spec.specs.Inbound.{inbound}
use Rattle.header.specs.Read.{reth_of}
use Rattle.packet.specs.Packet.{payload_of}
use Rattle.pmtu.specs.Pieces.{pieces}
use Rattle.pair.specs.Answer.{status_number}
use Rattle.pair.specs.Claims.{Sound}
use Rattle.pair.specs.declared.Pair.{Pair}
use Rattle.responder_spec.specs.Reply.{read_reply, response_bytes}
use Rattle.responder_spec.specs.Response.{next_response, next_out}
use Rattle.response_laws.specs.Responses.{Answering, asked}
use Rattle.effect_laws.specs.Effects.{Fixed}

-- Calls of next response with nothing between, each with an output of its own: the answers, the packets, the pair.
pub record Drain : Type 0 where
  pub psns : List ℕ
  pub packets : List (List ℕ)
  pub pair : Pair

unfoldable pub drain : Pair → List ℕ → List (List ℕ) → Drain
drain q m [] = record { psns = []; packets = []; pair = q }
drain q m (out ∷ outs) =
    record {
      psns = status_number (next_response q m out).status ∷ (drain (next_response q m out).pair m outs).psns;
      packets = take (next_response q m out).outgoing (next_out q m out) ∷ (drain (next_response q m out).pair m outs).packets;
      pair = (drain (next_response q m out).pair m outs).pair;
    }

unfoldable pub flat : List (List ℕ) → List ℕ
flat [] = []
flat (d ∷ ds) = d ++ flat ds

-- With room enough each time, the calls answer 0 and write response after response; then none remains, nothing else of
-- the pair has moved, and the payloads are the bytes asked for.
pub record Drains (q : Pair) (bytes : List ℕ) (outs : List (List ℕ)) : Type 0 where
  pub done : (i : ℕ) → i < length outs → get_or (drain q bytes outs).psns i 1 ≡ 0
  pub written : (i : ℕ) → i < length outs → get_or (drain q bytes outs).packets i [] ≡ response_bytes q.setup (read_reply q.read) bytes i
  pub none : (drain q bytes outs).pair.read.remaining ≡ 0
  pub fixed : Fixed q (drain q bytes outs).pair
  pub state : (drain q bytes outs).pair.state ≡ q.state
  pub nakmark : (drain q bytes outs).pair.nakmark ≡ q.nakmark
  pub whole : flat (map payload_of (drain q bytes outs).packets) ≡ asked q.read bytes

abbrev pub ReadDrained : Type 0
ReadDrained =
    (q : Pair) (m : List ℕ) (outs : List (List ℕ)) → Answering q m
    → q.read.remaining ≡ pieces q.read.length q.setup.pmtu
    → length outs ≡ q.read.remaining
    → ((i : ℕ) → i < length outs → 16 + q.setup.pmtu ≤ length (get_or outs i []))
    → Drains q m outs

-- So a READ that is accepted, 2, or a duplicate answered, 4 with nothing sent, is served by as many calls as it has
-- responses, from memory as it was when it was accepted. That the pair left is sound is proved on its own.
abbrev pub ReadServed : Type 0
ReadServed =
    (a : Arrival) (outs : List (List ℕ))
    → ((inbound a).number ≡ 2)
    ⊎ (((inbound a).number ≡ 4) × ((inbound a).outgoing ≡ 0))
    → Sound (inbound a).whole.pair
    → a.whole.pair.setup.pkey < 2 ^ 16
    → length a.memory ≡ a.whole.pair.setup.memory
    → length outs ≡ pieces (reth_of a.packet).length a.whole.pair.setup.pmtu
    → ((i : ℕ) → i < length outs → 16 + a.whole.pair.setup.pmtu ≤ length (get_or outs i []))
    → Drains (inbound a).whole.pair a.memory outs
