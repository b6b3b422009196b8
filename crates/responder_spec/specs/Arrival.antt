-- What the inbound call is given, and what it leaves.
use Rattle.std.specs.Prelude.{ℕ, List}
use Rattle.pair.specs.Answer.{status_number}
use Rattle.pair.specs.Calls.{Whole}
use Rattle.pair.specs.declared.Pair.{Pair}
use Rattle.responder_spec.specs.declared.Completion.{Completion}
use Rattle.responder_spec.specs.declared.Outcome.{Outcome}

-- The pair with its tables, memory, the packet, and the output that is lent for an answer.
pub record Arrival : Type 0 where
  pub whole : Whole
  pub memory : List ℕ
  pub packet : List ℕ
  pub out : List ℕ

-- The number of the answer, the pair with its tables, the report to the host, how many bytes are to be sent, memory and
-- the output.
pub record Left : Type 0 where
  pub number : ℕ
  pub whole : Whole
  pub completion : Completion
  pub outgoing : ℕ
  pub memory : List ℕ
  pub out : List ℕ

-- an arrival by the pair with its tables, and by what a call is lent; and what a call leaves by its outcome: inbound
-- writes no regions and no entries
abbrev pub arriving_at : Whole → List ℕ → List ℕ → List ℕ → Arrival
arriving_at w memory packet out = record { whole = w; memory = memory; packet = packet; out = out }

abbrev pub arriving : Pair → List (List ℕ) → List (List ℕ) → List (List ℕ) → List ℕ → List ℕ → List ℕ → Arrival
arriving q regions entries saved memory packet out =
    arriving_at (record { pair = q; regions = regions; entries = entries; saved = saved }) memory packet out

abbrev pub leaving : Arrival → Outcome → List (List ℕ) → List ℕ → List ℕ → Left
leaving a o saved memory out =
    record {
      number = status_number o.status;
      whole = record { pair = o.pair; regions = a.whole.regions; entries = a.whole.entries; saved = saved };
      completion = o.completion;
      outgoing = o.outgoing;
      memory = memory;
      out = out;
    }
