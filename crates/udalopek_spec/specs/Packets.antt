-- The calls of a responder on lent words. Another number of words than a pair has is refused; else it is the call of the
-- pair that the words say, and the words of the pair that it leaves are written back. Words out of range say no sound
-- pair: so the call refuses them where it refuses such a pair, and they stay.
use Rattle.std.specs.Prelude.{ℕ, cond, List, [], ◌∷◌, replicate}
use Rattle.pair.specs.declared.Pair.{Pair}
use Rattle.responder_spec.specs.Arrival.{Arrival, Left, arriving}
use Rattle.header.specs.Refusal as Refusal
use Rattle.pair.specs.Answer.{status_number}
use Rattle.responder_spec.specs.declared.Completion.{Completion}
use Rattle.responder_spec.specs.Inbound.{inbound}
use Rattle.responder_spec.specs.Response.{next_response, next_out}
use Rattle.abi_spec.specs.Pair.{other_length, strays, pair_of, pair_words}

-- the words of the report to the host
abbrev pub report_length : ℕ
report_length = 6

-- the report to the host: the bytes to send; 1 if a message completed, its entry and its bytes; 1 if it has an
-- immediate, and the immediate. All of it 0 where there is nothing to report
unfoldable pub report_words : ℕ → Completion → List ℕ
report_words outgoing c = outgoing ∷ cond c.some 1 0 ∷ c.number ∷ c.length ∷ cond c.immediate 1 0 ∷ c.value ∷ []

-- What inbound is lent: the words of a pair in the place of the pair; and what it returns and leaves.
pub record Lent : Type 0 where
  pub words : List ℕ
  pub regions : List (List ℕ)
  pub entries : List (List ℕ)
  pub saved : List (List ℕ)
  pub memory : List ℕ
  pub packet : List ℕ
  pub out : List ℕ

pub record Returned : Type 0 where
  pub number : ℕ
  pub words : List ℕ
  pub saved : List (List ℕ)
  pub memory : List ℕ
  pub out : List ℕ
  pub report : List ℕ

-- each by its parts
abbrev pub lent : List ℕ → List (List ℕ) → List (List ℕ) → List (List ℕ) → List ℕ → List ℕ → List ℕ → Lent
lent words regions entries saved memory packet out =
    record { words = words; regions = regions; entries = entries; saved = saved; memory = memory; packet = packet; out = out }

abbrev pub returned : ℕ → List ℕ → List (List ℕ) → List ℕ → List ℕ → List ℕ → Returned
returned number words saved memory out report =
    record { number = number; words = words; saved = saved; memory = memory; out = out; report = report }

-- what arrives, with this pair
abbrev pub arrival_with : Lent → Pair → Arrival
arrival_with l q = arriving q l.regions l.entries l.saved l.memory l.packet l.out

-- what the call of the pair that the words say leaves
abbrev pub inbound_of : Lent → Left
inbound_of l = inbound (arrival_with l (pair_of l.words))

-- what is lent, as it was, with this number and nothing reported
abbrev pub refused_with : ℕ → Lent → Returned
refused_with number l = returned number l.words l.saved l.memory l.out (replicate report_length 0)

-- what a call of the pair leaves, with these words for those of its pair
abbrev pub returning : List ℕ → Left → Returned
returning words x = returned x.number words x.whole.saved x.memory x.out (report_words x.outgoing x.completion)

unfoldable pub words_left : Lent → List ℕ
words_left l = cond (strays l.words) l.words (pair_words (inbound_of l).whole.pair)

unfoldable pub inbound_returned : Lent → Returned
inbound_returned l =
    cond (other_length l.words) (refused_with Refusal.out_of_range l) (returning (words_left l) (inbound_of l))

module _ (w : List ℕ) (m out : List ℕ) where
  unfoldable pub next_number : ℕ
  next_number = cond (other_length w) Refusal.out_of_range (status_number (next_response (pair_of w) m out).status)

  unfoldable pub next_words : List ℕ
  next_words = cond (strays w) w (pair_words (next_response (pair_of w) m out).pair)

  unfoldable pub next_output : List ℕ
  next_output = cond (other_length w) out (next_out (pair_of w) m out)

  unfoldable pub next_report : List ℕ
  next_report = cond (other_length w) (0 ∷ []) ((next_response (pair_of w) m out).outgoing ∷ [])
