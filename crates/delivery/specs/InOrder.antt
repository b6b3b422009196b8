-- The plain run in the words of an executor: packets one after the other, with the entries in the order of their posting.
use Rattle.std.specs.Prelude.{ℕ, ◌+◌, ◌^◌, ◌≤◌, ◌<◌, ◌≡◌, false, ◌&&◌, List, ◌++◌, length, take}
use Rattle.sequence.specs.Sequence.{psn_after}
use Rattle.table.specs.declared.Entry.{Entry}
use Rattle.pair.specs.declared.Setup.{Setup}
use Rattle.delivery_spec.specs.Stream.{Slot, slot, number_along}
use Rattle.delivery_spec.specs.Plain.{Plain, Call, AllInside, slot_needs_entry, none, plain, start, accepted, execute_all}

-- equal but for the responses still to send
pub record Same (p q : Plain) : Type 0 where
  pub k : p.k ≡ q.k
  pub memory : p.memory ≡ q.memory
  pub completions : p.completions ≡ q.completions
  pub msn : p.msn ≡ q.msn
  pub expected : p.expected ≡ q.expected
  pub held : p.held ≡ q.held
  pub waiting : p.waiting ≡ q.waiting

module _ (s : Setup) (regions : List (List ℕ)) (S : List Slot) (m : List ℕ) (waiting : List Entry) where
  -- the start with every entry there from the beginning: those that wait, then those that the calls post
  abbrev pub supplied : List Call → Plain
  supplied calls = start s m (waiting ++ accepted s regions S (start s m waiting) calls)

  -- After every list of calls with packets of the stream the plain run stands where the first k packets in order stand, k being how many it
  -- executed. None of them was executed without the entry that it needs.
  pub record StandsInOrder (calls : List Call) : Type 0 where
    pub inside : (plain s regions S (start s m waiting) calls).k ≤ length S
    pub same :
        Same (plain s regions S (start s m waiting) calls)
        (execute_all regions (supplied calls) (take (plain s regions S (start s m waiting) calls).k S))
    pub entry :
        (n : ℕ) → n < (plain s regions S (start s m waiting) calls).k
        → slot_needs_entry (slot S n) && none (execute_all regions (supplied calls) (take n S)).waiting ≡ false

abbrev pub InOrder : Type 0
InOrder =
    (s : Setup) (regions : List (List ℕ)) (S : List Slot) (m : List ℕ) (waiting : List Entry) (calls : List Call)
    → AllInside (length S) calls
    → StandsInOrder s regions S m waiting calls

-- n packets are n packets.
abbrev pub Counts : Type 0
Counts = (regions : List (List ℕ)) (p : Plain) (ts : List Slot) → (execute_all regions p ts).k ≡ p.k + length ts

-- And the number expected after n of them is the number along the stream.
abbrev pub ExpectedAlong : Type 0
ExpectedAlong =
    (s : Setup) (regions : List (List ℕ)) (S : List Slot) (m : List ℕ) (waiting : List Entry) (n : ℕ)
    → s.start.0 < 2 ^ 24
    → n ≤ length S
    → (execute_all regions (start s m waiting) (take n S)).expected ≡ psn_after s.start (number_along S n)
