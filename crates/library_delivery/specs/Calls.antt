-- What a caller of the library holds, and what lists of its exported calls make of it.
use Rattle.std.specs.Prelude.{ℕ, true, cond, List, [], ◌∷◌, ◌++◌, eqb, get_or}
use Rattle.pair.specs.Calls.{Whole, HostCall}
use Rattle.pair.specs.Calls.HostCall.{SetUp, Reset, MakeReady, AddRegion, RemoveRegion, PostEntry}
use Rattle.responder_spec.specs.declared.Completion.{Completion}
use Rattle.abi_spec.specs.Pair.{pair_of, pair_words}
use Rattle.udalopek_spec.specs.Host.{set_up_words, set_up_table, reset_words, reset_table, ready_words, add_table, remove_table, post_words, post_table}
use Rattle.udalopek_spec.specs.Packets.{Returned, lent, inbound_returned, next_words}
use Rattle.delivery_spec.specs.Stream.{Slot, slot, packet_at}
use Rattle.delivery_spec.specs.Plain.{Call}
use Rattle.delivery_spec.specs.Plain.Call.{Hand, Next, Post}

-- the words and tables of a pair
pub record Holding : Type 0 where
  pub words : List ℕ
  pub regions : List (List ℕ)
  pub entries : List (List ℕ)
  pub saved : List (List ℕ)

-- the pair that they say, with its tables; and back
abbrev pub said : Holding → Whole
said h = record { pair = pair_of h.words; regions = h.regions; entries = h.entries; saved = h.saved }

abbrev pub holding : Whole → Holding
holding w = record { words = pair_words w.pair; regions = w.regions; entries = w.entries; saved = w.saved }

-- what each call of the host leaves
abbrev pub leaves : Holding → List ℕ → List (List ℕ) → List (List ℕ) → Holding
leaves h words regions entries = record { words = words; regions = regions; entries = entries; saved = h.saved }

unfoldable pub hosting : Holding → HostCall → Holding
hosting h (SetUp s) = leaves h (set_up_words h.words s) (set_up_table h.words h.regions s) h.entries
hosting h Reset = leaves h (reset_words h.words) (reset_table h.words h.regions) h.entries
hosting h MakeReady = leaves h (ready_words h.words) h.regions h.entries
hosting h (AddRegion r) = leaves h h.words (add_table h.words h.regions r) h.entries
hosting h (RemoveRegion key) = leaves h h.words (remove_table h.words h.regions key) h.entries
hosting h (PostEntry e) = leaves h (post_words h.words e) h.regions (post_table h.words h.entries e)

unfoldable pub hosting_all : Holding → List HostCall → Holding
hosting_all h [] = h
hosting_all h (c ∷ cs) = hosting_all (hosting h c) cs

-- inbound writes the words and the saved rows, next response the words
abbrev pub inbound_on : Holding → List ℕ → List ℕ → List ℕ → Returned
inbound_on h m p out = inbound_returned (lent h.words h.regions h.entries h.saved m p out)

abbrev pub left_of : Holding → Returned → Holding
left_of h r = record { words = r.words; regions = h.regions; entries = h.entries; saved = r.saved }

abbrev pub next_on : Holding → List ℕ → List ℕ → Holding
next_on h m out = leaves h (next_words h.words m out) h.regions h.entries

-- the completion that the six words told by inbound say: word 1 is 1 if there is one
abbrev pub told : List ℕ → List Completion
told t =
    cond (eqb (get_or t 1 0) 1)
    (record { some = true; number = get_or t 2 0; length = get_or t 3 0; immediate = eqb (get_or t 4 0) 1; value = get_or t 5 0 } ∷ []) []

-- memory besides, and the completions told so far
pub record Caller : Type 0 where
  pub held : Holding
  pub memory : List ℕ
  pub completions : List Completion

abbrev pub received : Caller → Returned → Caller
received x r = record { held = left_of x.held r; memory = r.memory; completions = x.completions ++ told r.report }

-- One call: packet j of the stream to inbound, next response, post entry. It goes on from what the one before has left.
unfoldable pub library_step : List Slot → Caller → Call → Caller
library_step S x (Hand j out) = received x (inbound_on x.held x.memory (packet_at (slot S j)) out)
library_step S x (Next out) = record { held = next_on x.held x.memory out; memory = x.memory; completions = x.completions }
library_step S x (Post e) = record { held = hosting x.held (PostEntry e); memory = x.memory; completions = x.completions }

unfoldable pub library_run : List Slot → Caller → List Call → Caller
library_run S x [] = x
library_run S x (c ∷ cs) = library_run S (library_step S x c) cs
