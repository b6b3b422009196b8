-- What is asked of the calls can be met: for every permitted stream whose SENDs fit in memory there are lists of calls
-- that execute every packet, without a fault and with many.
use Rattle.std.specs.Prelude.{ℕ, zero, suc, ◌≤◌, ◌≡◌, cond, List, [], ◌∷◌, ltb, length}
use Rattle.table.specs.declared.Entry.{Entry}
use Rattle.pair.specs.Calls.{Whole}
use Rattle.pair.specs.declared.Setup.{Setup}
use Rattle.delivery_spec.specs.Stream.{Message, Slot, slot, stream, psn_count}
use Rattle.delivery_spec.specs.Plain.{Call, plain, start}
use Rattle.delivery_spec.specs.Plain.Call.{Hand, Next, Post}
use Rattle.delivery_spec.specs.Demand.{Fresh, AllPermitted, LongEnough, AllLongEnough, waiting_at, Asked}

-- the longest entry, and one that does not lie in memory
abbrev pub whole_entry : Setup → Entry
whole_entry s = record { number = 0; offset = 0; length = s.memory }

abbrev pub outside_entry : Setup → Entry
outside_entry s = record { number = 0; offset = 1; length = s.memory }

-- the responses of packet j, as many as it takes numbers, are asked for before the other calls
unfoldable pub asking : List ℕ → ℕ → List Call → List Call
asking out zero rest = rest
asking out (suc n) rest = Next out ∷ asking out n rest

abbrev pub draining : List ℕ → List Slot → ℕ → List Call → List Call
draining out S j rest = asking out (psn_count (slot S j)) rest

-- n packets from packet j on, in turn: an entry is posted, the packet is handed in, its responses are asked for
unfoldable pub in_turn : Setup → List ℕ → List Slot → ℕ → ℕ → List Call
in_turn s out S j zero = []
in_turn s out S j (suc n) = Post (whole_entry s) ∷ Hand j out ∷ draining out S j (in_turn s out S (suc j) n)

-- packet j is lost: the packet after it, if there is one, comes ahead
abbrev pub losing : List ℕ → List Slot → ℕ → List Call → List Call
losing out S j rest = cond (ltb (suc j) (length S)) (Hand (suc j) out ∷ rest) rest

-- The same with faults at every packet. Before it, calls that are refused: a response where none is to send, the packet
-- with too short an output, an entry that does not lie in memory; and the packet is lost. Then it is executed and comes
-- again, a READ while its responses are to be sent, which is refused; and once more after them, when it is answered.
unfoldable pub with_faults : Setup → List ℕ → List Slot → ℕ → ℕ → List Call
with_faults s out S j zero = []
with_faults s out S j (suc n) =
    Next out
    ∷ Hand j []
    ∷ Post (outside_entry s)
    ∷ losing out S j
    (Post (whole_entry s)
    ∷ Hand j out
    ∷ Hand j out
    ∷ draining out S j (Hand j out ∷ draining out S j (with_faults s out S (suc j) n)))

-- the calls meet what is asked, and all packets are executed
pub record ExecutesAll (w : Whole) (ms : List Message) (m : List ℕ) (calls : List Call) : Type 0 where
  pub asked : Asked w ms m calls
  pub all :
      (plain w.pair.setup w.regions (stream w.pair.setup.start ms) (start w.pair.setup m (waiting_at w)) calls).k
      ≡ length (stream w.pair.setup.start ms)

abbrev pub Witness : Type 0
Witness =
    (w : Whole) (ms : List Message) (m out : List ℕ)
    → Fresh w
    → AllPermitted w.pair.setup w.regions ms
    → AllLongEnough ms (waiting_at w)
    → LongEnough ms (whole_entry w.pair.setup)
    → length m ≡ w.pair.setup.memory
    → 4112 ≤ length out
    → let s = w.pair.setup in
    let S = stream s.start ms in
    ExecutesAll w ms m (in_turn s out S 0 (length S)) × ExecutesAll w ms m (with_faults s out S 0 (length S))
