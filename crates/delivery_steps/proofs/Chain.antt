-- What is known of the packets of a stream, by index: each stands in a permitted message, how one follows the other,
-- and which number it has.
use Prim.Native.Nat.{ℕ, zero, suc, ◌+◌, ◌^◌, ◌≤◌, ◌<◌}
use mathlib.Core.Path.{◌≡◌, refl}
use mathlib.Core.List.{List, [], ◌∷◌, ◌++◌}
use mathlib.Core.Logic.{◌⊎◌, inl}
use native.Mathlib.Omega.{arith}
use lib.ListN.{length}
use Rattle.sequence.specs.Sequence.{after, psn_after}
use Rattle.sequence.specs.declared.Psn.{Psn}
use Rattle.pmtu.proofs.Counting.{counts, bounds}
use Rattle.pair.specs.declared.Setup.{Setup}
use Rattle.pair.specs.Claims.{SetupFit}
use Rattle.cut_spec.specs.Claims.{Carrier}
use Rattle.cut_spec.specs.Next.{next_psn}
use Rattle.cut_spec.specs.declared.Request.{Request}
use Rattle.cut_spec.specs.declared.Request.TheVariants.{Send, SendImmediate, Write, WriteImmediate, Read, CmpSwap, FetchAdd}
use Rattle.table.specs.declared.Entry.{Entry}
use Rattle.delivery_spec.proofs.Numbers.{stream-numbers}
use Rattle.delivery_spec.specs.Stream.{Message, packet_count, Slot, slots_from, stream, slot, psn_count_of, psn_count, number_along}
use Rattle.delivery_spec.specs.Demand.{Allowed, Addressed, Permitted, All, AllPermitted, AtLeast, LongEnough}

-- the service has the request: UC has SENDs and WRITEs only
abbrev pub Served : Setup → Request → Type 0
Served s r = (s.service ≡ 0) ⊎ ((s.service ≡ 1) × Carrier r)

abbrev pub AllServed : Setup → List Message → Type 0
AllServed s ms = All (λ m. Served s m.request) ms

pub reliable-serves : (s : Setup) (ms : List Message) → s.service ≡ 0 → AllServed s ms
reliable-serves s [] e = tt
reliable-serves s (m ∷ ms) e = (inl e, reliable-serves s ms e)

-- a packet of a message that comes to the pair, and of one that is permitted
pub record Sent (s : Setup) (t : Slot) : Type 0 where
  pub addressed : Addressed s t.message
  pub served : Served s t.message.request
  pub inside : t.index < packet_count t.message
  pub first : t.first.0 < 2 ^ 24

pub record Stands (s : Setup) (regions : List (List ℕ)) (t : Slot) : Type 0 where
  pub allowed : Allowed s regions t.message.request (length t.message.bytes)
  pub outgoing : Sent s t

abbrev pub further : Slot → Slot
further t = record { message = t.message; first = t.first; index = suc t.index }

-- the packet u comes after t
pub record Turn (t u : Slot) : Type 0 where
  pub more : suc t.index < packet_count t.message → u ≡ further t
  pub last : suc t.index ≡ packet_count t.message → u.index ≡ 0

abbrev Walk : Setup → List (List ℕ) → List Slot → Type 0
Walk s regions [] = Unit {0}
Walk s regions (t ∷ S) = Stands s regions t × Turn t (slot S 0) × Walk s regions S

-- each SEND fits the entry
abbrev Fits : Entry → List Slot → Type 0
Fits e [] = Unit {0}
Fits e (t ∷ S) = AtLeast e.length t.message.request (length t.message.bytes) × Fits e S

stream-opens : (first : Psn) (ms : List Message) → (slot (stream first ms) 0).index ≡ 0
unfolding stream slots_from
stream-opens first [] = refl
stream-opens first (m ∷ ms) = go (packet_count m) (stream-opens (next_psn m.request (length m.bytes) m.connection.pmtu first) ms)
  where
    go : (n : ℕ) → (slot (stream (next_psn m.request (length m.bytes) m.connection.pmtu first) ms) 0).index ≡ 0
        → (slot (slots_from m first 0 n ++ stream (next_psn m.request (length m.bytes) m.connection.pmtu first) ms) 0).index ≡ 0
    go zero h = h
    go (suc n) h = refl

module _ (s : Setup) (regions : List (List ℕ)) (m : Message) (first : Psn) (p : Permitted s regions m) (v : Served s m.request)
    (b : first.0 < 2 ^ 24) where
  turn-slots : (i n : ℕ) (rest : List Slot) → suc (i + n) ≡ packet_count m → (slot rest 0).index ≡ 0
      → Turn (record { message = m; first = first; index = i }) (slot (slots_from m first (suc i) n ++ rest) 0)
  unfolding slots_from
  turn-slots i zero rest e o = record { more = λ h. absurd (omega arith); last = λ h. o }
  turn-slots i (suc n) rest e o = record { more = λ h. refl; last = λ h. absurd (omega arith) }

  walk-slots : (i n : ℕ) (rest : List Slot) → i + n ≡ packet_count m → (slot rest 0).index ≡ 0 → Walk s regions rest
      → Walk s regions (slots_from m first i n ++ rest)
  unfolding slots_from
  walk-slots i zero rest e o w = w
  walk-slots i (suc n) rest e o w =
      let f : suc (i + n) ≡ packet_count m = omega arith in (
        record {
          allowed = p.allowed;
          outgoing = record { addressed = p.addressed; served = v; inside = omega arith; first = b };
        },
        turn-slots i n rest f o,
        walk-slots (suc i) n rest (omega arith) o w,
      )

stream-walk : (s : Setup) (regions : List (List ℕ)) (first : Psn) (ms : List Message) → first.0 < 2 ^ 24 → AllServed s ms
    → AllPermitted s regions ms
    → Walk s regions (stream first ms)
unfolding stream next_psn
stream-walk s regions first [] b v p = tt
stream-walk s regions first (m ∷ ms) b v p =
    let next = next_psn m.request (length m.bytes) m.connection.pmtu first in
    walk-slots s regions m first p.0 v.0 b 0 (packet_count m) (stream next ms) (omega arith) (stream-opens next ms)
    (stream-walk s regions next ms (omega arith) v.1 p.1)

-- each entry long enough for the messages is so for the packets
fits-slots : (e : Entry) (m : Message) (first : Psn) (i n : ℕ) (rest : List Slot) → AtLeast e.length m.request (length m.bytes)
    → Fits e rest → Fits e (slots_from m first i n ++ rest)
unfolding slots_from
fits-slots e m first i zero rest h f = f
fits-slots e m first i (suc n) rest h f = (h, fits-slots e m first (suc i) n rest h f)

fits-stream : (e : Entry) (first : Psn) (ms : List Message) → LongEnough ms e → Fits e (stream first ms)
unfolding stream
fits-stream e first [] h = tt
fits-stream e first (m ∷ ms) h =
    let next = next_psn m.request (length m.bytes) m.connection.pmtu first in
    fits-slots e m first 0 (packet_count m) (stream next ms) h.0 (fits-stream e next ms h.1)

-- by index
stands_at : (s : Setup) (regions : List (List ℕ)) (S : List Slot) (j : ℕ) → Walk s regions S → j < length S → Stands s regions (slot S j)
stands_at s regions [] j w h = absurd (omega arith)
stands_at s regions (t ∷ S) zero w h = w.0
stands_at s regions (t ∷ S) (suc j) w h = stands_at s regions S j w.2 (omega arith)

turn_at : (s : Setup) (regions : List (List ℕ)) (S : List Slot) (j : ℕ) → Walk s regions S → j < length S → Turn (slot S j) (slot S (suc j))
turn_at s regions [] j w h = absurd (omega arith)
turn_at s regions (t ∷ S) zero w h = w.1
turn_at s regions (t ∷ S) (suc j) w h = turn_at s regions S j w.2 (omega arith)

fits-at : (e : Entry) (S : List Slot) (j : ℕ) → Fits e S → j < length S
    → AtLeast e.length (slot S j).message.request (length (slot S j).message.bytes)
fits-at e [] j f h = absurd (omega arith)
fits-at e (t ∷ S) zero f h = f.0
fits-at e (t ∷ S) (suc j) f h = fits-at e S j f.1 (omega arith)

-- every packet takes a number
count-positive : (r : Request) (pmtu : ℕ) → 0 < pmtu → 1 ≤ psn_count_of r pmtu
count-positive Send pmtu h = omega arith
count-positive (SendImmediate v) pmtu h = omega arith
count-positive (Write t) pmtu h = omega arith
count-positive (WriteImmediate t v) pmtu h = omega arith
count-positive (Read a) pmtu h = (counts a.length pmtu h).some
count-positive (CmpSwap a) pmtu h = omega arith
count-positive (FetchAdd t v) pmtu h = omega arith

pub record Good (s : Setup) (regions : List (List ℕ)) (ms : List Message) (S : List Slot) : Type 0 where
  pub opening : (slot S 0).index ≡ 0
  pub stands : (j : ℕ) → j < length S → Stands s regions (slot S j)
  pub turn : (j : ℕ) → j < length S → Turn (slot S j) (slot S (suc j))
  pub number : (j : ℕ) → j < length S → (psn_after (slot S j).first (slot S j).index).0 ≡ after s.start.0 (number_along S j)
  pub large : (e : Entry) → LongEnough ms e → (j : ℕ) → j < length S → AtLeast e.length (slot S j).message.request (length (slot S j).message.bytes)
  pub some : (j : ℕ) → j < length S → 1 ≤ psn_count (slot S j)

pub good : (s : Setup) (regions : List (List ℕ)) (ms : List Message) → SetupFit s → AllServed s ms → AllPermitted s regions ms
    → Good s regions ms (stream s.start ms)
good s regions ms f v p =
    let S = stream s.start ms in
    let w = stream-walk s regions s.start ms f.start v p in
    record {
      opening = stream-opens s.start ms;
      stands = λ j h. stands_at s regions S j w h;
      turn = λ j h. turn_at s regions S j w h;
      number = stream-numbers s.start ms;
      large = λ e l j h. fits-at e S j (fits-stream e s.start ms l) h;
      some = λ j h.
          let q : (slot S j).message.connection.pmtu ≡ s.pmtu = (stands_at s regions S j w h).outgoing.addressed.pmtu in
          let b : 256 ≤ s.pmtu = (bounds s.pmtu f.pmtu).0 in
          count-positive (slot S j).message.request (slot S j).message.connection.pmtu (omega arith);
    }
