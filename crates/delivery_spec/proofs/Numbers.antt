-- The numbers of a stream, along it and on the wire.
use Prim.Native.Nat.{ℕ, zero, suc, ◌+◌, ◌%◌, ◌≤◌, ◌<◌}
use mathlib.Core.Path.{◌≡◌, refl, sym, ap, subst, ◌∙◌}
use mathlib.Core.List.{List, [], ◌∷◌, ◌++◌}
use native.Mathlib.Omega.{arith}
use lib.ListN.{length}
use Rattle.sequence.specs.Sequence.{space, after, psn_after}
use Rattle.sequence.specs.declared.Psn.{Psn}
use Rattle.header.specs.Write.{header_bytes, bth_bytes}
use Rattle.pmtu.specs.Pieces.{pieces}
use Rattle.pmtu.proofs.Counting.{counts}
use Rattle.packet.specs.Packet.{packet_bytes}
use Rattle.cut_spec.specs.Message.{carries, carried_length, message_length, packets_of}
use Rattle.cut_spec.specs.Next.{psns_of, next_psn}
use Rattle.cut_spec.specs.Cut.{header_at, cut_bytes}
use Rattle.cut_spec.specs.declared.Connection.{Connection}
use Rattle.cut_spec.specs.declared.Request.{Request}
use Rattle.cut_spec.specs.declared.Request.TheVariants.{Send, SendImmediate, Write, WriteImmediate, Read, CmpSwap, FetchAdd}
use Rattle.cut_spec.proofs.Numbers.{psn-at}
use Rattle.delivery_spec.specs.Stream.{Message, packet_count, Slot, slot, slots_from, stream, packet_at, psn_count_of, psn_count, number_along}
use Rattle.delivery_spec.specs.Numbers.{Takes, PlacesAre, WirePsn, Holds, StreamHolds}

-- along the stream
pub along-suc : (S : List Slot) (j : ℕ) → j < length S → number_along S (suc j) ≡ number_along S j + psn_count (slot S j)
unfolding number_along
along-suc [] j h = absurd (omega arith)
along-suc (t ∷ []) zero h = omega arith
along-suc (t ∷ u ∷ S) zero h = omega arith
along-suc (t ∷ S) (suc j) h = omega (arith, along-suc S j (omega arith))

pub along-less : (S : List Slot) (j k : ℕ) → j < k → k ≤ length S → number_along S j + psn_count (slot S j) ≤ number_along S k
unfolding number_along
along-less [] j k h l = absurd (omega arith)
along-less (t ∷ S) zero zero h l = absurd (omega arith)
along-less (t ∷ S) zero (suc k) h l = omega arith
along-less (t ∷ S) (suc j) zero h l = absurd (omega arith)
along-less (t ∷ S) (suc j) (suc k) h l = omega (arith, along-less S j k (omega arith) (omega arith))

pub along-zero : (S : List Slot) → number_along S 0 ≡ 0
unfolding number_along
along-zero [] = refl
along-zero (t ∷ S) = refl

-- from the number x on
abbrev Numbered : ℕ → List Slot → Type 0
Numbered x [] = Unit {0}
Numbered x (t ∷ S) = ((psn_after t.first t.index).0 ≡ x % space) × Numbered (x + psn_count t) S

-- numbers
numbered-slots : (m : Message) (first : Psn) (i n x : ℕ) (rest : List Slot) → psn_count_of m.request m.connection.pmtu ≡ 1
    → after first.0 i ≡ x % space
    → Numbered (x + n) rest
    → Numbered x (slots_from m first i n ++ rest)
unfolding slots_from
numbered-slots m first i zero x rest q e h = let z : x + 0 ≡ x = omega arith in rw z at h
numbered-slots m first i (suc n) x rest q e h =
    let z : x + suc n ≡ x + psn_count_of m.request m.connection.pmtu + n = omega arith in
    (e, numbered-slots m first (suc i) n (x + psn_count_of m.request m.connection.pmtu) rest q (omega arith) (rw z at h))

-- a message takes as many numbers as its packets span
numbered-one : (m : Message) (first : Psn) (x n : ℕ) (rest : List Slot) → packet_count m ≡ 1 → psn_count_of m.request m.connection.pmtu ≡ n
    → after first.0 0 ≡ x % space → Numbered (x + n) rest → Numbered x (slots_from m first 0 (packet_count m) ++ rest)
unfolding slots_from
numbered-one m first x n rest c q e h =
    subst (λ k. Numbered x (slots_from m first 0 k ++ rest)) (sym c) (e, subst (λ k. Numbered (x + k) rest) (sym q) h)

abbrev made : Connection → Request → List ℕ → Message
made c r d = record { connection = c; request = r; bytes = d }

numbered-message : (c : Connection) (r : Request) (d : List ℕ) (first : Psn) (x : ℕ) (rest : List Slot)
    → after first.0 0 ≡ x % space → Numbered (x + psns_of r (length d) c.pmtu) rest
    → Numbered x (slots_from (made c r d) first 0 (packet_count (made c r d)) ++ rest)
unfolding psns_of message_length packets_of carried_length carries pieces
numbered-message c Send d first x rest e h = numbered-slots (made c Send d) first 0 _ x rest refl e h
numbered-message c (SendImmediate v) d first x rest e h = numbered-slots (made c (SendImmediate v) d) first 0 _ x rest refl e h
numbered-message c (Write t) d first x rest e h = numbered-slots (made c (Write t) d) first 0 _ x rest refl e h
numbered-message c (WriteImmediate t v) d first x rest e h = numbered-slots (made c (WriteImmediate t v) d) first 0 _ x rest refl e h
numbered-message c (Read a) d first x rest e h = numbered-one (made c (Read a) d) first x _ rest refl refl e h
numbered-message c (CmpSwap a) d first x rest e h = numbered-one (made c (CmpSwap a) d) first x _ rest refl refl e h
numbered-message c (FetchAdd t v) d first x rest e h = numbered-one (made c (FetchAdd t v) d) first x _ rest refl refl e h

numbered-stream : (first : Psn) (x : ℕ) (ms : List Message) → after first.0 0 ≡ x % space → Numbered x (stream first ms)
unfolding stream next_psn
numbered-stream first x [] e = tt
numbered-stream first x (m ∷ ms) e =
    let n = psns_of m.request (length m.bytes) m.connection.pmtu in
    numbered-message m.connection m.request m.bytes first x (stream (psn_after first n) ms) e
    (numbered-stream (psn_after first n) (x + n) ms (omega arith))

number_at : (x : ℕ) (S : List Slot) (j : ℕ) → Numbered x S → j < length S
    → (psn_after (slot S j).first (slot S j).index).0 ≡ after x (number_along S j)
unfolding number_along
number_at x [] j w h = absurd (omega arith)
number_at x (t ∷ S) zero w h = w.0 ∙ omega arith
number_at x (t ∷ S) (suc j) w h = number_at (x + psn_count t) S j w.1 (omega arith) ∙ omega arith

-- the PSN of each packet is its place, from the first number on
pub stream-numbers : (first : Psn) (ms : List Message) (j : ℕ) → j < length (stream first ms)
    → (psn_after (slot (stream first ms) j).first (slot (stream first ms) j).index).0 ≡ after first.0 (number_along (stream first ms) j)
stream-numbers first ms j h = number_at first.0 (stream first ms) j (numbered-stream first first.0 ms (omega arith)) h

takes : (r : Request) (pmtu : ℕ) → 0 < pmtu → Takes r pmtu (psn_count_of r pmtu)
takes Send pmtu h = refl
takes (SendImmediate v) pmtu h = refl
takes (Write t) pmtu h = refl
takes (WriteImmediate t v) pmtu h = refl
takes (Read a) pmtu h = counts a.length pmtu h
takes (CmpSwap a) pmtu h = refl
takes (FetchAdd t v) pmtu h = refl

pub places-are : PlacesAre
places-are S = (along-zero S, λ j h b. (psn_count (slot S j), (takes (slot S j).message.request (slot S j).message.connection.pmtu b, along-suc S j h)))

pub wire-psn : WirePsn
unfolding packet_at cut_bytes packet_bytes header_bytes bth_bytes
wire-psn first ms j h =
    let t = slot (stream first ms) j in
    let b = (header_at t.message.connection t.message.request (length t.message.bytes) t.first t.index).bth in
    let e : b.psn.0 ≡ (first.0 + number_along (stream first ms) j) % space =
    ap (λ x. x.0) (psn-at t.message.connection t.message.request (length t.message.bytes) t.first t.index) ∙ stream-numbers first ms j h in
    omega arith

-- which packets there are
slots_length : (m : Message) (first : Psn) (i n : ℕ) (rest : List Slot) → length (slots_from m first i n ++ rest) ≡ n + length rest
unfolding slots_from
slots_length m first i zero rest = omega arith
slots_length m first i (suc n) rest = omega (arith, slots_length m first (suc i) n rest)

slots-here : (m : Message) (first : Psn) (i n : ℕ) (rest : List Slot) (j : ℕ) → j < n
    → ((slot (slots_from m first i n ++ rest) j).message ≡ m) × ((slot (slots_from m first i n ++ rest) j).index ≡ i + j)
unfolding slots_from
slots-here m first i zero rest j h = absurd (omega arith)
slots-here m first i (suc n) rest zero h = (refl, omega arith)
slots-here m first i (suc n) rest (suc j) h = let r = slots-here m first (suc i) n rest j (omega arith) in (r.0, r.1 ∙ omega arith)

slots-past : (m : Message) (first : Psn) (i n : ℕ) (rest : List Slot) (j : ℕ) → slot (slots_from m first i n ++ rest) (n + j) ≡ slot rest j
unfolding slots_from
slots-past m first i zero rest j = let e : 0 + j ≡ j = omega arith in ap (slot rest) e
slots-past m first i (suc n) rest j =
    let e : suc n + j ≡ suc (n + j) = omega arith in
    ap (slot (slots_from m first i (suc n) ++ rest)) e ∙ slots-past m first (suc i) n rest j

holds : (first : Psn) (before : List Message) (m : Message) (after : List Message) → Holds first before m after
unfolding stream
holds first [] m after = record {
  count = slots_length m first 0 (packet_count m) [] ∙ omega arith;
  packet = λ i h.
      let S = slots_from m first 0 (packet_count m) ++ stream (next_psn m.request (length m.bytes) m.connection.pmtu first) after in
      let e : 0 + i ≡ i = omega arith in
      let q : slot S (0 + i) ≡ slot S i = ap (slot S) e in
      let r = slots-here m first 0 (packet_count m) (stream (next_psn m.request (length m.bytes) m.connection.pmtu first) after) i h in
      (ap (λ t. t.message) q ∙ r.0, ap (λ t. t.index) q ∙ (r.1 ∙ e));
}
holds first (x ∷ before) m after =
    let next = next_psn x.request (length x.bytes) x.connection.pmtu first in
    let H = holds next before m after in
    let n = packet_count x in
    let l = slots_length x first 0 n (stream next before) in
    record {
      count = slots_length x first 0 n (stream next (before ++ (m ∷ []))) ∙ omega (arith, l, H.count);
      packet = λ i h.
          let e : length (slots_from x first 0 n ++ stream next before) + i ≡ n + (length (stream next before) + i) = omega (arith, l) in
          let q : slot (slots_from x first 0 n ++ stream next (before ++ (m ∷ after))) (length (slots_from x first 0 n ++ stream next before) + i) ≡ slot (stream next (before ++ (m ∷ after))) (length (stream next before) + i) =
          ap (slot (slots_from x first 0 n ++ stream next (before ++ (m ∷ after)))) e ∙ slots-past x first 0 n (stream next (before ++ (m ∷ after))) (length (stream next before) + i) in
          let r = H.packet i h in
          (ap (λ t. t.message) q ∙ r.0, ap (λ t. t.index) q ∙ r.1);
    }

pub stream-holds : StreamHolds
unfolding stream
stream-holds first = (refl, λ before m after. holds first before m after)
