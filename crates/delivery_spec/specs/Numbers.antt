-- The packets of a stream, and their numbers: along it without a wrap, and on the wire.
use Rattle.std.specs.Prelude.{ℕ, suc, ◌+◌, ◌*◌, ◌%◌, ◌<◌, ◌≡◌, List, [], ◌∷◌, ◌++◌, length, get_or}
use Rattle.sequence.specs.declared.Psn.{Psn}
use Rattle.pmtu.specs.Claims.{Counted}
use Rattle.cut_spec.specs.Message.{packets_of}
use Rattle.cut_spec.specs.declared.Request.{Request}
use Rattle.cut_spec.specs.declared.Request.TheVariants.{Send, SendImmediate, Write, WriteImmediate, Read, CmpSwap, FetchAdd}
use Rattle.delivery_spec.specs.Stream.{Message, Slot, slot, stream, packet_at, number_along}

-- Places along the stream, not wrapped: the first is 0, and each next one is that of the packet before it and the numbers
-- that this takes, a READ as many as the least count of responses that is enough, every other packet one.
abbrev pub Takes : Request → ℕ → ℕ → Type 0
Takes Send pmtu n = n ≡ 1
Takes (SendImmediate v) pmtu n = n ≡ 1
Takes (Write t) pmtu n = n ≡ 1
Takes (WriteImmediate t v) pmtu n = n ≡ 1
Takes (Read a) pmtu n = Counted a.length pmtu n
Takes (CmpSwap a) pmtu n = n ≡ 1
Takes (FetchAdd t v) pmtu n = n ≡ 1

abbrev pub PlacesAre : Type 0
PlacesAre =
    (S : List Slot)
    → (number_along S 0 ≡ 0)
    × ((j : ℕ) → j < length S → 0 < (slot S j).message.connection.pmtu
    → (n : ℕ) × (Takes (slot S j).message.request (slot S j).message.connection.pmtu n × (number_along S (suc j) ≡ number_along S j + n)))

-- The PSN that packet j has on the wire, in its bytes 9 to 11, is its place from the first number on, modulo 2^24.
abbrev pub WirePsn : Type 0
WirePsn =
    (first : Psn) (ms : List Message) (j : ℕ) → j < length (stream first ms)
    → let p = packet_at (slot (stream first ms) j) in
    get_or p 9 0 * 65536 + get_or p 10 0 * 256 + get_or p 11 0 ≡ (first.0 + number_along (stream first ms) j) % 16777216

-- The stream has the packets of every message, in order, and no others: one message more adds its packets at the end, and
-- wherever a message stands among others, its packet i comes i places behind the packets of those before it.
pub record Holds (first : Psn) (before : List Message) (m : Message) (after : List Message) : Type 0 where
  pub count : length (stream first (before ++ (m ∷ []))) ≡ length (stream first before) + packets_of m.request (length m.bytes) m.connection.pmtu
  pub packet : (i : ℕ) → i < packets_of m.request (length m.bytes) m.connection.pmtu
      → let t = slot (stream first (before ++ (m ∷ after))) (length (stream first before) + i) in
      (t.message ≡ m) × (t.index ≡ i)

abbrev pub StreamHolds : Type 0
StreamHolds =
    (first : Psn) → (stream first [] ≡ []) × ((before : List Message) (m : Message) (after : List Message) → Holds first before m after)
