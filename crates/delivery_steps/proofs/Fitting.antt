-- A request by its kind: its key holds, its lengths fit.
use Prim.Native.Nat.{ℕ, suc, ◌+◌, ◌-◌, ◌*◌, ◌%◌, ◌≤◌, ◌<◌}
use mathlib.Core.Path.{◌≡◌, refl, ap, ◌∙◌}
use mathlib.Core.Bool.{Bool, true, false, cond, not, ◌&&◌}
use mathlib.Core.List.{List}
use native.Mathlib.Omega.{arith}
use lib.Dec.{eqb, ltb}
use lib.ListN.{length}
use borrow.Author.Tests.{eqb-true, eq-eqb, le-ltb, lt-ltb}
use Rattle.lemmas.proofs.Auto.{tests}
use Rattle.lemmas.proofs.Tests.{and-true}
use Rattle.opcode.specs.Place.{starts, ends}
use Rattle.table.specs.Table.{region_row}
use Rattle.table.specs.Claims.{RegionsSound}
use Rattle.table.specs.declared.Region.{Region}
use Rattle.pair.specs.declared.Setup.{Setup}
use Rattle.pair.specs.declared.OpenMessage.{OpenMessage}
use Rattle.cut_spec.specs.Message.{message_length}
use Rattle.cut_spec.specs.Claims.{Carrier, InLimit, kind_number}
use Rattle.cut_spec.specs.declared.Request.{Request}
use Rattle.cut_spec.specs.declared.Request.TheVariants.{Send, SendImmediate, Write, WriteImmediate, Read, CmpSwap, FetchAdd}
use Rattle.request_spec.specs.declared.Packet.{Packet}
use Rattle.request_spec.specs.Verdict.{carrying, not_enabled, needs_entry, key_fails, key_lacking, right_of, size_off, total_off, bare_off, payload_size, lengths_off}
use Rattle.responder_spec.specs.Decide.{region_for}
use Rattle.delivery_spec.specs.Plain.{needs_entry_at}
use Rattle.delivery_spec.specs.Demand.{Allowed}
use Rattle.delivery_steps.proofs.Places.{Sizes}
use Rattle.delivery_steps.proofs.Operands.{address_of, key_of, named_of, immediate_of}
use Rattle.delivery_steps.proofs.Rel.{Is}
use Rattle.delivery_steps.proofs.Verdicts.{key-passes}

-- a request by its kind and bytes
pub named-is : (r : Request) (n : ℕ) → named_of r (message_length r n) ≡ named_of r n
unfolding message_length
named-is Send n = refl
named-is (SendImmediate v) n = refl
named-is (Write t) n = refl
named-is (WriteImmediate t v) n = refl
named-is (Read a) n = refl
named-is (CmpSwap a) n = refl
named-is (FetchAdd t v) n = refl

pub named-limit : (r : Request) (n : ℕ) → InLimit r n → named_of r n ≤ 1048576
named-limit Send n h = omega arith
named-limit (SendImmediate v) n h = omega arith
named-limit (Write t) n h = h
named-limit (WriteImmediate t v) n h = h
named-limit (Read a) n h = h
named-limit (CmpSwap a) n h = omega arith
named-limit (FetchAdd t v) n h = omega arith

pub enabled-is : (s : Setup) (regions : List (List ℕ)) (r : Request) (n : ℕ) → Allowed s regions r n → not_enabled s (kind_number r) ≡ false
unfolding not_enabled
enabled-is s regions Send n h = ap not h
enabled-is s regions (SendImmediate v) n h = ap not h
enabled-is s regions (Write t) n h = ap not h.0
enabled-is s regions (WriteImmediate t v) n h = ap not h.0
enabled-is s regions (Read a) n h = ap not h.0
enabled-is s regions (CmpSwap a) n h = ap not h.0
enabled-is s regions (FetchAdd t v) n h = ap not h.0

pub and-false : (b : Bool) → (b && false) ≡ false
and-false true = refl
and-false false = refl

pub needs-is : (r : Request) (place i count : ℕ) (b : Bool) → starts place ≡ eqb i 0 → ends place ≡ eqb (suc i) count → b ≡ (ends place && immediate_of r)
    → needs_entry (kind_number r) place b ≡ needs_entry_at r i count
unfolding needs_entry
needs-is Send place i count b e f g = e
needs-is (SendImmediate v) place i count b e f g = e
needs-is (Write t) place i count b e f g = rw g (and-false (ends place))
needs-is (WriteImmediate t v) place i count b e f g = rw (g, f) (and-true (eqb (suc i) count))
needs-is (Read a) place i count b e f g = rw g (and-false (ends place))
needs-is (CmpSwap a) place i count b e f g = rw g (and-false (ends place))
needs-is (FetchAdd t v) place i count b e f g = rw g (and-false (ends place))

-- what the key must hold is not less than what was stored
abbrev pub Room : Request → ℕ → ℕ → Type 0
Room Send off n = Unit {0}
Room (SendImmediate v) off n = Unit {0}
Room (Write t) off n = off ≤ n
Room (WriteImmediate t v) off n = off ≤ n
Room (Read a) off n = off ≡ 0
Room (CmpSwap a) off n = off ≡ 0
Room (FetchAdd t v) off n = off ≡ 0

pub write-right : (r : Region) → right_of 6 (region_row r) ≡ cond r.write 1 0
unfolding right_of region_row
write-right r = refl

pub read_right : (r : Region) → right_of 12 (region_row r) ≡ cond r.read 1 0
unfolding right_of region_row
read_right r = refl

pub swap-right : (r : Region) → right_of 19 (region_row r) ≡ cond r.atomic 1 0
unfolding right_of region_row
swap-right r = refl

pub add_right : (r : Region) → right_of 20 (region_row r) ≡ cond r.atomic 1 0
unfolding right_of region_row
add_right r = refl

pub key-good : (r : Request) (s : Setup) (regions : List (List ℕ)) (n off : ℕ) (m : OpenMessage) → RegionsSound s.memory regions
    → Allowed s regions r n
    → Is (kind_number r) off (address_of r) (key_of r) (named_of r n) m
    → Room r off n
    → key_fails s.memory (kind_number r) m (region_for (kind_number r) m.key regions) ≡ false
unfolding key_fails key_lacking region_for
key-good Send s regions n off m z a e l = refl
key-good (SendImmediate v) s regions n off m z a e l = refl
key-good (Write t) s regions n off m z a e l =
    rw e.key (key-passes s.memory 6 t.key t.address n off regions (λ r. r.write) m z write-right e.address e.stored e.length l a.1)
key-good (WriteImmediate t v) s regions n off m z a e l =
    rw e.key (key-passes s.memory 6 t.key t.address n off regions (λ r. r.write) m z write-right e.address e.stored e.length l a.1)
key-good (Read b) s regions n off m z a e l =
    rw e.key (key-passes s.memory 12 b.key b.address b.length off regions (λ r. r.read) m z read_right e.address e.stored e.length (omega arith) a.1)
key-good (CmpSwap b) s regions n off m z a e l =
    rw e.key (key-passes s.memory 19 b.key b.address 8 off regions (λ r. r.atomic) m z swap-right e.address e.stored e.length (omega arith) a.1)
key-good (FetchAdd t v) s regions n off m z a e l =
    rw e.key (key-passes s.memory 20 t.key t.address 8 off regions (λ r. r.atomic) m z add_right e.address e.stored e.length (omega arith) a.1)

-- lengths, of a packet that carries bytes and of one that does not
pub lengths-carry : (p : Packet) (pmtu : ℕ) (m : OpenMessage) (most size : ℕ) → p.body ≡ size + p.pad → carrying p.kind ≡ true
    → size_off p.place pmtu size ≡ false
    → total_off p.kind p.place m.stored size m.length most ≡ false
    → lengths_off p pmtu m most ≡ false
unfolding lengths_off payload_size
lengths-carry p pmtu m most size e c a b =
    let z : p.body - p.pad ≡ size = omega arith in
    let w : ltb p.body p.pad ≡ false = le-ltb p.body p.pad (omega arith) in
    rw (w, c, z, a, b)

pub lengths-bare : (p : Packet) (pmtu : ℕ) (m : OpenMessage) (most : ℕ) → p.body ≡ 0 → p.pad ≡ 0 → carrying p.kind ≡ false
    → bare_off p.kind p.body m.address ≡ false
    → lengths_off p pmtu m most ≡ false
unfolding lengths_off
lengths-bare p pmtu m most e z c a =
    let w : ltb p.body p.pad ≡ false = le-ltb p.body p.pad (omega arith) in
    rw (w, c, a)

-- the entry takes a SEND
abbrev pub Suits : Request → ℕ → ℕ → Type 0
Suits Send n most = n ≤ most
Suits (SendImmediate v) n most = n ≤ most
Suits (Write t) n most = Unit {0}
Suits (WriteImmediate t v) n most = Unit {0}
Suits (Read a) n most = Unit {0}
Suits (CmpSwap a) n most = Unit {0}
Suits (FetchAdd t v) n most = Unit {0}

-- the packets of a message end it, and do not go past its end
pub payload-total : (i count size pmtu n : ℕ) → i < count → Sizes i count size pmtu n → i * pmtu + size ≤ n
payload-total i count size pmtu n h z = go (eqb (suc i) count) refl
  where
    go : (b : Bool) → eqb (suc i) count ≡ b → i * pmtu + size ≤ n
    go true e = omega (arith, (z.last (eqb-true (suc i) count e)).2)
    go false e = let w = z.more (omega (arith, tests)) in omega (arith, w.0, w.1)

pub send-total : (place stored size n most len i pmtu : ℕ) → stored ≡ i * pmtu → i * pmtu + size ≤ n → n ≤ most
    → total_off 0 place stored size len most ≡ false
unfolding total_off
send-total place stored size n most len i pmtu e l g = le-ltb most (stored + size) (omega arith)

pub write-total : (place stored size n most len i pmtu count : ℕ) → stored ≡ i * pmtu → len ≡ n → i < count → Sizes i count size pmtu n
    → ends place ≡ eqb (suc i) count
    → total_off 6 place stored size len most ≡ false
unfolding total_off
write-total place stored size n most len i pmtu count e l h z q = rw q (go (eqb (suc i) count) refl)
  where
    go : (b : Bool) → eqb (suc i) count ≡ b → cond b (not (eqb (stored + size) len)) (not (ltb (stored + size) len)) ≡ false
    go true f = ap not (eq-eqb (stored + size) len (omega (arith, (z.last (eqb-true (suc i) count f)).2)))
    go false f = let w = z.more (omega (arith, tests)) in ap not (lt-ltb (stored + size) len (omega (arith, w.0, w.1)))

pub read-bare : (body address : ℕ) → body ≡ 0 → bare_off 12 body address ≡ false
unfolding bare_off
read-bare body address e = rw (eq-eqb body 0 e)

pub swap-bare : (body address : ℕ) → body ≡ 0 → address % 8 ≡ 0 → bare_off 19 body address ≡ false
unfolding bare_off
swap-bare body address e a = rw (eq-eqb body 0 e, eq-eqb (address % 8) 0 a)

pub add-bare : (body address : ℕ) → body ≡ 0 → address % 8 ≡ 0 → bare_off 20 body address ≡ false
unfolding bare_off
add-bare body address e a = rw (eq-eqb body 0 e, eq-eqb (address % 8) 0 a)

-- by the kind: a packet p of index i of count, which carries size bytes
pub lengths-good : (r : Request) (s : Setup) (regions : List (List ℕ)) (p : Packet) (m : OpenMessage) (i count size n most : ℕ)
    → p.kind ≡ kind_number r
    → p.body ≡ size + p.pad
    → ends p.place ≡ eqb (suc i) count
    → i < count
    → Allowed s regions r n
    → Is (kind_number r) (i * s.pmtu) (address_of r) (key_of r) (named_of r n) m
    → (Carrier r → Sizes i count size s.pmtu n × (size_off p.place s.pmtu size ≡ false))
    → ((Carrier r → ⊥) → (size ≡ 0) × (p.pad ≡ 0))
    → Suits r n most
    → lengths_off p s.pmtu m most ≡ false
unfolding carrying
lengths-good Send s regions p m i count size n most k e q h a c z x l =
    lengths-carry p s.pmtu m most size e (rw k) (z tt).1
    (rw k (send-total p.place m.stored size n most m.length i s.pmtu c.stored (payload-total i count size s.pmtu n h (z tt).0) l))
lengths-good (SendImmediate v) s regions p m i count size n most k e q h a c z x l =
    lengths-carry p s.pmtu m most size e (rw k) (z tt).1
    (rw k (send-total p.place m.stored size n most m.length i s.pmtu c.stored (payload-total i count size s.pmtu n h (z tt).0) l))
lengths-good (Write t) s regions p m i count size n most k e q h a c z x l =
    lengths-carry p s.pmtu m most size e (rw k) (z tt).1
    (rw k (write-total p.place m.stored size n most m.length i s.pmtu count c.stored c.length h (z tt).0 q))
lengths-good (WriteImmediate t v) s regions p m i count size n most k e q h a c z x l =
    lengths-carry p s.pmtu m most size e (rw k) (z tt).1
    (rw k (write-total p.place m.stored size n most m.length i s.pmtu count c.stored c.length h (z tt).0 q))
lengths-good (Read b) s regions p m i count size n most k e q h a c z x l =
    let y = x (λ w. w) in
    let w : p.body ≡ 0 = omega (arith, y.0, y.1) in
    lengths-bare p s.pmtu m most w y.1 (rw k) (rw k (read-bare p.body m.address w))
lengths-good (CmpSwap b) s regions p m i count size n most k e q h a c z x l =
    let y = x (λ w. w) in
    let w : p.body ≡ 0 = omega (arith, y.0, y.1) in
    lengths-bare p s.pmtu m most w y.1 (rw k) (rw k (swap-bare p.body m.address w (ap (λ j. j % 8) c.address ∙ a.2)))
lengths-good (FetchAdd t v) s regions p m i count size n most k e q h a c z x l =
    let y = x (λ w. w) in
    let w : p.body ≡ 0 = omega (arith, y.0, y.1) in
    lengths-bare p s.pmtu m most w y.1 (rw k) (rw k (add-bare p.body m.address w (ap (λ j. j % 8) c.address ∙ a.2)))
