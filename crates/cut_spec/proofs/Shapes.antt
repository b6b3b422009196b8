-- The opcode and the headers of a cut packet agree.
use Prim.Native.Nat.{ℕ, ◌+◌, ◌*◌, ◌^◌, ◌≤◌, ◌<◌}
use mathlib.Core.Path.{◌≡◌, refl, sym}
use mathlib.Core.Bool.{Bool, true, false, cond, true≢false}
use mathlib.Core.Logic.{◌⊎◌, inl, inr}
use native.Mathlib.Omega.{arith}
use lib.Dec.{eqb}
use lib.ListN.{length}
use borrow.Author.Tests.{lt-ltb}
use Rattle.opcode.specs.Opcode.{service_of, low_of, kind_of, place_in, place_of, send_write_follows, follows_of, low_class, uc_has, class_of}
use Rattle.header.specs.Write.{follows_by, extension_bytes, reth_bytes}
use Rattle.header.specs.Claims.{RethWidths, Widths}
use Rattle.opcode.specs.Place.{ends, starts}
use Rattle.pmtu.specs.Pieces.{pieces, place_at}
use Rattle.cut_spec.specs.Message.{carries, carried_length, packets_of, message_length, message_limit}
use Rattle.cut_spec.specs.Cut.{with_immediate, low_for, send_extension, reth_for, write_extension, write_end, write_immediate_extension, fetch_add_eth, extension_for, header_at}
use Rattle.cut_spec.specs.Claims.{Carrier, TargetWidths, RequestWidths, InLimit, WidthsOfHeaders, CutMany, CutOne, kind_number}
use Rattle.cut_spec.specs.declared.Target.{Target}
use Rattle.cut_spec.specs.declared.Request.{Request}
use Rattle.cut_spec.specs.declared.Request.TheVariants.{Send, SendImmediate, Write, WriteImmediate, Read, CmpSwap, FetchAdd}

-- a place is First, Middle, Last or Only
pub by_place : (P : ℕ → Type 0) → P 0 → P 1 → P 2 → P 4 → (count i : ℕ) → P (place_at count i)
unfolding place_at
by_place P first middle last only count i = go (eqb count 1) (eqb i 0) (eqb (i + 1) count)
  where
    go : (a b c : Bool) → P (cond a 4 (cond b 0 (cond c 2 1)))
    go true b c = only
    go false true c = first
    go false false true = last
    go false false false = middle

-- what opcode and headers have in common at a place: the headers are those of the opcode, whose kind is the request's
abbrev Shape : Request → ℕ → ℕ → Type 0
Shape r m place =
    ((low_class (low_for r place)).follows ≡ follows_by (extension_for r m place)) × ((low_class (low_for r place)).kind ≡ kind_number r)

pub shape : (r : Request) (m count i : ℕ) → Shape r m (place_at count i)
unfolding low_class kind_of place_in place_of follows_of send_write_follows low_for with_immediate extension_for send_extension write_extension write_end write_immediate_extension ends starts follows_by
shape Send m count i = by_place (Shape Send m) (refl, refl) (refl, refl) (refl, refl) (refl, refl) count i
shape (SendImmediate v) m count i = by_place (Shape (SendImmediate v) m) (refl, refl) (refl, refl) (refl, refl) (refl, refl) count i
shape (Write t) m count i = by_place (Shape (Write t) m) (refl, refl) (refl, refl) (refl, refl) (refl, refl) count i
shape (WriteImmediate t v) m count i = by_place (Shape (WriteImmediate t v) m) (refl, refl) (refl, refl) (refl, refl) (refl, refl) count i
shape (Read a) m count i = (refl, refl)
shape (CmpSwap a) m count i = (refl, refl)
shape (FetchAdd t v) m count i = (refl, refl)

-- of requests that carry bytes, the opcode says the place too, and is UC's; the headers have at most 32 bytes
abbrev PlaceSaid : Request → ℕ → Type 0
PlaceSaid r place = ((low_class (low_for r place)).place ≡ place) × (low_for r place < 12)

pub place-said : (r : Request) (count i : ℕ) → Carrier r → PlaceSaid r (place_at count i)
unfolding low_class place_in place_of low_for with_immediate ends
place-said Send count i h = by_place (PlaceSaid Send) (refl, omega arith) (refl, omega arith) (refl, omega arith) (refl, omega arith) count i
place-said (SendImmediate v) count i h = by_place (PlaceSaid (SendImmediate v)) (refl, omega arith) (refl, omega arith) (refl, omega arith) (refl, omega arith) count i
place-said (Write t) count i h = by_place (PlaceSaid (Write t)) (refl, omega arith) (refl, omega arith) (refl, omega arith) (refl, omega arith) count i
place-said (WriteImmediate t v) count i h = by_place (PlaceSaid (WriteImmediate t v)) (refl, omega arith) (refl, omega arith) (refl, omega arith) (refl, omega arith) count i
place-said (Read a) count i h = absurd h
place-said (CmpSwap a) count i h = absurd h
place-said (FetchAdd t v) count i h = absurd h

abbrev Few : Request → ℕ → ℕ → Type 0
Few r m place = 12 + length (extension_bytes (extension_for r m place)) ≤ 32

pub few : (r : Request) (m count i : ℕ) → Carrier r → Few r m (place_at count i)
unfolding extension_for send_extension write_extension write_end write_immediate_extension ends starts extension_bytes reth_bytes
few Send m count i h = omega arith
few (SendImmediate v) m count i h = by_place (Few (SendImmediate v) m) (omega arith) (omega arith) (omega arith) (omega arith) count i
few (Write t) m count i h = by_place (Few (Write t) m) (omega arith) (omega arith) (omega arith) (omega arith) count i
few (WriteImmediate t v) m count i h = by_place (Few (WriteImmediate t v) m) (omega arith) (omega arith) (omega arith) (omega arith) count i
few (Read a) m count i h = absurd h
few (CmpSwap a) m count i h = absurd h
few (FetchAdd t v) m count i h = absurd h

-- each field within its width
target : (t : Target) (n : ℕ) → TargetWidths t → n ≤ message_limit → RethWidths (reth_for t n)
unfolding reth_for
target t n w h = (w.0, w.1, omega arith)

pub widths : (r : Request) (m count i : ℕ) → RequestWidths r → m ≤ message_limit → Widths (extension_for r m (place_at count i))
unfolding extension_for send_extension write_extension write_end write_immediate_extension ends starts fetch_add_eth
widths Send m count i w h = tt
widths (SendImmediate v) m count i w h = by_place (λ p. Widths (extension_for (SendImmediate v) m p)) tt tt (omega (arith, w)) (omega (arith, w)) count i
widths (Write t) m count i w h =
    by_place (λ p. Widths (extension_for (Write t) m p)) (target t m w h) tt tt (target t m w h) count i
widths (WriteImmediate t v) m count i w h =
    by_place (λ p. Widths (extension_for (WriteImmediate t v) m p)) (target t m w.0 h) tt w.1 (target t m w.0 h, w.1) count i
widths (Read a) m count i w h = w
widths (CmpSwap a) m count i w h = w
widths (FetchAdd t v) m count i w h =
    let z : 0 < 2 ^ 64 = omega arith in
    (w.0.0, w.0.1, w.1, z)

-- and each number of the request in a field
pub widths-of-headers : WidthsOfHeaders
unfolding header_at extension_for send_extension write_extension write_end write_immediate_extension packets_of carried_length carries message_length pieces place_at ends starts reth_for fetch_add_eth
widths-of-headers c r first = (forth r, back r)
  where
    forth : (r : Request) → RequestWidths r → Widths (header_at c r 0 first 0).extension
    forth Send w = tt
    forth (SendImmediate v) w = omega (arith, w)
    forth (Write t) w = (w.0, w.1, omega arith)
    forth (WriteImmediate t v) w = ((w.0.0, w.0.1, omega arith), w.1)
    forth (Read a) w = w
    forth (CmpSwap a) w = w
    forth (FetchAdd t v) w = (w.0.0, w.0.1, w.1, omega arith)

    back : (r : Request) → Widths (header_at c r 0 first 0).extension → RequestWidths r
    back Send w = tt
    back (SendImmediate v) w = omega (arith, w)
    back (Write t) w = (w.0, w.1)
    back (WriteImmediate t v) w = ((w.0.0, w.0.1), w.1)
    back (Read a) w = w
    back (CmpSwap a) w = w
    back (FetchAdd t v) w = ((w.0, w.1), w.2)

-- how many packets
pub cut-many : CutMany
unfolding packets_of carried_length carries
cut-many Send n p h = refl
cut-many (SendImmediate v) n p h = refl
cut-many (Write t) n p h = refl
cut-many (WriteImmediate t v) n p h = refl
cut-many (Read a) n p h = absurd h
cut-many (CmpSwap a) n p h = absurd h
cut-many (FetchAdd t v) n p h = absurd h

pub cut-one : CutOne
unfolding packets_of carried_length carries pieces
cut-one Send n p h = absurd (h tt)
cut-one (SendImmediate v) n p h = absurd (h tt)
cut-one (Write t) n p h = absurd (h tt)
cut-one (WriteImmediate t v) n p h = absurd (h tt)
cut-one (Read a) n p h = refl
cut-one (CmpSwap a) n p h = refl
cut-one (FetchAdd t v) n p h = refl

-- the test is the list of requests
pub carries-carrier : (r : Request) → carries r ≡ true → Carrier r
unfolding carries
carries-carrier Send e = tt
carries-carrier (SendImmediate v) e = tt
carries-carrier (Write t) e = tt
carries-carrier (WriteImmediate t v) e = tt
carries-carrier (Read a) e = true≢false (sym e)
carries-carrier (CmpSwap a) e = true≢false (sym e)
carries-carrier (FetchAdd t v) e = true≢false (sym e)

pub carrier-carries : (r : Request) → Carrier r → carries r ≡ true
unfolding carries
carrier-carries Send h = refl
carrier-carries (SendImmediate v) h = refl
carrier-carries (Write t) h = refl
carrier-carries (WriteImmediate t v) h = refl
carrier-carries (Read a) h = absurd h
carrier-carries (CmpSwap a) h = absurd h
carrier-carries (FetchAdd t v) h = absurd h

-- so is the limit
pub in-limit : (r : Request) (n : ℕ) → InLimit r n → message_length r n ≤ message_limit
unfolding message_length
in-limit Send n h = h
in-limit (SendImmediate v) n h = h
in-limit (Write t) n h = h
in-limit (WriteImmediate t v) n h = h
in-limit (Read a) n h = h
in-limit (CmpSwap a) n h = omega arith
in-limit (FetchAdd t v) n h = omega arith

pub limit-in : (r : Request) (n : ℕ) → message_length r n ≤ message_limit → InLimit r n
unfolding message_length
limit-in Send n h = h
limit-in (SendImmediate v) n h = h
limit-in (Write t) n h = h
limit-in (WriteImmediate t v) n h = h
limit-in (Read a) n h = h
limit-in (CmpSwap a) n h = tt
limit-in (FetchAdd t v) n h = tt

-- the opcode of a service that has the request, by its low five bits
pub service-is : (s low : ℕ) → low < 32 → service_of (s * 32 + low) ≡ s
service-is s low h = omega arith

pub low-is : (s low : ℕ) → low < 32 → low_of (s * 32 + low) ≡ low
low-is s low h = omega arith

pub class-is : (s low : ℕ) → low < 32 → (s ≡ 0) ⊎ ((s ≡ 1) × (low < 12)) → class_of (s * 32 + low) ≡ low_class low
unfolding class_of uc_has
class-is s low h (inl z) = rw (service-is s low h, low-is s low h, z)
class-is s low h (inr z) = rw (service-is s low h, low-is s low h, z.0, lt-ltb low 12 z.1)
