-- The header of a cut packet fits, and so does the packet.
use Prim.Native.Nat.{ℕ, ◌+◌, ◌-◌, ◌*◌, ◌≤◌, ◌<◌, min}
use mathlib.Core.Path.{◌≡◌, refl, sym, ap, ◌∙◌}
use mathlib.Core.Bool.{Bool, true, false, cond, true≢false}
use mathlib.Core.List.{List, []}
use mathlib.Core.Logic.{◌⊎◌, inl, inr}
use native.Mathlib.Omega.{arith}
use lib.ListN.{length, take, drop, length-take, length-drop}
use Rattle.sequence.specs.declared.Psn.{Psn}
use Rattle.sequence.proofs.Circle.{after-below}
use Rattle.opcode.specs.Opcode.{low_class, class_of}
use Rattle.header.specs.Write.{follows_by, extension_bytes, header_fits, header_length}
use Rattle.header.specs.Claims.{BthWidths}
use Rattle.header.proofs.Lengths.{length-is, length_most}
use Rattle.header.proofs.Widths.{bth-fits, extension-fits}
use Rattle.header.proofs.Writes.{both-fit}
use Rattle.packet.specs.Packet.{pad_of, packet_length}
use Rattle.packet.proofs.Pads.{pad-small}
use Rattle.pmtu.specs.Pieces.{place_at, piece_at, part_at}
use Rattle.pmtu.proofs.Counting.{pmtus, pmtu-bounds}
use Rattle.pmtu.proofs.Cuts.{at_most}
use Rattle.cut_spec.specs.Message.{carries, carried, carried_length, message_length, packets_of}
use Rattle.cut_spec.specs.Cut.{low_for, bth_at, size_at, header_at, payload_at}
use Rattle.cut_spec.specs.Claims.{Carrier, Fit, Cuttable}
use Rattle.cut_spec.specs.declared.Connection.{Connection}
use Rattle.cut_spec.specs.declared.Request.{Request}
use Rattle.pmtu.proofs.Cuts.{place-bound}
use Rattle.cut_spec.proofs.Bounds.{low-bound, service-small}
use Rattle.cut_spec.proofs.Fitting.{known}
use Rattle.cut_spec.proofs.Steps.{part-carried, range_inside}
use Rattle.cut_spec.proofs.Shapes.{shape, place-said, few, widths, carries-carrier, carrier-carries, in-limit, class-is}

-- a request carries bytes, or it does not
pub decide : (r : Request) → Carrier r ⊎ (Carrier r → ⊥)
decide r = go (carries r) refl
  where
    go : (b : Bool) → carries r ≡ b → Carrier r ⊎ (Carrier r → ⊥)
    go true e = inl (carries-carrier r e)
    go false e = inr (λ h. true≢false (sym (carrier-carries r h) ∙ e))

-- the payload is as long as the numbers say
pub size_is : (c : Connection) (r : Request) (d : List ℕ) (i : ℕ) → size_at r (length d) c.pmtu i ≡ length (payload_at c r d i)
unfolding size_at payload_at
size_is c r d i =
    let s = part_at (carried_length r (length d)) c.pmtu i in
    let I = range_inside r (length d) (carried_length r (length d)) c.pmtu i s refl refl in
    let a : s.start ≤ s.end = I.0 in
    let b : s.end ≤ length d = I.1 in
    let l : length (take (s.end - s.start) (drop s.start d)) ≡ s.end - s.start =
    length-take (s.end - s.start) (drop s.start d) ∙ (ap (min (s.end - s.start)) (length-drop s.start d) ∙ omega arith) in
    sym l ∙ ap length (part-carried r d c.pmtu i)

-- the header
module _ (c : Connection) (r : Request) (n : ℕ) (first : Psn) (i : ℕ) where
  count : ℕ
  count = packets_of r n c.pmtu

  low : ℕ
  low = low_for r (place_at count i)

  low_small : low < 32
  unfolding low
  low_small = omega (arith, low-bound r (place_at count i) (place-bound count i))

  -- the class of its opcode
  pub class_low : Fit c r first.0 → class_of (header_at c r n first i).bth.opcode ≡ low_class (low_for r (place_at (packets_of r n c.pmtu) i))
  unfolding low count header_at bth_at
  class_low K = class-is c.service low low_small (go K.service)
    where
      go : (c.service ≡ 0) ⊎ ((c.service ≡ 1) × Carrier r) → (c.service ≡ 0) ⊎ ((c.service ≡ 1) × (low < 12))
      go (inl z) = inl z
      go (inr z) = inr (z.0, (place-said r count i z.1).1)

  opcode-small : Fit c r first.0 → (header_at c r n first i).bth.opcode < 64
  unfolding header_at bth_at low count
  opcode-small K =
      let s : c.service ≤ 1 = service-small c.service (known c.service r K.service) in
      omega (arith, low_small)

  bth-widths : Cuttable c r n first.0 → BthWidths (header_at c r n first i).bth
  unfolding header_at bth_at
  bth-widths S =
      record {
        opcode = opcode-small S.fit;
        pad = pad-small (size_at r n c.pmtu i);
        tver = refl;
        pkey = S.pkey;
        reserved8 = omega arith;
        dest = S.fit.dest;
        reserved7 = omega arith;
        psn = after-below first i;
      }

  pub follows_said : Fit c r first.0
      → (class_of (header_at c r n first i).bth.opcode).follows ≡ follows_by (header_at c r n first i).extension
  unfolding header_at
  follows_said K = ap (λ k. k.follows) (class_low K) ∙ (shape r (message_length r n) (packets_of r n c.pmtu) i).0

  pub header-fits : Cuttable c r n first.0 → header_fits (header_at c r n first i) ≡ true
  unfolding header_at
  header-fits S =
      both-fit (header_at c r n first i)
      (bth-fits (header_at c r n first i).bth (bth-widths S))
      (extension-fits (class_of (header_at c r n first i).bth.opcode).follows (header_at c r n first i).extension (follows_said S.fit)
      (widths r (message_length r n) (packets_of r n c.pmtu) i S.widths (in-limit r n S.limit)))

-- the packet is no longer than the longest
rounded : (n : ℕ) → n ≤ 4096 → n + pad_of n ≤ 4096
unfolding pad_of
rounded n h = omega arith

pad-none : (n : ℕ) → n ≡ 0 → pad_of n ≡ 0
unfolding pad_of
pad-none n e = omega arith

nothing : (r : Request) (d : List ℕ) → (Carrier r → ⊥) → carried r d ≡ []
unfolding carried
nothing r d h = go (carries r) refl
  where
    go : (b : Bool) → carries r ≡ b → cond b d [] ≡ []
    go true e = absurd (h (carries-carrier r e))
    go false e = refl

pub none-carried : (c : Connection) (r : Request) (d : List ℕ) (i : ℕ) → (Carrier r → ⊥) → length (payload_at c r d i) ≡ 0
unfolding payload_at piece_at
none-carried c r d i h =
    let e : carried r d ≡ [] = nothing r d h in
    let m : min c.pmtu (0 - i * c.pmtu) ≡ 0 = omega arith in
    length-take c.pmtu (drop (i * c.pmtu) (carried r d))
    ∙ (ap (min c.pmtu) (length-drop (i * c.pmtu) (carried r d) ∙ ap (λ x. length x - i * c.pmtu) e) ∙ m)

extension-short : (c : Connection) (r : Request) (n : ℕ) (first : Psn) (i : ℕ) → Carrier r
    → 12 + length (extension_bytes (header_at c r n first i).extension) ≤ 32
unfolding header_at
extension-short c r n first i k = few r (message_length r n) (packets_of r n c.pmtu) i k

payload-most : (c : Connection) (r : Request) (d : List ℕ) (i : ℕ) → length (payload_at c r d i) ≤ c.pmtu
unfolding payload_at
payload-most c r d i = at_most (carried r d) c.pmtu i

sum : (h n m : ℕ) → h ≤ m → n ≤ 4096 → m + 4096 ≤ 4128 → h + (n + pad_of n) ≤ 4128
sum h n m a b e = omega (arith, rounded n b)

pub packet-short : (c : Connection) (r : Request) (d : List ℕ) (first : Psn) (i : ℕ) → Cuttable c r (length d) first.0
    → packet_length (header_at c r (length d) first i) (length (payload_at c r d i)) ≤ 4128
unfolding packet_length
packet-short c r d first i S = go (decide r)
  where
    go : Carrier r ⊎ (Carrier r → ⊥)
        → header_length (header_at c r (length d) first i) + (length (payload_at c r d i) + pad_of (length (payload_at c r d i))) ≤ 4128
    go (inl k) =
        let l = length-is (header_at c r (length d) first i) (header-fits c r (length d) first i S) in
        let b = pmtu-bounds c.pmtu ((pmtus c.pmtu).1 S.fit.pmtu) in
        sum (header_length (header_at c r (length d) first i)) (length (payload_at c r d i)) 32
        (omega (arith, l, extension-short c r (length d) first i k)) (omega (arith, b.1, payload-most c r d i)) (omega arith)
    go (inr k) =
        let l = length-is (header_at c r (length d) first i) (header-fits c r (length d) first i S) in
        let s = length_most (header_at c r (length d) first i).extension in
        let z : length (payload_at c r d i) ≡ 0 = none-carried c r d i k in
        omega (arith, l, s, pad-none (length (payload_at c r d i)) z)
