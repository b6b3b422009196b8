-- From what each function answered to what the definitions say.
use Prim.Native.Nat.{ℕ, ◌+◌, ◌-◌, ◌*◌, ◌≤◌, ◌<◌, min}
use mathlib.Core.Path.{◌≡◌, refl, sym, ap, subst, ◌∙◌}
use mathlib.Core.Bool.{Bool, true, false, cond, not}
use mathlib.Core.List.{List, []}
use native.Mathlib.Omega.{arith}
use lib.ListN.{length, take, drop}
use lib.Seq.{take-nil, drop-nil}
use borrow.Author.Tests.{lt-leb}
use Rattle.std.specs.Prelude.{Result, Ok, Err}
use Rattle.lemmas.proofs.Tests.{not-false, cond-le}
use Rattle.sequence.specs.Sequence.{space}
use Rattle.sequence.specs.declared.Psn.{Psn}
use Rattle.header.specs.Read.{other_service}
use Rattle.header.specs.declared.Bth.{Bth}
use Rattle.header.specs.declared.Extension.{Extension}
use Rattle.header.specs.declared.Header.{Header}
use Rattle.header.specs.declared.Refusal.{Refusal}
use Rattle.packet.specs.Packet.{packet_written, packet_out}
use Rattle.pmtu.specs.Pieces.{pmtu_fits, pieces, place_at, piece_at, part_at}
use Rattle.pmtu.specs.declared.Range.{Range}
use Rattle.pmtu.proofs.Counting.{pmtus}
use Rattle.pmtu.proofs.Cuts.{parts, parts_within}
use Rattle.cut_spec.specs.Message.{carries, carried, carried_length, message_length, message_limit, packets_of}
use Rattle.cut_spec.specs.Cut.{unserved, cut_unfit, check_cut, low_for, extension_for, bth_at, size_at, header_at, payload_at, cut_bytes, cut_written, cut_out}
use Rattle.cut_spec.specs.Claims.{Fit}
use Rattle.cut_spec.specs.declared.Connection.{Connection}
use Rattle.cut_spec.specs.declared.Request.{Request}
use Rattle.cut_spec.proofs.Bounds.{index-small, service-small, low-bound}
use Rattle.cut_spec.proofs.Fitting.{known, passed}

-- the last of the tests on numbers: whether the service has the request
pub unfit-last : (c : Connection) (bytes : Bool) (psn : ℕ) (u o w : Bool) → u ≡ not (pmtu_fits c.pmtu) → u ≡ false
    → o ≡ other_service c.service → o ≡ false → c.dest < space → psn < space → w ≡ unserved bytes c.service
    → w ≡ cut_unfit c bytes psn
unfolding cut_unfit
unfit-last c bytes psn u o w e f g h d p q =
    rw (not-false (pmtu_fits c.pmtu) u e f, sym g ∙ h, lt-leb space c.dest d, lt-leb space psn p) q

-- the header: what the numbers of a cut that is not refused are
module _ (c : Connection) (r : Request) (n : ℕ) (first : Psn) (i : ℕ) (e : check_cut c r n first.0 i ≡ Ok tt) where
  P : Fit c r first.0 × (message_length r n ≤ message_limit) × (i < packets_of r n c.pmtu)
  P = passed c r n first.0 i e

  pub bth-numbers : (place low : ℕ) (p : place ≤ 4) → low ≡ low_for r place → (c.service ≤ 1) × ((low ≤ 20) × (i < 16777216))
  bth-numbers place low p q = (
    service-small c.service (known c.service r P.0.service),
    (subst (λ x. x ≤ 20) (sym q) (low-bound r place p), omega (arith, index-small r n c.pmtu i ((pmtus c.pmtu).1 P.0.pmtu) P.1 P.2)),
  )

  pub length-small : (whole : ℕ) → whole ≡ message_length r n → whole ≤ message_limit
  length-small whole q = subst (λ x. x ≤ message_limit) (sym q) P.1

pub header_is : (c : Connection) (r : Request) (n : ℕ) (first : Psn) (i bytes count place low whole : ℕ) (part : Range) (bth : Bth) (x : Extension)
    → bytes ≡ carried_length r n → count ≡ pieces bytes c.pmtu → place ≡ place_at count i → part ≡ part_at bytes c.pmtu i
    → low ≡ low_for r place → bth ≡ bth_at c low first i count (part.end - part.start) → whole ≡ message_length r n
    → x ≡ extension_for r whole place
    → record { bth = bth; extension = x } ≡ header_at c r n first i
unfolding header_at size_at packets_of
header_is c r n first i bytes count place low whole part bth x o k p s l b w y =
    simp (y, w, b, l, s, p, k, o)

-- the packet: its part of the message, written under the header h
pub refused : (c : Connection) (r : Request) (d out : List ℕ) (first : Psn) (i : ℕ) (x : Refusal)
    → check_cut c r (length d) first.0 i ≡ Err x
    → (Err x ≡ cut_written c r d first i (length out)) × (out ≡ cut_out c r d first i out)
unfolding cut_written cut_out
refused c r d out first i x e = rw e (refl, refl)

pub length-carried : (r : Request) (d : List ℕ) → length (carried r d) ≡ carried_length r (length d)
unfolding carried carried_length
length-carried r d = go (carries r)
  where
    go : (b : Bool) → length (cond b d []) ≡ cond b (length d) 0
    go true = refl
    go false = refl

-- the part of the lent bytes is the piece of what is carried
abbrev part_of : List ℕ → Range → List ℕ
part_of d s = take (s.end - s.start) (drop s.start d)

none : (d : List ℕ) (pmtu i : ℕ) → part_of d (part_at 0 pmtu i) ≡ piece_at [] pmtu i
unfolding part_at piece_at
none d pmtu i =
    let a : min (i * pmtu + pmtu) 0 - min (i * pmtu) 0 ≡ 0 = omega arith in
    ap (λ n. take n (drop (min (i * pmtu) 0) d)) a ∙ sym (ap (take pmtu) (drop-nil (i * pmtu)) ∙ take-nil pmtu)

pub part-carried : (r : Request) (d : List ℕ) (pmtu i : ℕ)
    → part_of d (part_at (carried_length r (length d)) pmtu i) ≡ piece_at (carried r d) pmtu i
unfolding carried carried_length
part-carried r d pmtu i = go (carries r)
  where
    go : (b : Bool) → part_of d (part_at (cond b (length d) 0) pmtu i) ≡ piece_at (cond b d []) pmtu i
    go true = parts d pmtu i
    go false = none d pmtu i

pub range_inside : (r : Request) (n carried pmtu i : ℕ) (part : Range) → carried ≡ carried_length r n → part ≡ part_at carried pmtu i
    → (part.start ≤ part.end) × (part.end ≤ n)
unfolding carried_length
range_inside r n carried pmtu i part o s =
    let f : carried ≤ n = subst (λ x. x ≤ n) (sym o) (cond-le (carries r) (omega arith) (omega arith)) in
    let W = parts_within carried pmtu i in (
      subst (λ x. x.start ≤ x.end) (sym s) W.0,
      subst (λ x. x.end ≤ n) (sym s) (omega (arith, W.1)),
    )

pub whole : (c : Connection) (r : Request) (d out : List ℕ) (first : Psn) (i bytes : ℕ) (h : Header) (part : Range)
    (a : Result ℕ Refusal) (w : List ℕ) → check_cut c r (length d) first.0 i ≡ Ok tt → h ≡ header_at c r (length d) first i
    → bytes ≡ carried_length r (length d)
    → part ≡ part_at bytes c.pmtu i
    → a ≡ packet_written h (length (part_of d part)) (length out)
    → w ≡ packet_out h (part_of d part) out
    → (a ≡ cut_written c r d first i (length out)) × (w ≡ cut_out c r d first i out)
unfolding cut_written cut_out cut_bytes payload_at packet_out
whole c r d out first i bytes h part a w e k o s x y =
    let p : part_of d part ≡ piece_at (carried r d) c.pmtu i =
    ap (part_of d) (s ∙ ap (λ n. part_at n c.pmtu i) o) ∙ part-carried r d c.pmtu i in
    (simp (x, k, p, e), simp (y, k, p, e))
