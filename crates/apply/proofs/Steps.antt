-- Laws of plain values behind the functions: numbers of packets, a part of a packet.
use Prim.Native.Nat.{ℕ, ◌+◌, ◌-◌, min}
use mathlib.Core.Path.{◌≡◌, refl, sym, ap, ◌∙◌}
use mathlib.Core.Bool.{Bool, true, false}
use mathlib.Core.List.{List}
use native.Mathlib.Omega.{arith}
use lib.Dec.{leb}
use lib.ListN.{length, take, drop, length-drop, drop_of_length-le}
use lib.Seq.{take_all}
use Rattle.lemmas.proofs.Auto.{tests}

-- no more is taken than there is
take-cut : (n : ℕ) (l : List ℕ) → take (min n (length l)) l ≡ take n l
take-cut n l = go (leb n (length l)) refl
  where
    go : (b : Bool) → leb n (length l) ≡ b → take (min n (length l)) l ≡ take n l
    go true e =
        let m : min n (length l) ≡ n = omega (arith, tests) in
        ap (λ k. take k l) m
    go false e = take_all (min n (length l)) l (omega (arith, tests)) ∙ sym (take_all n l (omega (arith, tests)))

-- a part of a packet, cut off at the packet's end
pub part_cut : (p : List ℕ) (start size from n : ℕ) → from ≡ min start (length p) → n ≡ min size (length p - from)
    → take (from + n - from) (drop from p) ≡ take size (drop start p)
part_cut p start size from n ef en =
    let k : from + n - from ≡ min size (length (drop from p)) = omega (arith, length-drop from p) in
    ap (λ k. take k (drop from p)) k ∙ (take-cut size (drop from p) ∙ ap (take size) (go (leb start (length p)) refl))
  where
    go : (b : Bool) → leb start (length p) ≡ b → drop from p ≡ drop start p
    go true e =
        let f : from ≡ start = omega (arith, tests) in
        ap (λ k. drop k p) f
    go false e =
        let f : from ≡ length p = omega (arith, tests) in
        ap (λ k. drop k p) f ∙ (drop_of_length-le p {i = length p} (omega arith) ∙ sym (drop_of_length-le p {i = start} (omega (arith, tests))))
