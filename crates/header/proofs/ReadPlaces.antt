-- Each field is read from its place.
use Prim.Native.Nat.{ℕ, zero, suc, ◌+◌, ◌/◌, ◌%◌, ◌≤◌, ◌<◌}
use mathlib.Core.Path.{◌≡◌, sym, ap, subst, ◌∙◌, refl}
use mathlib.Core.List.{List}
use native.Mathlib.Omega.{arith}
use lib.ListN.{get_or}
use Rattle.lemmas.proofs.Lists.{elements}
use Rattle.opcode.specs.Opcode.{class_of, length_of}
use Rattle.opcode.proofs.Classes.{class-length, class-follows}
use Rattle.header.specs.Read.{bth_of, extension_of, header_of}
use Rattle.header.specs.Write.{header_bytes}
use Rattle.header.specs.Layout.{BigEndianAt, BitOf, BthAt, RethAt, AtomicAt, AethAt, ExtensionAt, After, whole_length, after_in, ReadInPlace}
use Rattle.header.specs.Layout.After.{none, reth, reth_immediate, immediate, atomic_eth, aeth, aeth_atomic_ack}
use Rattle.header.proofs.Places.{written-in-place}
use Rattle.header.proofs.Table.{headers-by-opcode}
use Rattle.header.proofs.WriteBack.{packet-bytes, read-follows}
use Rattle.header.specs.declared.Bth.{Bth}
use Rattle.header.specs.declared.Reth.{Reth}
use Rattle.header.specs.declared.AtomicEth.{AtomicEth}
use Rattle.header.specs.declared.Aeth.{Aeth}
use Rattle.header.specs.declared.Extension.{Extension}
use Rattle.header.specs.declared.Extension.TheVariants.{Bare, Remote, RemoteImmediate, Immediate, Atomic, Acknowledge, AtomicAcknowledge}

-- two lists with the same first n bytes: what is laid out in them is so in both
abbrev Same : List ℕ → List ℕ → ℕ → Type 0
Same q p n = (k : ℕ) → k < n → get_or q k 0 ≡ get_or p k 0

module _ (q p : List ℕ) (n : ℕ) (S : Same q p n) where
  over : (at m x : ℕ) → at + m ≤ n → BigEndianAt q at m x → BigEndianAt p at m x
  over at m x h b i l = sym (S (at + i) (omega arith)) ∙ b i l

  bth-over : (b : Bth) → 12 ≤ n → BthAt b q → BthAt b p
  bth-over b h B =
      let e : get_or q 1 0 ≡ get_or p 1 0 = S 1 (omega arith) in
      let f : get_or q 8 0 ≡ get_or p 8 0 = S 8 (omega arith) in
      record {
        opcode = sym (S 0 (omega arith)) ∙ B.opcode;
        se = subst (λ x. BitOf b.se (x / 128)) e B.se;
        migreq = subst (λ x. BitOf b.migreq (x / 64 % 2)) e B.migreq;
        pad = omega (arith, e, B.pad);
        tver = omega (arith, e, B.tver);
        pkey = over 2 2 b.pkey (omega arith) B.pkey;
        reserved8 = sym (S 4 (omega arith)) ∙ B.reserved8;
        dest = over 5 3 b.dest (omega arith) B.dest;
        ackreq = subst (λ x. BitOf b.ackreq (x / 128)) f B.ackreq;
        reserved7 = omega (arith, f, B.reserved7);
        psn = over 9 3 b.psn.0 (omega arith) B.psn;
      }

  reth-over : (r : Reth) → 28 ≤ n → RethAt r q → RethAt r p
  reth-over r h R =
      record {
        address = over 12 8 r.address (omega arith) R.address;
        key = over 20 4 r.key (omega arith) R.key;
        size = over 24 4 r.length (omega arith) R.size;
      }

  atomic-over : (a : AtomicEth) → 40 ≤ n → AtomicAt a q → AtomicAt a p
  atomic-over a h A =
      record {
        address = over 12 8 a.address (omega arith) A.address;
        key = over 20 4 a.key (omega arith) A.key;
        swap = over 24 8 a.swap (omega arith) A.swap;
        compare = over 32 8 a.compare (omega arith) A.compare;
      }

  aeth-over : (a : Aeth) → 16 ≤ n → AethAt a q → AethAt a p
  aeth-over a h A = record { syndrome = sym (S 12 (omega arith)) ∙ A.syndrome; msn = over 13 3 a.msn.0 (omega arith) A.msn }

  extension-over : (e : Extension) → whole_length (after_in e) ≤ n → ExtensionAt e q → ExtensionAt e p
  extension-over Bare h x = tt
  extension-over (Remote r) h x = reth-over r h x
  extension-over (RemoteImmediate r i) h x = (reth-over r (omega arith) x.0, over 28 4 i h x.1)
  extension-over (Immediate i) h x = over 12 4 i h x
  extension-over (Atomic a) h x = atomic-over a h x
  extension-over (Acknowledge a) h x = aeth-over a h x
  extension-over (AtomicAcknowledge a v) h x = (aeth-over a (omega arith) x.0, over 16 8 v h x.1)

least : (a : After) → 12 ≤ whole_length a
least none = omega arith
least reth = omega arith
least reth_immediate = omega arith
least immediate = omega arith
least atomic_eth = omega arith
least aeth = omega arith
least aeth_atomic_ack = omega arith

element-at : (l : List ℕ) (i n k : ℕ) → k < n → get_or (elements l i n) k 0 ≡ get_or l (i + k) 0
unfolding elements
element-at l i zero k h = omega arith
element-at l i (suc n) zero h = ap (λ x. get_or l x 0) (omega arith)
element-at l i (suc n) (suc k) h = element-at l (suc i) n k (omega arith) ∙ ap (λ x. get_or l x 0) (omega arith)

pub read-in-place : ReadInPlace
unfolding bth_of header_of header_bytes
read-in-place p B =
    let op = get_or p 0 0 in
    let f = (class_of op).follows in
    let e = extension_of f p in
    let l = class-follows op in
    let q = header_bytes (header_of p) in
    let m = whole_length (after_in e) in
    let a = (headers-by-opcode op).headers e (read-follows p B f l) in
    let n : length_of f ≡ m = sym (class-length op) ∙ ((headers-by-opcode op).bytes ∙ ap whole_length a) in
    let S : Same q p m =
    λ k h. ap (λ x. get_or x k 0) (packet-bytes p B f l) ∙ (element-at p 0 (length_of f) k (omega (arith, n, h)) ∙ ap (λ x. get_or p x 0) (omega arith)) in
    let L = (written-in-place (header_of p)).0 in
    (record { bth = bth-over q p m S (bth_of p) (least (after_in e)) L.bth; extension = extension-over q p m S e (omega arith) L.extension }, a, refl)
