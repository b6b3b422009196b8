-- Each field is written in its place.
use Prim.Native.Nat.{ℕ, zero, suc, ◌+◌, ◌-◌, ◌/◌, ◌%◌, ◌^◌}
use mathlib.Core.Path.{◌≡◌, refl, ap, ◌∙◌}
use mathlib.Core.Bool.{Bool, true, false}
use mathlib.Core.List.{List, [], ◌++◌}
use native.Mathlib.Omega.{arith}
use lib.ListN.{length, get_or}
use Rattle.header.specs.Bytes.{four, eight}
use Rattle.header.specs.Write.{flags_byte, ack_byte, bth_bytes, reth_bytes, atomic_bytes, aeth_bytes, extension_bytes, header_bytes}
use Rattle.header.specs.Layout.{BigEndianAt, BitOf, BthAt, RethAt, AtomicAt, AethAt, ExtensionAt, whole_length, after_in, WrittenInPlace}
use Rattle.header.specs.declared.Bth.{Bth}
use Rattle.header.specs.declared.Reth.{Reth}
use Rattle.header.specs.declared.AtomicEth.{AtomicEth}
use Rattle.header.specs.declared.Aeth.{Aeth}
use Rattle.header.specs.declared.Extension.{Extension}
use Rattle.header.specs.declared.Extension.TheVariants.{Bare, Remote, RemoteImmediate, Immediate, Atomic, Acknowledge, AtomicAcknowledge}

-- a number by its bytes, over the width
module _ (p : List ℕ) (at x : ℕ) where
  two_at : get_or p (at + 0) 0 ≡ x / 256 % 256 → get_or p (at + 1) 0 ≡ x % 256 → BigEndianAt p at 2 x
  two_at a b zero h = a
  two_at a b (suc zero) h = omega (arith, b)
  two_at a b (suc (suc i)) h = absurd (omega arith)

  three-at : get_or p (at + 0) 0 ≡ x / 65536 % 256 → get_or p (at + 1) 0 ≡ x / 256 % 256 → get_or p (at + 2) 0 ≡ x % 256
      → BigEndianAt p at 3 x
  three-at a b c zero h = a
  three-at a b c (suc zero) h = b
  three-at a b c (suc (suc zero)) h = omega (arith, c)
  three-at a b c (suc (suc (suc i))) h = absurd (omega arith)

  four-at : get_or p (at + 0) 0 ≡ x / 16777216 % 256 → get_or p (at + 1) 0 ≡ x / 65536 % 256 → get_or p (at + 2) 0 ≡ x / 256 % 256
      → get_or p (at + 3) 0 ≡ x % 256
      → BigEndianAt p at 4 x
  four-at a b c d zero h = a
  four-at a b c d (suc zero) h = b
  four-at a b c d (suc (suc zero)) h = c
  four-at a b c d (suc (suc (suc zero))) h = omega (arith, d)
  four-at a b c d (suc (suc (suc (suc i)))) h = absurd (omega arith)

  eight-at : BigEndianAt p at 4 (x / 4294967296) → BigEndianAt p (at + 4) 4 x → BigEndianAt p at 8 x
  eight-at a b zero h = omega (arith, a 0 (omega arith))
  eight-at a b (suc zero) h = omega (arith, a 1 (omega arith))
  eight-at a b (suc (suc zero)) h = omega (arith, a 2 (omega arith))
  eight-at a b (suc (suc (suc zero))) h = omega (arith, a 3 (omega arith))
  eight-at a b (suc (suc (suc (suc i)))) h =
      let e : at + suc (suc (suc (suc i))) ≡ at + 4 + i = omega arith in
      let f : 4 - 1 - i ≡ 8 - 1 - suc (suc (suc (suc i))) = omega arith in
      ap (λ k. get_or p k 0) e ∙ (b i (omega arith) ∙ ap (λ k. x / 256 ^ k % 256) f)

-- the bits of byte 1 and of byte 8, whatever the flags are
abbrev flagged : Bool → Bool → Bool → Bth → Bth
flagged s m a b =
    record {
      opcode = b.opcode;
      se = s;
      migreq = m;
      pad = b.pad;
      tver = b.tver;
      pkey = b.pkey;
      reserved8 = b.reserved8;
      dest = b.dest;
      ackreq = a;
      reserved7 = b.reserved7;
      psn = b.psn;
    }

abbrev Flags : Bool → Bool → Bth → ℕ → Type 0
Flags s m b x = BitOf s (x / 128) × BitOf m (x / 64 % 2) × (x / 16 % 4 ≡ b.pad % 4) × (x % 16 ≡ b.tver % 16)

flags-at : (s m : Bool) (b : Bth) → Flags s m b (flags_byte (flagged s m false b))
flags-at true true b = omega arith
flags-at true false b = omega arith
flags-at false true b = omega arith
flags-at false false b = omega arith

ack-at : (a : Bool) (b : Bth) → BitOf a (ack_byte (flagged false false a b) / 128) × (ack_byte (flagged false false a b) % 128 ≡ b.reserved7 % 128)
ack-at true b = omega arith
ack-at false b = omega arith

bth-at : (b : Bth) (x : List ℕ) → BthAt b (bth_bytes b ++ x)
unfolding bth_bytes
bth-at b x =
    let p = bth_bytes b ++ x in
    let f = flags-at b.se b.migreq b in
    let a = ack-at b.ackreq b in
    record {
      opcode = refl;
      se = f.0;
      migreq = f.1;
      pad = f.2;
      tver = f.3;
      pkey = two_at p 2 b.pkey refl refl;
      reserved8 = refl;
      dest = three-at p 5 b.dest refl refl refl;
      ackreq = a.0;
      reserved7 = a.1;
      psn = three-at p 9 b.psn.0 refl refl refl;
    }

-- the headers after it, behind any BTH and before any other bytes
module _ (b : Bth) where
  reth-at : (r : Reth) (x : List ℕ) → RethAt r (bth_bytes b ++ (reth_bytes r ++ x))
  unfolding bth_bytes reth_bytes
  reth-at r x =
      let p = bth_bytes b ++ (reth_bytes r ++ x) in
      record {
        address = eight-at p 12 r.address (four-at p 12 (r.address / 4294967296) refl refl refl refl) (four-at p 16 r.address refl refl refl refl);
        key = four-at p 20 r.key refl refl refl refl;
        size = four-at p 24 r.length refl refl refl refl;
      }

  atomic-at : (a : AtomicEth) (x : List ℕ) → AtomicAt a (bth_bytes b ++ (atomic_bytes a ++ x))
  unfolding bth_bytes atomic_bytes
  atomic-at a x =
      let p = bth_bytes b ++ (atomic_bytes a ++ x) in
      record {
        address = eight-at p 12 a.address (four-at p 12 (a.address / 4294967296) refl refl refl refl) (four-at p 16 a.address refl refl refl refl);
        key = four-at p 20 a.key refl refl refl refl;
        swap = eight-at p 24 a.swap (four-at p 24 (a.swap / 4294967296) refl refl refl refl) (four-at p 28 a.swap refl refl refl refl);
        compare = eight-at p 32 a.compare (four-at p 32 (a.compare / 4294967296) refl refl refl refl) (four-at p 36 a.compare refl refl refl refl);
      }

  aeth-at : (a : Aeth) (x : List ℕ) → AethAt a (bth_bytes b ++ (aeth_bytes a ++ x))
  unfolding bth_bytes aeth_bytes
  aeth-at a x = record { syndrome = refl; msn = three-at (bth_bytes b ++ (aeth_bytes a ++ x)) 13 a.msn.0 refl refl refl }

  extension-at : (e : Extension) → ExtensionAt e (bth_bytes b ++ extension_bytes e)
  unfolding bth_bytes reth_bytes atomic_bytes aeth_bytes extension_bytes
  extension-at Bare = tt
  extension-at (Remote r) = reth-at r []
  extension-at (RemoteImmediate r i) = (reth-at r (four i), four-at (bth_bytes b ++ (reth_bytes r ++ four i)) 28 i refl refl refl refl)
  extension-at (Immediate i) = four-at (bth_bytes b ++ four i) 12 i refl refl refl refl
  extension-at (Atomic a) = atomic-at a []
  extension-at (Acknowledge a) = aeth-at a []
  extension-at (AtomicAcknowledge a v) =
      let p = bth_bytes b ++ (aeth_bytes a ++ eight v) in
      (aeth-at a (eight v), eight-at p 16 v (four-at p 16 (v / 4294967296) refl refl refl refl) (four-at p 20 v refl refl refl refl))

  bytes-at : (e : Extension) → length (bth_bytes b ++ extension_bytes e) ≡ whole_length (after_in e)
  unfolding bth_bytes reth_bytes atomic_bytes aeth_bytes extension_bytes
  bytes-at Bare = refl
  bytes-at (Remote r) = refl
  bytes-at (RemoteImmediate r i) = refl
  bytes-at (Immediate i) = refl
  bytes-at (Atomic a) = refl
  bytes-at (Acknowledge a) = refl
  bytes-at (AtomicAcknowledge a v) = refl

pub written-in-place : WrittenInPlace
unfolding header_bytes
written-in-place h =
    (record { bth = bth-at h.bth (extension_bytes h.extension); extension = extension-at h.bth h.extension }, bytes-at h.bth h.extension)
