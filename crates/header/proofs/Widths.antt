-- The tests of widths are the plain inequalities, both ways.
use Prim.Native.Nat.{ℕ, ◌^◌, ◌<◌}
use mathlib.Core.Path.{◌≡◌, refl}
use mathlib.Core.Bool.{Bool, true, false, not, ◌&&◌}
use native.Mathlib.Omega.{arith}
use lib.Dec.{ltb, eqb}
use borrow.Author.Tests.{lt-ltb, le-ltb, ltb-true, ltb-false, eq-eqb, eqb-true}
use Rattle.lemmas.proofs.Tests.{and_left, and_right, unnot}
use Rattle.opcode.specs.Opcode.{service_of}
use Rattle.header.specs.Read.{other_service}
use Rattle.header.specs.Write.{bth_fits, reth_fits, atomic_fits, aeth_fits, immediate_fits, reth_immediate_fits, aeth_value_fits, widths_fit, follows_by, extension_fits}
use Rattle.header.specs.Claims.{BthWidths, RethWidths, AethWidths, Widths}
use Rattle.header.specs.declared.Bth.{Bth}
use Rattle.header.specs.declared.Reth.{Reth}
use Rattle.header.specs.declared.Aeth.{Aeth}
use Rattle.header.specs.declared.Extension.{Extension}
use Rattle.header.specs.declared.Extension.TheVariants.{Bare, Remote, RemoteImmediate, Immediate, Atomic, Acknowledge, AtomicAcknowledge}

-- a conjunction of tests, taken apart: a number below its bound, and the rest
first : (a n : ℕ) (b : Bool) → (ltb a n && b) ≡ true → a < n
first a n b h = ltb-true a n (and_left (ltb a n) b h)

rest : (a n : ℕ) (b : Bool) → (ltb a n && b) ≡ true → b ≡ true
rest a n b h = and_right (ltb a n) b h

-- RC and UC
pub known : (opcode : ℕ) → opcode < 64 → other_service (service_of opcode) ≡ false
unfolding other_service
known opcode h = omega (arith, le-ltb)

pub below_64 : (opcode : ℕ) → other_service (service_of opcode) ≡ false → opcode < 64
unfolding other_service
below_64 opcode h = omega (arith, ltb-false)

pub bth-fits : (b : Bth) → BthWidths b → bth_fits b ≡ true
unfolding bth_fits
bth-fits b w =
    let op : b.opcode < 2 ^ 8 = omega (arith, w.opcode) in
    rw (
      lt-ltb b.opcode _ op,
      known b.opcode w.opcode,
      lt-ltb b.pad _ w.pad,
      eq-eqb b.tver 0 w.tver,
      lt-ltb b.pkey _ w.pkey,
      lt-ltb b.reserved8 _ w.reserved8,
      lt-ltb b.dest _ w.dest,
      lt-ltb b.reserved7 _ w.reserved7,
      lt-ltb b.psn.0 _ w.psn,
    )

pub bth-widths : (b : Bth) → bth_fits b ≡ true → BthWidths b
unfolding bth_fits
bth-widths b h0 =
    let h1 = rest b.opcode _ _ h0 in
    let h2 = and_right (not (other_service (service_of b.opcode))) _ h1 in
    let h3 = rest b.pad _ _ h2 in
    let h4 = and_right (eqb b.tver 0) _ h3 in
    let h5 = rest b.pkey _ _ h4 in
    let h6 = rest b.reserved8 _ _ h5 in
    let h7 = rest b.dest _ _ h6 in
    record {
      opcode = below_64 b.opcode (unnot (other_service (service_of b.opcode)) (and_left (not (other_service (service_of b.opcode))) _ h1));
      pad = first b.pad _ _ h2;
      tver = eqb-true b.tver 0 (and_left (eqb b.tver 0) _ h3);
      pkey = first b.pkey _ _ h4;
      reserved8 = first b.reserved8 _ _ h5;
      dest = first b.dest _ _ h6;
      reserved7 = first b.reserved7 _ _ h7;
      psn = ltb-true b.psn.0 _ (rest b.reserved7 _ _ h7);
    }

reth-fits : (r : Reth) → RethWidths r → reth_fits r ≡ true
unfolding reth_fits
reth-fits r w = rw (lt-ltb r.address _ w.0, lt-ltb r.key _ w.1, lt-ltb r.length _ w.2)

reth-widths : (r : Reth) → reth_fits r ≡ true → RethWidths r
unfolding reth_fits
reth-widths r h =
    let h1 = rest r.address _ _ h in
    (first r.address _ _ h, first r.key _ _ h1, ltb-true r.length _ (rest r.key _ _ h1))

aeth-fits : (a : Aeth) → AethWidths a → aeth_fits a ≡ true
unfolding aeth_fits
aeth-fits a w = rw (lt-ltb a.syndrome _ w.0, lt-ltb a.msn.0 _ w.1)

aeth-widths : (a : Aeth) → aeth_fits a ≡ true → AethWidths a
unfolding aeth_fits
aeth-widths a h = (first a.syndrome _ _ h, ltb-true a.msn.0 _ (rest a.syndrome _ _ h))

pub widths-fit : (e : Extension) → Widths e → widths_fit e ≡ true
unfolding widths_fit immediate_fits reth_immediate_fits aeth_value_fits atomic_fits
widths-fit Bare w = refl
widths-fit (Remote r) w = reth-fits r w
widths-fit (RemoteImmediate r i) w = rw (reth-fits r w.0, lt-ltb i _ w.1)
widths-fit (Immediate i) w = lt-ltb i _ w
widths-fit (Atomic a) w =
    rw (lt-ltb a.address _ w.0, lt-ltb a.key _ w.1, lt-ltb a.swap _ w.2, lt-ltb a.compare _ w.3)
widths-fit (Acknowledge a) w = aeth-fits a w
widths-fit (AtomicAcknowledge a v) w = rw (aeth-fits a w.0, lt-ltb v _ w.1)

pub widths-of : (e : Extension) → widths_fit e ≡ true → Widths e
unfolding widths_fit immediate_fits reth_immediate_fits aeth_value_fits atomic_fits
widths-of Bare h = tt
widths-of (Remote r) h = reth-widths r h
widths-of (RemoteImmediate r i) h =
    (reth-widths r (and_left (reth_fits r) _ h), ltb-true i _ (and_right (reth_fits r) _ h))
widths-of (Immediate i) h = ltb-true i _ h
widths-of (Atomic a) h =
    let h1 = rest a.address _ _ h in
    let h2 = rest a.key _ _ h1 in (
      first a.address _ _ h,
      first a.key _ _ h1,
      first a.swap _ _ h2,
      ltb-true a.compare _ (rest a.swap _ _ h2),
    )
widths-of (Acknowledge a) h = aeth-widths a h
widths-of (AtomicAcknowledge a v) h =
    (aeth-widths a (and_left (aeth_fits a) _ h), ltb-true v _ (and_right (aeth_fits a) _ h))

pub extension-fits : (follows : ℕ) (e : Extension) → follows ≡ follows_by e → Widths e → extension_fits follows e ≡ true
unfolding extension_fits
extension-fits follows e f w = rw (eq-eqb follows (follows_by e) f, widths-fit e w)
