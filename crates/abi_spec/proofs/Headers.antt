-- The proofs of the claims about headers.
use Prim.Native.Nat.{ℕ, ◌%◌, ◌^◌, ◌<◌}
use mathlib.Core.Path.{refl}
use mathlib.Core.Bool.{Bool, true, false, cond}
use mathlib.Core.List.{List}
use native.Mathlib.Nat.{mod-lt}
use native.Mathlib.Omega.{arith}
use lib.Dec.{eqb}
use Rattle.header.specs.declared.Extension.{Extension}
use Rattle.opcode.specs.Follows as Follows
use Rattle.header.specs.Claims.{BthWidths, Widths}
use Rattle.header.specs.declared.Bth.{Bth}
use Rattle.abi_spec.specs.Words.{word}
use Rattle.header.specs.declared.Extension.TheVariants.{Bare, Remote, RemoteImmediate, Immediate, Atomic, Acknowledge, AtomicAcknowledge}
use Rattle.abi_spec.specs.Fields.{bth_from, bth_words, reth_from, atomic_from, aeth_from, extension_from, remote_words, atomic_words, aeth_words, immediate_words, extension_words}
use Rattle.abi_spec.specs.Claims.{BthFields, RethFields, AethFields, ExtensionFields, BthBack, ExtensionBack, HeaderFits, WritableFits}
use Rattle.abi_spec.proofs.Laws.{flag-back, low-back}

pub bth-back : BthBack
unfolding bth_from bth_words
bth-back b f = λ i. record {
  opcode = low-back _ _ f.opcode i;
  se = flag-back b.se i;
  migreq = flag-back b.migreq i;
  pad = low-back _ _ f.pad i;
  tver = low-back _ _ f.tver i;
  pkey = low-back _ _ f.pkey i;
  reserved8 = low-back _ _ f.reserved8 i;
  dest = low-back _ _ f.dest i;
  ackreq = flag-back b.ackreq i;
  reserved7 = low-back _ _ f.reserved7 i;
  psn = record { 0 = low-back _ _ f.psn i };
}

pub extension-back : ExtensionBack
unfolding extension_from extension_words remote_words atomic_words aeth_words immediate_words reth_from atomic_from aeth_from ExtensionFields
extension-back Bare f = refl
extension-back (Remote r) f = λ i. Remote (record { address = r.address; key = low-back r.key (2 ^ 32) f.0 i; length = low-back r.length (2 ^ 32) f.1 i })
extension-back (RemoteImmediate r x) f =
    λ i. RemoteImmediate
    (record { address = r.address; key = low-back r.key (2 ^ 32) f.0.0 i; length = low-back r.length (2 ^ 32) f.0.1 i })
    (low-back x (2 ^ 32) f.1 i)
extension-back (Immediate x) f = λ i. Immediate (low-back x (2 ^ 32) f i)
extension-back (Atomic a) f = λ i. Atomic (record { address = a.address; key = low-back a.key (2 ^ 32) f i; swap = a.swap; compare = a.compare })
extension-back (Acknowledge a) f = λ i. Acknowledge (record { syndrome = low-back a.syndrome (2 ^ 8) f.0 i; msn = record { 0 = low-back a.msn.0 (2 ^ 32) f.1 i } })
extension-back (AtomicAcknowledge a v) f = λ i. AtomicAcknowledge (record { syndrome = low-back a.syndrome (2 ^ 8) f.0 i; msn = record { 0 = low-back a.msn.0 (2 ^ 32) f.1 i } }) v

-- any words say numbers that fit
bth-fits : (b : List ℕ) → BthFields (bth_from b)
unfolding bth_from
bth-fits b = record {
  opcode = mod-lt _ (omega arith);
  pad = mod-lt _ (omega arith);
  tver = mod-lt _ (omega arith);
  pkey = mod-lt _ (omega arith);
  reserved8 = mod-lt _ (omega arith);
  dest = mod-lt _ (omega arith);
  reserved7 = mod-lt _ (omega arith);
  psn = mod-lt _ (omega arith);
}

either : (b : Bool) (x y : Extension) → ExtensionFields x → ExtensionFields y → ExtensionFields (cond b x y)
either true x y f g = f
either false x y f g = g

extension-fits : (e : List ℕ) → ExtensionFields (extension_from e)
unfolding extension_from reth_from atomic_from aeth_from ExtensionFields
extension-fits e =
    let wide : (i : ℕ) → word e i % 2 ^ 32 < 2 ^ 32 = λ i. mod-lt (word e i) (omega arith) in
    let reth : RethFields (reth_from e) = (wide _, wide _) in
    let aeth : AethFields (aeth_from e) = (mod-lt _ (omega arith), wide _) in
    let k = word e 0 in
    either (eqb k Follows.reth) _ _ reth
    (either (eqb k Follows.reth_immediate) _ _ (reth, wide _)
    (either (eqb k Follows.immediate) _ _ (wide _)
    (either (eqb k Follows.atomic_eth) _ _ (wide _)
    (either (eqb k Follows.aeth) _ _ aeth
    (either (eqb k Follows.aeth_atomic_ack) _ _ aeth tt)))))

pub header-fits : HeaderFits
header-fits b e = (bth-fits b, extension-fits e)

-- fields within their widths fit the words
bth-wide : (b : Bth) → BthWidths b → BthFields b
bth-wide b w = record {
  opcode = omega (arith, w.opcode);
  pad = omega (arith, w.pad);
  tver = omega (arith, w.tver);
  pkey = omega (arith, w.pkey);
  reserved8 = omega (arith, w.reserved8);
  dest = omega (arith, w.dest);
  reserved7 = omega (arith, w.reserved7);
  psn = omega (arith, w.psn);
}

extension-wide : (e : Extension) → Widths e → ExtensionFields e
unfolding ExtensionFields
extension-wide Bare w = tt
extension-wide (Remote r) w = (w.1, w.2)
extension-wide (RemoteImmediate r i) w = ((w.0.1, w.0.2), w.1)
extension-wide (Immediate i) w = w
extension-wide (Atomic a) w = w.1
extension-wide (Acknowledge a) w = (w.0, omega (arith, w.1))
extension-wide (AtomicAcknowledge a v) w = (w.0.0, omega (arith, w.0.1))

pub writable-fits : WritableFits
writable-fits h w = (bth-wide h.bth w.bth, extension-wide h.extension w.widths)
