-- The widths of the fields are those of the wire.
use Prim.Native.Nat.{ℕ, zero, suc, ◌/◌, ◌%◌, ◌≤◌, ◌<◌}
use mathlib.Core.Path.{subst}
use mathlib.Core.Bool.{Bool, true, false}
use mathlib.Core.List.{List, [], ◌∷◌, ◌++◌}
use native.Mathlib.Omega.{arith}
use Rattle.header.specs.Bytes.{Bytes, two, three, four, eight, bit}
use Rattle.header.specs.Write.{flags_byte, ack_byte, bth_bytes, reth_bytes, atomic_bytes, aeth_bytes, extension_bytes, header_bytes}
use Rattle.header.specs.Read.{header_of}
use Rattle.header.specs.Claims.{BthWidths, AethWidths, Widths, Writable, WritableReads, ReadsWritable}
use Rattle.header.proofs.Accepts.{fits-writable, writable-fits}
use Rattle.header.proofs.Reasons.{accepted}
use Rattle.header.proofs.Drops.{was_read}
use Rattle.header.proofs.ReadBack.{read-alone}
use Rattle.header.proofs.WriteBack.{header-fits}
use Rattle.header.specs.declared.Bth.{Bth}
use Rattle.header.specs.declared.Reth.{Reth}
use Rattle.header.specs.declared.AtomicEth.{AtomicEth}
use Rattle.header.specs.declared.Aeth.{Aeth}
use Rattle.header.specs.declared.Extension.{Extension}
use Rattle.header.specs.declared.Extension.TheVariants.{Bare, Remote, RemoteImmediate, Immediate, Atomic, Acknowledge, AtomicAcknowledge}

-- every element of a list a byte, one by one
data All : List ℕ → Type 0 where
  nil : All []
  cons : {x : ℕ} {l : List ℕ} → x < 256 → All l → All (x ∷ l)

all-bytes : {l : List ℕ} → All l → Bytes l
all-bytes nil i = omega arith
all-bytes (cons h a) zero = h
all-bytes (cons h a) (suc i) = all-bytes a i

join : {l m : List ℕ} → All l → All m → All (l ++ m)
join nil b = b
join (cons h a) b = cons h (join a b)

byte : (x : ℕ) → x % 256 < 256
byte x = omega arith

two-all : (x : ℕ) → All (two x)
two-all x = cons (byte (x / 256)) (cons (byte x) nil)

three-all : (x : ℕ) → All (three x)
three-all x = cons (byte (x / 65536)) (two-all x)

four-all : (x : ℕ) → All (four x)
four-all x = cons (byte (x / 16777216)) (three-all x)

eight-all : (x : ℕ) → All (eight x)
eight-all x = join (four-all (x / 4294967296)) (four-all x)

bit-most : (b : Bool) → bit b ≤ 1
bit-most true = omega arith
bit-most false = omega arith

bth-all : (b : Bth) → BthWidths b → All (bth_bytes b)
unfolding bth_bytes
bth-all b w =
    let o : b.opcode < 256 = omega (arith, w.opcode) in
    let f : flags_byte b < 256 = omega (arith, bit-most b.se, bit-most b.migreq) in
    let a : ack_byte b < 256 = omega (arith, bit-most b.ackreq) in
    join (cons o (cons f (two-all b.pkey))) (join (cons w.reserved8 (three-all b.dest)) (cons a (three-all b.psn.0)))

reth-all : (r : Reth) → All (reth_bytes r)
unfolding reth_bytes
reth-all r = join (eight-all r.address) (join (four-all r.key) (four-all r.length))

atomic-all : (a : AtomicEth) → All (atomic_bytes a)
unfolding atomic_bytes
atomic-all a = join (eight-all a.address) (join (four-all a.key) (join (eight-all a.swap) (eight-all a.compare)))

aeth-all : (a : Aeth) → AethWidths a → All (aeth_bytes a)
unfolding aeth_bytes
aeth-all a w = cons w.0 (three-all a.msn.0)

extension-all : (e : Extension) → Widths e → All (extension_bytes e)
unfolding extension_bytes
extension-all Bare w = nil
extension-all (Remote r) w = reth-all r
extension-all (RemoteImmediate r i) w = join (reth-all r) (four-all i)
extension-all (Immediate i) w = four-all i
extension-all (Atomic a) w = atomic-all a
extension-all (Acknowledge a) w = aeth-all a w
extension-all (AtomicAcknowledge a v) w = join (aeth-all a w.0) (eight-all v)

pub writable-reads : WritableReads
unfolding header_bytes
writable-reads h W =
    (all-bytes (join (bth-all h.bth W.bth) (extension-all h.extension W.widths)), read-alone h (writable-fits h W))

pub reads-writable : ReadsWritable
reads-writable p B h e =
    let A = accepted p h e in
    subst Writable A.1 (fits-writable (header_of p) (header-fits p B (was_read p A.0).1))
