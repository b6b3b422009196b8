-- Reading undoes writing.
use Prim.Native.Nat.{ℕ, ◌+◌, ◌*◌, ◌/◌, ◌%◌, ◌≤◌, ◌<◌}
use mathlib.Core.Path.{◌≡◌, refl, sym, ap, subst, ◌∙◌}
use mathlib.Core.Bool.{Bool, true, false}
use mathlib.Core.List.{List, [], ◌++◌, append_assoc, append-nil}
use native.Mathlib.Omega.{arith}
use lib.Dec.{leb}
use lib.ListN.{length, take, drop, length-append}
use lib.Seq.{take_at}
use borrow.Author.Tests.{le-leb, lt-leb}
use Rattle.lemmas.proofs.Numbers.{two-value, three-value, four-value, eight-value}
use Rattle.opcode.specs.Opcode.{class_of, service_of}
use Rattle.header.specs.Bytes.{bit, four, eight}
use Rattle.header.specs.Read.{bth_of, reth_of, atomic_of, aeth_of, extension_of, header_of, bad_length, other_service, read_reason, read_header}
use Rattle.header.specs.Write.{bth_bytes, reth_bytes, atomic_bytes, aeth_bytes, extension_bytes, header_bytes, follows_by, header_fits, header_length, written_out}
use Rattle.header.specs.Claims.{BthWidths, RethWidths, AethWidths, Widths, ReadPacket, ReadBack}
use Rattle.header.proofs.Lengths.{fits, length-is, length-header, length-words, length_most}
use Rattle.header.proofs.Reasons.{Read, good_length, no-reason, read-by}
use Rattle.header.proofs.Widths.{known, bth-widths, widths-of}
use Rattle.header.proofs.Writes.{was-written, done}
use Rattle.header.specs.declared.Bth.{Bth}
use Rattle.header.specs.declared.Reth.{Reth}
use Rattle.header.specs.declared.AtomicEth.{AtomicEth}
use Rattle.header.specs.declared.Aeth.{Aeth}
use Rattle.header.specs.declared.Extension.{Extension}
use Rattle.header.specs.declared.Extension.TheVariants.{Bare, Remote, RemoteImmediate, Immediate, Atomic, Acknowledge, AtomicAcknowledge}
use Rattle.header.specs.declared.Header.{Header}
use Rattle.std.specs.Prelude.{Ok}

-- the flags' byte: each field found again
abbrev flags : Bool → Bool → ℕ → ℕ → ℕ
flags s m p t = bit s * 128 + bit m * 64 + p % 4 * 16 + t % 16

se-back : (s m : Bool) (p t : ℕ) → leb 128 (flags s m p t) ≡ s
se-back true true p t = le-leb 128 (flags true true p t) (omega arith)
se-back true false p t = le-leb 128 (flags true false p t) (omega arith)
se-back false true p t = lt-leb 128 (flags false true p t) (omega arith)
se-back false false p t = lt-leb 128 (flags false false p t) (omega arith)

mig-back : (s m : Bool) (p t : ℕ) → leb 64 (flags s m p t % 128) ≡ m
mig-back true true p t = le-leb 64 (flags true true p t % 128) (omega arith)
mig-back true false p t = lt-leb 64 (flags true false p t % 128) (omega arith)
mig-back false true p t = le-leb 64 (flags false true p t % 128) (omega arith)
mig-back false false p t = lt-leb 64 (flags false false p t % 128) (omega arith)

pad-back : (s m : Bool) (p t : ℕ) → p < 4 → flags s m p t / 16 % 4 ≡ p
pad-back true true p t h = omega arith
pad-back true false p t h = omega arith
pad-back false true p t h = omega arith
pad-back false false p t h = omega arith

tver-back : (s m : Bool) (p t : ℕ) → t ≡ 0 → flags s m p t % 16 ≡ t
tver-back true true p t h = omega arith
tver-back true false p t h = omega arith
tver-back false true p t h = omega arith
tver-back false false p t h = omega arith

-- the acknowledge request's byte
ack-back : (a : Bool) (r : ℕ) → leb 128 (bit a * 128 + r % 128) ≡ a
ack-back true r = le-leb 128 (128 + r % 128) (omega arith)
ack-back false r = lt-leb 128 (0 + r % 128) (omega arith)

rest_back : (a : Bool) (r : ℕ) → r < 128 → (bit a * 128 + r % 128) % 128 ≡ r
rest_back true r h = omega arith
rest_back false r h = omega arith

-- the BTH
bth-back : (b : Bth) (r : List ℕ) → BthWidths b → bth_of (bth_bytes b ++ r) ≡ b
unfolding bth_of bth_bytes
bth-back b r w =
    λ i. record {
      opcode = b.opcode;
      se = se-back b.se b.migreq b.pad b.tver i;
      migreq = mig-back b.se b.migreq b.pad b.tver i;
      pad = pad-back b.se b.migreq b.pad b.tver (omega (arith, w.pad)) i;
      tver = tver-back b.se b.migreq b.pad b.tver (omega (arith, w.tver)) i;
      pkey = two-value b.pkey (omega (arith, w.pkey)) i;
      reserved8 = b.reserved8;
      dest = three-value b.dest (omega (arith, w.dest)) i;
      ackreq = ack-back b.ackreq b.reserved7 i;
      reserved7 = rest_back b.ackreq b.reserved7 (omega (arith, w.reserved7)) i;
      psn = record { 0 = three-value b.psn.0 (omega (arith, w.psn)) i };
    }

-- the headers after it, behind any twelve bytes
module _ (b : Bth) where
  reth-back : (r : Reth) (x : List ℕ) → RethWidths r → reth_of (bth_bytes b ++ (reth_bytes r ++ x)) ≡ r
  unfolding reth_of bth_bytes reth_bytes
  reth-back r x w =
      λ i. record { address = eight-value r.address (omega (arith, w.0)) i; key = four-value r.key (omega (arith, w.1)) i; length = four-value r.length (omega (arith, w.2)) i }

  atomic-back : (a : AtomicEth) (x : List ℕ) → Widths (Atomic a) → atomic_of (bth_bytes b ++ (atomic_bytes a ++ x)) ≡ a
  unfolding atomic_of bth_bytes atomic_bytes
  atomic-back a x w =
      λ i. record {
        address = eight-value a.address (omega (arith, w.0)) i;
        key = four-value a.key (omega (arith, w.1)) i;
        swap = eight-value a.swap (omega (arith, w.2)) i;
        compare = eight-value a.compare (omega (arith, w.3)) i;
      }

  aeth-back : (a : Aeth) (x : List ℕ) → AethWidths a → aeth_of (bth_bytes b ++ (aeth_bytes a ++ x)) ≡ a
  unfolding aeth_of bth_bytes aeth_bytes
  aeth-back a x w = λ i. record { syndrome = a.syndrome; msn = record { 0 = three-value a.msn.0 (omega (arith, w.1)) i } }

extension-back : (b : Bth) (e : Extension) (t : List ℕ) → Widths e
    → extension_of (follows_by e) (bth_bytes b ++ (extension_bytes e ++ t)) ≡ e
unfolding extension_of follows_by extension_bytes bth_bytes reth_bytes aeth_bytes
extension-back b Bare t w = refl
extension-back b (Remote r) t w = ap Remote (reth-back b r t w)
extension-back b (RemoteImmediate r i) t w = λ j. RemoteImmediate (reth-back b r (four i ++ t) w.0 j) (four-value i (omega (arith, w.1)) j)
extension-back b (Immediate i) t w = ap Immediate (four-value i (omega (arith, w)))
extension-back b (Atomic a) t w = ap Atomic (atomic-back b a t w)
extension-back b (Acknowledge a) t w = ap Acknowledge (aeth-back b a t w)
extension-back b (AtomicAcknowledge a v) t w = λ j. AtomicAcknowledge (aeth-back b a (eight v ++ t) w.0 j) (eight-value v (omega (arith, w.1)) j)

-- no check fails on it
reads : (p : List ℕ) (h : Header) → bth_of p ≡ h.bth → BthWidths h.bth → header_length h ≤ length p → Read p
unfolding header_length
reads p h e w n =
    record {
      tver = ap (λ b. b.tver) e ∙ w.tver;
      known = ap (λ b. other_service (service_of b.opcode)) e ∙ known h.bth.opcode w.opcode;
      room = subst (λ b. (class_of b.opcode).length ≤ length p) (sym e) n;
    }

-- the whole header, found again in front of any payload
same-header : (p : List ℕ) (h : Header) → bth_of p ≡ h.bth → (class_of h.bth.opcode).follows ≡ follows_by h.extension
    → extension_of (follows_by h.extension) p ≡ h.extension → header_of p ≡ h
unfolding header_of
same-header p h e f x =
    let y : extension_of (class_of (bth_of p).opcode).follows p ≡ h.extension =
    ap (λ z. extension_of (class_of z.opcode).follows p) e ∙ (ap (λ n. extension_of n p) f ∙ x) in
    λ i. record { bth = e i; extension = y i }

pub read-packet : ReadPacket
unfolding header_bytes
read-packet h t good words room =
    let F = fits h good in
    let w = bth-widths h.bth F.bth in
    let b = bth_bytes h.bth in
    let x = extension_bytes h.extension in
    let q : (b ++ x) ++ t ≡ b ++ (x ++ t) = append_assoc b x t in
    let e : bth_of (b ++ (x ++ t)) ≡ h.bth = bth-back h.bth (x ++ t) w in
    let z : header_of (b ++ (x ++ t)) ≡ h = same-header (b ++ (x ++ t)) h e F.follows (extension-back h.bth h.extension t (widths-of h.extension F.widths)) in
    let l : length (b ++ (x ++ t)) ≡ header_length h + length t =
    ap length (sym q) ∙ (length-append (b ++ x) t ∙ ap (λ n. n + length t) (length-header h good)) in
    let s : header_length h ≡ 12 + length x = length-is h good in
    let m : (12 + length x) % 4 ≡ 0 = length-words h.extension in
    let g : bad_length (length (b ++ (x ++ t))) ≡ false = good_length (length (b ++ (x ++ t))) (omega arith) (omega arith) (omega arith) in
    let o : read_reason (b ++ (x ++ t)) ≡ 0 = no-reason (b ++ (x ++ t)) g (reads (b ++ (x ++ t)) h e w (omega arith)) in
    subst (λ p. read_header p ≡ Ok h) (sym q) (read-by (b ++ (x ++ t)) h o z)

-- and with nothing behind it
pub read-alone : (h : Header) → header_fits h ≡ true → read_header (header_bytes h) ≡ Ok h
read-alone h good =
    let x = extension_bytes h.extension in
    let s : header_length h ≡ 12 + length x = length-is h good in
    let m : 12 + length x ≤ 40 = length_most h.extension in
    let none : length {A = ℕ} [] % 4 ≡ 0 = refl in
    let room : header_length h + length {A = ℕ} [] ≤ 4128 = omega arith in
    ap read_header (sym (append-nil (header_bytes h))) ∙ read-packet h [] good none room

pub read_back : ReadBack
read_back h out n e =
    let W = was-written h out n e in
    let l : length (header_bytes h) ≡ n = length-header h W.good ∙ sym W.size in
    let o : take n (written_out h out) ≡ header_bytes h =
    ap (take n) (done h out W.good W.room).1 ∙ take_at (header_bytes h) (drop (header_length h) out) n l in
    ap read_header o ∙ read-alone h W.good
