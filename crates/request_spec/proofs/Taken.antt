-- What is taken from a packet's bytes.
use Prim.Native.Nat.{ℕ, ◌+◌, ◌-◌, ◌%◌, ◌/◌, ◌≤◌, ◌<◌}
use mathlib.Core.Path.{◌≡◌, refl, sym, ap, subst, ◌∙◌}
use mathlib.Core.Bool.{Bool, true, false, cond}
use mathlib.Core.List.{List}
use mathlib.Core.Logic.{inl, inr}
use native.Mathlib.Omega.{arith}
use lib.Dec.{eqb, ltb}
use borrow.Author.Tests.{le-ltb, ne_eqb, lt-ltb}
use Rattle.opcode.specs.Opcode.{service_of, low_of, kind_of, place_in, place_of, send_write_follows, follows_of, length_of, low_class, reserved_class, uc_has, class_of}
use Rattle.opcode.specs.declared.OpcodeClass.{OpcodeClass}
use Rattle.header.specs.Bytes.{be4}
use Rattle.header.specs.Read.{bth_of, extension_of, header_of, read_check, read_by}
use Rattle.header.proofs.Reasons.{some-number}
use Rattle.std.specs.Prelude.{Ok, Err}
use Rattle.header.specs.Write.{header_length}
use Rattle.request_spec.specs.declared.Packet.{Packet}
use Rattle.request_spec.specs.Packet.{operands_of, packet_of, admission, admission_number}
use Rattle.request_spec.specs.Claims.{Place, Form, NoOperands, FromReth, FromAtomic, BthTaken, Taken, OpcodeTaken, UcAlike, UcTaken, AdmissionNumbers}

-- by the class of the opcode
abbrev numbers : OpcodeClass → List ℕ → ℕ → Packet
numbers c bytes n =
    record {
      kind = c.kind;
      place = c.place;
      ackreq = (bth_of bytes).ackreq;
      pad = (bth_of bytes).pad;
      psn = (bth_of bytes).psn;
      start = c.length;
      body = n - c.length;
      operands = operands_of (extension_of c.follows bytes);
    }

numbered : (bytes : List ℕ) (n : ℕ) → packet_of (header_of bytes) n ≡ numbers (class_of (bth_of bytes).opcode) bytes n
unfolding packet_of header_of header_length
numbered bytes n = refl

-- every place is one of four
in_place : (n : ℕ) → Place (place_in n)
unfolding place_in
in_place n = go (eqb n 0) (eqb n 1) (ltb n 4)
  where
    go : (a b c : Bool) → Place (cond a 0 (cond b 1 (cond c 2 4)))
    go true b c = inl (inl refl)
    go false true c = inr (inl refl)
    go false false true = inr (inr refl)
    go false false false = inl (inr refl)

low-place : (low : ℕ) → Place (place_of low)
unfolding place_of
low-place low = go (ltb low 6) (ltb low 12) (eqb low 13) (eqb low 14) (eqb low 15)
  where
    go : (a b c d e : Bool) → Place (cond a (place_in low) (cond b (place_in (low - 6)) (cond c 0 (cond d 1 (cond e 2 4)))))
    go true b c d e = in_place low
    go false true c d e = in_place (low - 6)
    go false false true d e = inl (inl refl)
    go false false false true e = inr (inl refl)
    go false false false false true = inr (inr refl)
    go false false false false false = inl (inr refl)

pub any_place : (opcode : ℕ) → Place (class_of opcode).place
unfolding class_of low_class reserved_class
any_place opcode = go (eqb (service_of opcode) 0) (eqb (service_of opcode) 1) (uc_has (low_of opcode))
  where
    go : (a b c : Bool) → Place (cond a (low_class (low_of opcode)) (cond b (cond c (low_class (low_of opcode)) reserved_class) reserved_class)).place
    go true b c = low-place (low_of opcode)
    go false true true = low-place (low_of opcode)
    go false true false = inl (inr refl)
    go false false c = inl (inr refl)

pub bth-taken : BthTaken
unfolding packet_of header_of header_length
bth-taken bytes n =
    record { ackreq = refl; pad = refl; psn = refl; body = refl; place = any_place (bth_of bytes).opcode }

-- the class of each opcode
abbrev class : ℕ → ℕ → ℕ → ℕ → OpcodeClass
class kind place follows length = record { kind = kind; place = place; follows = follows; length = length }

classes : (low kind place follows length : ℕ) → class_of low ≡ class kind place follows length → (bytes : List ℕ) (n : ℕ)
    → class_of (bth_of bytes).opcode ≡ class_of low
    → packet_of (header_of bytes) n ≡ numbers (class kind place follows length) bytes n
classes low kind place follows length c bytes n e = subst (λ x. packet_of (header_of bytes) n ≡ numbers x bytes n) (e ∙ c) (numbered bytes n)

-- what each kind of headers gives
module _ (bytes : List ℕ) (n : ℕ) (p : Packet) (kind place : ℕ) where
  alone : p ≡ numbers (class kind place 0 12) bytes n → Form p kind place 12 false 0 × NoOperands p.operands
  unfolding operands_of extension_of
  alone e =
      subst (λ p. Form p kind place 12 false 0 × NoOperands p.operands) (sym e)
      (record { kinds = refl; places = refl; starts = refl; flag = refl; values = refl }, record { address = refl; key = refl; length = refl; swap = refl; compare = refl })

  immediate : p ≡ numbers (class kind place 3 16) bytes n → Form p kind place 16 true (be4 bytes 12) × NoOperands p.operands
  unfolding operands_of extension_of
  immediate e =
      subst (λ p. Form p kind place 16 true (be4 bytes 12) × NoOperands p.operands) (sym e)
      (record { kinds = refl; places = refl; starts = refl; flag = refl; values = refl }, record { address = refl; key = refl; length = refl; swap = refl; compare = refl })

  remote : p ≡ numbers (class kind place 1 28) bytes n → Form p kind place 28 false 0 × FromReth bytes p.operands
  unfolding operands_of extension_of
  remote e =
      subst (λ p. Form p kind place 28 false 0 × FromReth bytes p.operands) (sym e)
      (record { kinds = refl; places = refl; starts = refl; flag = refl; values = refl }, record { address = refl; key = refl; length = refl; swap = refl; compare = refl })

  both : p ≡ numbers (class kind place 2 32) bytes n → Form p kind place 32 true (be4 bytes 28) × FromReth bytes p.operands
  unfolding operands_of extension_of
  both e =
      subst (λ p. Form p kind place 32 true (be4 bytes 28) × FromReth bytes p.operands) (sym e)
      (record { kinds = refl; places = refl; starts = refl; flag = refl; values = refl }, record { address = refl; key = refl; length = refl; swap = refl; compare = refl })

  atomic : p ≡ numbers (class kind place 4 40) bytes n → Form p kind place 40 false 0 × FromAtomic bytes p.operands
  unfolding operands_of extension_of
  atomic e =
      subst (λ p. Form p kind place 40 false 0 × FromAtomic bytes p.operands) (sym e) (
        record { kinds = refl; places = refl; starts = refl; flag = refl; values = refl },
        record { address = refl; key = refl; length = refl; swap = refl; compare = refl },
      )

-- 21 to 31
reserved-class : (opcode : ℕ) → 21 ≤ opcode → opcode < 32 → class_of opcode ≡ class 21 4 0 12
unfolding class_of low_class kind_of place_of follows_of length_of
reserved-class opcode h k =
    let s : opcode / 32 ≡ 0 = omega arith in
    let l : opcode % 32 ≡ opcode = omega arith in
    rw (
      s,
      l,
      le-ltb opcode 6 (omega arith),
      le-ltb opcode 12 (omega arith),
      ne_eqb opcode 12 (λ e. omega arith),
      le-ltb opcode 17 (omega arith),
      ne_eqb opcode 17 (λ e. omega arith),
      ne_eqb opcode 18 (λ e. omega arith),
      ne_eqb opcode 19 (λ e. omega arith),
      ne_eqb opcode 20 (λ e. omega arith),
      ne_eqb opcode 13 (λ e. omega arith),
      ne_eqb opcode 14 (λ e. omega arith),
      ne_eqb opcode 15 (λ e. omega arith),
      ne_eqb opcode 16 (λ e. omega arith),
    )

-- of a packet whose opcode has the class of this one
taken-by : (bytes : List ℕ) (n low : ℕ) → class_of (bth_of bytes).opcode ≡ class_of low → Taken bytes low (packet_of (header_of bytes) n)
unfolding class_of low_class kind_of place_of place_in follows_of send_write_follows length_of
taken-by bytes n low same =
    let p = packet_of (header_of bytes) n in
    record {
      send_first = λ e. alone bytes n p 0 0 (classes 0 0 0 0 12 refl bytes n (same ∙ ap class_of e));
      send_middle = λ e. alone bytes n p 0 1 (classes 1 0 1 0 12 refl bytes n (same ∙ ap class_of e));
      send_last = λ e. alone bytes n p 0 2 (classes 2 0 2 0 12 refl bytes n (same ∙ ap class_of e));
      send_last_imm = λ e. immediate bytes n p 0 2 (classes 3 0 2 3 16 refl bytes n (same ∙ ap class_of e));
      send_only = λ e. alone bytes n p 0 4 (classes 4 0 4 0 12 refl bytes n (same ∙ ap class_of e));
      send_only_imm = λ e. immediate bytes n p 0 4 (classes 5 0 4 3 16 refl bytes n (same ∙ ap class_of e));
      write_first = λ e. remote bytes n p 6 0 (classes 6 6 0 1 28 refl bytes n (same ∙ ap class_of e));
      write_middle = λ e. alone bytes n p 6 1 (classes 7 6 1 0 12 refl bytes n (same ∙ ap class_of e));
      write_last = λ e. alone bytes n p 6 2 (classes 8 6 2 0 12 refl bytes n (same ∙ ap class_of e));
      write_last_imm = λ e. immediate bytes n p 6 2 (classes 9 6 2 3 16 refl bytes n (same ∙ ap class_of e));
      write_only = λ e. remote bytes n p 6 4 (classes 10 6 4 1 28 refl bytes n (same ∙ ap class_of e));
      write_only_imm = λ e. both bytes n p 6 4 (classes 11 6 4 2 32 refl bytes n (same ∙ ap class_of e));
      read = λ e. remote bytes n p 12 4 (classes 12 12 4 1 28 refl bytes n (same ∙ ap class_of e));
      cmp_swap = λ e. atomic bytes n p 19 4 (classes 19 19 4 4 40 refl bytes n (same ∙ ap class_of e));
      fetch_add = λ e. atomic bytes n p 20 4 (classes 20 20 4 4 40 refl bytes n (same ∙ ap class_of e));
      reserved = λ h k. alone bytes n p 21 4 (classes low 21 4 0 12 (reserved-class low h k) bytes n same);
    }

pub opcode-taken : OpcodeTaken
opcode-taken bytes n = taken-by bytes n (bth_of bytes).opcode refl

pub uc-alike : UcAlike
unfolding class_of uc_has
uc-alike low h =
    let s : (32 + low) / 32 ≡ 1 = omega arith in
    let l : (32 + low) % 32 ≡ low = omega arith in
    let t : low / 32 ≡ 0 = omega arith in
    let u : low % 32 ≡ low = omega arith in
    rw (s, l, t, u, lt-ltb low 12 h)

pub uc-taken : UcTaken
uc-taken bytes n low e h = taken-by bytes n low (ap class_of e ∙ uc-alike low h)

pub admission-numbers : AdmissionNumbers
unfolding read_check read_by
admission-numbers (Ok x) bytes n = refl
admission-numbers (Err why) bytes n = sym (ap (λ b. cond b 0 5) (some-number why))
