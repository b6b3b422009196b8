-- Laws of the opcode's class.
use Prim.Native.Nat.{ℕ, ◌/◌, ◌≤◌}
use mathlib.Core.Path.{◌≡◌, refl, sym, ap, ◌∙◌}
use mathlib.Core.Bool.{Bool, true, false, cond}
use native.Mathlib.Omega.{arith}
use lib.Dec.{eqb, ltb}
use lib.ListN.{get_or, get_or-eq_default}
use borrow.Author.Tests.{ne_eqb}
use Rattle.lemmas.proofs.Tests.{cond-le}
use Rattle.lemmas.proofs.Tables.{passes, everywhere}
use Rattle.opcode.specs.Claims.{kinds, places, ClassesAre}
use Rattle.opcode.specs.Opcode.{service_of, low_of, kind_of, place_in, place_of, send_write_follows, follows_of, length_of, low_class, reserved_class, uc_has, class_of}

-- the header length is that of the headers that follow
pub class-length : (opcode : ℕ) → (class_of opcode).length ≡ length_of (class_of opcode).follows
unfolding class_of low_class reserved_class length_of
class-length opcode = go (eqb (service_of opcode) 0) (eqb (service_of opcode) 1) (uc_has (low_of opcode))
  where
    go : (rc uc few : Bool)
        → (cond rc (low_class (low_of opcode)) (cond uc (cond few (low_class (low_of opcode)) reserved_class) reserved_class)).length
        ≡ length_of (cond rc (low_class (low_of opcode)) (cond uc (cond few (low_class (low_of opcode)) reserved_class) reserved_class)).follows
    go true uc few = refl
    go false true true = refl
    go false true false = refl
    go false false few = refl

-- there are seven sets of headers
send-write-most : (low : ℕ) → send_write_follows low ≤ 6
unfolding send_write_follows
send-write-most low =
    cond-le (eqb low 3) (omega arith)
    (cond-le (eqb low 5) (omega arith)
    (cond-le (eqb low 6) (omega arith)
    (cond-le (eqb low 9) (omega arith)
    (cond-le (eqb low 10) (omega arith)
    (cond-le (eqb low 11) (omega arith) (omega arith))))))

follows-most : (low : ℕ) → follows_of low ≤ 6
unfolding follows_of
follows-most low =
    cond-le (ltb low 12) (send-write-most low)
    (cond-le (eqb low 12) (omega arith)
    (cond-le (eqb low 13) (omega arith)
    (cond-le (eqb low 15) (omega arith)
    (cond-le (eqb low 16) (omega arith)
    (cond-le (eqb low 17) (omega arith)
    (cond-le (eqb low 18) (omega arith)
    (cond-le (eqb low 19) (omega arith)
    (cond-le (eqb low 20) (omega arith) (omega arith)))))))))

pub class-follows : (opcode : ℕ) → (class_of opcode).follows ≤ 6
unfolding class_of low_class reserved_class
class-follows opcode = go (eqb (service_of opcode) 0) (eqb (service_of opcode) 1) (uc_has (low_of opcode))
  where
    go : (rc uc few : Bool)
        → (cond rc (low_class (low_of opcode)) (cond uc (cond few (low_class (low_of opcode)) reserved_class) reserved_class)).follows ≤ 6
    go true uc few = follows-most (low_of opcode)
    go false true true = follows-most (low_of opcode)
    go false true false = omega arith
    go false false few = omega arith

-- an opcode of another service than RC and UC is reserved
pub class-other : (opcode : ℕ) → 64 ≤ opcode → class_of opcode ≡ reserved_class
unfolding class_of
class-other opcode h = rw (ne_eqb (opcode / 32) 0 (λ e. omega arith), ne_eqb (opcode / 32) 1 (λ e. omega arith))

-- kind and place: of the opcodes of RC and UC by computation, of all others at once
kind-is : (opcode : ℕ) → (class_of opcode).kind ≡ get_or kinds opcode 21
unfolding passes class_of low_class reserved_class uc_has kind_of
kind-is =
    everywhere (λ k. (class_of k).kind) (λ k. get_or kinds k 21) 64 refl
    (λ k h. let l : 44 ≤ k = omega arith in ap (λ c. c.kind) (class-other k h) ∙ sym (get_or-eq_default kinds 21 l))

place_is : (opcode : ℕ) → (class_of opcode).place ≡ get_or places opcode 4
unfolding passes class_of low_class reserved_class uc_has place_in place_of
place_is =
    everywhere (λ k. (class_of k).place) (λ k. get_or places k 4) 64 refl
    (λ k h. let l : 44 ≤ k = omega arith in ap (λ c. c.place) (class-other k h) ∙ sym (get_or-eq_default places 4 l))

pub classes-are : ClassesAre
classes-are opcode = record { kind = kind-is opcode; place = place_is opcode }
