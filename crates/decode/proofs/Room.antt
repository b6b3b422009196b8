-- A packet as long as its headers has room for each of them.
use Prim.Native.Nat.{ℕ, ◌%◌, ◌≤◌}
use mathlib.Core.Path.{◌≡◌, refl, sym, ap, subst, ◌∙◌}
use mathlib.Core.Bool.{Bool, true, false, cond, not, true≢false}
use lib.Dec.{ltb, eqb}
use borrow.Author.Tests.{ltb-false}
use Rattle.opcode.specs.Opcode.{class_of, length_of}
use Rattle.opcode.specs.declared.OpcodeClass.{OpcodeClass}
use Rattle.opcode.proofs.Classes.{class-length}
use Rattle.opcode.specs.Opcode.{service_of, low_of}
use Rattle.header.specs.Check.{pkeys_match, wrong_service, is_response, beyond_service}
use Rattle.header.specs.Read.{bad_length}
use Rattle.header.specs.declared.Bth.{Bth}
use Rattle.header.proofs.Reasons.{held}
use Rattle.std.specs.Prelude.{Ok}
use Rattle.decode.specs.Reason.{bth_reason}

-- the headers that follow, where the class's length is there
pub room-of-class : (k : OpcodeClass) (opcode n : ℕ) → k ≡ class_of opcode → k.length ≤ n → length_of k.follows ≤ n
room-of-class k opcode n e h =
    let l : k.length ≡ length_of k.follows = ap (λ x. x.length) e ∙ (class-length opcode ∙ ap (λ x. length_of x.follows) (sym e)) in
    subst (λ x. x ≤ n) l h

-- a packet of no bad length has a BTH
pub whole : (n : ℕ) → bad_length n ≡ false → 12 ≤ n
unfolding bad_length
whole n h = go (ltb n 12) (cond (ltb 4128 n) true (not (eqb (n % 4) 0))) refl h
  where
    go : (b x : Bool) → ltb n 12 ≡ b → cond b true x ≡ false → 12 ≤ n
    go true x e k = absurd (true≢false k)
    go false x e k = ltb-false n 12 e

-- a packet against which no check speaks is as long as its headers
pub room-left : (service ours pkey : ℕ) (ready : Bool) (b : Bth) (headers n : ℕ) → bth_reason service ours pkey ready b headers n ≡ Ok tt → headers ≤ n
unfolding bth_reason
room-left service ours pkey ready b headers n e =
    let v = (held (not (eqb b.tver 0)) _ _ e).1 in
    let d = (held (not (eqb b.dest ours)) _ _ v).1 in
    let k = (held (not (pkeys_match b.pkey pkey)) _ _ d).1 in
    let s = (held (wrong_service (service_of b.opcode) service) _ _ k).1 in
    let r = (held (is_response (low_of b.opcode)) _ _ s).1 in
    let u = (held (beyond_service service (low_of b.opcode)) _ _ r).1 in
    ltb-false n headers (held (ltb n headers) _ _ u).0

pub ruleset rooms = (whole, room-of-class, room-left)
