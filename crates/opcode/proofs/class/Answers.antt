-- one test for the two services
use mathlib.Core.Path.{◌≡◌, refl, sym, ap, ◌∙◌}
use mathlib.Core.Bool.{Bool, true, false, cond}
use lib.Dec.{eqb}
use Rattle.opcode.specs.declared.OpcodeClass.{OpcodeClass}
use Rattle.opcode.specs.Opcode.{class_of, service_of, low_of, uc_has, low_class, reserved_class}
use Rattle.opcode.specs.Service as Service
use Rattle.opcode.proofs.class.Goals as goal

once : (a b has : Bool) (x y : OpcodeClass) → cond (cond a true (cond b has false)) x y ≡ cond a x (cond b (cond has x y) y)
once true b has x y = refl
once false true has x y = refl
once false false has x y = refl

pub returns-then-served : goal.returns-then-served
unfolding class_of
returns-then-served c =
    let n = c.args.opcode in
    c.table_class.ensures
    ∙ (ap (λ t. cond t (low_class (low_of n)) reserved_class) (sym (sym c.served.ensures ∙ c.if-served.true))
    ∙ once (eqb (service_of n) Service.rc) (eqb (service_of n) Service.uc) (uc_has (low_of n)) (low_class (low_of n)) reserved_class)

pub returns-else-served : goal.returns-else-served
unfolding class_of
returns-else-served c =
    let n = c.args.opcode in
    c.reserved_class.ensures
    ∙ (ap (λ t. cond t (low_class (low_of n)) reserved_class) (sym (sym c.served.ensures ∙ c.if-served.false))
    ∙ once (eqb (service_of n) Service.rc) (eqb (service_of n) Service.uc) (uc_has (low_of n)) (low_class (low_of n)) reserved_class)
