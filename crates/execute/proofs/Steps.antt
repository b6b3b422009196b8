-- The steps of a decision, over plain values: what the checks answered, and that the rest is the definition.
use Prim.Native.Nat.{ℕ}
use mathlib.Core.Path.{◌≡◌, refl, sym, ap, ◌∙◌}
use mathlib.Core.Bool.{Bool, true, false, cond}
use mathlib.Core.List.{List}
use lib.Dec.{eqb}
use Rattle.std.specs.Prelude.{Result, Ok, Err}
use borrow.Author.Tests.{ne_eqb}
use Rattle.sequence.specs.declared.Psn.{Psn}
use Rattle.pair.specs.declared.OpenMessage.{OpenMessage}
use Rattle.pair.specs.declared.Setup.{Setup}
use Rattle.pair.specs.declared.Status.{Status}
use Rattle.pair.specs.declared.Status.TheVariants as status
use Rattle.request_spec.specs.RequestCheck.{check_number, found_number}
use Rattle.request_spec.specs.Verdict.{current, request_check, expected_check, expected_check_of}
use Rattle.request_spec.specs.declared.Packet.{Packet}
use Rattle.request_spec.specs.declared.RequestCheck.{RequestCheck}
use Rattle.request_spec.proofs.Answered.{some_failed}
use Rattle.responder_spec.specs.Decide.{no_reply, failed, execute, checked_decision}
use Rattle.responder_spec.specs.Decide.{expected_decision, orphaned, strays, closed_by, abandoning, uc_execute}
use Rattle.responder_spec.specs.Decide.{uc_checked_decision, uc_decision}
use Rattle.responder_spec.specs.declared.Decision.{Decision}
use Rattle.decision_laws.proofs.Codes.{Passed, passes}
use Rattle.decision_laws.proofs.Views.{current-closed, same_code}
use Rattle.execute.specs.Either.{either}

module _ (p : Packet) (s : Setup) (expected : Psn) (opened : OpenMessage) (count : ℕ) (entry region : List ℕ) where
  abbrev found : Result Unit Status
  found = Ok tt

  abbrev lost_by : Bool → Bool → Result Unit Status
  lost_by orphan stray = cond orphan (Err status.Dropped) (cond stray (Err status.Abandoned) found)

  abbrev lost_to : Bool → Result Unit Status
  lost_to uc = cond uc (lost_by (orphaned p.place opened.kind) (strays p expected opened.kind)) found

  -- a Middle or Last without its message
  pub loses : (uc : Bool) (a : Status) → Err a ≡ lost_to uc → no_reply a ≡ either uc p s expected opened count entry region
  unfolding either uc_decision
  loses true a e = go (orphaned p.place opened.kind) (strays p expected opened.kind) e
    where
      go : (x y : Bool) → Err a ≡ lost_by x y
          → no_reply a
          ≡ cond x (no_reply status.Dropped) (cond y (no_reply status.Abandoned) (uc_checked_decision (request_check s (closed_by p.place opened) p count entry region) p expected opened entry region))
      go true y i = cc
      go false true i = cc
      go false false i = cc
  loses false a e = cc

  -- all others have it
  founds : found ≡ lost_to true → (orphaned p.place opened.kind ≡ false) × (strays p expected opened.kind ≡ false)
  founds e = go (orphaned p.place opened.kind) (strays p expected opened.kind) e
    where
      go : (x y : Bool) → found ≡ lost_by x y → (x ≡ false) × (y ≡ false)
      go true y i = absurd (cc)
      go false true i = absurd (cc)
      go false false i = (refl, refl)

  -- the message that is open when the packet is checked, and the packet's own
  abbrev pub open_at_check : Bool → OpenMessage
  open_at_check uc = cond uc (closed_by p.place opened) opened

  pub current-at-check : (uc : Bool) → current (open_at_check uc) p ≡ current opened p
  current-at-check true = current-closed opened p
  current-at-check false = refl

  kind-at-check : (uc : Bool) → cond uc (closed_by p.place opened).kind opened.kind ≡ (open_at_check uc).kind
  kind-at-check true = refl
  kind-at-check false = refl

  -- by what the checks answered
  abbrev checked_by : Bool → ℕ → Bool → Decision
  checked_by uc n t =
      cond uc (cond t (uc_execute p expected (current opened p) entry region) (abandoning n opened.kind))
      (cond t (execute p (current opened p) opened entry region s.pmtu) (failed n p.psn s.timer))

  checks-settled : (uc : Bool) → found ≡ lost_to uc → (b : ℕ) → b ≡ expected_check s (open_at_check uc) p count entry region
      → checked_by uc b (eqb b 0) ≡ either uc p s expected opened count entry region
  unfolding either uc_decision uc_checked_decision expected_decision checked_decision
  checks-settled true f b c =
      let F = founds f in
      let d = c ∙ same_code s opened p expected count entry region F.1 in
      rw (F.0, F.1) (ap (λ n. checked_by true n (eqb n 0)) d)
  checks-settled false f b c = ap (λ n. checked_by false n (eqb n 0)) c

  module _ (uc : Bool) (f : found ≡ lost_to uc) (m : OpenMessage) (e : m ≡ current opened p) (k : ℕ)
      (g : k ≡ cond uc (closed_by p.place opened).kind opened.kind) (r : Result Unit RequestCheck)
      (c : found_number r ≡ expected_check_of s k m p count entry region) where
    code : found_number r ≡ expected_check s (open_at_check uc) p count entry region
    unfolding expected_check request_check
    code =
        c
        ∙ (ap (λ x. expected_check_of s x m p count entry region) (g ∙ kind-at-check uc)
        ∙ ap (λ x. expected_check_of s (open_at_check uc).kind x p count entry region) (e ∙ sym (current-at-check uc)))

    is : (n : ℕ) → found_number r ≡ n → checked_by uc n (eqb n 0) ≡ either uc p s expected opened count entry region
    is n y = checks-settled uc f n (sym y ∙ code)

    pub passed : r ≡ Ok tt → Passed s (open_at_check uc) p entry region
    passed y = passes s (open_at_check uc) p count entry region (sym code ∙ ap found_number y)

    pub refuses : (check : RequestCheck) → r ≡ Err check
        → cond uc (abandoning (check_number check) opened.kind) (failed (check_number check) p.psn s.timer) ≡ either uc p s expected opened count entry region
    refuses check y =
        let n = check_number check in
        ap (checked_by uc n) (sym (ne_eqb n 0 (some_failed check))) ∙ is n (ap found_number y)

    pub executes : r ≡ Ok tt
        → cond uc (uc_execute p expected m entry region) (execute p m opened entry region s.pmtu) ≡ either uc p s expected opened count entry region
    executes y = ap (λ x. cond uc (uc_execute p expected x entry region) (execute p x opened entry region s.pmtu)) e ∙ is 0 (ap found_number y)
