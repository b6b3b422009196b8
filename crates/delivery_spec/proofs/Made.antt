-- The host's calls leave a pair that received nothing as set-up made it.
use Prim.Native.Nat.{ℕ, ◌≤◌}
use mathlib.Core.Path.{◌≡◌, refl, sym, ap, subst, ◌∙◌}
use mathlib.Core.Bool.{Bool, true, false, cond}
use mathlib.Core.List.{List, [], ◌∷◌}
use native.Mathlib.Omega.{arith}
use lib.Dec.{eqb}
use borrow.Author.Tests.{eqb-true, eqb-false}
use Rattle.table.specs.declared.Ring.{Ring}
use Rattle.pair.specs.Answer.{executed}
use Rattle.pair.specs.Pair.{fresh_pair, moved}
use Rattle.pair.specs.Host.{reset_status, reset_to, ready_status, made_ready, post_status, posted}
use Rattle.pair.specs.Calls.{Whole, HostCall, begun, called, called_all}
use Rattle.pair.specs.Calls.HostCall.{SetUp, Reset, MakeReady, AddRegion, RemoveRegion, PostEntry}
use Rattle.pair.specs.Claims.{AllAccepted, SetupSound, Sound}
use Rattle.pair.specs.declared.Setup.{Setup}
use Rattle.pair.specs.declared.Pair.{Pair}
use Rattle.pair.proofs.Begin.{reset-pair, reset-regions, set-up-regions, set-up-pair, ready-pair, ready-wrong}
use Rattle.pair.proofs.Kept.{begun-sound, calls-sound}
use Rattle.delivery_spec.specs.Made.{NotSetUp, NoneSetUp, FreshMade, ReadyMade, FreshReset, NotSetUpIs}
use Rattle.delivery_spec.specs.Demand.{Fresh}

-- nothing was delivered, and the pair is not in Error
pub record Idle (s : Setup) (q : Pair) : Type 0 where
  pub setup : q.setup ≡ s
  pub state : q.state ≤ 1
  pub expected : q.expected ≡ q.setup.start
  pub msn : q.msn.0 ≡ 0
  pub nakmark : q.nakmark ≡ false
  pub message : q.message.kind ≡ 255
  pub read : q.read.remaining ≡ 0
  pub saved : q.saved.count ≡ 0

either : {s : Setup} {q r : Pair} (b : Bool) → Idle s q → Idle s r → Idle s (cond b q r)
either true Q R = Q
either false Q R = R

fresh-idle : (s t : Setup) → t ≡ s → Idle s (fresh_pair t)
unfolding fresh_pair
fresh-idle s t e = record { setup = e; state = omega arith; expected = refl; msn = refl; nakmark = refl; message = refl; read = refl; saved = refl }

moved-idle : (s : Setup) (q : Pair) (state : ℕ) (entries : Ring) → state ≤ 1 → Idle s q → Idle s (moved q state entries)
moved-idle s q state entries b I =
    record { setup = I.setup; state = b; expected = I.expected; msn = I.msn; nakmark = I.nakmark; message = I.message; read = I.read; saved = I.saved }

called-idle : (s : Setup) (w : Whole) (c : HostCall) → NotSetUp c → Idle s w.pair → Idle s (called w c).pair
unfolding called reset_to made_ready posted
called-idle s w (SetUp t) h I = absurd h
called-idle s w Reset h I = either (executed (reset_status w.pair)) (fresh-idle s w.pair.setup I.setup) I
called-idle s w MakeReady h I = either (executed (ready_status w.pair)) (moved-idle s w.pair 1 w.pair.entries (omega arith) I) I
called-idle s w (AddRegion r) h I = I
called-idle s w (RemoveRegion key) h I = I
called-idle s w (PostEntry e) h I = either (executed (post_status w.pair e)) (moved-idle s w.pair w.pair.state _ I.state I) I

pub all-idle : (s : Setup) (w : Whole) (calls : List HostCall) → NoneSetUp calls → Idle s w.pair → Idle s (called_all w calls).pair
unfolding called_all
all-idle s w [] h I = I
all-idle s w (c ∷ cs) h I = all-idle s (called w c) cs h.1 (called-idle s w c h.0 I)

-- a list without a set-up has none that is refused
pub accepted : (calls : List HostCall) → NoneSetUp calls → AllAccepted calls
accepted [] h = tt
accepted (SetUp s ∷ cs) h = absurd h.0
accepted (Reset ∷ cs) h = (tt, accepted cs h.1)
accepted (MakeReady ∷ cs) h = (tt, accepted cs h.1)
accepted (AddRegion r ∷ cs) h = (tt, accepted cs h.1)
accepted (RemoveRegion key ∷ cs) h = (tt, accepted cs h.1)
accepted (PostEntry e ∷ cs) h = (tt, accepted cs h.1)

pub begun-idle : (s : Setup) (regions entries saved : List (List ℕ)) → SetupSound s → Idle s (begun s regions entries saved).pair
unfolding begun
begun-idle s regions entries saved h = subst (Idle s) (sym (set-up-pair s h)) (fresh-idle s s refl)

pub fresh-made : FreshMade
fresh-made s regions entries saved calls h service e l none =
    let w = begun s regions entries saved in
    let I = all-idle s w calls none (begun-idle s regions entries saved h) in (
      I.setup,
      λ ready.
          record {
            sound = calls-sound w calls (accepted calls none) (begun-sound s regions entries saved h e l);
            reliable = ap (λ x. x.service) I.setup ∙ service;
            ready = ready;
            expected = I.expected;
            msn = I.msn;
            nakmark = I.nakmark;
            message = I.message;
            read = I.read;
            saved = I.saved;
          },
    )

pub ready_made : ReadyMade
unfolding called
ready_made s regions entries saved calls h e l none =
    go (called_all w calls).pair (eqb (called_all w calls).pair.state 0) refl
    (all-idle s w calls none (begun-idle s regions entries saved h)).state
    (calls-sound w calls (accepted calls none) (begun-sound s regions entries saved h e l)).pair
  where
    w : Whole
    w = begun s regions entries saved

    go : (q : Pair) (b : Bool) → eqb q.state 0 ≡ b → q.state ≤ 1 → Sound q → (made_ready q).pair.state ≡ 1
    go q true t i S = ap (λ x. x.state) (ready-pair q (eqb-true q.state 0 t) S)
    go q false t i S = ap (λ x. x.state) (ready-wrong q (eqb-false q.state 0 t)).1 ∙ omega (arith, eqb-false q.state 0 t)

-- reset leaves what set-up leaves
reset-begins : (w : Whole) → SetupSound w.pair.setup → called w Reset ≡ begun w.pair.setup w.regions w.entries w.saved
unfolding called begun
reset-begins w h =
    λ i.
    record {
      pair = (reset-pair w.pair h ∙ sym (set-up-pair w.pair.setup h)) i;
      regions = (reset-regions w.pair w.regions h ∙ sym (set-up-regions w.pair.setup w.regions h)) i;
      entries = w.entries;
      saved = w.saved;
    }

pub fresh-reset : FreshReset
fresh-reset w calls h r e l none =
    subst (λ b. ((called_all b calls).pair.setup ≡ w.pair.setup) × ((called_all b calls).pair.state ≡ 1 → Fresh (called_all b calls)))
    (sym (reset-begins w h)) (fresh-made w.pair.setup w.regions w.entries w.saved calls h r e l none)

pub not-set-up-is : NotSetUpIs
not-set-up-is (SetUp s) = (λ n t e. n, λ f. f s refl)
not-set-up-is Reset = (λ n t e. absurd (subst NotSetUp e tt), λ f. tt)
not-set-up-is MakeReady = (λ n t e. absurd (subst NotSetUp e tt), λ f. tt)
not-set-up-is (AddRegion r) = (λ n t e. absurd (subst NotSetUp e tt), λ f. tt)
not-set-up-is (RemoveRegion key) = (λ n t e. absurd (subst NotSetUp e tt), λ f. tt)
not-set-up-is (PostEntry x) = (λ n t e. absurd (subst NotSetUp e tt), λ f. tt)
