-- Set-up, reset and make ready: which answer they give, and what they leave.
use Prim.Native.Nat.{ℕ, ◌<◌}
use mathlib.Core.Path.{◌≡◌, refl, sym, ap, subst}
use mathlib.Core.List.{List}
use borrow.Author.Tests.{lt-ltb, le-ltb, eq-eqb, ne_eqb}
use Rattle.table.specs.Table.{sought, first_from}
use Rattle.table.specs.View.{region_of, ring_from, newest, newest_saved}
use Rattle.pair.specs.declared.Setup.{Setup}
use Rattle.pair.specs.declared.Pair.{Pair}
use Rattle.pair.specs.declared.Status.TheVariants as status
use Rattle.pair.specs.Answer.{status_number, executed}
use Rattle.pair.specs.Pair.{fresh_pair, blank_pair, moved}
use Rattle.pair.specs.Sound.{memory_limit, setup_unfit, setup_unsound}
use Rattle.pair.specs.Host.{no_regions, set_up_status, set_up, set_up_regions, reset_status, reset_to, reset_regions, ready_status, made_ready}
use Rattle.pair.specs.Claims.{Unmoved, FreshViews, SetupFit, SetupSound, Sound, AsSetUp, SetUpBad, SetUpOver, SetUpDone, ResetDone, ResetNever, ReadyWrong, ReadyUnsound, ReadyDone}
use Rattle.pair.proofs.Tests.{setup-tested, setup-sound, sound-setup}
use Rattle.pair.proofs.Known.{unmoved, holds-true, kept, done, unsound, sound}

-- Set-up
is-fresh : (s : Setup) → AsSetUp s (fresh_pair s)
unfolding fresh_pair
is-fresh s =
    record { setup = refl; state = refl; expected = refl; msn = refl; nakmark = refl; message = refl; entries = refl; read = refl; saved = refl }

pub fresh-views : FreshViews
unfolding fresh_pair region_of sought first_from ring_from newest newest_saved
fresh-views s rows = (λ key. refl, refl, λ psn. refl)

bad-status : (s : Setup) → (SetupFit s → ⊥) → set_up_status s ≡ status.BadNumber
unfolding set_up_status
bad-status s h = rw (holds-true (setup_unfit s) (λ e. h ((setup-tested s).0 e)))

over-status : (s : Setup) → SetupFit s → 1048576 < s.memory → set_up_status s ≡ status.OutOfRange
unfolding set_up_status
over-status s f h = rw ((setup-tested s).1 f, lt-ltb memory_limit s.memory h)

pub done-status : (s : Setup) → SetupSound s → set_up_status s ≡ status.Executed
unfolding set_up_status
done-status s (f, h) = rw ((setup-tested s).1 f, le-ltb memory_limit s.memory h)

pub set-up-bad : SetUpBad
unfolding set_up set_up_regions executed status_number
set-up-bad s rows h =
    let e = bad-status s h in
    ((ap status_number e, kept (set_up_status s) status.BadNumber _ blank_pair e refl), kept (set_up_status s) status.BadNumber _ rows e refl)

pub set-up-over : SetUpOver
unfolding set_up set_up_regions executed status_number
set-up-over s rows f h =
    let e = over-status s f h in
    ((ap status_number e, kept (set_up_status s) status.OutOfRange _ blank_pair e refl), kept (set_up_status s) status.OutOfRange _ rows e refl)

pub set-up-pair : (s : Setup) → SetupSound s → (set_up s).pair ≡ fresh_pair s
unfolding set_up executed status_number
set-up-pair s h = done (set_up_status s) status.Executed (fresh_pair s) blank_pair (done-status s h) refl

pub set-up-regions : (s : Setup) (rows : List (List ℕ)) → SetupSound s → set_up_regions s rows ≡ no_regions
unfolding set_up_regions executed status_number
set-up-regions s rows h = done (set_up_status s) status.Executed no_regions rows (done-status s h) refl

pub set-up-done : SetUpDone
unfolding set_up status_number
set-up-done s rows h =
    (ap status_number (done-status s h), subst (AsSetUp s) (sym (set-up-pair s h)) (is-fresh s), set-up-regions s rows h)

-- Reset
reset-status : (q : Pair) → SetupSound q.setup → reset_status q ≡ status.Executed
unfolding reset_status
reset-status q h = rw (sound-setup q.setup h)

never-status : (q : Pair) → (SetupSound q.setup → ⊥) → reset_status q ≡ status.OutOfRange
unfolding reset_status
never-status q h = rw (holds-true (setup_unsound q.setup) (λ e. h (setup-sound q.setup e)))

pub reset-pair : (q : Pair) → SetupSound q.setup → (reset_to q).pair ≡ fresh_pair q.setup
unfolding reset_to executed status_number
reset-pair q h = done (reset_status q) status.Executed (fresh_pair q.setup) q (reset-status q h) refl

pub reset-regions : (q : Pair) (rows : List (List ℕ)) → SetupSound q.setup → reset_regions q rows ≡ no_regions
unfolding reset_regions executed status_number
reset-regions q rows h = done (reset_status q) status.Executed no_regions rows (reset-status q h) refl

pub reset-done : ResetDone
unfolding reset_to status_number
reset-done q rows h =
    (ap status_number (reset-status q h), subst (AsSetUp q.setup) (sym (reset-pair q h)) (is-fresh q.setup), reset-regions q rows h)

pub reset-never : ResetNever
unfolding reset_to reset_regions executed status_number
reset-never q rows h =
    let e = never-status q h in
    ((ap status_number e, kept (reset_status q) status.OutOfRange _ q e refl), kept (reset_status q) status.OutOfRange _ rows e refl)

-- Make ready
wrong-ready : (q : Pair) → (q.state ≡ 0 → ⊥) → ready_status q ≡ status.WrongState
unfolding ready_status
wrong-ready q h = rw (ne_eqb q.state 0 h)

unsound-ready : (q : Pair) → q.state ≡ 0 → (Sound q → ⊥) → ready_status q ≡ status.OutOfRange
unfolding ready_status
unsound-ready q h u = rw (eq-eqb q.state 0 h, unsound q u)

pub done-ready : (q : Pair) → q.state ≡ 0 → Sound q → ready_status q ≡ status.Executed
unfolding ready_status
done-ready q h S = rw (eq-eqb q.state 0 h, sound q S)

pub ready-wrong : ReadyWrong
unfolding made_ready executed status_number
ready-wrong q h =
    let e = wrong-ready q h in
    (ap status_number e, kept (ready_status q) status.WrongState _ q e refl)

pub ready-unsound : ReadyUnsound
unfolding made_ready executed status_number
ready-unsound q h u =
    let e = unsound-ready q h u in
    (ap status_number e, kept (ready_status q) status.OutOfRange _ q e refl)

pub ready-pair : (q : Pair) → q.state ≡ 0 → Sound q → (made_ready q).pair ≡ moved q 1 q.entries
unfolding made_ready executed status_number
ready-pair q h S = done (ready_status q) status.Executed (moved q 1 q.entries) q (done-ready q h S) refl

pub ready-done : ReadyDone
unfolding made_ready status_number
ready-done q h S =
    let p = ready-pair q h S in (
      ap status_number (done-ready q h S),
      ap (λ x. x.state) p,
      ap (λ x. x.entries.count) p,
      subst (Unmoved q) (sym p) (unmoved q 1 q.entries refl),
    )
