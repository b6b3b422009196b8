-- A call that is refused leaves all that it was lent.
use Prim.Native.Nat.{ℕ, ◌≤◌}
use mathlib.Core.Path.{◌≡◌, refl, sym, ap, subst, ◌∙◌}
use mathlib.Core.Bool.{Bool, true, false, cond}
use mathlib.Core.List.{List, [], ◌∷◌}
use native.Mathlib.Omega.{arith}
use borrow.Author.Tests.{ne_eqb}
use Rattle.pair.specs.declared.Status.{Status}
use Rattle.pair.specs.declared.Pair.{Pair}
use Rattle.pair.specs.Answer.{status_number, executed}
use Rattle.pair.specs.Host.{set_up, set_up_status, set_up_regions, reset_to, reset_status, reset_regions, made_ready}
use Rattle.pair.specs.Host.{ready_status, add_status, add_regions, remove_status, remove_regions, posted, post_status}
use Rattle.pair.specs.Host.{post_entries}
use Rattle.responder_spec.specs.Response.{next_response, next_out}
use Rattle.abi_spec.specs.Pair.{other_length, strays, pair_of, pair_words}
use Rattle.udalopek_spec.specs.Packets.{next_number, next_words, next_output, next_report}
use Rattle.udalopek_spec.specs.Host.{set_up_number, set_up_words, set_up_table}
use Rattle.udalopek_spec.specs.Host.{reset_number, reset_words, reset_table, ready_number, ready_words, add_number}
use Rattle.udalopek_spec.specs.Host.{add_table, remove_number, remove_table, post_number, post_words, post_table}
use Rattle.udalopek_spec.specs.Claims.{NextKeeps, SetUpKeeps, ResetKeeps, ReadyKeeps, AddKeeps, RemoveKeeps, PostKeeps}
use Rattle.udalopek_spec.proofs.Steps.{as_many, own-words}

-- a number from 32 on is not that of a call that is done
not_done : (s : Status) → 32 ≤ status_number s → executed s ≡ false
unfolding executed
not_done s h = ne_eqb (status_number s) 0 (λ e. omega arith)

-- behind a test that refuses: what is kept there is kept
behind : {A : Type 0} (b : Bool) (n : ℕ) (x y : A) → (b ≡ false → 32 ≤ n → y ≡ x) → 32 ≤ cond b 34 n → cond b x y ≡ x
behind true n x y f h = refl
behind false n x y f h = f refl h

-- what is new only if the call is done
kept : {A : Type 0} (s : Status) (x y : A) → 32 ≤ status_number s → cond (executed s) y x ≡ x
kept s x y h = ap (λ b. cond b y x) (not_done s h)

-- the words of the pair that words say, where it is as it was
words-kept : (w : List ℕ) (s : Status) (q : Pair) → 32 ≤ cond (other_length w) 34 (status_number s) → cond (strays w) w (pair_words (cond (executed s) q (pair_of w))) ≡ w
words-kept w s q h = go (strays w) refl
  where
    go : (b : Bool) → strays w ≡ b → cond b w (pair_words (cond (executed s) q (pair_of w))) ≡ w
    go true e = refl
    go false e = ap pair_words (kept s (pair_of w) q (subst (λ b. 32 ≤ cond b 34 (status_number s)) (as_many w e) h)) ∙ sym (own-words w e)

pub post-keeps : PostKeeps
unfolding post_number post_words post_table posted post_entries
post-keeps w rows e h = (words-kept w (post_status (pair_of w) e) _ h, behind (other_length w) _ rows _ (λ b g. kept (post_status (pair_of w) e) rows _ g) h)

pub ready-keeps : ReadyKeeps
unfolding ready_number ready_words made_ready
ready-keeps w h = words-kept w (ready_status (pair_of w)) _ h

pub reset-keeps : ResetKeeps
unfolding reset_number reset_words reset_table reset_to reset_regions
reset-keeps w rows h = (words-kept w (reset_status (pair_of w)) _ h, behind (other_length w) _ rows _ (λ b g. kept (reset_status (pair_of w)) rows _ g) h)

pub add-keeps : AddKeeps
unfolding add_number add_table add_regions
add-keeps w rows r h = behind (other_length w) _ rows _ (λ b g. kept (add_status (pair_of w) rows r) rows _ g) h

pub remove-keeps : RemoveKeeps
unfolding remove_number remove_table remove_regions
remove-keeps w rows key h = behind (other_length w) _ rows _ (λ b g. kept (remove_status rows key) rows _ g) h

pub set-up-keeps : SetUpKeeps
unfolding set_up_number set_up_words set_up_table set_up set_up_regions
set-up-keeps w rows s h = (
  behind (other_length w) _ w _ (λ b g. kept (set_up_status s) w _ g) h,
  behind (other_length w) _ rows _ (λ b g. kept (set_up_status s) rows _ g) h,
)

pub next-keeps : NextKeeps
unfolding next_number next_words next_output next_report next_response next_out
next-keeps w m out h = (
  words-kept w _ _ h,
  behind (other_length w) _ out _ (λ b g. kept _ out _ g) h,
  behind (other_length w) _ (0 ∷ []) _ (λ b g. ap (λ n. n ∷ []) (kept _ 0 _ g)) h,
)
