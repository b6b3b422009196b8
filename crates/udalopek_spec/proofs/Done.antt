-- The words that a call leaves whose pair is new only where it is done.
use Prim.Native.Nat.{ℕ, ◌+◌}
use mathlib.Core.Path.{◌≡◌, refl, sym, ap, ◌∙◌}
use mathlib.Core.Bool.{Bool, true, false, cond, not, true≢false}
use mathlib.Core.List.{List}
use lib.Dec.{eqb, ltb}
use lib.ListN.{length}
use borrow.Author.Tests.{eq-eqb, ne_eqb}
use Rattle.table.specs.declared.Ring.{Ring}
use Rattle.table.specs.declared.Entry.{Entry}
use Rattle.pair.specs.Answer.{status_number, executed}
use Rattle.pair.specs.Host.{set_up, made_ready, ready_status, reset_to, reset_status, posted, post_status}
use Rattle.pair.specs.Pair.{moved}
use Rattle.table.specs.View.{one_more}
use Rattle.pair.specs.Claims.{SetupSound}
use Rattle.pair.specs.Sound.{setup_unsound, pair_unsound}
use Rattle.pair.specs.declared.Setup.{Setup}
use Rattle.pair.proofs.Tests.{setup-sound}
use Rattle.pair.specs.declared.ReadAnswer.{ReadAnswer}
use Rattle.pair.specs.declared.Pair.{Pair}
use Rattle.pair.specs.declared.Status.{Status}
use Rattle.pair.specs.declared.Status.TheVariants as status
use Rattle.responder_spec.specs.Apply.{with}
use Rattle.responder_spec.specs.Response.{one_fewer, next_status, next_response}
use Rattle.abi_spec.specs.Pair.{other_length, strays, pair_of, pair_words}
use Rattle.abi_spec.proofs.Laws.{sound-words, set-up-words}
use Rattle.udalopek_spec.specs.Packets.{next_words}
use Rattle.udalopek_spec.specs.Host.{set_up_words, ready_words, reset_words, post_words}
use Rattle.udalopek_spec.specs.Left.{entries_put, read_put}
use Rattle.udalopek_spec.proofs.Steps.{own-words, counted, second, left-as-they-were}

-- a call that is done was lent a sound pair
late : (a b : Bool) (s : Status) → executed (cond a status.WrongState (cond b status.OutOfRange s)) ≡ true → b ≡ false
unfolding executed status_number
late true b s h = absurd (true≢false (sym h))
late false true s h = absurd (true≢false (sym h))
late false false s h = refl

early : (a b : Bool) → executed (cond a (cond b status.OutOfRange status.Executed) status.WrongState) ≡ true → b ≡ false
unfolding executed status_number
early true true h = absurd (true≢false (sym h))
early true false h = refl
early false b h = absurd (true≢false (sym h))

later : (a b c d : Bool) → executed (cond a status.WrongState (cond b status.OutputShort (cond c status.OutOfRange (cond d status.OutOfRange status.Executed)))) ≡ true → d ≡ false
unfolding executed status_number
later true b c d h = absurd (true≢false (sym h))
later false true c d h = absurd (true≢false (sym h))
later false false true d h = absurd (true≢false (sym h))
later false false false true h = absurd (true≢false (sym h))
later false false false false h = refl

set-up-sound : (s : Setup) → executed (cond (setup_unsound s) status.OutOfRange status.Executed) ≡ true → SetupSound s
unfolding executed status_number
set-up-sound s h = setup-sound s (go (setup_unsound s) h)
  where
    go : (b : Bool) → executed (cond b status.OutOfRange status.Executed) ≡ true → b ≡ false
    go true e = absurd (true≢false (sym e))
    go false e = refl

-- whether it is done, by its number
pub done : (s : Status) (n : ℕ) → n ≡ status_number s → n ≡ 0 → executed s ≡ true
unfolding executed
done s n e z = ap (λ k. eqb k 0) (sym e) ∙ eq-eqb n 0 z

pub undone : (s : Status) (n : ℕ) → n ≡ status_number s → (n ≡ 0 → ⊥) → executed s ≡ false
unfolding executed
undone s n e z = ap (λ k. eqb k 0) (sym e) ∙ ne_eqb n 0 z

put_entries : (q : Pair) (r : Ring) → entries_put (pair_words q) r ≡ pair_words (moved q q.state r)
unfolding other_length entries_put pair_words
put_entries q r = refl

put-read : (q : Pair) (a : ReadAnswer) → read_put (pair_words q) a ≡ pair_words (with q q.state q.nakmark a)
unfolding other_length read_put pair_words
put-read q a = refl

module _ (w : List ℕ) (l : other_length w ≡ false) where
  post-sound : (e : Entry) → executed (post_status (pair_of w) e) ≡ true → strays w ≡ false
  unfolding post_status
  post-sound e x = sound-words w (counted w l) (late (eqb (pair_of w).state 2) (pair_unsound (pair_of w)) _ x)

  pub posted-words : (e : Entry) → executed (post_status (pair_of w) e) ≡ true
      → (w' : List ℕ) → w' ≡ entries_put w (posted (pair_of w) e).pair.entries → w' ≡ post_words w e
  unfolding post_words posted
  posted-words e x w' c =
      let s = post-sound e x in
      let p = ap (λ b. cond b (moved (pair_of w) (pair_of w).state (one_more (pair_of w).entries)) (pair_of w)) x in
      c
      ∙ ((λ i. entries_put (own-words w s i) (p i).entries)
      ∙ (put_entries (pair_of w) (one_more (pair_of w).entries) ∙ (ap pair_words (sym p) ∙ second (strays w) w _ s)))

  pub unposted-words : (e : Entry) → executed (post_status (pair_of w) e) ≡ false → w ≡ post_words w e
  unfolding post_words posted
  unposted-words e x = left-as-they-were w _ (ap (λ b. cond b (moved (pair_of w) (pair_of w).state (one_more (pair_of w).entries)) (pair_of w)) x)

  -- of a call whose status says whether it is done: its pair over the words, or the words as they were
  left_by_lem : (s : Status) (q : Pair) → cond (executed s) (pair_words (cond (executed s) q (pair_of w))) w
      ≡ cond (executed s) (pair_words q) w
  left_by_lem s q = go (executed s)
    where
      go : (b : Bool) → cond b (pair_words (cond b q (pair_of w))) w ≡ cond b (pair_words q) w
      go true = refl
      go false = refl

  both_ways : (s : Status) (q : Pair) → (executed s ≡ true → strays w ≡ false) → cond (executed s) (pair_words q) w ≡ cond (strays w) w (pair_words (cond (executed s) q (pair_of w)))
  both_ways s q f = go (executed s) f
    where
      go : (b : Bool) → (b ≡ true → strays w ≡ false) → cond b (pair_words q) w ≡ cond (strays w) w (pair_words (cond b q (pair_of w)))
      go true f = second (strays w) w _ (f refl)
      go false f = left-as-they-were w (pair_of w) refl

  pub set-up-left : (s : Setup) → cond (executed (set_up s).status) (pair_words (set_up s).pair) w ≡ set_up_words w s
  unfolding set_up_words
  set-up-left s = second (other_length w) w _ l

  pub ready_words_lem : cond (executed (ready_status (pair_of w))) (pair_words (made_ready (pair_of w)).pair) w ≡ ready_words w
  unfolding ready_words made_ready ready_status
  ready_words_lem =
      left_by_lem (ready_status (pair_of w)) _
      ∙ both_ways (ready_status (pair_of w)) _ (λ x. sound-words w (counted w l) (early (eqb (pair_of w).state 0) (pair_unsound (pair_of w)) x))

  pub reset-words : cond (executed (reset_status (pair_of w))) (pair_words (reset_to (pair_of w)).pair) w ≡ reset_words w
  unfolding reset_words reset_to reset_status
  reset-words =
      left_by_lem (reset_status (pair_of w)) _
      ∙ both_ways (reset_status (pair_of w)) _ (λ x. set-up-words w (counted w l) (set-up-sound (pair_of w).setup x))

  pub drained-words : (m out : List ℕ) → executed (next_status (pair_of w) (length m) (length out)) ≡ true
      → (w' : List ℕ) → w' ≡ read_put w (next_response (pair_of w) m out).pair.read → w' ≡ next_words w m out
  unfolding next_words next_response next_status
  drained-words m out x w' c =
      let s = sound-words w (counted w l) (later (eqb (pair_of w).read.remaining 0) (ltb (length out) (16 + (pair_of w).setup.pmtu)) (not (eqb (length m) (pair_of w).setup.memory)) (pair_unsound (pair_of w)) x) in
      let p = ap (λ b. cond b (with (pair_of w) (pair_of w).state (pair_of w).nakmark (one_fewer (pair_of w).read)) (pair_of w)) x in
      c
      ∙ ((λ i. read_put (own-words w s i) (p i).read)
      ∙ (put-read (pair_of w) (one_fewer (pair_of w).read) ∙ (ap pair_words (sym p) ∙ second (strays w) w _ s)))

  pub undrained-words : (m out : List ℕ) → executed (next_status (pair_of w) (length m) (length out)) ≡ false → w ≡ next_words w m out
  unfolding next_words next_response
  undrained-words m out x =
      left-as-they-were w _ (ap (λ b. cond b (with (pair_of w) (pair_of w).state (pair_of w).nakmark (one_fewer (pair_of w).read)) (pair_of w)) x)
