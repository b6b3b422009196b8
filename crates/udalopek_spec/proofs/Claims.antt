-- The proofs of the claims.
use Prim.Native.Nat.{ℕ, ◌+◌, ◌≤◌, ◌<◌}
use mathlib.Core.Path.{◌≡◌, refl, sym, ap, subst, ◌∙◌}
use mathlib.Core.Bool.{Bool, true, false, cond, true≢false}
use mathlib.Core.List.{List, [], ◌∷◌}
use mathlib.Core.Logic.{◌⊎◌, inl, inr}
use lib.Dec.{ltb}
use lib.ListN.{length, replicate}
use borrow.Author.Tests.{lt-ltb, le-ltb, eq-eqb, ne_eqb}
use Rattle.responder_spec.specs.Arrival.{Left}
use Rattle.pair.specs.declared.Pair.{Pair}
use Rattle.pair.specs.Answer.{status_number, executed}
use Rattle.pair.specs.Claims.{Sound}
use Rattle.pair.specs.Pair.{blank_pair}
use Rattle.pair.specs.Sound.{pair_unsound}
use Rattle.pair.specs.Host.{set_up, reset_to, reset_regions, made_ready, add_status, add_regions, posted, post_entries}
use Rattle.pair.proofs.Adding.{add-error, add-range}
use Rattle.pair.proofs.Begin.{reset-pair, reset-regions, reset-done, reset-never, ready-wrong, ready-unsound}
use Rattle.pair.proofs.Posting.{post-error, post-range}
use Rattle.responder_spec.specs.declared.Completion.{Completion}
use Rattle.responder_spec.specs.Decide.{no_reply}
use Rattle.responder_spec.specs.Inbound.{inbound, left_by}
use Rattle.responder_spec.specs.Response.{next_response, next_out}
use Rattle.effect_laws.specs.Effects.{Silent}
use Rattle.effect_laws.proofs.Effects.{inbound-table}
use Rattle.effect_laws.proofs.Refusals.{next-none, next-short, next-range}
use Rattle.abi_spec.specs.Pair.{other_length, strays, setup_said, read_of, narrowed, said_by, pair_of, pair_words}
use Rattle.abi_spec.specs.Claims.{InRange, PairFields}
use Rattle.abi_spec.proofs.Laws.{ranges-tested, stray-tested, stray-setup, set-up-words, stray-unsound, pair-back}
use Rattle.udalopek_spec.specs.Packets.{Lent, lent, arrival_with, inbound_of, refused_with, returning, words_left, inbound_returned}
use Rattle.udalopek_spec.specs.Packets.{report_words, next_number}
use Rattle.udalopek_spec.specs.Packets.{next_words, next_output, next_report}
use Rattle.udalopek_spec.specs.Cutting.{request_of, cut_report}
use Rattle.udalopek_spec.specs.Host.{set_up_number, set_up_words, set_up_table, reset_number, reset_words, reset_table, ready_number}
use Rattle.udalopek_spec.specs.Host.{ready_words, add_number, add_table, remove_number, remove_table, post_number}
use Rattle.udalopek_spec.specs.Host.{post_words, post_table}
use Rattle.udalopek_spec.specs.Claims.{ReportSays, KindsAre, CutReports, InboundKeeps, LengthRefused, WordsRefused}
use Rattle.udalopek_spec.specs.Claims.{OthersRefused, OneOrder, ResetAllowed, InboundIs, ReturnedEach, SetUpIs, NextIs, PostIs, ReadyIs, ResetIs}
use Rattle.udalopek_spec.specs.Claims.{AddIs, RemoveIs}
use Rattle.udalopek_spec.proofs.Steps.{second, first, many, few, as_many, own-words}
use Rattle.udalopek_spec.proofs.Left.{refused-short, refused-unsound}

-- nothing is reported of a completion that is none
silent : (c : Completion) → Silent c → report_words 0 c ≡ replicate 6 0
unfolding report_words
silent c s = simp (s.some, s.number, s.length, s.immediate, s.value)

-- behind a test that refuses with 34: what a drop or a refusal keeps there is kept
behind : {A : Type 0} (b : Bool) (n : ℕ) (x y : A) → ((n ≡ 5) ⊎ (32 ≤ n) → y ≡ x) → (cond b 34 n ≡ 5) ⊎ (32 ≤ cond b 34 n) → cond b x y ≡ x
behind true n x y f h = refl
behind false n x y f h = f h

-- and words that are in range
behind-words : (w : List ℕ) (n : ℕ) (q : Pair) → ((n ≡ 5) ⊎ (32 ≤ n) → q ≡ pair_of w) → (cond (other_length w) 34 n ≡ 5) ⊎ (32 ≤ cond (other_length w) 34 n)
    → cond (strays w) w (pair_words q) ≡ w
behind-words w n q f h = go (strays w) refl
  where
    go : (b : Bool) → strays w ≡ b → cond b w (pair_words q) ≡ w
    go true e = refl
    go false e = ap pair_words (f (subst (λ b. (cond b 34 n ≡ 5) ⊎ (32 ≤ cond b 34 n)) (as_many w e) h)) ∙ sym (own-words w e)

-- what is returned, field by field
by-fields : (b : Bool) (number : ℕ) (l : Lent) (w : List ℕ) (x : Left)
    → cond b (refused_with number l) (returning w x)
    ≡ (record {
      number = cond b number x.number;
      words = cond b l.words w;
      saved = cond b l.saved x.whole.saved;
      memory = cond b l.memory x.memory;
      out = cond b l.out x.out;
      report = cond b (replicate 6 0) (report_words x.outgoing x.completion);
    })
by-fields true number l w x = refl
by-fields false number l w x = refl

-- words that stray are kept in any case
words-kept : (b c : Bool) (w v : List ℕ) → (c ≡ false → b ≡ false) → cond b w (cond c w v) ≡ cond c w v
words-kept true true w v f = refl
words-kept true false w v f = absurd (true≢false (f refl))
words-kept false c w v f = refl

pub inbound-keeps : InboundKeeps
unfolding inbound_returned words_left
inbound-keeps l h =
    let w = l.words in
    let b = other_length w in
    let x = inbound_of l in
    let r = by-fields b 34 l (words_left l) x in
    let t = inbound-table (arrival_with l (pair_of w)) in
    let k = subst (λ y. (y.number ≡ 5) ⊎ (32 ≤ y.number)) r h in
    record {
      words =
          ap (λ y. y.words) r ∙ words-kept b (strays w) w (pair_words x.whole.pair) (as_many w)
          ∙ behind-words w _ _ (λ g. (t.quiet g).pair) k;
      saved = ap (λ y. y.saved) r ∙ behind b _ l.saved _ (λ g. (t.quiet g).unexecuted.saved) k;
      memory = ap (λ y. y.memory) r ∙ behind b _ l.memory _ (λ g. (t.quiet g).unexecuted.memory) k;
      out = ap (λ y. y.out) r ∙ behind b _ l.out _ (λ g. (t.quiet g).out) k;
      report =
          ap (λ y. y.report) r
          ∙ behind b _ (replicate 6 0) _
          (λ g. ap (λ n. report_words n x.completion) (t.quiet g).outgoing ∙ silent _ (t.quiet g).unexecuted.completion) k;
    }

-- the words of a pair are as many as they should be
of_pair : (q : Pair) → PairFields q → other_length (pair_words q) ≡ false
of_pair q f = as_many (pair_words q) (pair-back q f).1

pub inbound-is : InboundIs
unfolding inbound_returned words_left
inbound-is q regions entries saved m p out f =
    let l = lent (pair_words q) regions entries saved m p out in
    let b = pair-back q f in
    sym (second _ (refused_with 34 l) _ (of_pair q f))
    ∙ (ap (λ w. returning w (inbound_of l)) (sym (second _ l.words _ b.1))
    ∙ ap (λ x. returning (pair_words (inbound (arrival_with l x)).whole.pair) (inbound (arrival_with l x))) b.0)

pub returned-each : ReturnedEach
returned-each number words saved m out report x e =
    (ap (λ y. y.number) e, ap (λ y. y.words) e, ap (λ y. y.saved) e, ap (λ y. y.memory) e, ap (λ y. y.out) e, ap (λ y. y.report) e)

pub set-up-is : SetUpIs
unfolding set_up_number set_up_table set_up_words executed
set-up-is w rows s h =
    let n = many w h in (
      sym (second _ 34 _ n),
      sym (second _ rows _ n),
      λ e. sym (second _ w _ n) ∙ ap (λ t. cond t (pair_words (set_up s).pair) w) (eq-eqb (status_number (set_up s).status) 0 e),
    )

pub next-is : NextIs
unfolding next_number next_words next_output next_report
next-is q m out f =
    let b = pair-back q f in
    let n = of_pair q f in (
      sym (second _ 34 _ n) ∙ ap (λ x. status_number (next_response x m out).status) b.0,
      sym (second _ _ _ b.1) ∙ ap (λ x. pair_words (next_response x m out).pair) b.0,
      sym (second _ _ _ n) ∙ ap (λ x. next_out x m out) b.0,
      sym (second _ _ _ n) ∙ ap (λ x. (next_response x m out).outgoing ∷ []) b.0,
    )

pub post_is : PostIs
unfolding post_number post_words post_table
post_is q rows e f =
    let b = pair-back q f in
    let n = of_pair q f in (
      sym (second _ 34 _ n) ∙ ap (λ x. status_number (posted x e).status) b.0,
      sym (second _ _ _ b.1) ∙ ap (λ x. pair_words (posted x e).pair) b.0,
      sym (second _ _ _ n) ∙ ap (λ x. post_entries x rows e) b.0,
    )

pub ready-is : ReadyIs
unfolding ready_number ready_words
ready-is q f =
    let b = pair-back q f in (
      sym (second _ 34 _ (of_pair q f)) ∙ ap (λ x. status_number (made_ready x).status) b.0,
      sym (second _ _ _ b.1) ∙ ap (λ x. pair_words (made_ready x).pair) b.0,
    )

pub reset-is : ResetIs
unfolding reset_number reset_words reset_table
reset-is q rows f =
    let b = pair-back q f in
    let n = of_pair q f in (
      sym (second _ 34 _ n) ∙ ap (λ x. status_number (reset_to x).status) b.0,
      sym (second _ _ _ b.1) ∙ ap (λ x. pair_words (reset_to x).pair) b.0,
      sym (second _ _ _ n) ∙ ap (λ x. reset_regions x rows) b.0,
    )

pub add_is : AddIs
unfolding add_number add_table
add_is q rows r f =
    let b = pair-back q f in
    let n = of_pair q f in (
      sym (second _ 34 _ n) ∙ ap (λ x. status_number (add_status x rows r)) b.0,
      sym (second _ _ _ n) ∙ ap (λ x. add_regions x rows r) b.0,
    )

pub remove-is : RemoveIs
unfolding remove_number remove_table
remove-is w rows key h = (sym (second _ 34 _ (many w h)), sym (second _ _ _ (many w h)))

pub length-refused : LengthRefused
unfolding inbound_returned next_number set_up_number reset_number ready_number add_number remove_number post_number
length-refused l m out rows s r key e n =
    let f = few l.words n in (
      ap (λ y. y.number) (sym (first _ (refused_with 34 l) (returning (words_left l) (inbound_of l)) f)),
      sym (first _ 34 _ f),
      sym (first _ 34 _ f),
      sym (first _ 34 _ f),
      sym (first _ 34 _ f),
      sym (first _ 34 _ f),
      sym (first _ 34 _ f),
      sym (first _ 34 _ f),
    )

-- words out of range say a pair that is not sound, by its set-up numbers
stray : (w : List ℕ) → (InRange w → ⊥) → strays w ≡ true
stray w n = go (strays w) refl
  where
    go : (b : Bool) → strays w ≡ b → strays w ≡ true
    go true e = e
    go false e = absurd (n ((ranges-tested w).0 e))

unsound : (w : List ℕ) → length w ≡ 30 → (InRange w → ⊥) → pair_unsound (pair_of w) ≡ true
unsound w h n = stray-tested w h (stray w n)

pub words-refused : WordsRefused
unfolding inbound_returned inbound left_by no_reply status_number
words-refused l h n =
    let a = arrival_with l (pair_of l.words) in
    let y = ap (λ y. y.number) (sym (second _ (refused_with 34 l) (returning (words_left l) (inbound_of l)) (many l.words h))) in (
      λ o. y ∙ ap (λ d. status_number d.status) (refused-unsound a (le-ltb (length l.out) 24 o) (unsound l.words h n)),
      λ o. y ∙ ap (λ d. status_number d.status) (refused-short a (lt-ltb (length l.out) 24 o)),
    )

-- the numbers that words say, in range or not
said-pair : (w : List ℕ) → length w ≡ 30 → pair_of w ≡ narrowed (strays w) w
unfolding pair_of said_by
said-pair w h = ap (λ n. cond (ltb n 30) blank_pair (narrowed (strays w) w)) h

pub others-refused : OthersRefused
unfolding next_number next_response reset_number ready_number add_number post_number setup_said read_of
others-refused w m out rows r e h n =
    let q = pair_of w in
    let l = many w h in
    let s : Sound q → ⊥ = stray-unsound w h n in
    let f = said-pair w h in
    let left = ap (λ x. x.read.remaining) f in
    let room = ap (λ x. 16 + x.setup.pmtu) f in
    let state = ap (λ x. x.state) f in (
      λ a. sym (second _ 34 _ l) ∙ (next-none q m out (left ∙ a)).number,
      λ a b. sym (second _ 34 _ l) ∙ (next-short q m out (λ z. a (sym left ∙ z)) (subst (λ x. length out < x) (sym room) b)).number,
      λ a b. sym (second _ 34 _ l) ∙ (next-range q m out (λ z. a (sym left ∙ z)) (subst (λ x. x ≤ length out) (sym room) b) (inr s)).number,
      sym (second _ 34 _ l) ∙ (reset-never q rows (stray-setup w h (stray w n))).0.0,
      λ a. sym (second _ 34 _ l) ∙ (ready-wrong q (λ z. a (sym state ∙ z))).0,
      λ a. sym (second _ 34 _ l) ∙ (ready-unsound q (state ∙ a) s).0,
      λ a. (sym (second _ 34 _ l) ∙ (add-error q rows r (state ∙ a)).0, sym (second _ 34 _ l) ∙ (post-error q rows e (state ∙ a)).0.0),
      λ a.
          let k : q.state ≡ 2 → ⊥ = λ z. a (sym state ∙ z) in
          (sym (second _ 34 _ l) ∙ (add-range q rows r k (inl s)).0, sym (second _ 34 _ l) ∙ (post-range q rows e k (inl s)).0.0),
    )

pub one-order : OneOrder
unfolding inbound_returned next_number reset_number ready_number add_number remove_number post_number
one-order l m out rows r key e h =
    let n = many l.words h in (
      ap (λ y. y.number) (sym (second _ (refused_with 34 l) (returning (words_left l) (inbound_of l)) n)),
      sym (second _ 34 _ n),
      sym (second _ 34 _ n),
      sym (second _ 34 _ n),
      sym (second _ 34 _ n),
      sym (second _ 34 _ n),
      sym (second _ 34 _ n),
    )

pub reset-allowed : ResetAllowed
unfolding reset_number reset_words reset_table
reset-allowed w rows h =
    let q = pair_of w in
    let l = many w h in (
      λ s. (
        sym (second _ 34 _ l) ∙ (reset-done q rows s).0,
        sym (second _ _ _ (set-up-words w h s)) ∙ ap pair_words (reset-pair q s),
        sym (second _ _ _ l) ∙ reset-regions q rows s,
      ),
      λ n. sym (second _ 34 _ l) ∙ (reset-never q rows n).0.0,
      λ n. stray-setup w h (stray w n),
    )

pub report-says : ReportSays
unfolding report_words
report-says n c = record {
  outgoing = refl;
  completes = λ e. ap (λ b. cond b 1 0) e;
  nothing = λ e. ap (λ b. cond b 1 0) e;
  entry = refl;
  bytes = refl;
  immediate = λ e. ap (λ b. cond b 1 0) e;
  none = λ e. ap (λ b. cond b 1 0) e;
  value = refl;
}

pub kinds-are : KindsAre
unfolding request_of
kinds-are address key length swap compare immediate = (refl, refl, refl, refl, refl, refl, refl)

pub cut-reports : CutReports
unfolding cut_report
cut-reports n psn = (refl, λ k z. rw (ne_eqb k 0 z))
