use Rattle.std.proofs.Common.{◌≡◌, ℕ, Bool, List, take, get_or, sym, ap, ◌∙◌, cond, le-ltb, ltb, true, ltb-true}
use Rattle.pair.specs.Pair.{blank_pair}
use Rattle.std.proofs.lemmas.List.{get_or-take}
use Rattle.abi_spec.specs.Words.{flag}
use Rattle.abi_spec.specs.Pair.{said_by, setup_said, message_of, read_of, narrowed}
use Rattle.abi.proofs.pair_said.Goals as goal

-- a word of the first ones; the bound is a test that computes
at : (w : List ℕ) (i : ℕ) → ltb i 30 ≡ true → get_or (take 30 w) i 0 ≡ get_or w i 0
at w i h = get_or-take 30 w i 0 (ltb-true i 30 h)

-- the pair of the first words
front : (stray : Bool) (w : List ℕ) → narrowed stray (take 30 w) ≡ narrowed stray w
unfolding setup_said message_of read_of
front stray w = simp (at w)

pub returns : goal.returns
unfolding said_by flag
returns c =
    let A = c.args in
    let s = c.in-Some.ensures.cases in
    let read : _ ≡ narrowed A.stray c.in-Some.w.now = cc in
    read ∙ ap (λ w. narrowed A.stray w) s.same ∙ front A.stray A.w.now
    ∙ ap (λ t. cond t blank_pair (narrowed A.stray A.w.now)) (sym (le-ltb _ _ s.enough))
