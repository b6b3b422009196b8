-- The calls of a host on lent words: another number of words than a pair has is refused; else they are those of the pair
-- that the words say, and words out of range, which say no sound pair, stay.
use Rattle.std.specs.Prelude.{ℕ, cond, List}
use Rattle.header.specs.Refusal as Refusal
use Rattle.table.specs.declared.Region.{Region}
use Rattle.table.specs.declared.Entry.{Entry}
use Rattle.pair.specs.declared.Setup.{Setup}
use Rattle.pair.specs.Answer.{status_number, executed}
use Rattle.pair.specs.Host.{set_up, set_up_regions, reset_to, reset_regions, made_ready, add_status, add_regions, remove_status, remove_regions, posted, post_entries}
use Rattle.abi_spec.specs.Pair.{other_length, strays, pair_of, pair_words}

-- what the words are does not matter to a set-up
unfoldable pub set_up_number : List ℕ → Setup → ℕ
set_up_number w s = cond (other_length w) Refusal.out_of_range (status_number (set_up s).status)

unfoldable pub set_up_words : List ℕ → Setup → List ℕ
set_up_words w s = cond (other_length w) w (cond (executed (set_up s).status) (pair_words (set_up s).pair) w)

unfoldable pub set_up_table : List ℕ → List (List ℕ) → Setup → List (List ℕ)
set_up_table w rows s = cond (other_length w) rows (set_up_regions s rows)

unfoldable pub reset_number : List ℕ → ℕ
reset_number w = cond (other_length w) Refusal.out_of_range (status_number (reset_to (pair_of w)).status)

unfoldable pub reset_words : List ℕ → List ℕ
reset_words w = cond (strays w) w (pair_words (reset_to (pair_of w)).pair)

unfoldable pub reset_table : List ℕ → List (List ℕ) → List (List ℕ)
reset_table w rows = cond (other_length w) rows (reset_regions (pair_of w) rows)

unfoldable pub ready_number : List ℕ → ℕ
ready_number w = cond (other_length w) Refusal.out_of_range (status_number (made_ready (pair_of w)).status)

unfoldable pub ready_words : List ℕ → List ℕ
ready_words w = cond (strays w) w (pair_words (made_ready (pair_of w)).pair)

unfoldable pub add_number : List ℕ → List (List ℕ) → Region → ℕ
add_number w rows r = cond (other_length w) Refusal.out_of_range (status_number (add_status (pair_of w) rows r))

unfoldable pub add_table : List ℕ → List (List ℕ) → Region → List (List ℕ)
add_table w rows r = cond (other_length w) rows (add_regions (pair_of w) rows r)

-- remove region neither reads nor writes the pair
unfoldable pub remove_number : List ℕ → List (List ℕ) → ℕ → ℕ
remove_number w rows key = cond (other_length w) Refusal.out_of_range (status_number (remove_status rows key))

unfoldable pub remove_table : List ℕ → List (List ℕ) → ℕ → List (List ℕ)
remove_table w rows key = cond (other_length w) rows (remove_regions rows key)

unfoldable pub post_number : List ℕ → Entry → ℕ
post_number w e = cond (other_length w) Refusal.out_of_range (status_number (posted (pair_of w) e).status)

unfoldable pub post_words : List ℕ → Entry → List ℕ
post_words w e = cond (strays w) w (pair_words (posted (pair_of w) e).pair)

unfoldable pub post_table : List ℕ → List (List ℕ) → Entry → List (List ℕ)
post_table w rows e = cond (other_length w) rows (post_entries (pair_of w) rows e)
