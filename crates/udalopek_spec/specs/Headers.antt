-- Headers read and written, as words.
use Rattle.std.specs.Prelude.{ℕ, Bool, false, cond, List, [], ◌∷◌, length, Result, Ok, Err}
use Rattle.header.specs.declared.Header.{Header}
use Rattle.header.specs.declared.Reason.{Reason}
use Rattle.header.specs.Refusal as Refusal
use Rattle.header.specs.Read.{read_header, read_number, read_check}
use Rattle.header.specs.Write.{written, written_out, answer_number, done_bytes}
use Rattle.abi_spec.specs.Words.{eq_words}
use Rattle.abi_spec.specs.Fields.{bth_from, bth_words, extension_from, extension_words}

-- the words of what was read, or those that were there
unfoldable pub reported_bth : Result Header Reason → List ℕ → List ℕ
reported_bth (Ok h) old = bth_words h.bth
reported_bth (Err why) old = old

unfoldable pub reported_extension : Result Header Reason → List ℕ → List ℕ
reported_extension (Ok h) old = extension_words h.extension
reported_extension (Err why) old = old

-- the answer's number, and the check that failed beside it, or 0
unfoldable pub read_header_number : List ℕ → ℕ
read_header_number p = read_number (read_header p)

unfoldable pub read_report : List ℕ → List ℕ
read_report p = read_check (read_header p) ∷ []

unfoldable pub read_bth : List ℕ → List ℕ → List ℕ
read_bth p old = reported_bth (read_header p) old

unfoldable pub read_extension : List ℕ → List ℕ → List ℕ
read_extension p old = reported_extension (read_header p) old

-- words are those of the header that they say: each fits its field, and a field that the headers lack is 0
unfoldable pub own_words : List ℕ → List ℕ → Bool
own_words b e = cond (eq_words b (bth_words (bth_from b))) (eq_words e (extension_words (extension_from e))) false

abbrev pub header_from : List ℕ → List ℕ → Header
header_from b e = record { bth = bth_from b; extension = extension_from e }

-- other words are a bad number
unfoldable pub write_number : List ℕ → List ℕ → List ℕ → ℕ
write_number b e out = cond (own_words b e) (answer_number (written (header_from b e) (length out))) Refusal.bad_number

unfoldable pub write_output : List ℕ → List ℕ → List ℕ → List ℕ
write_output b e out = cond (own_words b e) (written_out (header_from b e) out) out

unfoldable pub write_report : List ℕ → List ℕ → List ℕ → List ℕ
write_report b e out = cond (own_words b e) (done_bytes (written (header_from b e) (length out)) ∷ []) (0 ∷ [])
