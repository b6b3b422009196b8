-- A cut by numbers.
use Rattle.std.specs.Prelude.{ℕ, cond, List, [], ◌∷◌, Result, Ok, Err, eqb, ltb, length}
use Rattle.sequence.specs.declared.Psn.{Psn}
use Rattle.header.specs.Refusal as Refusal
use Rattle.header.specs.Write.{answer_number, done_bytes}
use Rattle.header.specs.declared.Refusal.{Refusal}
use Rattle.cut_spec.specs.declared.Connection.{Connection}
use Rattle.cut_spec.specs.declared.Request.{Request}
use Rattle.cut_spec.specs.declared.Request.TheVariants.{Send, SendImmediate, Write, WriteImmediate, Read, CmpSwap, FetchAdd}
use Rattle.cut_spec.specs.Cut.{cut_written, cut_out}
use Rattle.cut_spec.specs.Next.{next_answer}
use Rattle.udalopek_spec.specs.RequestKind as RequestKind

-- the request of a kind, from the numbers that it has
unfoldable pub request_of : ℕ → ℕ → ℕ → ℕ → ℕ → ℕ → ℕ → Request
request_of kind address key length swap compare immediate =
    cond (eqb kind RequestKind.send) Send
    (cond (eqb kind RequestKind.send_immediate) (SendImmediate immediate)
    (cond (eqb kind RequestKind.write) (Write (record { address = address; key = key }))
    (cond (eqb kind RequestKind.write_immediate) (WriteImmediate (record { address = address; key = key }) immediate)
    (cond (eqb kind RequestKind.read) (Read (record { address = address; key = key; length = length }))
    (cond (eqb kind RequestKind.cmp_swap) (CmpSwap (record { address = address; key = key; swap = swap; compare = compare }))
    (FetchAdd (record { address = address; key = key }) swap))))))

unfoldable pub following_psn : Result Psn Refusal → ℕ
following_psn (Ok psn) = psn.0
following_psn (Err refusal) = 0

-- the report: the bytes written, and the PSN of the message after this one; of a refused cut nothing
unfoldable pub cut_report : ℕ → ℕ → ℕ → List ℕ
cut_report number n psn = cond (eqb number 0) (n ∷ psn ∷ []) (0 ∷ 0 ∷ [])

-- a kind past the last is a bad number
module _ (kind : ℕ) (c : Connection) (r : Request) (d : List ℕ) (first : Psn) (i : ℕ) (out : List ℕ) where
  unfoldable pub cut_number : ℕ
  cut_number = cond (ltb RequestKind.fetch_add kind) Refusal.bad_number (answer_number (cut_written c r d first i (length out)))

  unfoldable pub cut_output : List ℕ
  cut_output = cond (ltb RequestKind.fetch_add kind) out (cut_out c r d first i out)

  unfoldable pub cut_words : List ℕ
  cut_words =
      cond (ltb RequestKind.fetch_add kind) (0 ∷ 0 ∷ [])
      (cut_report (answer_number (cut_written c r d first i (length out))) (done_bytes (cut_written c r d first i (length out)))
      (following_psn (next_answer r (length d) c.pmtu first)))
