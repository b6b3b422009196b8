-- The next response step by step: from what each function answered to what the definitions say.
use Prim.Native.Nat.{ℕ, ◌+◌, ◌≤◌, ◌<◌}
use mathlib.Core.Path.{◌≡◌, refl, sym, ap, ◌∙◌}
use mathlib.Core.Bool.{Bool, true, false, cond, not, true≢false}
use mathlib.Core.List.{List}
use native.Mathlib.Omega.{arith}
use lib.Dec.{eqb, ltb}
use lib.ListN.{length}
use Rattle.std.specs.Prelude.{Err}
use borrow.Author.Tests.{le-ltb, eqb-true, eqb-false, ltb-false}
use Rattle.pmtu.proofs.Counting.{pmtus}
use Rattle.pair.specs.Answer.{status_number, executed}
use Rattle.pair.specs.Sound.{pair_unsound}
use Rattle.pair.specs.Claims.{Sound}
use Rattle.pair.specs.declared.Pair.{Pair}
use Rattle.pair.specs.declared.Status.{Status}
use Rattle.pair.specs.declared.Status.TheVariants as status
use Rattle.pair.proofs.Tests.{tested}
use Rattle.pair.proofs.Known.{one_number}
use Rattle.responder_spec.specs.declared.Outcome.{Outcome}
use Rattle.responder_spec.specs.Decide.{no_completion, unless_executed}
use Rattle.responder_spec.specs.Apply.{with}
use Rattle.responder_spec.specs.declared.Reply.{Reply}
use Rattle.responder_spec.specs.Reply.{read_reply, reply_bytes, over}
use Rattle.responder_spec.specs.Response.{next_status, one_fewer, next_bytes, next_response, next_out}
use Rattle.response_laws.proofs.Responses.{live}
use Rattle.acknowledge.specs.Sendable.{unsendable_response, unsendable}
use Rattle.responder.specs.Unchanged.{unchanged, responded}
use Rattle.responder.proofs.Steps.{going_on, is_refused, goes_on}

abbrev pub Leaves : Pair → List ℕ → List ℕ → Outcome → List ℕ → Type 0
Leaves q m out o out' = (o ≡ next_response q m out) × (out' ≡ next_out q m out)

module _ (q : Pair) (m out : List ℕ) where
  abbrev answer : Status
  answer = next_status q (length m) (length out)

  pub refused : (t : Status) → Err t ≡ unless_executed answer → (o : Outcome) → o ≡ unchanged t q → Leaves q m out o out
  unfolding next_response next_out
  refused t is o a =
      let R = is_refused answer t is in
      rw R.0 (a ∙ ap (λ s. unchanged s q) R.1, refl)

  -- what holds where nothing is refused
  module _ (none : going_on ≡ unless_executed answer) where
    record Willing : Type 0 where
      some : 0 < q.read.remaining
      room : 16 + q.setup.pmtu ≤ length out
      memory : length m ≡ q.setup.memory
      sound : Sound q

    taken : eqb (status_number answer) 0 ≡ true
    unfolding executed
    taken = goes_on answer none

    willing : Willing
    unfolding next_status status_number
    willing = go (eqb q.read.remaining 0) (ltb (length out) (16 + q.setup.pmtu)) (eqb (length m) q.setup.memory) (pair_unsound q) refl refl refl refl taken
      where
        go : (a b c d : Bool) → eqb q.read.remaining 0 ≡ a → ltb (length out) (16 + q.setup.pmtu) ≡ b → eqb (length m) q.setup.memory ≡ c → pair_unsound q ≡ d
            → eqb (status_number (cond a status.WrongState (cond b status.OutputShort (cond (not c) status.OutOfRange (cond d status.OutOfRange status.Executed))))) 0 ≡ true
            → Willing
        go true b c d w x y z e = absurd (true≢false (sym e))
        go false true c d w x y z e = absurd (true≢false (sym e))
        go false false false d w x y z e = absurd (true≢false (sym e))
        go false false true true w x y z e = absurd (true≢false (sym e))
        go false false true false w x y z e =
            let r : q.read.remaining ≡ 0 → ⊥ = eqb-false q.read.remaining 0 w in
            record {
              some = omega arith;
              room = ltb-false (length out) (16 + q.setup.pmtu) x;
              memory = eqb-true (length m) q.setup.memory y;
              sound = (tested q).0 z;
            }

    -- so the response can be sent
    sendable : unsendable q.setup (read_reply q.read) (length m) (length out) ≡ false
    unfolding unsendable unsendable_response
    sendable =
        let W = willing in
        let within : q.read.offset + q.read.length ≤ length m = omega (arith, W.memory, (live q W.sound W.some).within) in
        rw (
          (pmtus q.setup.pmtu).1 W.sound.setup.0.pmtu,
          le-ltb (length out) (16 + q.setup.pmtu) W.room,
          le-ltb (length m) (q.read.offset + q.read.length) within,
        )

    executes : status.Executed ≡ answer
    unfolding status_number
    executes = one_number status.Executed answer (sym (eqb-true (status_number answer) 0 taken))

    pub outgoing : (r : Reply) → r ≡ read_reply q.read
        → (size : ℕ) → size ≡ cond (unsendable q.setup r (length m) (length out)) 0 (length (reply_bytes q.setup r m))
        → (out' : List ℕ) → out' ≡ cond (unsendable q.setup r (length m) (length out)) out (over (reply_bytes q.setup r m) out)
        → (next : Pair) → next ≡ with q q.state q.nakmark (one_fewer q.read)
        → (o : Outcome) → o ≡ responded next size → Leaves q m out o out'
    unfolding next_bytes next_response next_out executed
    outgoing r reply size count out' output next one o outcome_with =
        let is-size : size ≡ length (reply_bytes q.setup (read_reply q.read) m) =
        count
        ∙ (ap (λ x. cond (unsendable q.setup x (length m) (length out)) 0 (length (reply_bytes q.setup x m))) reply
        ∙ ap (λ b. cond b 0 (length (reply_bytes q.setup (read_reply q.read) m))) sendable) in
        let is-out : out' ≡ over (reply_bytes q.setup (read_reply q.read) m) out =
        output
        ∙ (ap (λ x. cond (unsendable q.setup x (length m) (length out)) out (over (reply_bytes q.setup x m) out)) reply
        ∙ ap (λ b. cond b out (over (reply_bytes q.setup (read_reply q.read) m) out)) sendable) in
        rw taken (
          outcome_with ∙ (λ z. record { status = executes z; pair = one z; completion = no_completion; outgoing = is-size z }),
          is-out,
        )
