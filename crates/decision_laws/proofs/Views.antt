-- A packet of the unreliable connection meets the message that it leaves open: the laws of the reliable one serve
-- there.
use Prim.Native.Nat.{ℕ, ◌+◌, ◌%◌, ◌^◌, ◌≤◌, ◌<◌}
use mathlib.Core.Path.{◌≡◌, refl, sym, ap, subst}
use mathlib.Core.Bool.{Bool, true, false, cond, not, ◌&&◌, ◌||◌, true≢false}
use mathlib.Core.List.{List}
use mathlib.Core.Logic.{inl}
use native.Mathlib.Omega.{arith}
use lib.Dec.{eqb}
use borrow.Author.Tests.{eqb-false}
use Rattle.lemmas.proofs.Tests.{or_right}
use Rattle.sequence.specs.Sequence.{distance, psn_after}
use Rattle.sequence.specs.declared.Psn.{Psn}
use Rattle.sequence.proofs.Circle.{after-distance}
use Rattle.opcode.specs.Place.{starts}
use Rattle.table.specs.Table.{entry_capacity, saved_capacity}
use Rattle.pair.specs.Pair.{no_message}
use Rattle.pair.specs.Claims.{Sound, SetupSound, MessageSound, ReadSound}
use Rattle.pair.specs.declared.Setup.{Setup}
use Rattle.pair.specs.declared.OpenMessage.{OpenMessage}
use Rattle.pair.specs.declared.Pair.{Pair}
use Rattle.pair.specs.declared.Status.TheVariants as status
use Rattle.request_spec.specs.Verdict.{out_of_sequence, current, request_check, expected_check}
use Rattle.request_spec.specs.declared.Packet.{Packet}
use Rattle.responder_spec.specs.declared.Decision.{Decision}
use Rattle.responder_spec.specs.Decide.{no_reply, orphaned, strays, closed_by, uc_checked_decision, uc_decision}
use Rattle.responder_spec.specs.Apply.{closing}

-- a First or Only closes the open message, a Middle or Last leaves it open
pub closed-starts : (place : ℕ) (opened : OpenMessage) → starts place ≡ true → closed_by place opened ≡ no_message
unfolding closed_by
closed-starts place opened e = λ i. cond (e i) no_message opened

pub closed-onward : (place : ℕ) (opened : OpenMessage) → starts place ≡ false → closed_by place opened ≡ opened
unfolding closed_by
closed-onward place opened e = λ i. cond (e i) no_message opened

-- a close leaves all but the message as it was
pub closes : (q : Pair)
    → closing q
    ≡ (record {
      setup = q.setup;
      state = q.state;
      expected = q.expected;
      msn = q.msn;
      nakmark = q.nakmark;
      message = no_message;
      entries = q.entries;
      read = q.read;
      saved = q.saved;
    })
closes q = refl

-- none open, then astray, then checked
module _ (p : Packet) (s : Setup) (expected : Psn) (opened : OpenMessage) (count : ℕ) (entry region : List ℕ) where
  abbrev D : Decision
  D = uc_decision p s expected opened count entry region

  abbrev checked : Decision
  checked = uc_checked_decision (request_check s (closed_by p.place opened) p count entry region) p expected opened entry region

  pub orphan-dropped : orphaned p.place opened.kind ≡ true → D ≡ no_reply status.Dropped
  unfolding uc_decision
  orphan-dropped o = rw o refl

  pub stray-abandoned : orphaned p.place opened.kind ≡ false → strays p expected opened.kind ≡ true → D ≡ no_reply status.Abandoned
  unfolding uc_decision
  stray-abandoned o t = rw (o, t) refl

  pub others-checked : orphaned p.place opened.kind ≡ false → strays p expected opened.kind ≡ false → D ≡ checked
  unfolding uc_decision
  others-checked o t = rw (o, t) refl

-- the pair as a packet of this place finds it
abbrev pub viewed : ℕ → Pair → Pair
viewed place q =
    record {
      setup = q.setup;
      state = q.state;
      expected = q.expected;
      msn = q.msn;
      nakmark = q.nakmark;
      message = closed_by place q.message;
      entries = q.entries;
      read = q.read;
      saved = q.saved;
    }

pub closed-message : (place : ℕ) (q : Pair) → MessageSound q → MessageSound (viewed place q)
unfolding closed_by
closed-message place q M = go (starts place)
  where
    go : (b : Bool)
        → MessageSound
        (record {
          setup = q.setup;
          state = q.state;
          expected = q.expected;
          msn = q.msn;
          nakmark = q.nakmark;
          message = cond b no_message q.message;
          entries = q.entries;
          read = q.read;
          saved = q.saved;
        })
    go true = inl refl
    go false = M

-- with another message and another read answer a pair stays sound, if these two are
pub sound-with : (q r : Pair) → Sound q → r.setup ≡ q.setup → r.state ≡ q.state → r.expected ≡ q.expected → r.msn ≡ q.msn
    → r.entries ≡ q.entries
    → r.saved ≡ q.saved
    → MessageSound r
    → ReadSound r
    → Sound r
sound-with q r S a b c d e f m n =
    record {
      setup = subst SetupSound (sym a) S.setup;
      state = subst (λ x. x ≤ 2) (sym b) S.state;
      expected = subst (λ x. x.0 < 2 ^ 24) (sym c) S.expected;
      msn = subst (λ x. x.0 < 2 ^ 24) (sym d) S.msn;
      entries = subst (λ x. (x.head < entry_capacity) × (x.count ≤ entry_capacity)) (sym e) S.entries;
      saved = subst (λ x. (x.head < saved_capacity) × (x.count ≤ saved_capacity)) (sym f) S.saved;
      message = m;
      read = n;
    }

pub viewed-sound : (place : ℕ) (q : Pair) → Sound q → Sound (viewed place q)
viewed-sound place q S = sound-with q (viewed place q) S refl refl refl refl refl refl (closed-message place q S.message) S.read

-- it is of the same message
pub current-closed : (opened : OpenMessage) (p : Packet) → current (closed_by p.place opened) p ≡ current opened p
unfolding current closed_by
current-closed opened p = go (starts p.place)
  where
    go : (b : Bool)
        → cond b (record { kind = p.kind; stored = 0; address = p.operands.address; key = p.operands.key; length = p.operands.length })
        (cond b no_message opened)
        ≡ cond b (record { kind = p.kind; stored = 0; address = p.operands.address; key = p.operands.key; length = p.operands.length }) opened
    go true = refl
    go false = refl

-- and in sequence, if it is neither orphaned nor astray
pub in-sequence : (opened : OpenMessage) (p : Packet) (expected : Psn) → strays p expected opened.kind ≡ false
    → out_of_sequence (closed_by p.place opened).kind p.kind p.place ≡ false
unfolding out_of_sequence closed_by strays
in-sequence opened p expected h = go (starts p.place) h
  where
    go : (b : Bool) → (not b && (not (eqb (distance p.psn.0 expected.0) 0) || not (eqb opened.kind p.kind))) ≡ false
        → cond b (not (eqb (cond b no_message opened).kind 255)) (not (eqb (cond b no_message opened).kind p.kind)) ≡ false
    go true e = refl
    go false e = or_right (not (eqb (distance p.psn.0 expected.0) 0)) _ e

pub same_code : (s : Setup) (opened : OpenMessage) (p : Packet) (expected : Psn) (count : ℕ) (entry region : List ℕ)
    → strays p expected opened.kind ≡ false
    → expected_check s (closed_by p.place opened) p count entry region ≡ request_check s (closed_by p.place opened) p count entry region
unfolding expected_check
same_code s opened p expected count entry region h =
    ap (λ b. cond b 1 (request_check s (closed_by p.place opened) p count entry region)) (in-sequence opened p expected h)

-- what strays finds a message open
pub stray-open : (p : Packet) (expected : Psn) (opened : ℕ) → orphaned p.place opened ≡ false → strays p expected opened ≡ true
    → opened ≡ 255 → ⊥
unfolding orphaned strays
stray-open p expected opened o s = go (starts p.place) o s
  where
    go : (b : Bool) → (not b && eqb opened 255) ≡ false
        → (not b && (not (eqb (distance p.psn.0 expected.0) 0) || not (eqb opened p.kind))) ≡ true
        → opened ≡ 255 → ⊥
    go true x y = absurd (true≢false (sym y))
    go false x y = eqb-false opened 255 x

-- all numbers up to a packet's own taken, the next is its number plus 1
pub number-taken : (psn expected : Psn) → psn_after expected (1 + distance psn.0 expected.0) ≡ psn_after psn 1
number-taken psn expected =
    let r = after-distance psn expected in
    let e : (expected.0 + (1 + distance psn.0 expected.0)) % 16777216 ≡ (psn.0 + 1) % 16777216 = omega (arith, r) in
    λ i. record { 0 = e i }
