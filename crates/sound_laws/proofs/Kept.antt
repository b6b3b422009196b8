-- The responder's calls keep a sound pair sound.
use Prim.Native.Nat.{ℕ, ◌+◌, ◌^◌, ◌<◌}
use mathlib.Core.Path.{◌≡◌, refl, sym, subst}
use mathlib.Core.Bool.{Bool, true, false, cond}
use mathlib.Core.List.{List}
use mathlib.Core.Logic.{inl, inr}
use native.Mathlib.Omega.{arith}
use lib.ListN.{length}
use Rattle.header.specs.Bytes.{Bytes}
use Rattle.header.specs.Read.{bth_of}
use Rattle.memory.specs.Word.{word_at}
use Rattle.memory.proofs.Words.{word_below}
use Rattle.table.specs.View.{saved_ring, saved_rows}
use Rattle.table.specs.Claims.{SavedSound}
use Rattle.table.proofs.Rings.{saves-sound, posted-sound}
use Rattle.pair.specs.Answer.{executed}
use Rattle.pair.specs.Calls.{Whole, changed, called}
use Rattle.pair.specs.Claims.{ReadSound, WholeSound}
use Rattle.pair.proofs.Kept.{one-more-sound, post-cases, held_kept}
use Rattle.responder_spec.specs.Inbound.{inbound, left_by}
use Rattle.responder_spec.specs.declared.Decision.{Decision}
use Rattle.responder_spec.specs.Apply.{acts_atomic, saved_by, saved_ring_by, pair_by}
use Rattle.responder_spec.specs.Response.{next_status, one_fewer, next_response}
use Rattle.responder_spec.specs.Calls.{drained}
use Rattle.responder_spec.specs.Steady.{Steady, InboundSteady, NextSteady, PostSteady}
use Rattle.sound_laws.specs.Kept.{InboundSound, NextSound}
use Rattle.sound_laws.proofs.Leads.{Leads, Answering, Lasting, either, with-steady}
use Rattle.sound_laws.proofs.Decisions.{decided-leads}

pub inbound-steady : InboundSteady
unfolding inbound left_by
inbound-steady a n W =
    let L = (decided-leads a.whole W a.memory a.packet a.out n).steady in
    record { pair = L.pair; regions = L.regions; entries = L.entries; held = L.held }

-- one response fewer
fewer : (w : Whole) → Steady w → Answering w.pair (one_fewer w.pair.read)
fewer w W = go W.pair.read
  where
    go : ReadSound w.pair → Answering w.pair (one_fewer w.pair.read)
    go (inl e) = inl (omega arith)
    go (inr (a, b, c, d)) = inr (omega arith, b, c, d)

drained-lasting : (w : Whole) (m out : List ℕ) → Steady w → Lasting w (next_response w.pair m out).pair
unfolding next_response
drained-lasting w m out W =
    either w (executed (next_status w.pair (length m) (length out))) _ _
    (record { steady = with-steady w w.pair.state w.pair.nakmark (one_fewer w.pair.read) W W.pair.state (fewer w W); saved = refl })
    (record { steady = W; saved = refl })

pub next-steady : NextSteady
unfolding drained
next-steady w m out W = (drained-lasting w m out W).steady

-- with the saved atomics
pub steady : (w : Whole) → WholeSound w → Steady w
steady w W = record { pair = W.pair; regions = W.regions; entries = W.entries; held = W.held }

pub next-sound : NextSound
unfolding drained
next-sound w m out W =
    let L = drained-lasting w m out (steady w W) in
    let S = L.steady in
    record { pair = S.pair; regions = S.regions; entries = S.entries; saved = subst (SavedSound w.saved) (sym L.saved) W.saved; held = S.held }

pub psn-below : (p : List ℕ) → Bytes p → (bth_of p).psn.0 < 2 ^ 24
unfolding bth_of
psn-below p B = omega (arith, B 9, B (9 + 1), B (9 + 1 + 1))

-- what is saved after a decision: as before, or one atomic more, of a PSN of 24 bits and a word of memory
saved-sound : (w : Whole) (d : Decision) (m : List ℕ) → Bytes m → WholeSound w → Leads w d
    → SavedSound (saved_by w.pair.saved d.change d.reply.psn w.saved m) (pair_by w.pair d).saved
unfolding saved_by saved_ring_by
saved-sound w d m B W L =
    subst (SavedSound (saved_by w.pair.saved d.change d.reply.psn w.saved m)) (sym L.saved) (go (acts_atomic d.change.act) refl)
  where
    go : (b : Bool) → acts_atomic d.change.act ≡ b
        → SavedSound (cond b (saved_rows w.saved w.pair.saved d.reply.psn.0 (word_at m d.change.at)) w.saved) (cond b (saved_ring w.pair.saved) w.pair.saved)
    go true e =
        let r = W.pair.saved in
        (saves-sound w.saved w.pair.saved d.reply.psn.0 (word_at m d.change.at) W.saved r.0 r.1 (L.psn e) (word_below m d.change.at B)).0
    go false e = W.saved

pub inbound-sound : InboundSound
unfolding inbound left_by
inbound-sound a B P W =
    let L = decided-leads a.whole (steady a.whole W) a.memory a.packet a.out (psn-below a.packet P) in
    let S = L.steady in
    record { pair = S.pair; regions = S.regions; entries = S.entries; saved = saved-sound a.whole _ a.memory B W L; held = S.held }

-- post entry keeps all but the saved atomics too
pub post-steady : PostSteady
unfolding called
post-steady w e W =
    post-cases w.pair w.entries e (λ q rows. Steady (changed w q w.regions rows)) W.pair W
    (λ f n.
    record {
      pair = one-more-sound w.pair W.pair n;
      regions = W.regions;
      entries = posted-sound w.pair.setup.memory w.entries w.pair.entries e W.entries n f;
      held = λ k. held_kept w.pair w.entries e W.pair n k (W.held k);
    })
