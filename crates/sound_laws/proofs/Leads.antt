-- What a decision must satisfy so that the pair it leads to is steady.
use Prim.Native.Nat.{ℕ, ◌+◌, ◌^◌, ◌≤◌, ◌<◌}
use mathlib.Core.Path.{◌≡◌, refl, sym, ap, subst}
use mathlib.Core.Bool.{Bool, true, false, cond, ◌||◌, true≢false}
use mathlib.Core.List.{List, []}
use mathlib.Core.Logic.{◌⊎◌, inl, inr}
use native.Mathlib.Omega.{arith}
use lib.Dec.{eqb, leb}
use lib.ListN.{get_or}
use borrow.Author.Tests.{eqb-false}
use Rattle.sequence.specs.declared.Psn.{Psn}
use Rattle.sequence.specs.declared.Msn.{Msn}
use Rattle.sequence.proofs.Circle.{after-below}
use Rattle.pmtu.specs.Pieces.{pieces}
use Rattle.table.specs.Table.{entry_capacity, saved_capacity, entry_slot}
use Rattle.table.specs.View.{saved_ring}
use Rattle.table.specs.Claims.{EntriesSound, EntrySound}
use Rattle.table.proofs.Rings.{entry-slots, entry-ring, saved-ring}
use Rattle.table.specs.declared.Ring.{Ring}
use Rattle.pair.specs.Answer.{status_number}
use Rattle.pair.specs.Calls.{Whole, with_pair}
use Rattle.pair.specs.Claims.{MessageSound, ReadSound}
use Rattle.pair.specs.declared.OpenMessage.{OpenMessage}
use Rattle.pair.specs.declared.ReadAnswer.{ReadAnswer}
use Rattle.pair.specs.declared.Pair.{Pair}
use Rattle.pair.specs.declared.Status.{Status}
use Rattle.pair.specs.declared.Status.TheVariants as status
use Rattle.responder_spec.specs.declared.Decision.{Decision}
use Rattle.responder_spec.specs.Reply.{no_psn, sending, read_begun}
use Rattle.responder_spec.specs.Decide.{reply_only, no_reply, acknowledging, head_entry}
use Rattle.responder_spec.specs.Apply.{acts_atomic, saved_ring_by, ring_taken, entries_by, msn_by, read_answer_by, executed_pair, with, closing, pair_by_number, pair_by}
use Rattle.responder_spec.specs.Steady.{Steady}
use Rattle.decision_laws.proofs.Views.{closes, sound-with}

-- the pair is steady; a completion takes an entry that is there; an atomic and no other takes a row of those saved, and
-- its PSN has 24 bits
pub record Leads (w : Whole) (d : Decision) : Type 0 where
  pub steady : Steady (with_pair w (pair_by w.pair d))
  pub entry : d.progress.completion.some ≡ true → 1 ≤ w.pair.entries.count
  pub saved : (pair_by w.pair d).saved ≡ saved_ring_by w.pair.saved d.change.act
  pub psn : acts_atomic d.change.act ≡ true → d.reply.psn.0 < 2 ^ 24

pub branch : (w : Whole) (b : Bool) (x y : Decision) → (b ≡ true → Leads w x) → (b ≡ false → Leads w y) → Leads w (cond b x y)
branch w true x y f g = f refl
branch w false x y f g = g refl

-- a READ being answered, of a pair otherwise the same
abbrev pub Answering : Pair → ReadAnswer → Type 0
Answering q a =
    (a.remaining ≡ 0)
    ⊎ ((a.remaining ≤ pieces a.length q.setup.pmtu)
    × (a.offset + a.length ≤ q.setup.memory)
    × (a.psn.0 < 2 ^ 24)
    × (a.msn.0 < 2 ^ 24))

-- another state, NAK mark and READ
pub with-steady : (w : Whole) (state : ℕ) (nakmark : Bool) (a : ReadAnswer) → Steady w → state ≤ 2 → Answering w.pair a
    → Steady (with_pair w (with w.pair state nakmark a))
with-steady w state nakmark a W h r =
    let S = W.pair in
    record {
      pair =
          record {
            setup = S.setup;
            state = h;
            expected = S.expected;
            msn = S.msn;
            entries = S.entries;
            saved = S.saved;
            message = S.message;
            read = r;
          };
      regions = W.regions;
      entries = W.entries;
      held = W.held;
    }

-- no message open
pub closed-steady : (w : Whole) → Steady w → Steady (with_pair w (closing w.pair))
closed-steady w W =
    let S = W.pair in
    subst (λ q. Steady (with_pair w q)) (sym (closes w.pair))
    (record {
      pair = sound-with w.pair (closing w.pair) S refl refl refl refl refl refl (inl refl) S.read;
      regions = W.regions;
      entries = W.entries;
      held = λ e. absurd (omega arith);
    })

-- a steady pair that has saved no more
pub record Lasting (w : Whole) (q : Pair) : Type 0 where
  pub steady : Steady (with_pair w q)
  pub saved : q.saved ≡ w.pair.saved

pub either : (w : Whole) (b : Bool) (x y : Pair) → Lasting w x → Lasting w y → Lasting w (cond b x y)
either w true x y f g = f
either w false x y f g = g

-- Nothing executed
module _ (w : Whole) (W : Steady w) where
  lasts : (state : ℕ) (nakmark : Bool) → state ≤ 2 → Lasting w (with w.pair state nakmark w.pair.read)
  lasts state nakmark h = record { steady = with-steady w state nakmark w.pair.read W h W.pair.read; saved = refl }

  pub reply-only-leads : (s : Status) (kind : ℕ) (psn : Psn) (syndrome value : ℕ) → leb (status_number s) 3 ≡ false
      → Leads w (reply_only s (sending kind psn syndrome value))
  unfolding pair_by pair_by_number read_answer_by saved_ring_by acts_atomic
  reply-only-leads s kind psn syndrome value h =
      record { steady = L.steady; entry = λ e. absurd (true≢false (sym e)); saved = L.saved; psn = λ e. absurd (true≢false (sym e)) }
    where
      L : Lasting w (pair_by w.pair (reply_only s (sending kind psn syndrome value)))
      L =
          rw h
          (either w (eqb (status_number s) 4) _ _ (lasts w.pair.state _ W.pair.state)
          (either w (eqb (status_number s) 16 || eqb (status_number s) 19) _ _ (lasts w.pair.state _ W.pair.state)
          (either w (eqb (status_number s) 17 || eqb (status_number s) 18) _ _ (lasts 2 _ (omega arith))
          (either w (eqb (status_number s) 6) _ _ (record { steady = closed-steady w W; saved = refl }) (lasts w.pair.state _ W.pair.state)))))

  pub quiet-leads : (s : Status) → leb (status_number s) 3 ≡ false → Leads w (no_reply s)
  unfolding no_reply
  quiet-leads s h = reply-only-leads s 255 no_psn 0 0 h

  pub ack-leads : (s : Status) (psn : Psn) (syndrome : ℕ) → leb (status_number s) 3 ≡ false → Leads w (acknowledging s psn syndrome)
  unfolding acknowledging
  ack-leads s psn syndrome h = reply-only-leads s 17 psn syndrome 0 h

  -- a duplicate READ answered
  pub duplicate-read-leads : (at length responses : ℕ) (psn : Psn)
      → responses ≤ pieces length w.pair.setup.pmtu → at + length ≤ w.pair.setup.memory → psn.0 < 2 ^ 24
      → Leads w (reply_only status.DuplicateAnswered (read_begun at length responses psn))
  unfolding pair_by pair_by_number read_answer_by saved_ring_by acts_atomic status_number
  duplicate-read-leads at length responses psn a b c =
      record {
        steady = with-steady w w.pair.state _ _ W W.pair.state (go (eqb responses 0));
        entry = λ e. absurd (true≢false (sym e));
        saved = refl;
        psn = λ e. absurd (true≢false (sym e));
      }
    where
      go : (t : Bool)
          → Answering w.pair (cond t w.pair.read (record { remaining = responses; offset = at; length = length; psn = psn; msn = w.pair.msn }))
      go true = W.pair.read
      go false = inr (a, b, c, W.pair.msn)

-- Executed. The message that is then open: none; a SEND, with no completion made, which holds the entry at the head and
-- has stored no more than its length; a WRITE with bytes to come
abbrev pub Opens : Whole → Bool → OpenMessage → Type 0
Opens w some m =
    (m.kind ≡ 255)
    ⊎ (((m.kind ≡ 0) × (some ≡ false) × (1 ≤ w.pair.entries.count) × (m.stored ≤ 1048576) × (m.stored ≤ get_or (head_entry w.pair w.entries) 2 0))
    ⊎ ((m.kind ≡ 6) × (m.stored < m.length) × (m.length ≤ 1048576) × (m.address + m.stored < 2 ^ 64)))

pub record Does (w : Whole) (d : Decision) : Type 0 where
  pub number : leb (status_number d.status) 3 ≡ true
  pub entry : d.progress.completion.some ≡ true → 1 ≤ w.pair.entries.count
  pub message : Opens w d.progress.completion.some d.progress.message
  pub read : (d.reply.remaining ≡ 0)
      ⊎ ((d.reply.remaining ≤ pieces d.reply.length w.pair.setup.pmtu) × (d.reply.offset + d.reply.length ≤ w.pair.setup.memory) × (d.reply.psn.0 < 2 ^ 24))
  pub psn : acts_atomic d.change.act ≡ true → d.reply.psn.0 < 2 ^ 24

-- the rings stay within their tables, and the entries behind the one taken are as they were
saved-within : (r : Ring) (act : ℕ) → (r.head < saved_capacity) × (r.count ≤ saved_capacity)
    → ((saved_ring_by r act).head < saved_capacity) × ((saved_ring_by r act).count ≤ saved_capacity)
unfolding saved_ring_by saved_ring
saved-within r act (a, b) = go (acts_atomic act)
  where
    go : (t : Bool) → ((cond t (saved_ring r) r).head < saved_capacity) × ((cond t (saved_ring r) r).count ≤ saved_capacity)
    go true = saved-ring.overwrites-within r a b
    go false = (a, b)

entries-within : (r : Ring) (t : Bool) → (r.head < entry_capacity) × (r.count ≤ entry_capacity)
    → ((entries_by t r).head < entry_capacity) × ((entries_by t r).count ≤ entry_capacity)
unfolding entries_by ring_taken
entries-within r true (a, b) = (entry-slots.below r.head 1, omega arith)
entries-within r false h = h

entries-kept : (memory : ℕ) (rows : List (List ℕ)) (r : Ring) (t : Bool) → EntriesSound memory rows r → EntriesSound memory rows (entries_by t r)
unfolding entries_by ring_taken
entries-kept memory rows r true E = entry-ring.takes-sound (EntrySound memory) rows r E
entries-kept memory rows r false E = E

msn-below : (t : Bool) (msn : Msn) → msn.0 < 2 ^ 24 → (msn_by t msn).0 < 2 ^ 24
unfolding msn_by
msn-below true msn h = omega arith
msn-below false msn h = h

first : (b : Bool) (x y : Pair) → b ≡ true → cond b x y ≡ x
first b x y h = ap (λ t. cond t x y) h

module _ (w : Whole) (W : Steady w) (d : Decision) (D : Does w d) where
  abbrev done : Pair
  done = executed_pair w.pair d

  done-message : MessageSound done
  unfolding executed_pair entries_by
  done-message = go d.progress.completion.some D.message
    where
      go : (t : Bool) → Opens w t d.progress.message
          → (d.progress.message.kind ≡ 255)
          ⊎ (((d.progress.message.kind ≡ 0) × (1 ≤ (cond t (ring_taken w.pair.entries) w.pair.entries).count) × (d.progress.message.stored ≤ 1048576))
          ⊎ ((d.progress.message.kind ≡ 6) × (d.progress.message.stored < d.progress.message.length) × (d.progress.message.length ≤ 1048576) × (d.progress.message.address + d.progress.message.stored < 2 ^ 64)))
      go t (inl e) = inl e
      go true (inr (inl (e, f, x, y, z))) = absurd (true≢false f)
      go false (inr (inl (e, f, x, y, z))) = inr (inl (e, x, y))
      go t (inr (inr x)) = inr (inr x)

  done_held : done.message.kind ≡ 0 → done.message.stored ≤ get_or (head_entry done w.entries) 2 0
  unfolding executed_pair entries_by
  done_held k = go d.progress.completion.some D.message
    where
      go : (t : Bool) → Opens w t d.progress.message
          → d.progress.message.stored ≤ get_or (get_or w.entries (entry_slot (cond t (ring_taken w.pair.entries) w.pair.entries).head 0) []) 2 0
      go t (inl e) = absurd (omega arith)
      go true (inr (inl (e, f, x, y, z))) = absurd (true≢false f)
      go false (inr (inl (e, f, x, y, z))) = z
      go t (inr (inr (e, x, y, z))) = absurd (omega arith)

  done-read : ReadSound done
  unfolding executed_pair read_answer_by
  done-read = go (eqb d.reply.remaining 0) refl D.read
    where
      go : (t : Bool) → eqb d.reply.remaining 0 ≡ t
          → (d.reply.remaining ≡ 0)
          ⊎ ((d.reply.remaining ≤ pieces d.reply.length w.pair.setup.pmtu) × (d.reply.offset + d.reply.length ≤ w.pair.setup.memory) × (d.reply.psn.0 < 2 ^ 24))
          → Answering w.pair
          (cond t w.pair.read
          (record { remaining = d.reply.remaining; offset = d.reply.offset; length = d.reply.length; psn = d.reply.psn; msn = msn_by d.progress.ends w.pair.msn }))
      go true e r = W.pair.read
      go false e (inl z) = absurd (eqb-false d.reply.remaining 0 e z)
      go false e (inr (a, b, c)) = inr (a, b, c, msn-below d.progress.ends w.pair.msn W.pair.msn)

  done-steady : Steady (with_pair w done)
  unfolding executed_pair
  done-steady =
      let S = W.pair in
      record {
        pair =
            record {
              setup = S.setup;
              state = S.state;
              expected = after-below w.pair.expected d.progress.psns;
              msn = msn-below d.progress.ends w.pair.msn S.msn;
              entries = entries-within w.pair.entries d.progress.completion.some S.entries;
              saved = saved-within w.pair.saved d.change.act S.saved;
              message = done-message;
              read = done-read;
            };
        regions = W.regions;
        entries = entries-kept w.pair.setup.memory w.entries w.pair.entries d.progress.completion.some W.entries;
        held = done_held;
      }

  pub does-leads : Leads w d
  unfolding pair_by pair_by_number executed_pair
  does-leads =
      let e : pair_by w.pair d ≡ done = first (leb (status_number d.status) 3) done _ D.number in
      record { steady = subst (λ q. Steady (with_pair w q)) (sym e) done-steady; entry = D.entry; saved = ap (λ q. q.saved) e; psn = D.psn }
