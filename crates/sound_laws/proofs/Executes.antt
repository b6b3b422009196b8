-- A request that passed the checks leads to a steady pair.
use Prim.Native.Nat.{ℕ, ◌+◌, ◌-◌, ◌^◌, ◌≤◌, ◌<◌}
use mathlib.Core.Path.{◌≡◌, refl, sym, ap, subst, ◌∙◌}
use mathlib.Core.Bool.{Bool, true, false, cond, not, ◌&&◌, ◌||◌, true≢false}
use mathlib.Core.List.{List}
use mathlib.Core.Logic.{◌⊎◌, inl, inr}
use native.Mathlib.Omega.{arith}
use lib.Dec.{eqb, leb, ltb}
use lib.ListN.{get_or}
use borrow.Author.Tests.{eq-eqb, eqb-true, eqb-false, ltb-true, ltb-false}
use Rattle.lemmas.proofs.Tests.{or_right}
use Rattle.opcode.specs.Place.{starts, ends}
use Rattle.table.specs.Table.{outside, memory_offset}
use Rattle.pair.specs.Answer.{status_number}
use Rattle.pair.specs.Calls.{Whole}
use Rattle.pair.specs.Pair.{no_message}
use Rattle.pair.specs.Sound.{memory_limit}
use Rattle.pair.specs.Claims.{MessageSound}
use Rattle.pair.proofs.Posting.{held-some}
use Rattle.pair.specs.declared.OpenMessage.{OpenMessage}
use Rattle.pair.specs.declared.Status.TheVariants as status
use Rattle.request_spec.specs.declared.Packet.{Packet}
use Rattle.request_spec.specs.Verdict.{carrying, over_limit, needs_entry, entries_waiting, none_waiting, uses_entry}
use Rattle.request_spec.specs.Verdict.{entry_outside, bytes_to_come, key_fails, size_off, total_off, bare_off, payload_size}
use Rattle.request_spec.specs.Verdict.{lengths_off, current}
use Rattle.responder_spec.specs.Decide.{no_completion, completes, completion_of, message_after, store_payload, run_atomic, accept_read, execute, region_for, head_entry}
use Rattle.responder_spec.specs.Apply.{acts_atomic}
use Rattle.responder_spec.specs.Steady.{Steady}
use Rattle.decision_laws.proofs.Checked.{Checked, Follows, follows, send-or-write, holds, offset-in}
use Rattle.sound_laws.proofs.Leads.{Leads, branch, Opens, Does, does-leads}

-- a key that holds the whole of a message
pub whole_in : (memory kind : ℕ) (m : OpenMessage) (region : List ℕ) → (kind ≡ 0 → ⊥) → m.stored ≡ 0 → key_fails memory kind m region ≡ false
    → memory_offset region m.address m.length + m.length ≤ memory
unfolding key_fails bytes_to_come
whole_in memory kind m region k z h =
    let a : m.address + m.stored ≡ m.address = omega arith in
    let b : m.length - m.stored ≡ m.length = omega arith in
    subst (λ n. memory_offset region m.address n + n ≤ memory) b
    (subst (λ x. memory_offset region x (m.length - m.stored) + (m.length - m.stored) ≤ memory) a
    (offset-in kind region memory (m.address + m.stored) (m.length - m.stored) k h))

-- where an entry is needed and one waits, there is one
waits : (kind place opened count : ℕ) (immediate : Bool) → needs_entry kind place immediate ≡ true
    → none_waiting kind place immediate opened count ≡ false
    → 1 ≤ count
unfolding none_waiting entries_waiting
waits kind place opened count immediate h k = go (needs_entry kind place immediate) h (eqb opened 0) k
  where
    go : (a : Bool) → a ≡ true → (b : Bool) → (a && eqb (cond b (count - 1) count) 0) ≡ false → 1 ≤ count
    go true h true k = let ne = eqb-false (count - 1) 0 k in omega arith
    go true h false k = let ne = eqb-false count 0 k in omega arith
    go false h b k = absurd (true≢false (sym h))

module _ (w : Whole) (W : Steady w) where
  -- the open message, where nothing completes
  opened-opens : Opens w false w.pair.message
  opened-opens = go W.pair.message
    where
      go : MessageSound w.pair → Opens w false w.pair.message
      go (inl e) = inl e
      go (inr (inl (e, a, b))) = inr (inl (e, refl, a, b, W.held e))
      go (inr (inr x)) = inr (inr x)

  opened-limit : w.pair.message.kind ≡ 6 → w.pair.message.length ≤ 1048576
  opened-limit k = go W.pair.message
    where
      go : MessageSound w.pair → w.pair.message.length ≤ 1048576
      go (inl e) = absurd (omega arith)
      go (inr (inl (e, a, b))) = absurd (omega arith)
      go (inr (inr (e, a, b, c))) = b

  no_read_lem : w.pair.message.kind ≡ 12 → ⊥
  no_read_lem k = go W.pair.message
    where
      go : MessageSound w.pair → ⊥
      go (inl e) = omega arith
      go (inr (inl (e, a, b))) = omega arith
      go (inr (inr (e, a, b, c))) = omega arith

  module _ (p : Packet) where
    abbrev message : OpenMessage
    message = current w.pair.message p

    abbrev entry : List ℕ
    entry = head_entry w.pair w.entries

    abbrev region : List ℕ
    region = region_for p.kind message.key w.regions

    module _ (C : Checked w.pair.setup w.pair.message p w.pair.entries.count entry region) where
      same_kind : message.kind ≡ p.kind
      same_kind = go (follows w.pair.message p C.sequence)
        where
          go : Follows w.pair.message p → (current w.pair.message p).kind ≡ p.kind
          go (inl (a, e, k)) = ap (λ x. x.kind) e
          go (inr (a, e, k)) = ap (λ x. x.kind) e ∙ k

      send-entry : p.kind ≡ 0 → 1 ≤ w.pair.entries.count
      unfolding needs_entry
      send-entry z = go (follows w.pair.message p C.sequence)
        where
          go : Follows w.pair.message p → 1 ≤ w.pair.entries.count
          go (inl (a, e, k)) =
              waits p.kind p.place w.pair.message.kind w.pair.entries.count p.operands.immediate
              (ap (λ t. cond t (starts p.place) p.operands.immediate) (eq-eqb p.kind 0 z) ∙ a) C.waiting
          go (inr (a, e, k)) = held-some w.pair W.pair (k ∙ z)

      done-entry : completes p.kind p.place p.operands.immediate ≡ true → 1 ≤ w.pair.entries.count
      unfolding completes needs_entry
      done-entry h = go (ends p.place) (eqb p.kind 0) refl h
        where
          go : (a b : Bool) → eqb p.kind 0 ≡ b → (a && (b || p.operands.immediate)) ≡ true → 1 ≤ w.pair.entries.count
          go true true e h = send-entry (eqb-true p.kind 0 e)
          go true false e h =
              waits p.kind p.place w.pair.message.kind w.pair.entries.count p.operands.immediate
              (ap (λ t. cond t (starts p.place) p.operands.immediate) e ∙ h) C.waiting
          go false b e h = absurd (true≢false (sym h))

      write-limit : p.kind ≡ 6 → message.length ≤ 1048576
      unfolding over_limit
      write-limit z = go (follows w.pair.message p C.sequence)
        where
          go : Follows w.pair.message p → (current w.pair.message p).length ≤ 1048576
          go (inl (a, e, k)) = subst (λ x. x.length ≤ 1048576) (sym e) (ltb-false memory_limit p.operands.length C.limit)
          go (inr (a, e, k)) = subst (λ x. x.length ≤ 1048576) (sym e) (opened-limit (k ∙ z))

      total : carrying p.kind ≡ true → total_off p.kind p.place message.stored (payload_size p) message.length (get_or entry 2 0) ≡ false
      unfolding lengths_off
      total c = go (carrying p.kind) c (or_right (ltb p.body p.pad) _ C.lengths)
        where
          go : (t : Bool) → t ≡ true
              → cond t
              (size_off p.place w.pair.setup.pmtu (payload_size p) || total_off p.kind p.place message.stored (payload_size p) message.length (get_or entry 2 0))
              (bare_off p.kind p.body message.address)
              ≡ false
              → total_off p.kind p.place message.stored (payload_size p) message.length (get_or entry 2 0) ≡ false
          go true e h = or_right (size_off p.place w.pair.setup.pmtu (payload_size p)) _ h
          go false e h = absurd (true≢false (sym e))

      -- a SEND fits its entry, and that lies in memory
      entry-limit : p.kind ≡ 0 → get_or entry 2 0 ≤ 1048576
      unfolding entry_outside uses_entry outside
      entry-limit z = go (eqb p.kind 0) (eq-eqb p.kind 0 z) C.inside
        where
          go : (a : Bool) → a ≡ true → ((a || p.operands.immediate) && ltb w.pair.setup.memory (get_or entry 1 0 + get_or entry 2 0)) ≡ false
              → get_or entry 2 0 ≤ 1048576
          go true e h = omega (arith, ltb-false w.pair.setup.memory (get_or entry 1 0 + get_or entry 2 0) h, W.pair.setup.1)
          go false e h = absurd (true≢false (sym e))

      send-fits : p.kind ≡ 0 → carrying p.kind ≡ true → message.stored + payload_size p ≤ get_or entry 2 0
      unfolding total_off
      send-fits z c = go (eqb p.kind 0) (eq-eqb p.kind 0 z) (total c)
        where
          go : (a : Bool) → a ≡ true
              → cond a (ltb (get_or entry 2 0) (message.stored + payload_size p))
              (cond (ends p.place) (not (eqb (message.stored + payload_size p) message.length)) (not (ltb (message.stored + payload_size p) message.length)))
              ≡ false
              → message.stored + payload_size p ≤ get_or entry 2 0
          go true e h = ltb-false (get_or entry 2 0) (message.stored + payload_size p) h
          go false e h = absurd (true≢false (sym e))

      -- a WRITE leaves bytes to come before its last packet
      write-fits : p.kind ≡ 6 → carrying p.kind ≡ true → ends p.place ≡ false → message.stored + payload_size p < message.length
      unfolding total_off
      write-fits z c n = go (eqb p.kind 0) refl (ends p.place) n (ltb (message.stored + payload_size p) message.length) refl (total c)
        where
          go : (a : Bool) → eqb p.kind 0 ≡ a → (b : Bool) → b ≡ false → (c : Bool) → ltb (message.stored + payload_size p) message.length ≡ c
              → cond a (ltb (get_or entry 2 0) (message.stored + payload_size p)) (cond b (not (eqb (message.stored + payload_size p) message.length)) (not c)) ≡ false
              → message.stored + payload_size p < message.length
          go true e b f c g h = absurd (omega (arith, z, eqb-true p.kind 0 e))
          go false e true f c g h = absurd (true≢false f)
          go false e false f true g h = ltb-true (message.stored + payload_size p) message.length g
          go false e false f false g h = absurd (true≢false h)

      -- and they have addresses
      write_top : p.kind ≡ 6 → message.stored + payload_size p < message.length → message.address + (message.stored + payload_size p) < 2 ^ 64
      unfolding key_fails bytes_to_come
      write_top z l =
          let H =
          holds p.kind region w.pair.setup.memory (message.address + message.stored) (message.length - message.stored) (λ e. omega arith)
          (λ e. omega arith) C.key in
          omega (arith, H.to, H.top, l)

      opens : carrying p.kind ≡ true
          → Opens w (completes p.kind p.place p.operands.immediate) (message_after p.place message (payload_size p))
      unfolding completes message_after
      opens c = go (ends p.place) refl (send-or-write w.pair.setup p.kind C.enabled c)
        where
          go : (t : Bool) → ends p.place ≡ t → (p.kind ≡ 0) ⊎ (p.kind ≡ 6)
              → Opens w (t && (eqb p.kind 0 || p.operands.immediate))
              (cond t no_message
              (record { kind = message.kind; stored = message.stored + payload_size p; address = message.address; key = message.key; length = message.length }))
          go true e k = inl refl
          go false e (inl k) =
              let a = send-fits k c in
              let b = entry-limit k in
              inr (inl (same_kind ∙ k, refl, send-entry k, omega (arith, a, b), a))
          go false e (inr k) =
              let a = write-fits k c e in
              inr (inr (same_kind ∙ k, a, write-limit k, write_top k a))

      pub storing-does : (asked : Bool) (psns : ℕ) → carrying p.kind ≡ true → Does w (store_payload asked psns p message entry region)
      unfolding store_payload completion_of acts_atomic status_number
      storing-does asked psns c =
          record {
            number = acks asked;
            entry = λ e. done-entry (sym (same (completes p.kind p.place p.operands.immediate) _) ∙ e);
            message = subst (λ t. Opens w t (message_after p.place message (payload_size p))) (sym (same (completes p.kind p.place p.operands.immediate) _)) (opens c);
            read = inl refl;
            psn = λ e. absurd (true≢false (sym e));
          }
        where
          acks : (t : Bool) → leb (status_number (cond t status.Acknowledged status.Executed)) 3 ≡ true
          acks true = refl
          acks false = refl

          same : (t : Bool) (number : ℕ)
              → (cond t
              (record {
                some = true;
                number = number;
                length = cond (eqb p.kind 0) (message.stored + payload_size p) message.length;
                immediate = p.operands.immediate;
                value = p.operands.value;
              })
              no_completion).some ≡ t
          same true number = refl
          same false number = refl

      module _ (n : p.psn.0 < 2 ^ 24) where
        read-does : p.kind ≡ 12 → Does w (accept_read p message w.pair.message region w.pair.setup.pmtu)
        unfolding accept_read acts_atomic status_number
        read-does k =
            record {
              number = refl;
              entry = λ e. absurd (true≢false (sym e));
              message = opened-opens;
              read = inr (omega arith, whole_in w.pair.setup.memory p.kind message region (λ e. omega arith) (go (follows w.pair.message p C.sequence)) C.key, n);
              psn = λ e. absurd (true≢false (sym e));
            }
          where
            go : Follows w.pair.message p → (current w.pair.message p).stored ≡ 0
            go (inl (a, e, x)) = ap (λ y. y.stored) e
            go (inr (a, e, x)) = absurd (no_read_lem (x ∙ k))

        atomic-does : Does w (run_atomic p message w.pair.message region)
        unfolding run_atomic status_number
        atomic-does =
            record { number = refl; entry = λ e. absurd (true≢false (sym e)); message = opened-opens; read = inl refl; psn = λ e. n }

        pub execute-leads : Leads w (execute p message w.pair.message entry region w.pair.setup.pmtu)
        unfolding execute
        execute-leads =
            branch w (carrying p.kind) _ _ (λ c. does-leads w W _ (storing-does p.ackreq 1 c))
            (λ c. branch w (eqb p.kind 12) _ _ (λ e. does-leads w W _ (read-does (eqb-true p.kind 12 e))) (λ e. does-leads w W _ atomic-does))
