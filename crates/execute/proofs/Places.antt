-- What a packet that passed the checks says of the sums made for it.
use Prim.Native.Nat.{ℕ, ◌+◌, ◌-◌, ◌%◌, ◌^◌, ◌≤◌, ◌<◌}
use mathlib.Core.Path.{◌≡◌, refl, sym, ap, subst, ◌∙◌}
use mathlib.Core.Bool.{Bool, true, false, cond}
use mathlib.Core.List.{List}
use native.Mathlib.Omega.{arith}
use lib.Dec.{eqb}
use lib.ListN.{get_or}
use borrow.Author.Tests.{eqb-true, eq-eqb, ne_eqb}
use Rattle.std.proofs.lemmas.Bool.Decides.{nat_tests}
use Rattle.table.specs.Table.{past_top, addresses, memory_offset}
use Rattle.pair.specs.Sound.{timer_limit}
use Rattle.pair.specs.declared.OpenMessage.{OpenMessage}
use Rattle.pair.specs.declared.Setup.{Setup}
use Rattle.request_spec.specs.Verdict.{carrying, single, fragment, not_enabled, bytes_to_come, key_fails, key_lacking, lacks, payload_size, current}
use Rattle.request_spec.specs.declared.Packet.{Packet}
use Rattle.request_checks.proofs.Keys.{none_stored_yet}
use Rattle.responder_spec.specs.Decide.{target_offset}
use Rattle.decision_laws.proofs.Codes.{Passed}
use Rattle.decision_laws.proofs.Inside.{key-inside, own-inside, total, write-total, target-inside}
use Rattle.execute.specs.Fits.{OffsetFits, TargetFits, Storable, Executable, unformed}

-- where bytes of a kind that goes to a region go, by the remainder that the table's leaf answers
module _ (kind : ℕ) (m : OpenMessage) (entry region : List ℕ) (k : kind ≡ 0 → ⊥) (needed : ℕ) (s : needed ≡ m.length - m.stored) where
  elsewhere : target_offset kind m entry region ≡ memory_offset region (m.address + m.stored) needed
  unfolding target_offset bytes_to_come
  elsewhere =
      ap (λ b. cond b (get_or entry 1 0 + m.stored) (memory_offset region (m.address + m.stored) (m.length - m.stored))) (ne_eqb kind 0 k)
      ∙ ap (memory_offset region (m.address + m.stored)) (sym s)

  pub at_offset : (stored : ℕ) → stored ≡ m.stored → (r : ℕ) → r ≡ memory_offset region (m.address + stored) needed % 2 ^ 64
      → OffsetFits region (m.address + m.stored) (bytes_to_come m.length m.stored)
      → r ≡ target_offset kind m entry region
  unfolding bytes_to_come
  at_offset stored p r e f =
      let small : memory_offset region (m.address + m.stored) needed < 2 ^ 64 =
      subst (λ n. memory_offset region (m.address + m.stored) n < 2 ^ 64) (sym s) f in
      let own : memory_offset region (m.address + m.stored) needed % 2 ^ 64 ≡ memory_offset region (m.address + m.stored) needed = omega (arith, small) in
      e ∙ (ap (λ x. memory_offset region (m.address + x) needed % 2 ^ 64) p ∙ (own ∙ sym elsewhere))

-- bytes that a region holds end below 2^64
held_below : (region : List ℕ) (right memory address n : ℕ) → lacks region right memory address n ≡ false → address + n < addresses
unfolding lacks past_top
held_below region right memory address n h = grind (arith, nat_tests)

key_below : (memory kind : ℕ) (m : OpenMessage) (region : List ℕ) → (kind ≡ 0 → ⊥) → 0 < bytes_to_come m.length m.stored
    → key_fails memory kind m region ≡ false → m.address + m.stored < 2 ^ 64
unfolding key_fails key_lacking
key_below memory kind m region k some h = grind (arith, nat_tests, held_below)

-- of the kinds that carry no bytes the single ones are enabled
served : (s : Setup) (kind : ℕ) → not_enabled s kind ≡ false → carrying kind ≡ false → single kind ≡ true
unfolding not_enabled single carrying
served s kind h c = grind (arith, nat_tests)

bare-kind : (kind : ℕ) → carrying kind ≡ false → eqb kind 0 ≡ false
unfolding carrying
bare-kind kind c = grind (arith, nat_tests)

module _ (s : Setup) (opened : OpenMessage) (p : Packet) (entry region : List ℕ) (P : Passed s opened p entry region)
    (memory : s.memory < 2 ^ 64) (stored : (current opened p).stored < 2 ^ 64) (length : (current opened p).length < 2 ^ 64) where
  abbrev m : OpenMessage
  m = current opened p

  to-entry : p.kind ≡ 0 → target_offset p.kind m entry region ≡ get_or entry 1 0 + m.stored
  unfolding target_offset
  to-entry e =
      ap (λ b. cond b (get_or entry 1 0 + m.stored) (memory_offset region (m.address + m.stored) (bytes_to_come m.length m.stored))) (eq-eqb p.kind 0 e)

  -- a SEND's end lies in memory, a WRITE's bytes are no more than its length
  sum : carrying p.kind ≡ true → m.stored + payload_size p < 2 ^ 64
  unfolding bytes_to_come
  sum c = go (eqb p.kind 0) refl
    where
      go : (b : Bool) → eqb p.kind 0 ≡ b → m.stored + payload_size p < 2 ^ 64
      go true e = omega (arith, to-entry (eqb-true p.kind 0 e), target-inside s opened p entry region P c)
      go false e =
          omega (arith, write-total p.kind p.place m.stored (payload_size p) m.length (get_or entry 2 0) e (total p s.pmtu m (get_or entry 2 0) c P.lengths))

  -- where bytes go is in memory
  targets : carrying p.kind ≡ true → TargetFits p.kind m entry region
  targets c =
      record {
        send = λ e. omega (arith, to-entry e, target-inside s opened p entry region P c);
        address = λ k some. key_below s.memory p.kind m region k some P.key;
        offset = λ k. omega (arith, key-inside p.kind s.memory m region (ne_eqb p.kind 0 k) P.key);
      }

  pub storable : Storable p m entry region
  storable = record { total = sum; target = targets }

  -- READs and atomics begin their message
  alone : fragment p ≡ false → carrying p.kind ≡ false → OffsetFits region m.address m.length
  alone F c = omega (arith, own-inside p.kind s.memory m region (bare-kind p.kind c) P.key (none_stored_yet opened p F (served s p.kind P.enabled c)))

  pub executable : fragment p ≡ false → Executable p m entry region
  executable F = record { stores = storable; own = alone F }

-- a packet and a pair that are formed: no fragment, and a timer code within the limit
pub whole : (p : Packet) (timer : ℕ) (t : Bool) → t ≡ unformed p timer → t ≡ false → fragment p ≡ false
unfolding unformed
whole p timer t e f = grind (arith, nat_tests)

pub timed : (p : Packet) (timer : ℕ) (t : Bool) → t ≡ unformed p timer → t ≡ false → timer ≤ timer_limit
unfolding unformed
timed p timer t e f = grind (arith, nat_tests)
