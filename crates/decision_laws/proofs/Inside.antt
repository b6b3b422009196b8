-- What passes the request checks lies in memory.
use Prim.Native.Nat.{ℕ, ◌+◌, ◌-◌, ◌≤◌, ◌<◌}
use mathlib.Core.Path.{◌≡◌, refl, sym, subst}
use mathlib.Core.Bool.{Bool, true, false, cond, not, ◌||◌}
use mathlib.Core.List.{List}
use native.Mathlib.Omega.{arith}
use lib.Dec.{eqb, ltb}
use lib.ListN.{get_or}
use borrow.Author.Tests.{eqb-false, eqb-true, ltb-true, ltb-false}
use Rattle.lemmas.proofs.Tests.{or_right}
use Rattle.opcode.specs.Place.{ends}
use Rattle.table.specs.Table.{outside, memory_offset}
use Rattle.pair.specs.declared.Setup.{Setup}
use Rattle.pair.specs.declared.OpenMessage.{OpenMessage}
use Rattle.request_spec.specs.Verdict.{carrying, uses_entry, entry_outside, bytes_to_come, key_lacking, key_fails, size_off, total_off, bare_off, payload_size, lengths_off, current}
use Rattle.request_spec.specs.declared.Packet.{Packet}
use Rattle.responder_spec.specs.Decide.{target_offset}
use Rattle.decision_laws.proofs.Codes.{Passed}
use Rattle.decision_laws.proofs.Checked.{offset-in}

-- the bytes that a key holds
key-holds : (kind memory : ℕ) (region : List ℕ) (address needed : ℕ) → eqb kind 0 ≡ false → key_lacking kind region memory address needed ≡ false
    → memory_offset region address needed + needed ≤ memory
key-holds kind memory region address needed k h = offset-in kind region memory address needed (eqb-false kind 0 k) h

-- a message's bytes still to come, where its key's region has them
pub key-inside : (kind memory : ℕ) (m : OpenMessage) (region : List ℕ) → eqb kind 0 ≡ false → key_fails memory kind m region ≡ false
    → memory_offset region (m.address + m.stored) (bytes_to_come m.length m.stored) + bytes_to_come m.length m.stored ≤ memory
unfolding key_fails
key-inside kind memory m region k h = key-holds kind memory region (m.address + m.stored) (bytes_to_come m.length m.stored) k h

-- a message of its own: all its bytes
pub own-inside : (kind memory : ℕ) (m : OpenMessage) (region : List ℕ) → eqb kind 0 ≡ false → key_fails memory kind m region ≡ false → m.stored ≡ 0
    → memory_offset region m.address m.length + m.length ≤ memory
unfolding bytes_to_come
own-inside kind memory m region k h e =
    let a : m.address + m.stored ≡ m.address = omega arith in
    let n : m.length - m.stored ≡ m.length = omega arith in
    subst (λ x. memory_offset region m.address x + x ≤ memory) n
    (subst (λ x. memory_offset region x (m.length - m.stored) + (m.length - m.stored) ≤ memory) a (key-inside kind memory m region k h))

-- the total of a message that carries bytes
pub total : (p : Packet) (pmtu : ℕ) (m : OpenMessage) (most : ℕ) → carrying p.kind ≡ true → lengths_off p pmtu m most ≡ false
    → total_off p.kind p.place m.stored (payload_size p) m.length most ≡ false
unfolding lengths_off
total p pmtu m most c h =
    let x = or_right (ltb p.body p.pad) _ h in
    or_right (size_off p.place pmtu (payload_size p)) (total_off p.kind p.place m.stored (payload_size p) m.length most)
    (subst (λ b. cond b (size_off p.place pmtu (payload_size p) || total_off p.kind p.place m.stored (payload_size p) m.length most) (bare_off p.kind p.body m.address)
    ≡ false) c x)

send-total : (kind place stored size length most : ℕ) → eqb kind 0 ≡ true → total_off kind place stored size length most ≡ false → stored + size ≤ most
unfolding total_off
send-total kind place stored size length most e h = ltb-false most (stored + size) (rw e at h)

pub write-total : (kind place stored size length most : ℕ) → eqb kind 0 ≡ false → total_off kind place stored size length most ≡ false
    → size ≤ bytes_to_come length stored
unfolding total_off bytes_to_come
write-total kind place stored size length most e h = go (ends place) (rw e at h)
  where
    is : (b : Bool) → not b ≡ false → b ≡ true
    is true x = refl
    is false x = sym x

    go : (b : Bool) → cond b (not (eqb (stored + size) length)) (not (ltb (stored + size) length)) ≡ false → size ≤ length - stored
    go true x = let y : stored + size ≡ length = eqb-true (stored + size) length (is (eqb (stored + size) length) x) in omega arith
    go false x = let y : stored + size < length = ltb-true (stored + size) length (is (ltb (stored + size) length) x) in omega arith

entry-inside : (kind : ℕ) (immediate : Bool) (entry : List ℕ) (memory : ℕ) → eqb kind 0 ≡ true → entry_outside kind immediate entry memory ≡ false
    → get_or entry 1 0 + get_or entry 2 0 ≤ memory
unfolding entry_outside uses_entry outside
entry-inside kind immediate entry memory e h = ltb-false memory (get_or entry 1 0 + get_or entry 2 0) (rw e at h)

-- so each packet's bytes lie in memory
pub target-inside : (s : Setup) (opened : OpenMessage) (p : Packet) (entry region : List ℕ) → Passed s opened p entry region → carrying p.kind ≡ true
    → target_offset p.kind (current opened p) entry region + payload_size p ≤ s.memory
unfolding target_offset
target-inside s opened p entry region P c = go (eqb p.kind 0) refl
  where
    m : OpenMessage
    m = current opened p

    t : total_off p.kind p.place m.stored (payload_size p) m.length (get_or entry 2 0) ≡ false
    t = total p s.pmtu m (get_or entry 2 0) c P.lengths

    go : (b : Bool) → eqb p.kind 0 ≡ b
        → cond b (get_or entry 1 0 + m.stored) (memory_offset region (m.address + m.stored) (bytes_to_come m.length m.stored)) + payload_size p ≤ s.memory
    go true e =
        omega (
          arith,
          send-total p.kind p.place m.stored (payload_size p) m.length (get_or entry 2 0) e t,
          entry-inside p.kind p.operands.immediate entry s.memory e P.entries,
        )
    go false e =
        omega (
          arith,
          write-total p.kind p.place m.stored (payload_size p) m.length (get_or entry 2 0) e t,
          key-inside p.kind s.memory m region e P.key,
        )
