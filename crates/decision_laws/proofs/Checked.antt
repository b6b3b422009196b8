-- What a request that passes every check satisfies, in plain numbers.
use Prim.Native.Nat.{ℕ, ◌+◌, ◌-◌, ◌^◌, ◌≤◌, ◌<◌}
use mathlib.Core.Path.{◌≡◌, refl}
use mathlib.Core.Bool.{Bool, true, false, cond, not, true≢false}
use mathlib.Core.List.{List}
use mathlib.Core.Logic.{◌⊎◌, inl, inr}
use native.Mathlib.Omega.{arith}
use lib.Dec.{leb, eqb, ltb}
use lib.ListN.{get_or}
use borrow.Author.Tests.{leb-false, eqb-true, eqb-false, ltb-true, ltb-false}
use Rattle.lemmas.proofs.Tests.{or_left, or_right}
use Rattle.opcode.specs.Place.{starts}
use Rattle.table.specs.Table.{addresses, past_top, outside, memory_offset}
use Rattle.pair.specs.declared.Setup.{Setup}
use Rattle.pair.specs.declared.OpenMessage.{OpenMessage}
use Rattle.header.proofs.Reasons.{of-not}
use Rattle.request_spec.specs.declared.Packet.{Packet}
use Rattle.request_spec.specs.Verdict.{carrying, out_of_sequence, not_enabled, pad_early, over_limit, none_waiting}
use Rattle.request_spec.specs.Verdict.{entry_outside, right_of, lacks, key_lacking, key_fails, lengths_off, current}
use Rattle.request_spec.specs.Verdict.{request_check, expected_check}

-- each check, passed
pub record Checked (s : Setup) (opened : OpenMessage) (p : Packet) (count : ℕ) (entry region : List ℕ) : Type 0 where
  pub sequence : out_of_sequence opened.kind p.kind p.place ≡ false
  pub enabled : not_enabled s p.kind ≡ false
  pub limit : over_limit p.operands.length ≡ false
  pub waiting : none_waiting p.kind p.place p.operands.immediate opened.kind count ≡ false
  pub inside : entry_outside p.kind p.operands.immediate entry s.memory ≡ false
  pub key : key_fails s.memory p.kind (current opened p) region ≡ false
  pub lengths : lengths_off p s.pmtu (current opened p) (get_or entry 2 0) ≡ false

pass : (b : Bool) (n x : ℕ) → 0 < n → cond b n x ≡ 0 → (b ≡ false) × (x ≡ 0)
pass true n x h e = absurd (omega arith)
pass false n x h e = (refl, e)

module _ (s : Setup) (opened : OpenMessage) (p : Packet) (count : ℕ) (entry region : List ℕ) where
  pub checked : expected_check s opened p count entry region ≡ 0 → Checked s opened p count entry region
  unfolding expected_check request_check
  checked h =
      let a = pass (out_of_sequence opened.kind p.kind p.place) 1 _ (omega arith) h in
      let b = pass (not_enabled s p.kind) 2 _ (omega arith) a.1 in
      let c = pass (pad_early p.place p.pad) 3 _ (omega arith) b.1 in
      let d = pass (over_limit p.operands.length) 4 _ (omega arith) c.1 in
      let e = pass (none_waiting p.kind p.place p.operands.immediate opened.kind count) 5 _ (omega arith) d.1 in
      let f = pass (entry_outside p.kind p.operands.immediate entry s.memory) 8 _ (omega arith) e.1 in
      let g = pass (key_fails s.memory p.kind (current opened p) region) 6 _ (omega arith) f.1 in
      let k = pass (lengths_off p s.pmtu (current opened p) (get_or entry 2 0)) 7 _ (omega arith) g.1 in
      record { sequence = a.0; enabled = b.0; limit = d.0; waiting = e.0; inside = f.0; key = g.0; lengths = k.0 }

-- of the kinds that carry bytes only SEND and WRITE are ever enabled
pub send-or-write : (s : Setup) (kind : ℕ) → not_enabled s kind ≡ false → carrying kind ≡ true → (kind ≡ 0) ⊎ (kind ≡ 6)
unfolding not_enabled carrying
send-or-write s kind h c = go (eqb kind 0) refl (eqb kind 6) refl (eqb kind 12) refl (eqb kind 19) refl (eqb kind 20) refl h
  where
    few : kind < 12
    few = ltb-true kind 12 c

    go : (a : Bool) → eqb kind 0 ≡ a → (b : Bool) → eqb kind 6 ≡ b → (c : Bool) → eqb kind 12 ≡ c → (d : Bool) → eqb kind 19 ≡ d → (e : Bool) → eqb kind 20 ≡ e
        → cond a (not s.send) (cond b (not s.write) (cond c (not s.read) (cond d (not s.atomic) (cond e (not s.atomic) true)))) ≡ false
        → (kind ≡ 0) ⊎ (kind ≡ 6)
    go true x b y c z d u e v h = inl (eqb-true kind 0 x)
    go false x true y c z d u e v h = inr (eqb-true kind 6 y)
    go false x false y true z d u e v h = absurd (omega (arith, few, eqb-true kind 12 z))
    go false x false y false z true u e v h = absurd (omega (arith, few, eqb-true kind 19 u))
    go false x false y false z false u true v h = absurd (omega (arith, few, eqb-true kind 20 v))
    go false x false y false z false u false v h = absurd (true≢false h)

-- the message that a packet begins
abbrev pub begins : Packet → OpenMessage
begins p = record { kind = p.kind; stored = 0; address = p.operands.address; key = p.operands.key; length = p.operands.length }

-- in sequence: none is open and the packet begins one, or it is of the open one
abbrev pub Follows : OpenMessage → Packet → Type 0
Follows opened p =
    ((starts p.place ≡ true) × (current opened p ≡ begins p) × (opened.kind ≡ 255))
    ⊎ ((starts p.place ≡ false) × (current opened p ≡ opened) × (opened.kind ≡ p.kind))

pub follows : (opened : OpenMessage) (p : Packet) → out_of_sequence opened.kind p.kind p.place ≡ false → Follows opened p
unfolding out_of_sequence current
follows opened p h = go (starts p.place) refl h
  where
    go : (b : Bool) → starts p.place ≡ b → cond b (not (eqb opened.kind 255)) (not (eqb opened.kind p.kind)) ≡ false
        → ((b ≡ true) × (cond b (begins p) opened ≡ begins p) × (opened.kind ≡ 255))
        ⊎ ((b ≡ false) × (cond b (begins p) opened ≡ opened) × (opened.kind ≡ p.kind))
    go true e k = inl (refl, refl, of-not opened.kind 255 k)
    go false e k = inr (refl, refl, of-not opened.kind p.kind k)

-- a row that does not lack bytes holds them, lies in memory and ends below 2^64
pub record Holds (region : List ℕ) (memory address n : ℕ) : Type 0 where
  pub within : get_or region 3 0 + get_or region 2 0 ≤ memory
  pub top : get_or region 1 0 + get_or region 2 0 < 2 ^ 64
  pub from : get_or region 1 0 ≤ address
  pub to : address + n ≤ get_or region 1 0 + get_or region 2 0

pub holds : (kind : ℕ) (region : List ℕ) (memory address n : ℕ) → (kind ≡ 0 → ⊥) → (n ≡ 0 → ⊥)
    → key_lacking kind region memory address n ≡ false
    → Holds region memory address n
unfolding key_lacking lacks outside past_top
holds kind region memory address n k z h = go (eqb kind 0) refl (eqb n 0) refl h
  where
    go : (a : Bool) → eqb kind 0 ≡ a → (b : Bool) → eqb n 0 ≡ b
        → cond a false (cond b false (lacks region (right_of kind region) memory address n)) ≡ false
        → Holds region memory address n
    go true e b f h = absurd (k (eqb-true kind 0 e))
    go false e true f h = absurd (z (eqb-true n 0 f))
    go false e false f h =
        let h1 = or_right (eqb (right_of kind region) 0) _ h in
        let h2 = or_right (ltb memory (get_or region 3 0 + get_or region 2 0)) _ h1 in
        let h3 = or_right (leb addresses (get_or region 1 0 + get_or region 2 0)) _ h2 in
        record {
          within = ltb-false memory (get_or region 3 0 + get_or region 2 0) (or_left (ltb memory (get_or region 3 0 + get_or region 2 0)) _ h1);
          top = leb-false addresses (get_or region 1 0 + get_or region 2 0) (or_left (leb addresses (get_or region 1 0 + get_or region 2 0)) _ h2);
          from = ltb-false address (get_or region 1 0) (or_left (ltb address (get_or region 1 0)) _ h3);
          to = ltb-false (get_or region 1 0 + get_or region 2 0) (address + n) (or_right (ltb address (get_or region 1 0)) _ h3);
        }

-- so the bytes lie in memory, and no bytes do anyway
pub offset-in : (kind : ℕ) (region : List ℕ) (memory address n : ℕ) → (kind ≡ 0 → ⊥) → key_lacking kind region memory address n ≡ false
    → memory_offset region address n + n ≤ memory
unfolding memory_offset
offset-in kind region memory address n k h = go (eqb n 0) refl
  where
    go : (b : Bool) → eqb n 0 ≡ b → cond b 0 (get_or region 3 0 + (address - get_or region 1 0)) + n ≤ memory
    go true e = omega (arith, eqb-true n 0 e)
    go false e =
        let H = holds kind region memory address n k (eqb-false n 0 e) h in
        omega (arith, H.within, H.from, H.to)
