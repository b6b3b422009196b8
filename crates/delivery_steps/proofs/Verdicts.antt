-- The request checks pass a packet of the stream, but for an entry that is not there.
use Prim.Native.Nat.{ℕ, ◌+◌, ◌-◌, ◌≤◌, ◌<◌, ◌^◌}
use mathlib.Core.Path.{◌≡◌, refl, sym, ap, subst, ◌∙◌}
use mathlib.Core.Bool.{Bool, true, false, cond}
use mathlib.Core.List.{List, []}
use mathlib.Core.Logic.{◌⊎◌, inl, inr}
use native.Mathlib.Omega.{arith}
use lib.Dec.{eqb, ltb}
use lib.ListN.{length, get_or}
use borrow.Author.Tests.{lt-leb, eqb-false, ne_eqb, le-ltb}
use Rattle.lemmas.proofs.Auto.{tests}
use Rattle.table.specs.Table.{addresses, past_top, outside, region_row, no_region, key_row, memory_offset}
use Rattle.table.specs.View.{region_of}
use Rattle.table.specs.Claims.{RegionsSound, RegionFits}
use Rattle.table.specs.declared.Region.{Region}
use Rattle.pair.specs.declared.Setup.{Setup}
use Rattle.pair.specs.declared.OpenMessage.{OpenMessage}
use Rattle.request_spec.specs.declared.Packet.{Packet}
use Rattle.delivery_spec.specs.Plain.{region_offset}
use Rattle.delivery_spec.specs.Demand.{LiesInRegion}
use Rattle.request_spec.specs.Verdict.{out_of_sequence, not_enabled, pad_early, over_limit, none_waiting, entry_outside}
use Rattle.request_spec.specs.Verdict.{key_fails, key_lacking, bytes_to_come, right_of, lacks, lengths_off, current}
use Rattle.request_spec.specs.Verdict.{request_check, expected_check}

-- the checks before that of the entry, and those after
pub record Before (s : Setup) (opened : OpenMessage) (p : Packet) : Type 0 where
  pub sequence : out_of_sequence opened.kind p.kind p.place ≡ false
  pub enabled : not_enabled s p.kind ≡ false
  pub pad : pad_early p.place p.pad ≡ false
  pub limit : over_limit p.operands.length ≡ false

pub record Behind (s : Setup) (opened : OpenMessage) (p : Packet) (entry region : List ℕ) : Type 0 where
  pub entry_in : entry_outside p.kind p.operands.immediate entry s.memory ≡ false
  pub key : key_fails s.memory p.kind (current opened p) region ≡ false
  pub lengths : lengths_off p s.pmtu (current opened p) (get_or entry 2 0) ≡ false

module _ (s : Setup) (opened : OpenMessage) (p : Packet) (count : ℕ) (entry region : List ℕ) (b : Before s opened p) where
  pub unready : none_waiting p.kind p.place p.operands.immediate opened.kind count ≡ true
      → expected_check s opened p count entry region ≡ 5
  unfolding expected_check request_check
  unready e = rw (b.sequence, b.enabled, b.pad, b.limit, e)

  pub passes : none_waiting p.kind p.place p.operands.immediate opened.kind count ≡ false
      → Behind s opened p entry region
      → expected_check s opened p count entry region ≡ 0
  unfolding expected_check request_check
  passes e a = rw (b.sequence, b.enabled, b.pad, b.limit, e, a.entry_in, a.key, a.lengths)

-- the region of a key, which has some bytes, lies in memory and ends below 2^64
columns : (r : Region) → (get_or (region_row r) 1 0 ≡ r.address) × (get_or (region_row r) 2 0 ≡ r.length) × (get_or (region_row r) 3 0 ≡ r.offset)
unfolding region_row
columns r = (refl, refl, refl)

abbrev Inside : ℕ → Region → Type 0
Inside memory r = (r.offset + r.length ≤ memory) × (r.address + r.length < 2 ^ 64)

in_row : (memory : ℕ) (r : Region) (row : List ℕ) → row ≡ region_row r → 1 ≤ r.length
    → (get_or row 2 0 ≡ 0) ⊎ ((o : Region) × (row ≡ region_row o) × RegionFits memory o)
    → Inside memory r
in_row memory r row e some (inl free) = absurd (omega (arith, ap (λ x. get_or x 2 0) e, columns r))
in_row memory r row e some (inr o) =
    let t = ap (λ x. get_or x 1 0) (sym e ∙ o.1) in
    let u = ap (λ x. get_or x 2 0) (sym e ∙ o.1) in
    let v = ap (λ x. get_or x 3 0) (sym e ∙ o.1) in
    let a = columns r in
    let c = columns o.0 in
    (omega (arith, a.1, a.2, c.1, c.2, u, v, o.2.within), omega (arith, a.0, a.1, c.0, c.1, t, u, o.2.below))

pub region-in : (memory key : ℕ) (rows : List (List ℕ)) (r : Region) → RegionsSound memory rows → region_of key rows ≡ region_row r → 1 ≤ r.length
    → Inside memory r
unfolding region_of
region-in memory key rows r sound e some = go (ltb (key_row key rows) 16) refl e
  where
    go : (b : Bool) → ltb (key_row key rows) 16 ≡ b → cond b (get_or rows (key_row key rows) []) no_region ≡ region_row r → Inside memory r
    go true q f = in_row memory r (get_or rows (key_row key rows) []) f some (sound.each (key_row key rows) (omega (arith, tests)))
    go false q f = in_row memory r no_region f some (inl refl)

-- the key of bytes that lie in its region holds what is still to come of them
module _ (memory kind key address n off : ℕ) (rows : List (List ℕ)) (right : Region → Bool) (m : OpenMessage)
    (sound : RegionsSound memory rows) (is : (r : Region) → right_of kind (region_row r) ≡ cond (right r) 1 0)
    (at : m.address ≡ address) (stored : m.stored ≡ off) (long : m.length ≡ n) (l : off ≤ n) where
  held-range : (r : Region) → region_of key rows ≡ region_row r → right r ≡ true → r.address ≤ address → address + n ≤ r.address + r.length
      → (off < n) → lacks (region_row r) (right_of kind (region_row r)) memory (m.address + m.stored) (bytes_to_come m.length m.stored) ≡ false
  unfolding lacks outside past_top bytes_to_come region_row
  held-range r e g low high o =
      let inside = region-in memory key rows r sound e (omega arith) in
      rw (
        is r ∙ ap (λ b. cond b 1 0) g,
        le-ltb memory (r.offset + r.length) inside.0,
        lt-leb addresses (r.address + r.length) inside.1,
        le-ltb (m.address + m.stored) r.address (omega arith),
      )
      (le-ltb (r.address + r.length) (m.address + m.stored + (m.length - m.stored)) (omega arith))

  pub key-passes : LiesInRegion rows right key address n → key_fails memory kind m (region_of key rows) ≡ false
  unfolding key_fails key_lacking bytes_to_come
  key-passes h = go (eqb kind 0) (eqb (m.length - m.stored) 0) refl h
    where
      go : (a b : Bool) → eqb (m.length - m.stored) 0 ≡ b → LiesInRegion rows right key address n
          → cond a false (cond b false (lacks (region_of key rows) (right_of kind (region_of key rows)) memory (m.address + m.stored) (m.length - m.stored))) ≡ false
      go true b e h = refl
      go false true e h = refl
      go false false e (inl none) = absurd (omega (arith, tests))
      go false false e (inr g) =
          let o : off < n = omega (arith, eqb-false (m.length - m.stored) 0 e) in
          subst (λ row. lacks row (right_of kind row) memory (m.address + m.stored) (m.length - m.stored) ≡ false) (sym g.1)
          (held-range g.0 g.1 g.2 g.3 g.4 o)

  -- and says where they go
  pub offset-is : LiesInRegion rows right key address n → off < n
      → (memory_offset (region_of key rows) (m.address + m.stored) (bytes_to_come m.length m.stored) ≡ region_offset rows key address + off)
      × (region_offset rows key address + n ≤ memory)
  unfolding memory_offset bytes_to_come region_offset region_row
  offset-is (inl none) o = absurd (omega arith)
  offset-is (inr g) o =
      let inside : g.0.offset + g.0.length ≤ memory = (region-in memory key rows g.0 sound g.1 (omega (arith, g.4, g.3))).0 in
      let three : get_or (region_of key rows) 3 0 ≡ g.0.offset = ap (λ row. get_or row 3 0) g.1 in
      let one : get_or (region_of key rows) 1 0 ≡ g.0.address = ap (λ row. get_or row 1 0) g.1 in
      (rw (ne_eqb (m.length - m.stored) 0 (λ z. absurd (omega arith))) (omega (arith, three, one, g.3)), omega (arith, three, one, inside, g.3, g.4))
