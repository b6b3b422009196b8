-- The pair's ring of entries, and the plain run's list.
use Prim.Native.Nat.{ℕ, zero, suc, ◌-◌, ◌≤◌}
use mathlib.Core.Path.{◌≡◌, refl, sym, ap, ◌∙◌}
use mathlib.Core.Bool.{Bool, true, false, cond}
use mathlib.Core.List.{List, [], map}
use native.Mathlib.Omega.{arith}
use lib.ListN.{length, get_or, drop}
use Rattle.table.specs.Table.{outside, entry_slot}
use Rattle.table.specs.View.{ring_from, in_ring}
use Rattle.table.specs.Claims.{EntriesSound}
use Rattle.table.specs.declared.Entry.{Entry}
use Rattle.table.specs.declared.Ring.{Ring}
use Rattle.table.proofs.Regions.{entry-tested, entry-rows}
use Rattle.table.proofs.Rings.{entry-ring}
use Rattle.responder_spec.specs.Apply.{ring_taken, entries_by}
use Rattle.delivery_spec.specs.Plain.{first_of}
use Rattle.delivery_spec.specs.Demand.{entry_of}

ring-length : (rows : List (List ℕ)) (head i n : ℕ) → length (map entry_of (ring_from entry_slot rows head i n)) ≡ n
unfolding ring_from
ring-length rows head i zero = refl
ring-length rows head i (suc n) = ap suc (ring-length rows head (suc i) n)

ring-first : (rows : List (List ℕ)) (head n : ℕ) → 1 ≤ n
    → entry_of (get_or rows (entry_slot head 0) []) ≡ first_of (map entry_of (ring_from entry_slot rows head 0 n))
unfolding ring_from
ring-first rows head zero h = absurd (omega arith)
ring-first rows head (suc n) h = refl

ring-rest : (rows : List (List ℕ)) (head n : ℕ) → 1 ≤ n
    → map entry_of (in_ring entry_slot rows (record { head = entry_slot head 1; count = n - 1 })) ≡ drop 1 (map entry_of (ring_from entry_slot rows head 0 n))
unfolding ring_from
ring-rest rows head zero h = absurd (omega arith)
ring-rest rows head (suc n) h =
    let e : suc n - 1 ≡ n = omega arith in
    ap (λ k. map entry_of (in_ring entry_slot rows (record { head = entry_slot head 1; count = k }))) e ∙ ap (map entry_of) (entry-ring.takes rows head n)

module _ (rows : List (List ℕ)) (r : Ring) (es : List Entry) (is : map entry_of (in_ring entry_slot rows r) ≡ es) where
  pub count-is : r.count ≡ length es
  count-is = sym (ring-length rows r.head 0 r.count) ∙ ap length is

  pub head-is : 1 ≤ r.count → entry_of (get_or rows (entry_slot r.head 0) []) ≡ first_of es
  head-is h = ring-first rows r.head r.count h ∙ ap first_of is

  pub taken_is : 1 ≤ r.count → map entry_of (in_ring entry_slot rows (ring_taken r)) ≡ drop 1 es
  unfolding ring_taken
  taken_is h = ring-rest rows r.head r.count h ∙ ap (drop 1) is

  pub entries_by_lem : (b : Bool) → (b ≡ true → 1 ≤ r.count) → map entry_of (in_ring entry_slot rows (entries_by b r)) ≡ cond b (drop 1 es) es
  unfolding entries_by
  entries_by_lem true h = taken_is (h refl)
  entries_by_lem false h = is

-- an entry that calls posted lies in memory
pub entry-fits : (memory : ℕ) (rows : List (List ℕ)) (r : Ring) → EntriesSound memory rows r → 1 ≤ r.count
    → outside (get_or (get_or rows (entry_slot r.head 0) []) 1 0) (get_or (get_or rows (entry_slot r.head 0) []) 2 0) memory ≡ false
entry-fits memory rows r z h =
    let e = z.each 0 h in
    let c = entry-rows e.0 in
    let o = ap (λ x. get_or x 1 0) e.1 ∙ c.1 in
    let l = ap (λ x. get_or x 2 0) e.1 ∙ c.2 in
    rw (o, l) ((entry-tested memory e.0).1 e.2)
