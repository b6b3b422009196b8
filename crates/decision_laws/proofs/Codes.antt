-- The request check that fails; 8 comes only from an entry that no call made. And what opcodes READs and atomics have.
use Prim.Native.Nat.{ℕ, ◌+◌, ◌-◌, ◌≤◌}
use mathlib.Core.Path.{◌≡◌, refl, sym, ap, subst, ◌∙◌}
use mathlib.Core.Bool.{Bool, true, false, cond, not, ◌&&◌, ◌||◌, true≢false}
use mathlib.Core.List.{List, [], ◌∷◌}
use mathlib.Core.Logic.{◌⊎◌, inl, inr}
use native.Mathlib.Omega.{arith}
use lib.Dec.{eqb, ltb}
use lib.ListN.{get_or}
use borrow.Author.Tests.{eqb-true, eqb-false, ltb-true}
use Rattle.lemmas.proofs.Tests.{and_left, and_right}
use Rattle.opcode.specs.Opcode.{service_of, low_of, kind_of, low_class, reserved_class, uc_has, class_of}
use Rattle.opcode.specs.Place.{starts}
use Rattle.table.specs.Table.{outside, entry_row}
use Rattle.table.specs.Claims.{EntrySound, EntriesSound}
use Rattle.pair.specs.Claims.{Sound, MessageSound}
use Rattle.pair.specs.declared.Setup.{Setup}
use Rattle.pair.specs.declared.OpenMessage.{OpenMessage}
use Rattle.pair.specs.declared.Pair.{Pair}
use Rattle.request_spec.specs.Verdict.{out_of_sequence, not_enabled, pad_early, over_limit, needs_entry, entries_waiting}
use Rattle.request_spec.specs.Verdict.{none_waiting, uses_entry, entry_outside, key_fails, lengths_off, current}
use Rattle.request_spec.specs.Verdict.{request_check, expected_check}
use Rattle.request_spec.specs.declared.Packet.{Packet}
use Rattle.responder_spec.specs.Decide.{head_entry}
use Rattle.lemmas.specs.OneOf.{OneOf}

-- the cascade of the checks, by their results
abbrev coded : Bool → Bool → Bool → Bool → Bool → Bool → Bool → Bool → ℕ
coded a b c d e f g h =
    cond a 1 (cond b 2 (cond c 3 (cond d 4 (cond e 5 (cond f 8 (cond g 6 (cond h 7 0)))))))

-- 8: in sequence, an entry was there if one was needed, and the one used lies outside
only_row : (a b c d e f g h : Bool) → coded a b c d e f g h ≡ 8 → (a ≡ false) × (e ≡ false) × (f ≡ true)
only_row true b c d e f g h z = absurd (omega arith)
only_row false true c d e f g h z = absurd (omega arith)
only_row false false true d e f g h z = absurd (omega arith)
only_row false false false true e f g h z = absurd (omega arith)
only_row false false false false true f g h z = absurd (omega arith)
only_row false false false false false true g h z = (refl, refl, refl)
only_row false false false false false false true h z = absurd (omega arith)
only_row false false false false false false false true z = absurd (omega arith)
only_row false false false false false false false false z = absurd (omega arith)

-- where one waits there is one
waits : (opened count : ℕ) → eqb (entries_waiting opened count) 0 ≡ false → 1 ≤ count
unfolding entries_waiting
waits opened count h = go (eqb opened 0) h
  where
    go : (b : Bool) → eqb (cond b (count - 1) count) 0 ≡ false → 1 ≤ count
    go true e = let n : count - 1 ≡ 0 → ⊥ = eqb-false (count - 1) 0 e in omega arith
    go false e = let n : count ≡ 0 → ⊥ = eqb-false count 0 e in omega arith

-- an open SEND holds one
held : (q : Pair) → Sound q → q.message.kind ≡ 0 → 1 ≤ q.entries.count
held q S e = go S.message
  where
    go : MessageSound q → 1 ≤ q.entries.count
    go (inl z) = absurd (omega arith)
    go (inr (inl z)) = z.1
    go (inr (inr z)) = let k : q.message.kind ≡ 6 = z.0 in absurd (omega arith)

pub some-entry : (q : Pair) (p : Packet) → Sound q → out_of_sequence q.message.kind p.kind p.place ≡ false
    → none_waiting p.kind p.place p.operands.immediate q.message.kind q.entries.count ≡ false
    → uses_entry p.kind p.operands.immediate ≡ true
    → 1 ≤ q.entries.count
unfolding out_of_sequence none_waiting needs_entry uses_entry
some-entry q p S o w u = go (eqb p.kind 0) (starts p.place) p.operands.immediate refl o w u
  where
    same : (b : Bool) → not b ≡ false → b ≡ true
    same true h = refl
    same false h = sym h

    go : (k st i : Bool) → eqb p.kind 0 ≡ k → cond st (not (eqb q.message.kind 255)) (not (eqb q.message.kind p.kind)) ≡ false
        → (cond k st i && eqb (entries_waiting q.message.kind q.entries.count) 0) ≡ false → (k || i) ≡ true → 1 ≤ q.entries.count
    go true true i e x y z = waits q.message.kind q.entries.count y
    go true false i e x y z =
        held q S (eqb-true q.message.kind p.kind (same (eqb q.message.kind p.kind) x) ∙ eqb-true p.kind 0 e)
    go false st true e x y z = waits q.message.kind q.entries.count y
    go false st false e x y z = absurd (true≢false (sym z))

-- a row that a call made lies in memory
row_inside : (memory : ℕ) (row : List ℕ) → EntrySound memory row → outside (get_or row 1 0) (get_or row 2 0) memory ≡ true → ⊥
unfolding outside entry_row
row_inside memory row E h =
    let r : ltb memory (E.0.offset + E.0.length) ≡ true = subst (λ x. ltb memory (get_or x 1 0 + get_or x 2 0) ≡ true) E.1 h in
    omega (arith, ltb-true memory (E.0.offset + E.0.length) r, E.2)

pub never-row : (q : Pair) (entries : List (List ℕ)) (p : Packet) (region : List ℕ) → Sound q → EntriesSound q.setup.memory entries q.entries
    → expected_check q.setup q.message p q.entries.count (head_entry q entries) region ≡ 8 → ⊥
unfolding expected_check request_check entry_outside
never-row q entries p region S E h =
    let opened = q.message in
    let s = q.setup in
    let entry = head_entry q entries in
    let T =
    only_row (out_of_sequence opened.kind p.kind p.place) (not_enabled s p.kind) (pad_early p.place p.pad)
    (over_limit p.operands.length)
    (none_waiting p.kind p.place p.operands.immediate opened.kind q.entries.count)
    (entry_outside p.kind p.operands.immediate entry s.memory)
    (key_fails s.memory p.kind (current opened p) region)
    (lengths_off p s.pmtu (current opened p) (get_or entry 2 0)) h in
    let u = and_left (uses_entry p.kind p.operands.immediate) (outside (get_or entry 1 0) (get_or entry 2 0) s.memory) T.2 in
    let o = and_right (uses_entry p.kind p.operands.immediate) (outside (get_or entry 1 0) (get_or entry 2 0) s.memory) T.2 in
    row_inside s.memory entry (E.each 0 (some-entry q p S T.0 T.1 u)) o

-- all passed: enabled, and entry, key and lengths are good
passed-all : (a b c d e f g h : Bool) → coded a b c d e f g h ≡ 0 → (b ≡ false) × (f ≡ false) × (g ≡ false) × (h ≡ false)
passed-all true b c d e f g h z = absurd (omega arith)
passed-all false true c d e f g h z = absurd (omega arith)
passed-all false false true d e f g h z = absurd (omega arith)
passed-all false false false true e f g h z = absurd (omega arith)
passed-all false false false false true f g h z = absurd (omega arith)
passed-all false false false false false true g h z = absurd (omega arith)
passed-all false false false false false false true h z = absurd (omega arith)
passed-all false false false false false false false true z = absurd (omega arith)
passed-all false false false false false false false false z = (refl, refl, refl, refl)

pub record Passed (s : Setup) (opened : OpenMessage) (p : Packet) (entry region : List ℕ) : Type 0 where
  pub enabled : not_enabled s p.kind ≡ false
  pub entries : entry_outside p.kind p.operands.immediate entry s.memory ≡ false
  pub key : key_fails s.memory p.kind (current opened p) region ≡ false
  pub lengths : lengths_off p s.pmtu (current opened p) (get_or entry 2 0) ≡ false

-- without the first check, and with it
pub request-passes : (s : Setup) (opened : OpenMessage) (p : Packet) (count : ℕ) (entry region : List ℕ) → request_check s opened p count entry region ≡ 0
    → Passed s opened p entry region
unfolding request_check
request-passes s opened p count entry region h =
    let T =
    passed-all false (not_enabled s p.kind) (pad_early p.place p.pad) (over_limit p.operands.length)
    (none_waiting p.kind p.place p.operands.immediate opened.kind count)
    (entry_outside p.kind p.operands.immediate entry s.memory)
    (key_fails s.memory p.kind (current opened p) region)
    (lengths_off p s.pmtu (current opened p) (get_or entry 2 0)) h in
    record { enabled = T.0; entries = T.1; key = T.2; lengths = T.3 }

pub passes : (s : Setup) (opened : OpenMessage) (p : Packet) (count : ℕ) (entry region : List ℕ) → expected_check s opened p count entry region ≡ 0
    → Passed s opened p entry region
unfolding expected_check
passes s opened p count entry region h = go (out_of_sequence opened.kind p.kind p.place) h
  where
    go : (b : Bool) → cond b 1 (request_check s opened p count entry region) ≡ 0 → Passed s opened p entry region
    go true e = absurd (omega arith)
    go false e = request-passes s opened p count entry region e

-- an opcode's number is that of its kind, or the kind is one of four that several have
many : ℕ → Type 0
many = OneOf (0 ∷ 6 ∷ 13 ∷ 21 ∷ [])

kind-low : (low : ℕ) → many (kind_of low) ⊎ (kind_of low ≡ low)
unfolding many kind_of
kind-low low = go (ltb low 6) (ltb low 12) (eqb low 12) (ltb low 17) (eqb low 17) (eqb low 18) (eqb low 19) (eqb low 20) refl refl refl refl refl
  where
    go : (a b c d e f g i : Bool) → eqb low 12 ≡ c → eqb low 17 ≡ e → eqb low 18 ≡ f → eqb low 19 ≡ g → eqb low 20 ≡ i
        → OneOf (0 ∷ 6 ∷ 13 ∷ 21 ∷ []) (cond a 0 (cond b 6 (cond c 12 (cond d 13 (cond e 17 (cond f 18 (cond g 19 (cond i 20 21))))))))
        ⊎ (cond a 0 (cond b 6 (cond c 12 (cond d 13 (cond e 17 (cond f 18 (cond g 19 (cond i 20 21))))))) ≡ low)
    go true b c d e f g i v w x y z = inl (inl refl)
    go false true c d e f g i v w x y z = inl (inr (inl refl))
    go false false true d e f g i v w x y z = inr (sym (eqb-true low 12 v))
    go false false false true e f g i v w x y z = inl (inr (inr (inl refl)))
    go false false false false true f g i v w x y z = inr (sym (eqb-true low 17 w))
    go false false false false false true g i v w x y z = inr (sym (eqb-true low 18 x))
    go false false false false false false true i v w x y z = inr (sym (eqb-true low 19 y))
    go false false false false false false false true v w x y z = inr (sym (eqb-true low 20 z))
    go false false false false false false false false v w x y z = inl (inr (inr (inr (inl refl))))

-- READ and the atomics
pub data Bare : ℕ → Type 0 where
  reads : Bare 12
  swaps : Bare 19
  adds : Bare 20

not-many : (k : ℕ) → Bare k → many k → ⊥
unfolding many
not-many k reads (inl e) = omega arith
not-many k reads (inr (inl e)) = omega arith
not-many k reads (inr (inr (inl e))) = omega arith
not-many k reads (inr (inr (inr (inl e)))) = omega arith
not-many k reads (inr (inr (inr (inr x)))) = elim x [ ]
not-many k swaps (inl e) = omega arith
not-many k swaps (inr (inl e)) = omega arith
not-many k swaps (inr (inr (inl e))) = omega arith
not-many k swaps (inr (inr (inr (inl e)))) = omega arith
not-many k swaps (inr (inr (inr (inr x)))) = elim x [ ]
not-many k adds (inl e) = omega arith
not-many k adds (inr (inl e)) = omega arith
not-many k adds (inr (inr (inl e))) = omega arith
not-many k adds (inr (inr (inr (inl e)))) = omega arith
not-many k adds (inr (inr (inr (inr x)))) = elim x [ ]

low-is : (low k : ℕ) → Bare k → kind_of low ≡ k → low ≡ k
low-is low k B h = go (kind-low low)
  where
    go : many (kind_of low) ⊎ (kind_of low ≡ low) → low ≡ k
    go (inl x) = absurd (not-many k B (subst many h x))
    go (inr x) = sym x ∙ h

not-reserved : (k : ℕ) → Bare k → 21 ≡ k → ⊥
not-reserved k reads e = omega arith
not-reserved k swaps e = omega arith
not-reserved k adds e = omega arith

pub class-is : (opcode k : ℕ) → Bare k → (class_of opcode).kind ≡ k → class_of opcode ≡ low_class k
unfolding class_of low_class reserved_class
class-is opcode k B h = go (eqb (service_of opcode) 0) (eqb (service_of opcode) 1) (uc_has (low_of opcode)) h
  where
    go : (a b c : Bool)
        → (cond a (low_class (low_of opcode)) (cond b (cond c (low_class (low_of opcode)) reserved_class) reserved_class)).kind ≡ k
        → cond a (low_class (low_of opcode)) (cond b (cond c (low_class (low_of opcode)) reserved_class) reserved_class) ≡ low_class k
    go true b c h = ap low_class (low-is (low_of opcode) k B h)
    go false true true h = ap low_class (low-is (low_of opcode) k B h)
    go false true false h = absurd (not-reserved k B h)
    go false false c h = absurd (not-reserved k B h)
