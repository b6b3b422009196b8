-- The table of classes: one test of all its rows, and what it gives of each.
use Prim.Native.Nat.{ℕ, ◌+◌, ◌-◌, ◌*◌, ◌/◌, ◌%◌, ◌^◌, ◌<◌}
use mathlib.Core.Path.{◌≡◌, ap, ◌∙◌}
use mathlib.Core.Bool.{Bool, true, cond, ◌&&◌}
use lib.Dec.{eqb, ltb}
use borrow.Author.Tests.{eqb-true}
use Rattle.lemmas.proofs.Tests.{and_left, and_right}
use Rattle.lemmas.proofs.Tables.{passes, each}
use Rattle.opcode.specs.declared.OpcodeClass.{OpcodeClass}
use Rattle.opcode.specs.Kind as Kind
use Rattle.opcode.specs.Opcode.{per_service, low_class}

-- two classes are the same, by a test
abbrev same : OpcodeClass → OpcodeClass → Bool
same a b =
    eqb a.kind b.kind && (eqb a.place b.place && (eqb a.follows b.follows && eqb a.length b.length))

is_same : (a b : OpcodeClass) → same a b ≡ true → a ≡ b
is_same a b h =
    let kind = eqb a.kind b.kind in
    let place = eqb a.place b.place in
    let follows = eqb a.follows b.follows in
    let length = eqb a.length b.length in
    let h2 = and_right kind (place && (follows && length)) h in
    let h3 = and_right place (follows && length) h2 in
    let k = eqb-true a.kind b.kind (and_left kind (place && (follows && length)) h) in
    let p = eqb-true a.place b.place (and_left place (follows && length) h2) in
    let f = eqb-true a.follows b.follows (and_left follows length h3) in
    let l = eqb-true a.length b.length (and_right follows length h3) in
    λ i. record { kind = k i; place = p i; follows = f i; length = l i }

-- the row of an opcode, and a row's digit in a column
abbrev row_of : ℕ → ℕ
row_of low = cond (ltb low Kind.reserved) low Kind.reserved

abbrev digit : ℕ → ℕ → ℕ
digit column row = column / 2 ^ (3 * row) % 8

-- the class that the digits of a row say
abbrev said : ℕ → ℕ → ℕ → ℕ → ℕ → OpcodeClass
said row before below follows words =
    record { kind = (row + 32 - before) % 32; place = (4 + 8 - below) % 8; follows = follows; length = 12 + words * 4 }

-- whether every row of the table says the class of its opcode
module _ (kinds place after words : ℕ) where
  abbrev in_row : ℕ → OpcodeClass
  in_row low = let row = row_of low in said row (digit kinds row) (digit place row) (digit after row) (digit words row)

  abbrev right : Bool
  right = passes (λ low. same (in_row low) (low_class low)) per_service

  pub row-class : (low : ℕ) → low < per_service → (row before below follows more : ℕ)
      → row ≡ row_of low → before ≡ digit kinds row → below ≡ digit place row → follows ≡ digit after row → more ≡ digit words row
      → right ≡ true → said row before below follows more ≡ low_class low
  row-class low l row before below follows more r b p f w h =
      (λ i. said (r i) ((b ∙ ap (digit kinds) r) i) ((p ∙ ap (digit place) r) i) ((f ∙ ap (digit after) r) i) ((w ∙ ap (digit words) r) i))
      ∙ is_same (in_row low) (low_class low) (each (λ low. same (in_row low) (low_class low)) per_service h low l)
