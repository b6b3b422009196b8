-- What is proved of the classes: kind and place of every opcode, once more by plain numbers. (Which headers follow, and
-- their bytes, is a law of the layout of headers.)
use Rattle.std.specs.Prelude.{ℕ, ◌≡◌, get_or}
use mathlib.Core.List.{List, [], ◌∷◌, ◌++◌, replicate}
use Rattle.opcode.specs.Opcode.{class_of}

-- On RC 0 to 5 are SENDs (kind 0), 6 to 11 WRITEs (6), 12 is READ (12), 13 to 16 are READ responses (13), and 17 to 20
-- are each a kind of their own. UC has the first twelve, from 32 on. All others are reserved (21).
abbrev pub sends_and_writes : List ℕ
sends_and_writes = replicate 6 0 ++ replicate 6 6

abbrev pub kinds : List ℕ
kinds =
    sends_and_writes ++ (12 ∷ 13 ∷ 13 ∷ 13 ∷ 13 ∷ 17 ∷ 18 ∷ 19 ∷ 20 ∷ [] ++ (replicate 11 21 ++ sends_and_writes))

-- SENDs and WRITEs have six places: First 0, Middle 1, Last 2, Last with immediate 2, Only 4, Only with immediate 4; READ
-- responses have four: First 0, Middle 1, Last 2, Only 4. All others, reserved ones too, are Only.
abbrev pub six_places : List ℕ
six_places = 0 ∷ 1 ∷ 2 ∷ 2 ∷ 4 ∷ 4 ∷ []

abbrev pub places : List ℕ
places = six_places ++ (six_places ++ (4 ∷ 0 ∷ 1 ∷ 2 ∷ 4 ∷ [] ++ (replicate 15 4 ++ (six_places ++ six_places))))

pub record ClassIs (opcode : ℕ) : Type 0 where
  pub kind : (class_of opcode).kind ≡ get_or kinds opcode 21
  pub place : (class_of opcode).place ≡ get_or places opcode 4

abbrev pub ClassesAre : Type 0
ClassesAre = (opcode : ℕ) → ClassIs opcode
