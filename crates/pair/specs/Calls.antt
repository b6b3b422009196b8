-- The pair with its tables, and what each call of the host makes of them.
use Rattle.std.specs.Prelude.{ℕ, List, [], ◌∷◌}
use Rattle.table.specs.declared.Region.{Region}
use Rattle.table.specs.declared.Entry.{Entry}
use Rattle.pair.specs.declared.Setup.{Setup}
use Rattle.pair.specs.declared.Pair.{Pair}
use Rattle.pair.specs.Host.{set_up, set_up_regions, reset_to, reset_regions, made_ready, add_regions, remove_regions, posted, post_entries}

pub record Whole : Type 0 where
  pub pair : Pair
  pub regions : List (List ℕ)
  pub entries : List (List ℕ)
  pub saved : List (List ℕ)

pub data HostCall : Type 0 where
  SetUp : Setup → HostCall
  Reset : HostCall
  MakeReady : HostCall
  AddRegion : Region → HostCall
  RemoveRegion : ℕ → HostCall
  PostEntry : Entry → HostCall

-- the same with another pair, other regions and other entries; no call of the host writes saved atomics
abbrev pub changed : Whole → Pair → List (List ℕ) → List (List ℕ) → Whole
changed w q regions entries = record { pair = q; regions = regions; entries = entries; saved = w.saved }

-- the same tables beside another pair
abbrev pub with_pair : Whole → Pair → Whole
with_pair w q = record { pair = q; regions = w.regions; entries = w.entries; saved = w.saved }

-- set-up with tables of any contents
unfoldable pub begun : Setup → List (List ℕ) → List (List ℕ) → List (List ℕ) → Whole
begun s regions entries saved =
    record { pair = (set_up s).pair; regions = set_up_regions s regions; entries = entries; saved = saved }

unfoldable pub called : Whole → HostCall → Whole
called w (SetUp s) = begun s w.regions w.entries w.saved
called w Reset = changed w (reset_to w.pair).pair (reset_regions w.pair w.regions) w.entries
called w MakeReady = changed w (made_ready w.pair).pair w.regions w.entries
called w (AddRegion r) = changed w w.pair (add_regions w.pair w.regions r) w.entries
called w (RemoveRegion key) = changed w w.pair (remove_regions w.regions key) w.entries
called w (PostEntry e) = changed w (posted w.pair e).pair w.regions (post_entries w.pair w.entries e)

unfoldable pub called_all : Whole → List HostCall → Whole
called_all w [] = w
called_all w (c ∷ cs) = called_all (called w c) cs
