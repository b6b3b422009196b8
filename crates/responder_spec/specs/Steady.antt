-- A sound pair with sound tables, and that calls keep it so, which the crate sound_laws proves.
use Rattle.std.specs.Prelude.{ℕ, ◌≤◌, ◌<◌, ◌^◌, ◌≡◌, List, [], get_or}
use Rattle.header.specs.Read.{bth_of}
use Rattle.table.specs.Table.{entry_slot}
use Rattle.table.specs.Claims.{RegionsSound, EntriesSound}
use Rattle.table.specs.declared.Entry.{Entry}
use Rattle.pair.specs.Calls.HostCall.{PostEntry}
use Rattle.pair.specs.Calls.{Whole, called}
use Rattle.pair.specs.Claims.{Sound}
use Rattle.responder_spec.specs.Arrival.{Arrival}
use Rattle.responder_spec.specs.Inbound.{inbound}
use Rattle.responder_spec.specs.Calls.{drained}

-- Sound but for the values that are saved, which are those found in memory: so of memory nothing is asked, and of the
-- packet only that its PSN has 24 bits.
pub record Steady (w : Whole) : Type 0 where
  pub pair : Sound w.pair
  pub regions : RegionsSound w.pair.setup.memory w.regions
  pub entries : EntriesSound w.pair.setup.memory w.entries w.pair.entries
  pub held : w.pair.message.kind ≡ 0 → w.pair.message.stored ≤ get_or (get_or w.entries (entry_slot w.pair.entries.head 0) []) 2 0

abbrev pub InboundSteady : Type 0
InboundSteady = (a : Arrival) → (bth_of a.packet).psn.0 < 2 ^ 24 → Steady a.whole → Steady (inbound a).whole

abbrev pub NextSteady : Type 0
NextSteady = (w : Whole) (m out : List ℕ) → Steady w → Steady (drained w m out)

abbrev pub PostSteady : Type 0
PostSteady = (w : Whole) (e : Entry) → Steady w → Steady (called w (PostEntry e))
