-- When the sums that executing makes stay within 64 bits; and what no header and no set-up says.
use Rattle.std.specs.Prelude.{ℕ, ◌+◌, ◌^◌, ◌<◌, ◌≡◌, Bool, true, false, ◌||◌, List, ltb}
use Rattle.opcode.specs.Kind as Kind
use Rattle.table.specs.Table.{memory_offset}
use Rattle.table.specs.EntryRow as EntryRow
use Rattle.pair.specs.Sound.{timer_limit}
use Rattle.pair.specs.declared.OpenMessage.{OpenMessage}
use Rattle.request_spec.specs.Verdict.{carrying, fragment, bytes_to_come, payload_size}
use Rattle.request_spec.specs.declared.Packet.{Packet}

-- where bytes of a region lie in memory
abbrev pub OffsetFits : List ℕ → ℕ → ℕ → Type 0
OffsetFits region address needed = memory_offset region address needed < 2 ^ 64

-- where the next bytes of a message go
pub record TargetFits (kind : ℕ) (m : OpenMessage) (entry region : List ℕ) : Type 0 where
  pub send : kind ≡ Kind.send → EntryRow.offset entry + m.stored < 2 ^ 64
  pub address : (kind ≡ Kind.send → ⊥) → 0 < bytes_to_come m.length m.stored → m.address + m.stored < 2 ^ 64
  pub offset : (kind ≡ Kind.send → ⊥) → OffsetFits region (m.address + m.stored) (bytes_to_come m.length m.stored)

-- a SEND or WRITE that passed the checks
pub record Storable (p : Packet) (m : OpenMessage) (entry region : List ℕ) : Type 0 where
  pub total : carrying p.kind ≡ true → m.stored + payload_size p < 2 ^ 64
  pub target : carrying p.kind ≡ true → TargetFits p.kind m entry region

-- any packet that passed them
pub record Executable (p : Packet) (m : OpenMessage) (entry region : List ℕ) : Type 0 where
  pub stores : Storable p m entry region
  pub own : carrying p.kind ≡ false → OffsetFits region m.address m.length

-- a fragment, or a timer code over the limit
unfoldable pub unformed : Packet → ℕ → Bool
unformed p timer = fragment p || ltb timer_limit timer
