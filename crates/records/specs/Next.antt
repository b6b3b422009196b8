-- What reading a record takes from the bytes that are left, where those are known.
use Rattle.std.specs.Prelude.{ℕ, ◌+◌, ◌<◌, ◌≤◌, List, ◌++◌, length, Option, IfSome}
use Rattle.std.specs.Int.{w16, to_be_bytes, from_be_bytes}
use Rattle.std.specs.Io.KnownBytes.{Consumes, IsAtEnd}
use Rattle.records.specs.declared.Record.{Record}
use Rattle.records.specs.declared.Record.TheVariants.{Packet, Cut, End}

-- the length of the packet in two bytes, and the packet
abbrev pub record_of : List ℕ → List ℕ
record_of p = to_be_bytes w16 (length p) ++ p

-- there is something, but no whole record whose packet fits the room
abbrev pub IsCut : ℕ → List ℕ → Type 0
IsCut room xs = (0 < length xs) × (2 ≤ length xs → from_be_bytes w16 xs ≤ room → length xs < 2 + from_be_bytes w16 xs)

-- what was read, of a record that is cut or before an error, came off the front
abbrev pub TakesSome : Option (List ℕ) → Option (List ℕ) → Type 0
TakesSome old new = (bs : List ℕ) × Consumes old new bs

-- what was left, what is left now, the room for the packet, and what was read
abbrev pub ReadsNext : Option (List ℕ) → Option (List ℕ) → ℕ → Record → Type 0
ReadsNext old new room (Packet p) = (length p.now ≤ room) × Consumes old new (record_of p.now)
ReadsNext old new room Cut = IfSome old (IsCut room) × TakesSome old new × (65535 ≤ room → IsAtEnd new)
ReadsNext old new room End = IsAtEnd old × IsAtEnd new
