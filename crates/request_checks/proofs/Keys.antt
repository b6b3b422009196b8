-- An address past the top lies in no region; and when nothing of a message is stored yet.
use Prim.Native.Nat.{ℕ, ◌≤◌}
use mathlib.Core.Path.{◌≡◌}
use mathlib.Core.Bool.{true, false}
use mathlib.Core.List.{List}
use native.Mathlib.Omega.{arith}
use Rattle.std.proofs.lemmas.Bool.Decides.{nat_tests}
use Rattle.table.specs.Table.{addresses, past_top}
use Rattle.pair.specs.declared.OpenMessage.{OpenMessage}
use Rattle.request_spec.specs.Verdict.{single, fragment, lacks, current}
use Rattle.request_spec.specs.declared.Packet.{Packet}

pub lacks_past : (region : List ℕ) (right memory address n : ℕ) → addresses ≤ address → lacks region right memory address n ≡ true
unfolding lacks past_top
lacks_past region right memory address n h = grind (arith, nat_tests)

-- a READ or atomic that is no fragment begins its message: nothing of it is stored yet
pub none_stored_yet : (opened : OpenMessage) (p : Packet) → fragment p ≡ false → single p.kind ≡ true → (current opened p).stored ≡ 0
unfolding fragment current
none_stored_yet opened p h c = grind (arith, nat_tests)
