-- A duplicate READ that is answered has a good key, so its bytes lie in memory.
use Prim.Native.Nat.{ℕ, ◌%◌, ◌^◌, ◌<◌}
use mathlib.Core.Path.{◌≡◌, refl}
use mathlib.Core.Bool.{Bool, false}
use mathlib.Core.List.{List}
use native.Mathlib.Omega.{arith}
use Rattle.std.proofs.lemmas.Bool.Decides.{nat_tests}
use Rattle.sequence.specs.declared.Psn.{Psn}
use Rattle.table.specs.Table.{memory_offset}
use Rattle.pair.specs.declared.OpenMessage.{OpenMessage}
use Rattle.pair.specs.declared.Setup.{Setup}
use Rattle.request_spec.specs.Verdict.{key_fails}
use Rattle.request_spec.specs.declared.Packet.{Packet}
use Rattle.responder_spec.specs.Decide.{duplicate_read_fails}
use Rattle.decision_laws.proofs.Inside.{own-inside}

answered-key : (p : Packet) (s : Setup) (m : OpenMessage) (expected : Psn) (region : List ℕ) (t : Bool) → t ≡ duplicate_read_fails p s m expected region → t ≡ false
    → key_fails s.memory 12 m region ≡ false
unfolding duplicate_read_fails
answered-key p s m expected region t e f = grind (arith, nat_tests)

-- so their offset is its own remainder
pub answered_offset : (p : Packet) (s : Setup) (m : OpenMessage) (expected : Psn) (region : List ℕ) (t : Bool) → t ≡ duplicate_read_fails p s m expected region
    → t ≡ false
    → s.memory < 2 ^ 64
    → m.stored ≡ 0
    → memory_offset region m.address m.length % 2 ^ 64 ≡ memory_offset region m.address m.length
answered_offset p s m expected region t e f memory z =
    omega (arith, own-inside 12 s.memory m region refl (answered-key p s m expected region t e f) z)
