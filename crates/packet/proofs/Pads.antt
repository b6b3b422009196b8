-- The pad.
use Prim.Native.Nat.{ℕ, zero, suc, ◌-◌, ◌≤◌, ◌<◌}
use mathlib.Core.Path.{◌≡◌, refl}
use mathlib.Core.List.{[], ◌∷◌}
use native.Mathlib.Omega.{arith}
use lib.ListN.{take, replicate}
use Rattle.packet.specs.Packet.{pad_of}
use Rattle.packet.specs.Claims.{PadFills, PadLeast}

pub pad-fills : PadFills
unfolding pad_of
pad-fills n = omega arith

pub pad-least : PadLeast
unfolding pad_of
pad-least n k h = omega arith

pub pad-small : (n : ℕ) → pad_of n < 4
unfolding pad_of
pad-small n = omega arith

-- the zero bytes that the code takes from
pub zeros : (n : ℕ) → n ≤ 3 → take {A = ℕ} (n - 0) (0 ∷ 0 ∷ 0 ∷ []) ≡ replicate n 0
zeros zero h = refl
zeros (suc zero) h = refl
zeros (suc (suc zero)) h = refl
zeros (suc (suc (suc zero))) h = refl
zeros (suc (suc (suc (suc n)))) h = absurd (omega arith)
