-- Packet numbers (PSN) and message numbers (MSN): each counted modulo 2^24.
-- Every definition takes any number: one over 24 bits counts as its remainder.
use Rattle.std.specs.Prelude.{ℕ, ◌+◌, ◌-◌, ◌%◌, cond, eqb, leb}
use Rattle.sequence.specs.declared.Psn.{Psn}
use Rattle.sequence.specs.declared.Msn.{Msn}
use Rattle.sequence.specs.declared.Class.{Class}
use Rattle.sequence.specs.declared.Class.TheVariants.{Expected, Ahead, Duplicate}

-- how many PSNs there are, and how many of them are ahead of the expected one
abbrev pub space : ℕ
space = 16777216

abbrev pub half : ℕ
half = 8388608

-- how many MSNs there are
abbrev pub msn_space : ℕ
msn_space = 16777216

-- PSN minus expected, modulo 16,777,216
abbrev pub distance : ℕ → ℕ → ℕ
distance psn expected = (psn % space + space - expected % space) % space

-- n more, modulo 16,777,216
abbrev pub after : ℕ → ℕ → ℕ
after number n = (number + n) % space

abbrev pub psn_after : Psn → ℕ → Psn
psn_after psn n = record { 0 = after psn.0 n }

abbrev pub msn_next : Msn → Msn
msn_next msn = record { 0 = (msn.0 + 1) % msn_space }

-- at distance 0 the packet is expected, up to the half-space it is ahead, beyond that a duplicate
unfoldable pub class_at : ℕ → Class
class_at d = cond (eqb d 0) Expected (cond (leb d half) Ahead Duplicate)

unfoldable pub psn_class : ℕ → ℕ → Class
psn_class psn expected = class_at (distance psn expected)
