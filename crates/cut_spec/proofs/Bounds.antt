-- How large the numbers of a cut are.
use Prim.Native.Nat.{ℕ, ◌≤◌, ◌<◌}
use mathlib.Core.Path.{◌≡◌}
use mathlib.Core.Bool.{true, false}
use native.Mathlib.Omega.{arith}
use borrow.Author.Tests.{ltb-false}
use Rattle.lemmas.proofs.Tests.{cond-le}
use Rattle.header.specs.Read.{other_service}
use Rattle.opcode.specs.Place.{ends}
use Rattle.pmtu.specs.Pieces.{pmtu_fits, pieces}
use Rattle.pmtu.proofs.Counting.{counts, pmtu-bounds}
use Rattle.cut_spec.specs.Message.{carries, carried_length, message_length, message_limit, packets_of}
use Rattle.cut_spec.specs.Cut.{with_immediate, low_for}
use Rattle.cut_spec.specs.declared.Request.{Request}
use Rattle.cut_spec.specs.declared.Request.TheVariants.{Send, SendImmediate, Write, WriteImmediate, Read, CmpSwap, FetchAdd}

pub immediate-bound : (place : ℕ) → place ≤ 4 → with_immediate place ≤ 5
unfolding with_immediate
immediate-bound place h = cond-le (ends place) (omega arith) (omega arith)

pub low-bound : (r : Request) (place : ℕ) → place ≤ 4 → low_for r place ≤ 20
unfolding low_for
low-bound Send place h = omega arith
low-bound (SendImmediate v) place h = omega (arith, immediate-bound place h)
low-bound (Write t) place h = omega arith
low-bound (WriteImmediate t v) place h = omega (arith, immediate-bound place h)
low-bound (Read a) place h = omega arith
low-bound (CmpSwap a) place h = omega arith
low-bound (FetchAdd t v) place h = omega arith

-- what is carried is no longer than the message
pub carried-bound : (r : Request) (n : ℕ) → carried_length r n ≤ message_length r n
unfolding carried_length carries message_length
carried-bound Send n = omega arith
carried-bound (SendImmediate v) n = omega arith
carried-bound (Write t) n = omega arith
carried-bound (WriteImmediate t v) n = omega arith
carried-bound (Read a) n = omega arith
carried-bound (CmpSwap a) n = omega arith
carried-bound (FetchAdd t v) n = omega arith

-- nothing within the limit has more than 4,096 pieces
pub pieces-bound : (n pmtu : ℕ) → pmtu_fits pmtu ≡ true → n ≤ message_limit → pieces n pmtu ≤ 4096
pieces-bound n pmtu f h =
    let b = pmtu-bounds pmtu f in
    let w : 256 ≤ pmtu = b.0 in
    (counts n pmtu (omega arith)).least 4096 (omega arith) (omega arith)

-- so an index within the packets of a message is small
pub index-small : (r : Request) (n pmtu i : ℕ) → pmtu_fits pmtu ≡ true → message_length r n ≤ message_limit
    → i < packets_of r n pmtu → i < 4096
unfolding packets_of
index-small r n pmtu i f l h =
    let a : carried_length r n ≤ message_length r n = carried-bound r n in
    let m : pieces (carried_length r n) pmtu ≤ 4096 = pieces-bound (carried_length r n) pmtu f (omega arith) in
    omega arith

pub service-small : (s : ℕ) → other_service s ≡ false → s ≤ 1
unfolding other_service
service-small s h = ltb-false 1 s h
