-- What passes the header checks, by what a reader finds.
use Prim.Native.Nat.{ℕ, ◌<◌}
use mathlib.Core.Path.{◌≡◌, refl, subst}
use mathlib.Core.Bool.{Bool, true}
use mathlib.Core.List.{List}
use mathlib.Core.Logic.{◌⊎◌}
use native.Mathlib.Omega.{arith}
use lib.ListN.{length}
use Rattle.opcode.specs.Opcode.{service_of, low_of}
use Rattle.header.specs.Read.{bth_of, header_of, read_reason}
use Rattle.header.specs.Check.{pkeys_match, header_checks, header_reason, admitted}
use Rattle.header.specs.Claims.{CheckedReads, Admits}
use Rattle.header.specs.Drops.{ServiceOurs}
use Rattle.header.proofs.Reasons.{no-reason, accepted, accepted-by, read-by}
use Rattle.header.proofs.Widths.{known, below_64}
use Rattle.header.proofs.Conditions.{rc-or-uc, known-low, length-tested, keys_of}
use Rattle.header.proofs.Drops.{was_read, first-fails, dropped-by}
use Rattle.std.specs.Prelude.{Ok}

-- no reason of the nine is none of the four
passes : (service ours pkey : ℕ) (ready : Bool) (p : List ℕ) → header_reason service ours pkey ready p ≡ 0 → read_reason p ≡ 0
passes service ours pkey ready p e =
    let G = (first-fails service ours pkey ready p).only e in
    let s = known-low service G.4.known in
    no-reason p ((length-tested (length p)).1 G.0)
    (record { tver = G.1; known = known (bth_of p).opcode (omega (arith, G.4.same)); room = G.7 })

pub checked-reads : CheckedReads
unfolding admitted header_reason
checked-reads service ours pkey ready p h e =
    let A = accepted-by (header_checks service ours pkey ready p) p h e in
    read-by p h (passes service ours pkey ready p A.0) A.1

-- of the packet's own header
of-packet : (service ours pkey : ℕ) (p : List ℕ) → read_reason p ≡ 0
    → service_of (bth_of p).opcode ≡ service → (bth_of p).dest ≡ ours → pkeys_match (bth_of p).pkey pkey ≡ true
    → (low_of (bth_of p).opcode < 13) ⊎ (18 < low_of (bth_of p).opcode) → (service ≡ 1 → low_of (bth_of p).opcode < 12)
    → admitted service ours pkey true p ≡ Ok (header_of p)
of-packet service ours pkey p z s d k r u =
    let W = was_read p z in
    let o = below_64 (bth_of p).opcode W.1.known in
    let S : ServiceOurs (bth_of p).opcode service = record { same = s; known = rc-or-uc service (omega (arith, s, o)) } in
    let K = keys_of (bth_of p).pkey pkey k in
    let g = (first-fails service ours pkey true p).good ((length-tested (length p)).0 W.0) W.1.tver d K S r u W.1.room refl in
    (dropped-by service ours pkey true p 0 g).0 refl

pub admits : Admits
unfolding header_of
admits service ours pkey p h e s d k r u =
    let A = accepted p h e in
    subst
    (λ x. service_of x.bth.opcode ≡ service → x.bth.dest ≡ ours → pkeys_match x.bth.pkey pkey ≡ true
    → (low_of x.bth.opcode < 13) ⊎ (18 < low_of x.bth.opcode) → (service ≡ 1 → low_of x.bth.opcode < 12)
    → admitted service ours pkey true p ≡ Ok x)
    A.1
    (of-packet service ours pkey p A.0)
    s d k r u
