-- Each request check says its condition.
use Prim.Native.Nat.{ℕ, ◌+◌, ◌-◌, ◌≤◌, ◌<◌}
use mathlib.Core.Path.{◌≡◌, sym, subst}
use mathlib.Core.Bool.{true, false, cond}
use mathlib.Core.List.{List}
use mathlib.Core.Logic.{inl, inr}
use native.Mathlib.Omega.{arith}
use lib.Dec.{eqb}
use lib.ListN.{get_or}
use borrow.Author.Tests.{ltb-false, le-ltb}
use Rattle.std.proofs.lemmas.Bool.Decides.{nat_tests}
use Rattle.opcode.specs.Place.{starts, ends}
use Rattle.table.specs.Table.{outside, past_top}
use Rattle.pair.specs.Sound.{memory_limit}
use Rattle.pair.specs.declared.OpenMessage.{OpenMessage}
use Rattle.request_spec.specs.declared.Packet.{Packet}
use Rattle.request_spec.specs.Verdict.{carrying, out_of_sequence, not_enabled, pad_early, over_limit, needs_entry}
use Rattle.request_spec.specs.Verdict.{entries_waiting, none_waiting, uses_entry, entry_outside, right_of, lacks}
use Rattle.request_spec.specs.Verdict.{bytes_to_come, key_lacking, key_fails, size_off, total_off, bare_off}
use Rattle.request_spec.specs.Verdict.{payload_size, lengths_off, current}
use Rattle.request_spec.specs.Claims.{Carries, Begins, HasMore, Ends, Place, Served}
use Rattle.request_spec.specs.Claims.{Waits, Gives, GivesRest, KeyGood}
use Rattle.request_spec.specs.Claims.{LengthsGood, Tells, CurrentTested, SequenceTested}
use Rattle.request_spec.specs.Claims.{EnabledTested, PadTested, LimitTested, EntryTested, InsideTested}
use Rattle.request_spec.specs.Claims.{KeyTested, LengthsTested}

-- a fact at each place
pub by_place : (P : ℕ → Type 0) → P 0 → P 1 → P 2 → P 4 → (place : ℕ) → Place place → P place
by_place P a b c d place (inl (inl e)) = subst P (sym e) a
by_place P a b c d place (inl (inr e)) = subst P (sym e) d
by_place P a b c d place (inr (inl e)) = subst P (sym e) b
by_place P a b c d place (inr (inr e)) = subst P (sym e) c

-- first and only
pub begins-starts : (place : ℕ) → Begins place → starts place ≡ true
unfolding starts
begins-starts place b = grind (arith, nat_tests)

pub starts-begins : (place : ℕ) → starts place ≡ true → Begins place
unfolding starts
starts-begins place h = grind (arith, nat_tests)

pub current-tested : CurrentTested
unfolding current starts
current-tested opened p P = record { own = λ b. grind (arith, nat_tests); old = λ g. grind (arith, nat_tests) }

pub sequence-tested : SequenceTested
unfolding out_of_sequence starts
sequence-tested opened kind place P = (λ h. record { begins = λ b. grind (arith, nat_tests); onward = λ g. grind (arith, nat_tests) }, λ S. grind (arith, nat_tests))

pub enabled-tested : EnabledTested
unfolding not_enabled
enabled-tested s kind = (λ h. grind (arith, nat_tests), λ E. grind (arith, nat_tests))

pub pad-tested : PadTested
unfolding pad_early ends
pad-tested place pad P = (λ h m. grind (arith, nat_tests), λ f. grind (arith, nat_tests))

pub limit-tested : LimitTested
unfolding over_limit
limit-tested length = (ltb-false memory_limit length, le-ltb memory_limit length)

waits-tested : (opened count : ℕ) → Tells (eqb (entries_waiting opened count) 0) (Waits opened count)
unfolding entries_waiting
waits-tested opened count =
    (λ h. record { held = λ u. grind (arith, nat_tests); free = λ u. grind (arith, nat_tests) }, λ W. grind (arith, nat_tests))

pub entry-tested : EntryTested
unfolding none_waiting needs_entry entries_waiting starts
entry-tested kind place immediate opened count =
    (λ h t. record { held = λ u. grind (arith, nat_tests); free = λ u. grind (arith, nat_tests) }, λ f. grind (arith, nat_tests))

pub inside-tested : InsideTested
unfolding entry_outside uses_entry outside
inside-tested kind immediate entry memory = (λ h u. grind (arith, nat_tests), λ f. grind (arith, nat_tests))

-- R_Key
lacks-tested : (region : List ℕ) (right memory address n : ℕ)
    → Tells (lacks region (get_or region right 0) memory address n) (Gives region right memory address n)
unfolding lacks outside past_top
lacks-tested region right memory address n =
    (λ h. record { granted = grind (arith, nat_tests); within = grind (arith, nat_tests); top = grind (arith, nat_tests); from = grind (arith, nat_tests); to = grind (arith, nat_tests) }, λ G. grind (arith, nat_tests))

rest-tested : (region : List ℕ) (right memory address n : ℕ)
    → Tells (cond (eqb n 0) false (lacks region (get_or region right 0) memory address n)) (0 < n → Gives region right memory address n)
rest-tested region right memory address n =
    let L = lacks-tested region right memory address n in
    (λ h x. L.0 (grind (arith, nat_tests)), λ f. grind (arith, nat_tests))

pub key-tested : KeyTested
unfolding key_fails key_lacking bytes_to_come right_of
key-tested kind memory m region S = go
  where
    R : (c : ℕ) → Tells (cond (eqb (m.length - m.stored) 0) false (lacks region (get_or region c 0) memory (m.address + m.stored) (m.length - m.stored))) (GivesRest region c memory m)
    R c = rest-tested region c memory (m.address + m.stored) (m.length - m.stored)

    go : Tells (key_fails memory kind m region) (KeyGood kind memory m region)
    go = (
      λ h. record { writes = λ x. (R 4).0 (grind (arith, nat_tests)); reads = λ x. (R 5).0 (grind (arith, nat_tests)); atomics = λ x. (R 6).0 (grind (arith, nat_tests)) },
      λ K. grind (arith, nat_tests, (R 4).1, (R 5).1, (R 6).1, K.writes, K.reads, K.atomics),
    )

-- the size of a packet that carries bytes, and the bytes of a WRITE with it
record Sized (place pmtu size : ℕ) : Type 0 where
  full : HasMore place → size ≡ pmtu
  last : place ≡ 2 → (1 ≤ size) × (size ≤ pmtu)
  only : place ≡ 4 → size ≤ pmtu

sized : (place pmtu size : ℕ) → Place place → Sized place pmtu size → size_off place pmtu size ≡ false
unfolding size_off ends
sized place pmtu size P S = grind (arith, nat_tests)

record Summed (place total length : ℕ) : Type 0 where
  more : HasMore place → total < length
  whole : Ends place → total ≡ length

summed : (stored size length most place : ℕ) → Place place → Summed place (stored + size) length → total_off 6 place stored size length most ≡ false
unfolding total_off ends
summed stored size length most place P S = grind (arith, nat_tests)

lengths-good : (p : Packet) (pmtu : ℕ) (m : OpenMessage) (most : ℕ) → Place p.place → Served p.kind → lengths_off p pmtu m most ≡ false
    → LengthsGood p pmtu m most
unfolding lengths_off carrying size_off total_off bare_off payload_size ends
lengths-good p pmtu m most P S h =
    record {
      pad = grind (arith, nat_tests);
      full = λ c x. grind (arith, nat_tests);
      last = λ c x. (grind (arith, nat_tests), grind (arith, nat_tests));
      only = λ c x. grind (arith, nat_tests);
      fits = λ k. grind (arith, nat_tests);
      more = λ k x. grind (arith, nat_tests);
      whole = λ k x. grind (arith, nat_tests);
      bare = λ k. grind (arith, nat_tests);
      aligned = λ k. grind (arith, nat_tests);
    }

lengths-failing : (p : Packet) (pmtu : ℕ) (m : OpenMessage) (most : ℕ) → Place p.place → Served p.kind → LengthsGood p pmtu m most
    → lengths_off p pmtu m most ≡ false
unfolding lengths_off carrying total_off bare_off payload_size
lengths-failing p pmtu m most P S L = go S
  where
    Z : Carries p.kind → size_off p.place pmtu (p.body - p.pad) ≡ false
    Z c = sized p.place pmtu (p.body - p.pad) P (record { full = L.full c; last = L.last c; only = L.only c })

    W : p.kind ≡ 6 → total_off 6 p.place m.stored (p.body - p.pad) m.length most ≡ false
    W e = summed m.stored (p.body - p.pad) m.length most p.place P (record { more = L.more e; whole = L.whole e })

    go : Served p.kind → lengths_off p pmtu m most ≡ false
    go (inl (inl e)) = let z = Z (inl e) in let f = L.fits e in let d = L.pad in grind (arith, nat_tests, z, f, d, e)
    go (inl (inr e)) = let z = Z (inr e) in let w = W e in let d = L.pad in grind (arith, nat_tests, z, w, d, e)
    go (inr (inl e)) = let b = L.bare (inl e) in let d = L.pad in grind (arith, nat_tests, b, d, e)
    go (inr (inr a)) = let b = L.bare (inr a) in let f = L.aligned a in let d = L.pad in grind (arith, nat_tests, b, f, d, a)

pub lengths-tested : LengthsTested
lengths-tested p pmtu m most P S = (lengths-good p pmtu m most P S, lengths-failing p pmtu m most P S)
