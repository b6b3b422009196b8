-- What the tests of a pair mean.
use Prim.Native.Nat.{ℕ, ◌+◌, ◌%◌, ◌^◌, ◌≤◌, ◌<◌}
use mathlib.Core.Path.{◌≡◌, refl, sym, ap}
use mathlib.Core.Bool.{Bool, true, false, cond, not, ◌||◌, true≢false}
use mathlib.Core.Logic.{◌⊎◌, inl, inr}
use native.Mathlib.Omega.{arith}
use lib.Dec.{eqb, ltb, leb}
use borrow.Author.Tests.{le-ltb, lt-leb, eq-eqb, ne_eqb, ltb-false, leb-false, eqb-true, eqb-false}
use Rattle.lemmas.proofs.Auto.{tests}
use Rattle.lemmas.proofs.Tests.{or_left, or_right, neither}
use Rattle.sequence.specs.Sequence.{space}
use Rattle.header.specs.Read.{other_service}
use Rattle.pmtu.specs.Pieces.{pmtu_fits, pieces}
use Rattle.pmtu.proofs.Counting.{pmtus}
use Rattle.table.specs.Table.{entry_capacity, saved_capacity, addresses, outside, past_top}
use Rattle.pair.specs.declared.Setup.{Setup}
use Rattle.pair.specs.declared.Pair.{Pair}
use Rattle.pair.specs.Sound.{memory_limit, setup_unfit, setup_unsound, counters_unsound, ring_unsound, no_entry, send_unsound, write_unsound, message_unsound, read_unsound, pair_unsound, timer_limit}
use Rattle.pair.specs.Claims.{SetupFit, SetupSound, MessageSound, Sound, SetupTested, Tested}

-- a flag that names a failing test, and the test
not-of : (b : Bool) → b ≡ true → not b ≡ false
not-of b h = ap not h

of-not : (b : Bool) → not b ≡ false → b ≡ true
of-not true h = refl
of-not false h = sym h

service-fits : (n : ℕ) → (n ≡ 0) ⊎ (n ≡ 1) → other_service n ≡ false
unfolding other_service
service-fits n (inl e) = le-ltb 1 n (omega arith)
service-fits n (inr e) = le-ltb 1 n (omega arith)

fits-service : (n : ℕ) → other_service n ≡ false → (n ≡ 0) ⊎ (n ≡ 1)
unfolding other_service
fits-service n h = go (eqb n 0) refl
  where
    go : (t : Bool) → eqb n 0 ≡ t → (n ≡ 0) ⊎ (n ≡ 1)
    go true e = inl (eqb-true n 0 e)
    go false e =
        let ne : n ≡ 0 → ⊥ = eqb-false n 0 e in
        inr (omega (arith, ltb-false 1 n h))

pub setup-tested : SetupTested
unfolding setup_unfit
setup-tested s = (fits, passes)
  where
    fits : setup_unfit s ≡ false → SetupFit s
    fits h =
        let h2 = or_right (not (pmtu_fits s.pmtu)) _ h in
        let h3 = or_right (other_service s.service) _ h2 in
        let h4 = or_right (leb space s.ours) _ h3 in
        let h5 = or_right (leb space s.theirs) _ h4 in
        let h6 = or_right (leb space s.start.0) _ h5 in
        let h7 = or_right (eqb (s.pkey % 32768) 0) _ h6 in
        record {
          pmtu = (pmtus s.pmtu).0 (of-not (pmtu_fits s.pmtu) (or_left (not (pmtu_fits s.pmtu)) _ h));
          service = fits-service s.service (or_left (other_service s.service) _ h2);
          ours = leb-false space s.ours (or_left (leb space s.ours) _ h3);
          theirs = leb-false space s.theirs (or_left (leb space s.theirs) _ h4);
          start = leb-false space s.start.0 (or_left (leb space s.start.0) _ h5);
          pkey = eqb-false (s.pkey % 32768) 0 (or_left (eqb (s.pkey % 32768) 0) _ h6);
          timer = omega (arith, tests);
        }

    passes : SetupFit s → setup_unfit s ≡ false
    passes f =
        neither (not-of (pmtu_fits s.pmtu) ((pmtus s.pmtu).1 f.pmtu))
        (neither (service-fits s.service f.service)
        (neither (lt-leb space s.ours f.ours)
        (neither (lt-leb space s.theirs f.theirs)
        (neither (lt-leb space s.start.0 f.start)
        (neither (ne_eqb (s.pkey % 32768) 0 f.pkey) (le-ltb timer_limit s.timer f.timer))))))

pub setup-sound : (s : Setup) → setup_unsound s ≡ false → SetupSound s
unfolding setup_unsound
setup-sound s h =
    ((setup-tested s).0 (or_left (setup_unfit s) _ h), ltb-false memory_limit s.memory (or_right (setup_unfit s) _ h))

pub sound-setup : (s : Setup) → SetupSound s → setup_unsound s ≡ false
unfolding setup_unsound
sound-setup s (fit, limit) = neither ((setup-tested s).1 fit) (le-ltb memory_limit s.memory limit)

module _ (capacity head count : ℕ) where
  ring-fits : ring_unsound capacity head count ≡ false → (head < capacity) × (count ≤ capacity)
  unfolding ring_unsound
  ring-fits h =
      (leb-false capacity head (or_left (leb capacity head) _ h), ltb-false capacity count (or_right (leb capacity head) _ h))

  fits-ring : (head < capacity) × (count ≤ capacity) → ring_unsound capacity head count ≡ false
  unfolding ring_unsound
  fits-ring (a, b) = neither (lt-leb capacity head a) (le-ltb capacity count b)

write-fits : (stored address n : ℕ) → write_unsound stored address n ≡ false
    → (stored < n) × (n ≤ 1048576) × (address + stored < 2 ^ 64)
unfolding write_unsound past_top
write-fits stored address n h =
    let k = or_right (leb n stored) _ h in (
      leb-false n stored (or_left (leb n stored) _ h),
      ltb-false memory_limit n (or_left (ltb memory_limit n) _ k),
      leb-false addresses (address + stored) (or_right (ltb memory_limit n) _ k),
    )

fits-write : (stored address n : ℕ) → (stored < n) × (n ≤ 1048576) × (address + stored < 2 ^ 64)
    → write_unsound stored address n ≡ false
unfolding write_unsound past_top
fits-write stored address n (a, b, c) =
    neither (lt-leb n stored a) (neither (le-ltb memory_limit n b) (lt-leb addresses (address + stored) c))

some-entry : (entries : ℕ) → no_entry entries ≡ false → 1 ≤ entries
unfolding no_entry
some-entry entries h = omega (arith, tests)

entry-some : (entries : ℕ) → 1 ≤ entries → no_entry entries ≡ false
unfolding no_entry
entry-some entries h = ne_eqb entries 0 (λ z. omega arith)

send-fits : (stored entries : ℕ) → send_unsound stored entries ≡ false → (1 ≤ entries) × (stored ≤ 1048576)
unfolding send_unsound
send-fits stored entries h =
    (some-entry entries (or_left (no_entry entries) _ h), ltb-false memory_limit stored (or_right (no_entry entries) _ h))

fits-send : (stored entries : ℕ) → (1 ≤ entries) × (stored ≤ 1048576) → send_unsound stored entries ≡ false
unfolding send_unsound
fits-send stored entries (a, b) = neither (entry-some entries a) (le-ltb memory_limit stored b)

message-fits : (q : Pair) → message_unsound q.message.kind q.message.stored q.message.address q.message.length q.entries.count ≡ false
    → MessageSound q
unfolding message_unsound
message-fits q = go (eqb q.message.kind 255) refl (eqb q.message.kind 0) refl (eqb q.message.kind 6) refl
  where
    go : (a : Bool) → eqb q.message.kind 255 ≡ a → (b : Bool) → eqb q.message.kind 0 ≡ b → (c : Bool) → eqb q.message.kind 6 ≡ c
        → cond a false (cond b (send_unsound q.message.stored q.entries.count) (cond c (write_unsound q.message.stored q.message.address q.message.length) true)) ≡ false
        → MessageSound q
    go true x b y c z h = inl (eqb-true q.message.kind 255 x)
    go false x true y c z h =
        let s = send-fits q.message.stored q.entries.count h in
        inr (inl (eqb-true q.message.kind 0 y, s.0, s.1))
    go false x false y true z h =
        let w = write-fits q.message.stored q.message.address q.message.length h in
        inr (inr (eqb-true q.message.kind 6 z, w.0, w.1, w.2))
    go false x false y false z h = absurd (true≢false h)

fits-message : (q : Pair) → MessageSound q
    → message_unsound q.message.kind q.message.stored q.message.address q.message.length q.entries.count ≡ false
unfolding message_unsound
fits-message q (inl e) = rw (eq-eqb q.message.kind 255 e)
fits-message q (inr (inl (e, a, b))) = rw e (fits-send q.message.stored q.entries.count (a, b))
fits-message q (inr (inr (e, a, b, c))) = rw e (fits-write q.message.stored q.message.address q.message.length (a, b, c))

-- a READ being answered, on its numbers
module _ (remaining offset n psn msn pmtu memory : ℕ) where
  abbrev Left : Type 0
  Left = (remaining ≡ 0) ⊎ ((remaining ≤ pieces n pmtu) × (offset + n ≤ memory) × (psn < 2 ^ 24) × (msn < 2 ^ 24))

  read_fits : read_unsound remaining offset n psn msn pmtu memory ≡ false → Left
  unfolding read_unsound outside
  read_fits = go (eqb remaining 0) refl
    where
      go : (t : Bool) → eqb remaining 0 ≡ t
          → cond t false (ltb (pieces n pmtu) remaining || (ltb memory (offset + n) || (leb space psn || leb space msn))) ≡ false
          → Left
      go true e h = inl (eqb-true remaining 0 e)
      go false e h =
          let h2 = or_right (ltb (pieces n pmtu) remaining) _ h in
          let h3 = or_right (ltb memory (offset + n)) _ h2 in
          inr (
            ltb-false (pieces n pmtu) remaining (or_left (ltb (pieces n pmtu) remaining) _ h),
            ltb-false memory (offset + n) (or_left (ltb memory (offset + n)) _ h2),
            leb-false space psn (or_left (leb space psn) _ h3),
            leb-false space msn (or_right (leb space psn) _ h3),
          )

  fits_read : Left → read_unsound remaining offset n psn msn pmtu memory ≡ false
  unfolding read_unsound outside
  fits_read (inl e) = rw (eq-eqb remaining 0 e)
  fits_read (inr (a, b, c, d)) = go (eqb remaining 0)
    where
      rest : (ltb (pieces n pmtu) remaining || (ltb memory (offset + n) || (leb space psn || leb space msn))) ≡ false
      rest =
          neither (le-ltb (pieces n pmtu) remaining a)
          (neither (le-ltb memory (offset + n) b) (neither (lt-leb space psn c) (lt-leb space msn d)))

      go : (t : Bool) → cond t false (ltb (pieces n pmtu) remaining || (ltb memory (offset + n) || (leb space psn || leb space msn))) ≡ false
      go true = refl
      go false = rest

numbers_fit : (state expected msn : ℕ) → counters_unsound state expected msn ≡ false → (state ≤ 2) × (expected < 2 ^ 24) × (msn < 2 ^ 24)
unfolding counters_unsound
numbers_fit state expected msn h =
    let k = or_right (ltb 2 state) _ h in (
      ltb-false 2 state (or_left (ltb 2 state) _ h),
      leb-false space expected (or_left (leb space expected) _ k),
      leb-false space msn (or_right (leb space expected) _ k),
    )

fit-numbers : (state expected msn : ℕ) → (state ≤ 2) × (expected < 2 ^ 24) × (msn < 2 ^ 24) → counters_unsound state expected msn ≡ false
unfolding counters_unsound
fit-numbers state expected msn (a, b, c) = neither (le-ltb 2 state a) (neither (lt-leb space expected b) (lt-leb space msn c))

pub tested : Tested
unfolding pair_unsound
tested q = (fits, passes)
  where
    fits : pair_unsound q ≡ false → Sound q
    fits h =
        let h2 = or_right (setup_unsound q.setup) _ h in
        let h3 = or_right (counters_unsound q.state q.expected.0 q.msn.0) _ h2 in
        let h4 = or_right (ring_unsound entry_capacity q.entries.head q.entries.count) _ h3 in
        let h5 = or_right (ring_unsound saved_capacity q.saved.head q.saved.count) _ h4 in
        let m = message_unsound q.message.kind q.message.stored q.message.address q.message.length q.entries.count in
        let n = numbers_fit q.state q.expected.0 q.msn.0 (or_left (counters_unsound q.state q.expected.0 q.msn.0) _ h2) in
        record {
          setup = setup-sound q.setup (or_left (setup_unsound q.setup) _ h);
          state = n.0;
          expected = n.1;
          msn = n.2;
          entries = ring-fits entry_capacity q.entries.head q.entries.count (or_left (ring_unsound entry_capacity q.entries.head q.entries.count) _ h3);
          saved = ring-fits saved_capacity q.saved.head q.saved.count (or_left (ring_unsound saved_capacity q.saved.head q.saved.count) _ h4);
          message = message-fits q (or_left m _ h5);
          read =
              read_fits q.read.remaining q.read.offset q.read.length q.read.psn.0 q.read.msn.0 q.setup.pmtu q.setup.memory
              (or_right m _ h5);
        }

    passes : Sound q → pair_unsound q ≡ false
    passes S =
        neither (sound-setup q.setup S.setup)
        (neither (fit-numbers q.state q.expected.0 q.msn.0 (S.state, S.expected, S.msn))
        (neither (fits-ring entry_capacity q.entries.head q.entries.count S.entries)
        (neither (fits-ring saved_capacity q.saved.head q.saved.count S.saved)
        (neither (fits-message q S.message)
        (fits_read q.read.remaining q.read.offset q.read.length q.read.psn.0 q.read.msn.0 q.setup.pmtu q.setup.memory S.read)))))
