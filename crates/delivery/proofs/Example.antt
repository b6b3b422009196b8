-- The closed instance: by computation, and by the theorems.
use Prim.Native.Nat.{ℕ, ◌+◌}
use mathlib.Core.Path.{◌≡◌, refl, ap, ◌∙◌}
use mathlib.Core.Bool.{Bool, true, false, true≢false, ◌&&◌, ◌||◌}
use mathlib.Core.List.{List, [], ◌∷◌}
use mathlib.Core.Logic.{inl, inr}
use native.Mathlib.Omega.{arith}
use lib.Dec.{leb, ltb}
use lib.ListN.{length, replicate}
use borrow.Author.Tests.{leb-true, ltb-true}
use Rattle.lemmas.proofs.Tests.{and_left, and_right}
use Rattle.header.specs.Check.{pkeys_match, full_member}
use Rattle.table.specs.Table.{region_row, entry_row, first_from, sought, outside, past_top, region_outside, entry_slot}
use Rattle.table.specs.View.{region_of, ring_from}
use Rattle.pair.specs.Claims.{SetupSound}
use Rattle.pair.specs.Answer.{status_number, executed}
use Rattle.pair.specs.Pair.{fresh_pair}
use Rattle.pair.specs.Calls.{begun, called, called_all}
use Rattle.pair.specs.Host.{set_up_status, set_up, set_up_regions, add_status, add_regions, post_status, posted, post_entries, ready_status, made_ready}
use Rattle.pair.specs.Sound.{setup_unfit, setup_unsound, counters_unsound, ring_unsound, message_unsound, read_unsound, pair_unsound}
use Rattle.memory.specs.Memory.{overwrite, store}
use Rattle.memory.specs.Word.{low_bytes, low_number, word_at, store_word, fetch_added, swapped}
use Rattle.pmtu.specs.Pieces.{pmtu_fits, pieces, piece_at}
use Rattle.header.specs.Read.{other_service}
use Rattle.cut_spec.specs.Message.{carries, carried_length, message_length, packets_of}
use Rattle.cut_spec.specs.Next.{psns_of, next_psn}
use Rattle.cut_spec.specs.declared.Request.{Request}
use Rattle.cut_spec.specs.declared.Request.TheVariants.{Send, SendImmediate, Write, WriteImmediate, Read, CmpSwap, FetchAdd}
use Rattle.table.specs.declared.Entry.{Entry}
use Rattle.pair.specs.declared.Setup.{Setup}
use Rattle.delivery_spec.specs.Stream.{Message, Slot, slots_from, stream, number_along}
use Rattle.delivery_spec.specs.Plain.{Plain, Call, region_offset, execute_with, hand_refused, post_refused, plain_step, plain, start}
use Rattle.delivery_spec.specs.Plain.Call.{Hand, Next, Post}
use Rattle.delivery_spec.specs.Demand.{Fresh, AtLeast, LongEnough, Near, CallPermitted, AllCallsPermitted, waiting_at, Asked}
use Rattle.delivery.specs.Example.{setup, region, calls, made, message, messages, Fulfilled, memory, packets, Executed}
use Rattle.delivery.specs.Example.{plainly, faulty, ended, Ends, Faulty, short, refused, Shorter}
use Rattle.delivery_spec.proofs.Made.{fresh-made}
use Rattle.delivery.proofs.Whole.{delivery}
use Rattle.delivery.proofs.Witness.{witness}

sound : SetupSound setup
unfolding setup
sound = (record { pmtu = inl refl; service = inl refl; ours = omega arith; theirs = omega arith; start = omega arith; pkey = λ e. absurd (omega arith); timer = omega arith }, omega arith)

is-fresh : Fresh made
unfolding made setup calls region called_all called begun set_up set_up_status set_up_regions add_status add_regions
    post_status posted post_entries ready_status made_ready executed status_number fresh_pair setup_unfit setup_unsound
    counters_unsound ring_unsound message_unsound read_unsound pair_unsound pmtu_fits other_service outside past_top
    region_outside first_from sought region_row entry_row entry_slot
is-fresh = (fresh-made setup [] (replicate 16 (replicate 3 0)) (replicate 16 (replicate 2 0)) calls sound refl refl refl (tt, (tt, (tt, tt)))).1 refl

-- every request, permitted by computation
pub is-met : Fulfilled
unfolding made setup calls region messages message called_all called begun set_up set_up_status set_up_regions add_status
    add_regions post_status posted post_entries ready_status made_ready executed status_number fresh_pair setup_unfit
    setup_unsound counters_unsound ring_unsound message_unsound read_unsound pair_unsound pmtu_fits other_service outside past_top
    region_outside first_from sought region_row entry_row entry_slot region_of ring_from pkeys_match full_member
is-met =
    record {
      fresh = is-fresh;
      permitted = (
        record { allowed = refl; addressed = record { limit = omega arith; service = refl; pmtu = refl; dest = refl; match = refl; pkey = omega arith; widths = tt } },
        (
          record { allowed = refl; addressed = record { limit = omega arith; service = refl; pmtu = refl; dest = refl; match = refl; pkey = omega arith; widths = omega arith } },
          (
            record {
              allowed = (refl, inr (region, refl, refl, omega arith, omega arith));
              addressed = record
                  { limit = omega arith; service = refl; pmtu = refl; dest = refl; match = refl; pkey = omega arith; widths = (omega arith, omega arith) };
            },
            (
              record {
                allowed = (refl, inl refl);
                addressed = record
                    { limit = omega arith; service = refl; pmtu = refl; dest = refl; match = refl; pkey = omega arith; widths = ((omega arith, omega arith), omega arith) };
              },
              (
                record {
                  allowed = (refl, inr (region, refl, refl, omega arith, omega arith));
                  addressed = record
                      { limit = omega arith; service = refl; pmtu = refl; dest = refl; match = refl; pkey = omega arith; widths = (omega arith, omega arith, omega arith) };
                },
                (
                  record {
                    allowed = (refl, inr (region, refl, refl, omega arith, omega arith), refl);
                    addressed = record
                        { limit = tt; service = refl; pmtu = refl; dest = refl; match = refl; pkey = omega arith; widths = (omega arith, omega arith, omega arith, omega arith) };
                  },
                  (
                    record {
                      allowed = (refl, inr (region, refl, refl, omega arith, omega arith), refl);
                      addressed = record
                          { limit = tt; service = refl; pmtu = refl; dest = refl; match = refl; pkey = omega arith; widths = ((omega arith, omega arith), omega arith) };
                    },
                    tt,
                  ),
                ),
              ),
            ),
          ),
        ),
      );
      waiting = ((omega arith, (omega arith, (tt, (tt, (tt, (tt, (tt, tt))))))), tt);
      fits = (omega arith, (omega arith, (tt, (tt, (tt, (tt, (tt, tt)))))));
    }

pub executed-all : Executed
unfolding packets memory made setup calls region messages message called_all called begun set_up set_up_status
    set_up_regions add_status add_regions post_status posted post_entries ready_status made_ready executed status_number
    fresh_pair setup_unfit setup_unsound counters_unsound ring_unsound message_unsound read_unsound pair_unsound pmtu_fits
    other_service outside past_top region_outside first_from sought region_row entry_row entry_slot stream slots_from next_psn
    psns_of message_length packets_of carried_length carries pieces
executed-all = (refl, λ out room. (witness made messages memory out is-fresh is-met.permitted is-met.waiting is-met.fits refl room).1)

-- what is asked of calls, as a test
abbrev at-least-test : ℕ → Request → ℕ → Bool
at-least-test n Send d = leb d n
at-least-test n (SendImmediate v) d = leb d n
at-least-test n (Write t) d = true
at-least-test n (WriteImmediate t v) d = true
at-least-test n (Read a) d = true
at-least-test n (CmpSwap a) d = true
at-least-test n (FetchAdd t v) d = true

abbrev long-test : List Message → Entry → Bool
long-test [] e = true
long-test (m ∷ ms) e = at-least-test e.length m.request (length m.bytes) && long-test ms e

abbrev near-test : ℕ → ℕ → Bool
near-test x y = leb y (x + 8388607) && leb x (y + 8388607)

abbrev call-test : Setup → List Message → List Slot → Plain → Call → Bool
call-test s ms S p (Hand j out) = ltb j (length S) && (hand_refused s p out || near-test (number_along S j) (number_along S p.k))
call-test s ms S p (Next out) = true
call-test s ms S p (Post e) = post_refused s p e || long-test ms e

abbrev calls-test : Setup → List (List ℕ) → List Message → List Slot → Plain → List Call → Bool
calls-test s regions ms S p [] = true
calls-test s regions ms S p (c ∷ cs) = call-test s ms S p c && calls-test s regions ms S (plain_step s regions S p c) cs

either-holds : (a b : Bool) → a ≡ false → (a || b) ≡ true → b ≡ true
either-holds true b e h = absurd (true≢false e)
either-holds false b e h = h

at-least-met : (n : ℕ) (r : Request) (d : ℕ) → at-least-test n r d ≡ true → AtLeast n r d
at-least-met n Send d h = leb-true d n h
at-least-met n (SendImmediate v) d h = leb-true d n h
at-least-met n (Write t) d h = tt
at-least-met n (WriteImmediate t v) d h = tt
at-least-met n (Read a) d h = tt
at-least-met n (CmpSwap a) d h = tt
at-least-met n (FetchAdd t v) d h = tt

long-met : (ms : List Message) (e : Entry) → long-test ms e ≡ true → LongEnough ms e
long-met [] e h = tt
long-met (m ∷ ms) e h =
    let one = at-least-test e.length m.request (length m.bytes) in
    (at-least-met e.length m.request (length m.bytes) (and_left one (long-test ms e) h), long-met ms e (and_right one (long-test ms e) h))

near-met : (x y : ℕ) → near-test x y ≡ true → Near x y
near-met x y h =
    record {
      behind = leb-true y (x + 8388607) (and_left (leb y (x + 8388607)) (leb x (y + 8388607)) h);
      ahead = leb-true x (y + 8388607) (and_right (leb y (x + 8388607)) (leb x (y + 8388607)) h);
    }

call_met : (s : Setup) (ms : List Message) (S : List Slot) (p : Plain) (c : Call) → call-test s ms S p c ≡ true → CallPermitted s ms S p c
call_met s ms S p (Hand j out) h =
    let near = near-test (number_along S j) (number_along S p.k) in
    record {
      inside = ltb-true j (length S) (and_left (ltb j (length S)) (hand_refused s p out || near) h);
      near = λ z. near-met (number_along S j) (number_along S p.k) (either-holds (hand_refused s p out) near z (and_right (ltb j (length S)) (hand_refused s p out || near) h));
    }
call_met s ms S p (Next out) h = tt
call_met s ms S p (Post e) h = record { long = λ z. long-met ms e (either-holds (post_refused s p e) (long-test ms e) z h) }

calls-met : (s : Setup) (regions : List (List ℕ)) (ms : List Message) (S : List Slot) (p : Plain) (cs : List Call)
    → calls-test s regions ms S p cs ≡ true → AllCallsPermitted s regions ms S p cs
calls-met s regions ms S p [] h = tt
calls-met s regions ms S p (c ∷ cs) h =
    let one = call-test s ms S p c in
    let rest = calls-test s regions ms S (plain_step s regions S p c) cs in
    (call_met s ms S p c (and_left one rest h), calls-met s regions ms S (plain_step s regions S p c) cs (and_right one rest h))

-- the two runs, by computation: what is asked of the calls, and where they end
met : calls-test made.pair.setup made.regions messages packets (start made.pair.setup memory (waiting_at made)) faulty ≡ true
unfolding memory packets faulty made setup calls region messages message called_all called begun set_up set_up_status
    set_up_regions add_status add_regions post_status posted post_entries ready_status made_ready executed status_number
    fresh_pair setup_unfit setup_unsound counters_unsound ring_unsound message_unsound read_unsound pair_unsound pmtu_fits
    other_service outside past_top region_outside first_from sought region_row entry_row entry_slot stream slots_from next_psn
    psns_of message_length packets_of carried_length carries pieces plain execute_with region_of ring_from region_offset
    number_along overwrite store low_bytes low_number word_at store_word fetch_added swapped piece_at
met = refl

ends : plainly memory faulty ≡ ended
unfolding memory ended packets faulty made setup calls region messages message called_all called begun set_up
    set_up_status set_up_regions add_status add_regions post_status posted post_entries ready_status made_ready executed
    status_number fresh_pair setup_unfit setup_unsound counters_unsound ring_unsound message_unsound read_unsound pair_unsound
    pmtu_fits other_service outside past_top region_outside first_from sought region_row entry_row entry_slot stream slots_from
    next_psn psns_of message_length packets_of carried_length carries pieces plain execute_with region_of ring_from
    region_offset number_along overwrite store low_bytes low_number word_at store_word fetch_added swapped piece_at
ends = refl

met-short : calls-test made.pair.setup made.regions messages packets (start made.pair.setup short (waiting_at made)) faulty ≡ true
unfolding short packets faulty made setup calls region messages message called_all called begun set_up set_up_status
    set_up_regions add_status add_regions post_status posted post_entries ready_status made_ready executed status_number
    fresh_pair setup_unfit setup_unsound counters_unsound ring_unsound message_unsound read_unsound pair_unsound pmtu_fits
    other_service outside past_top region_outside first_from sought region_row entry_row entry_slot stream slots_from next_psn
    psns_of message_length packets_of carried_length carries pieces plain execute_with region_of ring_from region_offset
    number_along overwrite store low_bytes low_number word_at store_word fetch_added swapped piece_at
met-short = refl

ends-short : plainly short faulty ≡ refused
unfolding short refused packets faulty made setup calls region messages message called_all called begun set_up
    set_up_status set_up_regions add_status add_regions post_status posted post_entries ready_status made_ready executed
    status_number fresh_pair setup_unfit setup_unsound counters_unsound ring_unsound message_unsound read_unsound pair_unsound
    pmtu_fits other_service outside past_top region_outside first_from sought region_row entry_row entry_slot stream slots_from
    next_psn psns_of message_length packets_of carried_length carries pieces plain execute_with region_of ring_from
    region_offset number_along overwrite store low_bytes low_number word_at store_word fetch_added swapped piece_at
ends-short = refl

-- so the pair's run ends there too
ends_as : (m : List ℕ) (p : Plain) → plainly m faulty ≡ p
    → calls-test made.pair.setup made.regions messages packets (start made.pair.setup m (waiting_at made)) faulty ≡ true
    → Ends m p
unfolding packets
ends_as m p e h =
    let A : Asked made messages m faulty =
    record {
      fresh = is-fresh;
      permitted = is-met.permitted;
      waiting = is-met.waiting;
      each = calls-met made.pair.setup made.regions messages packets (start made.pair.setup m (waiting_at made)) faulty h;
    } in
    let D = delivery made messages m faulty A in
    record {
      asked = A;
      plain = e;
      memory = D.memory ∙ ap (λ q. q.memory) e;
      completions = D.completions ∙ ap (λ q. q.completions) e;
      msn = D.msn ∙ ap (λ q. q.msn) e;
      expected = D.expected ∙ ap (λ q. q.expected) e;
    }

pub with-faults : Faulty
with-faults = ends_as memory ended ends met

pub on-shorter : Shorter
on-shorter = ends_as short refused ends-short met-short
