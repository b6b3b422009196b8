-- The closed instance: by computation, and by the theorem.
use Prim.Native.Nat.{ℕ, ◌≤◌}
use mathlib.Core.Path.{◌≡◌, refl, sym, ap, subst, ◌∙◌}
use mathlib.Core.Bool.{true, false}
use mathlib.Core.List.{[], ◌∷◌}
use mathlib.Core.Logic.{inl, inr}
use native.Mathlib.Omega.{arith}
use lib.ListN.{length, get_or, replicate}
use Rattle.responder_spec.specs.Inbound.{inbound, left_by}
use Rattle.header.specs.Check.{pkeys_match, full_member}
use Rattle.header.specs.Read.{other_service}
use Rattle.pmtu.specs.Pieces.{pmtu_fits, pieces}
use Rattle.table.specs.Table.{region_row, entry_row, first_from, sought, outside, past_top, region_outside, entry_slot}
use Rattle.table.specs.View.{region_of}
use Rattle.pair.specs.Claims.{SetupSound}
use Rattle.pair.specs.Answer.{status_number, executed}
use Rattle.pair.specs.Pair.{fresh_pair}
use Rattle.pair.specs.Calls.{begun, called, called_all}
use Rattle.pair.specs.Host.{set_up_status, set_up, set_up_regions, add_status, add_regions, post_status, posted, post_entries, ready_status, made_ready}
use Rattle.pair.specs.Sound.{setup_unfit, setup_unsound, counters_unsound, ring_unsound, message_unsound, read_unsound, pair_unsound}
use Rattle.cut_spec.specs.Message.{carries, carried_length, packets_of}
use Rattle.cut_spec.specs.Claims.{Carrier, InLimit, RequestWidths}
use Rattle.cut_spec.specs.declared.Request.{Request}
use Rattle.cut_spec.specs.declared.Request.TheVariants.{Send, SendImmediate, Write, WriteImmediate}
use Rattle.uc_delivery.specs.Message.{Standing, message_packet, handed, MayCome, first_waiting, Unreported}
use Rattle.uc_delivery.specs.Example.{setup, region, calls, made, message, out, first, fresh, AllFulfilled, Delivered, broken, Interrupted}
use Rattle.delivery_spec.specs.Demand.{AtLeast, entry_of}
use Rattle.uc_delivery.proofs.Before.{stands-made, leaves}
use Rattle.uc_delivery.proofs.Lost.{comes, handed-in-part}
use Rattle.uc_delivery.proofs.Whole.{handed-whole}

sound : SetupSound setup
unfolding setup
sound = (record { pmtu = inl refl; service = inr refl; ours = omega arith; theirs = omega arith; start = omega arith; pkey = λ e. absurd (omega arith); timer = omega arith }, omega arith)

is-standing : Standing made
unfolding made setup calls region called_all called begun set_up set_up_status set_up_regions add_status add_regions
    post_status posted post_entries ready_status made_ready executed status_number fresh_pair setup_unfit setup_unsound
    counters_unsound ring_unsound message_unsound read_unsound pair_unsound pmtu_fits other_service outside past_top
    region_outside first_from sought region_row entry_row entry_slot
is-standing = (stands-made setup [] (replicate 16 (replicate 3 0)) (replicate 16 (replicate 2 0)) calls sound refl refl refl (tt, (tt, (tt, tt))) refl).0

room : (i : ℕ) → 24 ≤ length (replicate {A = ℕ} 24 0)
room i = omega arith

-- a message of the example comes to its pair
comes-by : (r : Request) (n : ℕ) → InLimit r (length (replicate {A = ℕ} n 9)) → RequestWidths r → Carrier r → MayCome out (message r n) first fresh
unfolding fresh made setup calls region message called_all called begun set_up set_up_status set_up_regions add_status
    add_regions post_status posted post_entries ready_status made_ready executed status_number fresh_pair setup_unfit
    setup_unsound counters_unsound ring_unsound message_unsound read_unsound pair_unsound pmtu_fits other_service outside
    past_top region_outside first_from sought region_row entry_row entry_slot region_of pkeys_match full_member
comes-by r n limit widths carrier =
    record {
      standing = is-standing;
      memory = refl;
      outputs = room;
      first24 = omega arith;
      addressed = record { limit = limit; service = refl; pmtu = refl; dest = refl; match = refl; pkey = omega arith; widths = widths };
      carries = carrier;
    }

pub all-met : AllFulfilled
unfolding fresh made setup calls region message called_all called begun set_up set_up_status set_up_regions add_status
    add_regions post_status posted post_entries ready_status made_ready executed status_number fresh_pair setup_unfit
    setup_unsound counters_unsound ring_unsound message_unsound read_unsound pair_unsound pmtu_fits other_service outside
    past_top region_outside first_from sought region_row entry_row entry_slot region_of pkeys_match full_member
all-met =
    record {
      send =
          record {
            comes = comes-by Send 3 (omega arith) tt tt;
            allowed = refl;
            supplied = record { some = λ e. omega arith; long = omega arith };
          };
      send_immediate =
          record {
            comes = comes-by (SendImmediate 77) 600 (omega arith) (omega arith) tt;
            allowed = refl;
            supplied = record { some = λ e. omega arith; long = omega arith };
          };
      write =
          record {
            comes = comes-by (Write (record { address = 65540; key = 7 })) 300 (omega arith) (omega arith, omega arith) tt;
            allowed = (refl, inr (region, refl, refl, omega arith, omega arith));
            supplied = record { some = λ e. omega arith; long = tt };
          };
      write_immediate =
          record {
            comes = comes-by (WriteImmediate (record { address = 65536; key = 7 }) 1) 0 (omega arith) ((omega arith, omega arith), omega arith) tt;
            allowed = (refl, inl refl);
            supplied = record { some = λ e. omega arith; long = tt };
          };
    }

pub is-delivered : Delivered
unfolding fresh message packets_of carried_length carries pieces
is-delivered =
    let M = all-met.send_immediate in
    (refl, handed-whole _ (message (SendImmediate 77) 600) _ fresh M.comes M.allowed M.supplied)

is-broken : Unreported fresh broken
unfolding broken fresh message packets_of carried_length carries pieces
is-broken =
    handed-in-part _ (message (SendImmediate 77) 600) _ fresh (true ∷ false ∷ false ∷ []) all-met.send_immediate.comes refl (1, omega arith, refl) (inl refl)

-- the pair after the one packet: set-up, regions and the table of entries are the same
comes-broken : MayCome out (message Send 3) first broken
unfolding broken handed message packets_of carried_length carries pieces
comes-broken =
    let K = comes out (message (SendImmediate 77) 600) first fresh all-met.send_immediate.comes 0 (omega arith) in
    let A = K.addressed in
    record {
      standing = K.standing;
      memory = K.memory;
      outputs = K.outputs;
      first24 = K.first24;
      addressed = record { limit = omega arith; service = A.service; pmtu = A.pmtu; dest = A.dest; match = A.match; pkey = A.pkey; widths = tt };
      carries = tt;
    }

sends-on : broken.whole.pair.setup.send ≡ true
unfolding broken handed inbound left_by message fresh
sends-on =
    ap (λ s. s.send) (leaves fresh (message_packet (message (SendImmediate 77) 600) first 0) (out 0) all-met.send.comes.standing.unreliable).setup
    ∙ all-met.send.allowed

fits-held : AtLeast (first_waiting broken.whole).length Send 3
unfolding broken handed inbound left_by message fresh
fits-held =
    subst (λ r. 3 ≤ (entry_of (get_or fresh.whole.entries (entry_slot r.head 0) [])).length) (sym is-broken.entries) all-met.send.supplied.long

pub is-interrupted : Interrupted
unfolding fresh message packets_of carried_length carries pieces
is-interrupted = (
  is-broken,
  handed-whole _ (message Send 3) _ broken comes-broken sends-on
      (record { some = λ e. subst (λ r. 1 ≤ r.count) (sym is-broken.entries) (all-met.send.supplied.some refl); long = fits-held }),
)
