-- What calls leave of words that calls made is in range again.
use Prim.Native.Nat.{ℕ, ◌<◌}
use mathlib.Core.Path.{◌≡◌, refl, sym, ap, subst, ◌∙◌}
use mathlib.Core.Bool.{false, cond}
use mathlib.Core.List.{List, [], ◌∷◌}
use lib.ListN.{length, replicate}
use native.Mathlib.Omega.{arith}
use Rattle.pair.specs.Answer.{executed, status_number}
use Rattle.pair.specs.Calls.{Whole, HostCall, called, called_all, begun}
use Rattle.pair.specs.Calls.HostCall.{MakeReady, PostEntry}
use Rattle.pair.specs.Claims.{SetupSound, Sound, WholeSound, Accepted}
use Rattle.pair.specs.Host.{set_up, made_ready, posted, ready_status, post_status}
use Rattle.pair.specs.Pair.{fresh_pair}
use Rattle.pair.specs.declared.Setup.{Setup}
use Rattle.pair.specs.declared.Pair.{Pair}
use Rattle.pair.proofs.Begin.{done-status, set-up-pair, reset-pair}
use Rattle.pair.proofs.Kept.{begun-sound, calls-sound}
use Rattle.pair.proofs.Tests.{tested}
use Rattle.responder_spec.specs.Calls.{drained}
use Rattle.responder_spec.specs.Response.{next_status, next_response}
use Rattle.sound_laws.proofs.Kept.{inbound-sound, next-sound}
use Rattle.abi_spec.specs.Pair.{other_length, strays, pair_of, pair_words}
use Rattle.abi_spec.proofs.Laws.{ranges-tested, sound-words, pair-back, said_fits, sound-fits}
use Rattle.udalopek_spec.specs.Packets.{arrival_with, inbound_of, refused_with, returning, words_left, inbound_returned, next_words}
use Rattle.udalopek_spec.specs.Host.{set_up_words, reset_words, ready_words, post_words}
use Rattle.udalopek_spec.specs.Claims.{Say, SetUpStays, HostStays, InboundStays, NextStays}
use Rattle.udalopek_spec.proofs.Steps.{second, many}
use Rattle.udalopek_spec.proofs.Widths.{TypeWidths, pair-either, bytes_fit, inbound-widths}

own : (v : List ℕ) (q : Pair) → v ≡ pair_words q → Sound q → TypeWidths q → Say v q
own v q e s t =
    let b = pair-back q (sound-fits q s t.0 t.1 t.2 t.3) in
    ((ranges-tested v).0 (ap strays e ∙ b.1), ap pair_of e ∙ b.0)

-- fresh pairs have the widths of their types, and those that words in range say
fresh-widths : (s : Setup) → s.pkey < 65536 → TypeWidths (fresh_pair s)
unfolding fresh_pair
fresh-widths s h =
    let z : 0 < 4294967296 = omega arith in
    (h, z, z, z)

in-range : (w : List ℕ) → length w ≡ 30 → Sound (pair_of w) → strays w ≡ false
in-range w h s = sound-words w h ((tested (pair_of w)).1 s)

said-widths : (w : List ℕ) → strays w ≡ false → TypeWidths (pair_of w)
said-widths w e =
    let f = said_fits w ((ranges-tested w).0 e) in
    (f.setup.pkey, f.key, f.psn, f.answered)

pub inbound-stays : InboundStays
unfolding inbound_returned words_left
inbound-stays l h bm bp s =
    let w = l.words in
    let f = in-range w h s.pair in
    let a = arrival_with l (pair_of w) in
    own _ _
    (ap (λ y. y.words) (sym (second _ (refused_with 34 l) (returning (words_left l) (inbound_of l)) (many w h)))
    ∙ sym (second (strays w) w _ f)) (inbound-sound a bm bp s).pair (inbound-widths a (bytes_fit l.packet bp) s.pair (said-widths w f))

pub next-stays : NextStays
unfolding next_words drained next_response
next-stays w regions entries saved m out h s =
    let q = pair_of w in
    let f = in-range w h s.pair in
    own _ _ (sym (second (strays w) w _ f))
    (next-sound (record { pair = q; regions = regions; entries = entries; saved = saved }) m out s).pair
    (pair-either (executed (next_status q (length m) (length out))) _ q (record { widths = said-widths w f }) (record { widths = said-widths w f })).widths

fresh-sound : (s : Setup) → SetupSound s → Sound (fresh_pair s)
unfolding begun
fresh-sound s f = subst Sound (set-up-pair s f) (begun-sound s [] (replicate 16 []) (replicate 16 []) f refl refl).pair

pub set-up-stays : SetUpStays
unfolding set_up_words set_up executed status_number
set-up-stays w s h f k =
    own _ (fresh_pair s)
    (sym (second (other_length w) w _ (many w h))
    ∙ ap (λ t. cond (executed t) (pair_words (set_up s).pair) w) (done-status s f)
    ∙ ap pair_words (set-up-pair s f))
    (fresh-sound s f) (fresh-widths s k)

by_call : (x : Whole) → WholeSound x → (c : HostCall) → Accepted c → Sound (called x c).pair
unfolding called_all
by_call x s c a = (calls-sound x (c ∷ []) (a, tt) s).pair

pub host-stays : HostStays
unfolding reset_words ready_words post_words called made_ready posted
host-stays w regions entries saved h s =
    let q = pair_of w in
    let x : Whole = record { pair = q; regions = regions; entries = entries; saved = saved } in
    let f = in-range w h s.pair in
    let k = said-widths w f in (
      own _ (fresh_pair q.setup)
          (sym (second (strays w) w _ f) ∙ ap pair_words (reset-pair q s.pair.setup))
          (fresh-sound q.setup s.pair.setup) (fresh-widths q.setup k.0),
      own _ _ (sym (second (strays w) w _ f)) (by_call x s MakeReady tt) (pair-either (executed (ready_status q)) _ q (record { widths = k }) (record { widths = k })).widths,
      λ e. own _ _ (sym (second (strays w) w _ f)) (by_call x s (PostEntry e) tt) (pair-either (executed (post_status q e)) _ q (record { widths = k }) (record { widths = k })).widths,
    )
