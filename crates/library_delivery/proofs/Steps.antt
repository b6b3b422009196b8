-- Each exported call, on the words of a pair that calls made.
use Prim.Native.Nat.{ℕ, ◌<◌}
use mathlib.Core.Path.{◌≡◌, refl, ap, ◌∙◌}
use mathlib.Core.Bool.{Bool, true, false, cond}
use mathlib.Core.List.{List, [], ◌∷◌}
use native.Mathlib.Omega.{arith}
use lib.ListN.{length}
use Rattle.pair.specs.Answer.{executed}
use Rattle.pair.specs.Pair.{fresh_pair}
use Rattle.pair.specs.Host.{reset_status, reset_to, ready_status, made_ready, post_status, posted}
use Rattle.pair.specs.Calls.{Whole, HostCall, called}
use Rattle.pair.specs.Calls.HostCall.{SetUp, Reset, MakeReady, AddRegion, RemoveRegion, PostEntry}
use Rattle.pair.specs.Claims.{Sound}
use Rattle.responder_spec.specs.Arrival.{arriving_at}
use Rattle.responder_spec.specs.Inbound.{inbound, left_by}
use Rattle.responder_spec.specs.Response.{next_status, next_response}
use Rattle.responder_spec.specs.Calls.{drained, reports}
use Rattle.responder_spec.specs.declared.Completion.{Completion}
use Rattle.abi_spec.specs.Pair.{pair_words}
use Rattle.abi_spec.specs.Claims.{PairFields}
use Rattle.abi_spec.proofs.Laws.{sound-fits}
use Rattle.udalopek_spec.specs.Packets.{report_words}
use Rattle.udalopek_spec.proofs.Claims.{inbound-is, next-is, post_is, ready-is, reset-is, add_is, remove-is}
use Rattle.udalopek_spec.proofs.Widths.{TypeWidths, Wide, pair-either}
use Rattle.delivery_spec.specs.Made.{NotSetUp}
use Rattle.library_delivery.specs.Calls.{Holding, holding, hosting, inbound_on, left_of, next_on, told}

-- the completion that is reported is the one that its words say
told-says : (n : ℕ) (c : Completion) → told (report_words n c) ≡ reports c
unfolding report_words
told-says n c = go c.some c.immediate
  where
    go : (s i : Bool)
        → told (n ∷ cond s 1 0 ∷ c.number ∷ c.length ∷ cond i 1 0 ∷ c.value ∷ [])
        ≡ reports (record { some = s; number = c.number; length = c.length; immediate = i; value = c.value })
    go true true = refl
    go true false = refl
    go false i = refl

module _ (w : Whole) (s : Sound w.pair) (t : TypeWidths w.pair) where
  pub fields : PairFields w.pair
  fields = sound-fits w.pair s t.0 t.1 t.2 t.3

  -- inbound
  pub received_is : (m p out : List ℕ) {A : Type 0} (f : Holding → List ℕ → List Completion → A)
      → let r = inbound_on (holding w) m p out in
      let x = inbound (arriving_at w m p out) in
      f (left_of (holding w) r) r.memory (told r.report) ≡ f (holding x.whole) x.memory (reports x.completion)
  unfolding inbound left_by
  received_is m p out f =
      let x = inbound (arriving_at w m p out) in
      ap (λ r. f (left_of (holding w) r) r.memory (told r.report)) (inbound-is w.pair w.regions w.entries w.saved m p out fields)
      ∙ ap (λ c. f (holding x.whole) x.memory c) (told-says x.outgoing x.completion)

  pub next-held : (m out : List ℕ) → next_on (holding w) m out ≡ holding (drained w m out)
  unfolding drained
  next-held m out = λ i. record { words = (next-is w.pair m out fields).1 i; regions = w.regions; entries = w.entries; saved = w.saved }

  -- the host's
  pub hosted-is : (c : HostCall) → NotSetUp c → hosting (holding w) c ≡ holding (called w c)
  unfolding hosting called pair_words
  hosted-is (SetUp s) n = absurd n
  hosted-is Reset n =
      let r = reset-is w.pair w.regions fields in
      λ i. record { words = r.1 i; regions = r.2 i; entries = w.entries; saved = w.saved }
  hosted-is MakeReady n = λ i. record { words = (ready-is w.pair fields).1 i; regions = w.regions; entries = w.entries; saved = w.saved }
  hosted-is (AddRegion r) n =
      λ i. record { words = pair_words w.pair; regions = (add_is w.pair w.regions r fields).1 i; entries = w.entries; saved = w.saved }
  hosted-is (RemoveRegion key) n =
      λ i. record { words = pair_words w.pair; regions = (remove-is (pair_words w.pair) w.regions key refl).1 i; entries = w.entries; saved = w.saved }
  hosted-is (PostEntry e) n =
      let r = post_is w.pair w.entries e fields in
      λ i. record { words = r.1 i; regions = w.regions; entries = r.2 i; saved = w.saved }

-- the widths that soundness leaves open are kept
module _ (w : Whole) (t : TypeWidths w.pair) where
  same : Wide w.pair
  same = record { widths = t }

  pub next-widths : (m out : List ℕ) → TypeWidths (drained w m out).pair
  unfolding drained next_response
  next-widths m out = (pair-either (executed (next_status w.pair (length m) (length out))) _ w.pair (record { widths = t }) same).widths

  pub hosted-widths : (c : HostCall) → NotSetUp c → TypeWidths (called w c).pair
  unfolding called reset_to fresh_pair made_ready posted
  hosted-widths (SetUp s) n = absurd n
  hosted-widths Reset n =
      let z : 0 < 4294967296 = omega arith in
      (pair-either (executed (reset_status w.pair)) _ w.pair (record { widths = (t.0, z, z, z) }) same).widths
  hosted-widths MakeReady n = (pair-either (executed (ready_status w.pair)) _ w.pair (record { widths = t }) same).widths
  hosted-widths (AddRegion r) n = t
  hosted-widths (RemoveRegion key) n = t
  hosted-widths (PostEntry e) n = (pair-either (executed (post_status w.pair e)) _ w.pair (record { widths = t }) same).widths
