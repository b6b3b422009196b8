-- The two runs agree after every list of calls, if the pair stays sound.
use Prim.Native.Nat.{ℕ}
use mathlib.Core.Path.{◌≡◌, refl, sym, subst, ◌∙◌, ap}
use mathlib.Core.Bool.{Bool, true, false, cond, ◌||◌}
use mathlib.Core.List.{List, [], ◌∷◌}
use native.Mathlib.Omega.{arith}
use lib.Dec.{eqb, leb}
use lib.ListN.{length}
use borrow.Author.Tests.{eq-eqb}
use Rattle.pair.specs.Answer.{executed}
use Rattle.pair.specs.Host.{post_status, posted}
use Rattle.pair.specs.Calls.{Whole, called}
use Rattle.pair.specs.Claims.{WholeSound}
use Rattle.pair.specs.declared.Setup.{Setup}
use Rattle.pair.specs.declared.Pair.{Pair}
use Rattle.responder_spec.specs.Apply.{pair_by, executed_pair, pair_by_number}
use Rattle.responder_spec.specs.Inbound.{left_by, inbound}
use Rattle.responder_spec.specs.Response.{next_status, next_response}
use Rattle.responder_spec.specs.Calls.{drained}
use Rattle.responder_spec.specs.Steady.{Steady, InboundSteady, NextSteady, PostSteady}
use Rattle.responder_spec.specs.declared.Decision.{Decision}
use Rattle.delivery_spec.specs.Stream.{Message, Slot, slot, stream, packet_at}
use Rattle.delivery_spec.specs.Plain.{Plain, Call, plain_step, plain, start}
use Rattle.delivery_spec.specs.Plain.Call.{Hand, Next, Post}
use Rattle.delivery_spec.specs.Demand.{Run, handing, step, run, Fresh, AllLongEnough, CallPermitted, AllCallsPermitted, waiting_at, Agree, Delivery}
use Rattle.delivery_spec.proofs.Numbers.{along-zero}
use Rattle.delivery_steps.proofs.Chain.{Good, good, reliable-serves}
use Rattle.delivery_steps.proofs.Cutting.{psn-small}
use Rattle.delivery_steps.proofs.Rel.{Link, OpenedFor}
use Rattle.delivery_steps.proofs.Calls.{hand, next, post}

-- no call moves the set-up
pub record Same (s : Setup) (q : Pair) : Type 0 where
  pub is : q.setup ≡ s

either : {s : Setup} {q r : Pair} (b : Bool) → Same s q → Same s r → Same s (cond b q r)
either true e f = e
either false e f = f

number-setup : (q : Pair) (d : Decision) (n : ℕ) → Same q.setup (pair_by_number q d n)
unfolding pair_by_number executed_pair
number-setup q d n =
    either (leb n 3) (record { is = refl })
    (either (eqb n 4) (record { is = refl })
    (either (eqb n 16 || eqb n 19) (record { is = refl }) (either (eqb n 17 || eqb n 18) (record { is = refl }) (either (eqb n 6) (record { is = refl }) (record { is = refl })))))

pub setup-kept : (S : List Slot) (x : Run) (c : Call) → Same x.whole.pair.setup (step S x c).whole.pair
unfolding step inbound left_by pair_by drained next_response called posted
setup-kept S x (Hand j out) = number-setup x.whole.pair _ _
setup-kept S x (Next out) = either (executed (next_status x.whole.pair (length x.memory) (length out))) (record { is = refl }) (record { is = refl })
setup-kept S x (Post e) = either (executed (post_status x.whole.pair e)) (record { is = refl }) (record { is = refl })

pub regions-kept : (S : List Slot) (x : Run) (c : Call) → (step S x c).whole.regions ≡ x.whole.regions
unfolding step inbound left_by drained called
regions-kept S x (Hand j out) = refl
regions-kept S x (Next out) = refl
regions-kept S x (Post e) = refl

module _ (inbound-steady : InboundSteady) (next-steady : NextSteady) (post-steady : PostSteady) (ms : List Message) (S : List Slot) where
  abbrev Going : Setup → List (List ℕ) → Type 0
  Going s regions = Good s regions ms S

  pub steady-next : (p : Plain) (x : Run) → Steady x.whole → Going x.whole.pair.setup x.whole.regions → (c : Call) → CallPermitted x.whole.pair.setup ms S p c
      → Steady (step S x c).whole
  unfolding step
  steady-next p x Y G (Hand j out) m =
      inbound-steady (handing x (packet_at (slot S j)) out)
      (psn-small x.whole.pair.setup Y.pair.setup.0 (slot S j) (G.stands j m.inside).outgoing) Y
  steady-next p x Y G (Next out) m = next-steady x.whole x.memory out Y
  steady-next p x Y G (Post e) m = post-steady x.whole e Y

  pub linked : (p : Plain) (x : Run) → Link ms S p x → Steady x.whole → Going x.whole.pair.setup x.whole.regions
      → x.whole.pair.setup.service ≡ 0 → (c : Call) → CallPermitted x.whole.pair.setup ms S p c
      → Link ms S (plain_step x.whole.pair.setup x.whole.regions S p c) (step S x c)
  linked p x L Y G R (Hand j out) m = hand ms S p x L Y G R j out m
  linked p x L Y G R (Next out) m = next ms S p x L Y G out
  linked p x L Y G R (Post e) m = post ms S p x L Y G e m

  all : (s : Setup) (regions : List (List ℕ)) → Going s regions → s.service ≡ 0 → (calls : List Call) (p : Plain) (x : Run)
      → x.whole.pair.setup ≡ s
      → x.whole.regions ≡ regions
      → Link ms S p x
      → Steady x.whole
      → AllCallsPermitted s regions ms S p calls
      → Agree (run S x calls) (plain s regions S p calls)
  unfolding run plain
  all s regions G R [] p x es er L Y m = record { memory = L.memory; completions = L.completions; msn = L.msn; expected = L.expected }
  all s regions G R (c ∷ cs) p x es er L Y m =
      let H : Going x.whole.pair.setup x.whole.regions = subst (λ r. Going x.whole.pair.setup r) (sym er) (subst (λ z. Going z regions) (sym es) G) in
      let n : CallPermitted x.whole.pair.setup ms S p c = subst (λ z. CallPermitted z ms S p c) (sym es) m.0 in
      let L1 : Link ms S (plain_step s regions S p c) (step S x c) =
      subst (λ r. Link ms S (plain_step s r S p c) (step S x c)) er
      (subst (λ z. Link ms S (plain_step z x.whole.regions S p c) (step S x c)) es (linked p x L Y H (ap (λ z. z.service) es ∙ R) c n)) in
      all s regions G R cs (plain_step s regions S p c) (step S x c) ((setup-kept S x c).is ∙ es) (regions-kept S x c ∙ er) L1 (steady-next p x Y H c n) m.1

-- a fresh pair stands where the plain run starts
pub fresh-link : (w : Whole) (ms : List Message) (m : List ℕ) → Fresh w → AllLongEnough ms (waiting_at w)
    → Good w.pair.setup w.regions ms (stream w.pair.setup.start ms)
    → Link ms (stream w.pair.setup.start ms) (start w.pair.setup m (waiting_at w)) (record { whole = w; memory = m; completions = [] })
fresh-link w ms m F l G =
    let S = stream w.pair.setup.start ms in
    record {
      ready = F.ready;
      expected = F.expected;
      msn = λ i. record { 0 = F.msn i };
      entries = refl;
      reads = F.read;
      memory = refl;
      completions = refl;
      within = omega arith;
      number = omega (arith, along-zero S, F.sound.pair.setup.0.start);
      long = l;
      opened = subst (λ b. OpenedFor b (slot S 0) w.pair.message []) (sym (eq-eqb (slot S 0).index 0 G.opening)) (F.message, refl);
    }

-- a pair that calls made is sound but for what is saved
pub steady : (w : Whole) → WholeSound w → Steady w
steady w W = record { pair = W.pair; regions = W.regions; entries = W.entries; held = W.held }

pub agreeing : InboundSteady → NextSteady → PostSteady → Delivery
agreeing a b c w ms m calls A =
    let F = A.fresh in
    let G = good w.pair.setup w.regions ms F.sound.pair.setup.0 (reliable-serves w.pair.setup ms F.reliable) A.permitted in
    all a b c ms (stream w.pair.setup.start ms) w.pair.setup w.regions G F.reliable calls (start w.pair.setup m (waiting_at w))
    (record { whole = w; memory = m; completions = [] }) refl refl (fresh-link w ms m F A.waiting G) (steady w F.sound) A.each
