-- Lists of exported calls.
use Prim.Native.Nat.{ℕ, ◌^◌, ◌<◌}
use mathlib.Core.Path.{◌≡◌, refl, sym, ap, subst, ◌∙◌}
use mathlib.Core.List.{List, [], ◌∷◌, ◌++◌, append-nil}
use native.Mathlib.Omega.{arith}
use lib.ListN.{length, get_or}
use Rattle.header.specs.Claims.{Widths}
use Rattle.header.specs.declared.Extension.{Extension}
use Rattle.header.specs.declared.Extension.TheVariants.{Bare, Remote, RemoteImmediate, Immediate, Atomic, Acknowledge, AtomicAcknowledge}
use Rattle.header.proofs.Reasons.{accepted}
use Rattle.cut_spec.specs.Cut.{header_at}
use Rattle.cut_spec.specs.Message.{message_length}
use Rattle.cut_spec.proofs.Shapes.{widths, in-limit}
use Rattle.cut_spec.proofs.Whole.{cut-reads}
use Rattle.request_spec.specs.Packet.{operands_of}
use Rattle.pair.specs.Answer.{status_number}
use Rattle.pair.specs.Host.{set_up}
use Rattle.pair.specs.Pair.{fresh_pair}
use Rattle.pair.specs.Calls.{Whole, HostCall, begun, called, called_all}
use Rattle.pair.specs.Calls.HostCall.{SetUp, MakeReady, PostEntry}
use Rattle.pair.specs.Claims.{SetupFit, SetupSound, WholeSound}
use Rattle.pair.specs.declared.Setup.{Setup}
use Rattle.pair.proofs.Begin.{done-status, set-up-pair, set-up-regions, set-up-done}
use Rattle.pair.proofs.Kept.{begun-sound, calls-sound}
use Rattle.responder_spec.specs.Response.{next_response}
use Rattle.responder_spec.specs.Steady.{Steady}
use Rattle.sound_laws.proofs.Kept.{steady, inbound-steady, next-steady, post-steady}
use Rattle.abi_spec.specs.Pair.{strays, pair_words}
use Rattle.abi_spec.specs.Claims.{InRange, PairFields}
use Rattle.abi_spec.proofs.Laws.{ranges-tested, words-said, said_fits, pair-back}
use Rattle.abi_spec.proofs.Places.{words-at}
use Rattle.udalopek_spec.proofs.Claims.{set-up-is, reset-allowed}
use Rattle.udalopek_spec.proofs.Widths.{TypeWidths, Fitting, inbound-widths}
use Rattle.delivery_spec.specs.Stream.{Message, packet_count, Slot, slot, stream, packet_at}
use Rattle.delivery_spec.specs.Plain.{AllInside, Plain, Call}
use Rattle.delivery_spec.specs.Plain.Call.{Hand, Next, Post}
use Rattle.delivery_spec.specs.Demand.{Run, handing, step, run, Fresh, Agree}
use Rattle.delivery_spec.specs.Made.{NoneSetUp}
use Rattle.delivery_steps.proofs.Chain.{Sent, good, reliable-serves}
use Rattle.delivery_steps.proofs.Cutting.{header_for, cuttable, psn-small}
use Rattle.delivery_spec.proofs.Asked.{calls-inside}
use Rattle.delivery_spec.proofs.Made.{accepted as all-accepted, fresh-made, ready_made}
use Rattle.delivery.proofs.Whole.{delivery}
use Rattle.delivery.proofs.InOrder.{exactly-once}
use Rattle.library_delivery.specs.Calls.{Holding, Caller, leaves, said, holding, hosting, hosting_all, library_step, library_run}
use Rattle.library_delivery.specs.Claims.{Agrees, run_of, caller_of, LibraryRuns, LibraryOnce, set_up_then, LibraryDelivery, LibraryReset, LibraryReady}
use Rattle.library_delivery.proofs.Steps.{fields, received_is, next-held, hosted-is, next-widths, hosted-widths}

-- the packets of a permitted stream have numbers that fit
key-small : (e : Extension) → Widths e → (operands_of e).key < 2 ^ 32
unfolding operands_of
key-small Bare w = omega arith
key-small (Remote r) w = w.1
key-small (RemoteImmediate r i) w = w.0.1
key-small (Immediate i) w = omega arith
key-small (Atomic a) w = w.1
key-small (Acknowledge a) w = omega arith
key-small (AtomicAcknowledge a v) w = omega arith

packet-fits : (s : Setup) → SetupFit s → (t : Slot) → Sent s t → Fitting (packet_at t)
unfolding packet_at header_at
packet-fits s f t h =
    let m = t.message in
    let c = cuttable s f t h in
    let r = (cut-reads m.connection m.request m.bytes t.first t.index c h.inside).header in
    record {
      psn = psn-small s f t h;
      key =
          subst (λ x. (operands_of x.extension).key < 2 ^ 32) (sym (accepted (packet_at t) (header_for t) r).1)
          (key-small _ (widths m.request (message_length m.request (length m.bytes)) (packet_count m) t.index c.widths (in-limit m.request (length m.bytes) c.limit)));
    }

-- what holds between calls
record Kept (w : Whole) : Type 0 where
  steady : Steady w
  widths : TypeWidths w.pair

module _ (S : List Slot) (F : (j : ℕ) → j < length S → Fitting (packet_at (slot S j))) where
  step_is : (x : Run) → Kept x.whole → (c : Call) → library_step S (caller_of x) c ≡ caller_of (step S x c)
  unfolding library_step step next_response
  step_is x K (Hand j out) =
      received_is x.whole K.steady.pair K.widths x.memory (packet_at (slot S j)) out
      (λ h m cs. record { held = h; memory = m; completions = x.completions ++ cs })
  step_is x K (Next out) =
      λ i. record {
        held = next-held x.whole K.steady.pair K.widths x.memory out i;
        memory = x.memory;
        completions = sym (append-nil x.completions) i;
      }
  step_is x K (Post e) =
      λ i. record { held = hosted-is x.whole K.steady.pair K.widths (PostEntry e) tt i; memory = x.memory; completions = x.completions }

  hand-kept : (x : Run) → Kept x.whole → (j : ℕ) (out : List ℕ) → j < length S → Kept (step S x (Hand j out)).whole
  unfolding step
  hand-kept x K j out h =
      let a = handing x (packet_at (slot S j)) out in
      record { steady = inbound-steady a (F j h).psn K.steady; widths = inbound-widths a (F j h) K.steady.pair K.widths }

  all : (calls : List Call) (x : Run) → Kept x.whole → AllInside (length S) calls → library_run S (caller_of x) calls ≡ caller_of (run S x calls)
  unfolding library_run run step
  all [] x K h = refl
  all (Hand j out ∷ cs) x K h = ap (λ y. library_run S y cs) (step_is x K (Hand j out)) ∙ all cs (step S x (Hand j out)) (hand-kept x K j out h.0) h.1
  all (Next out ∷ cs) x K h =
      ap (λ y. library_run S y cs) (step_is x K (Next out))
      ∙ all cs (step S x (Next out)) (record { steady = next-steady x.whole x.memory out K.steady; widths = next-widths x.whole K.widths x.memory out }) h
  all (Post e ∷ cs) x K h =
      ap (λ y. library_run S y cs) (step_is x K (Post e))
      ∙ all cs (step S x (Post e)) (record { steady = post-steady x.whole e K.steady; widths = hosted-widths x.whole K.widths (PostEntry e) tt }) h

pub library-runs : LibraryRuns
library-runs x ms calls r Y service p inside =
    let h = x.held in
    let w = said h in
    let s = w.pair.setup in
    let S = stream s.start ms in
    let f = said_fits h.words r in
    let G = good s w.regions ms Y.pair.setup.0 (reliable-serves s ms service) p in
    (λ i.
    library_run S
    (record {
      held = record { words = words-said h.words r i; regions = h.regions; entries = h.entries; saved = h.saved };
      memory = x.memory;
      completions = x.completions;
    })
    calls)
    ∙ all S (λ j b. packet-fits s Y.pair.setup.0 (slot S j) (G.stands j b).outgoing) calls (run_of x)
    (record { steady = Y; widths = (f.setup.pkey, f.key, f.psn, f.answered) }) inside

-- set-up, on any 30 words
pub begun-is : (h : Holding) (s : Setup) → length h.words ≡ 30 → SetupSound s → hosting h (SetUp s) ≡ holding (begun s h.regions h.entries h.saved)
unfolding hosting begun set_up status_number
begun-is h s l f =
    let r = set-up-is h.words h.regions s l in
    λ i. record { words = r.2 (ap status_number (done-status s f)) i; regions = r.1 i; entries = h.entries; saved = h.saved }

pub begun-widths : (s : Setup) (regions entries saved : List (List ℕ)) → SetupSound s → s.pkey < 2 ^ 16 → TypeWidths (begun s regions entries saved).pair
unfolding begun fresh_pair
begun-widths s regions entries saved f k =
    let z : 0 < 4294967296 = omega arith in
    subst TypeWidths (sym (set-up-pair s f)) (k, z, z, z)

-- and the other calls of the host
hosts-are : (w : Whole) (hosts : List HostCall) → WholeSound w → TypeWidths w.pair → NoneSetUp hosts
    → (hosting_all (holding w) hosts ≡ holding (called_all w hosts)) × TypeWidths (called_all w hosts).pair
unfolding hosting_all called_all
hosts-are w [] W t n = (refl, t)
hosts-are w (c ∷ cs) W t n =
    let r = hosts-are (called w c) cs (calls-sound w (c ∷ []) (all-accepted (c ∷ []) (n.0, tt)) W) (hosted-widths w t c n.0) n.1 in
    (ap (λ h. hosting_all h cs) (hosted-is w W.pair t c n.0) ∙ r.0, r.1)

-- what is held then: the words of a pair that the host's calls made
module _ (h : Holding) (s : Setup) (hosts : List HostCall) (lw : length h.words ≡ 30) (le : length h.entries ≡ 16) (ls : length h.saved ≡ 16)
    (f : SetupSound s) (k : s.pkey < 2 ^ 16) (n : NoneSetUp hosts) where
  abbrev made : Whole
  made = called_all (begun s h.regions h.entries h.saved) hosts

  made-sound : WholeSound made
  made-sound = calls-sound _ hosts (all-accepted hosts n) (begun-sound s h.regions h.entries h.saved f le ls)

  made_held : (set_up_then s h hosts ≡ holding made) × TypeWidths made.pair
  made_held =
      let r = hosts-are _ hosts (begun-sound s h.regions h.entries h.saved f le ls) (begun-widths s h.regions h.entries h.saved f k) n in
      (ap (λ x. hosting_all x hosts) (begun-is h s lw f) ∙ r.0, r.1)

  made-fields : PairFields made.pair
  made-fields = fields made made-sound.pair made_held.1

  made-said : said (set_up_then s h hosts) ≡ made
  made-said =
      ap said made_held.0
      ∙ λ i. record { pair = (pair-back made.pair made-fields).0 i; regions = made.regions; entries = made.entries; saved = made.saved }

  made-in-range : InRange (set_up_then s h hosts).words
  made-in-range = (ranges-tested _).0 (ap (λ x. strays x.words) made_held.0 ∙ (pair-back made.pair made-fields).1)

  made-state : get_or (set_up_then s h hosts).words 28 0 ≡ made.pair.state
  made-state = ap (λ x. get_or x.words 28 0) made_held.0 ∙ (words-at made.pair).state

-- what the pair's run agrees with, the words do
agrees-as : (x : Caller) (ms : List Message) (calls : List Call)
    → let S = stream (said x.held).pair.setup.start ms in
    library_run S x calls ≡ caller_of (run S (run_of x) calls) → (p : Plain) → Agree (run S (run_of x) calls) p → Agrees (library_run S x calls) p
agrees-as x ms calls R p A =
    let q = (run (stream (said x.held).pair.setup.start ms) (run_of x) calls).whole.pair in
    record {
      memory = ap (λ y. y.memory) R ∙ A.memory;
      completions = ap (λ y. y.completions) R ∙ A.completions;
      msn = ap (λ y. get_or y.held.words 27 0) R ∙ ((words-at q).msn ∙ ap (λ y. y.0) A.msn);
      expected = ap (λ y. get_or y.held.words 26 0) R ∙ ((words-at q).expected ∙ ap (λ y. y.0) A.expected);
    }

pub library-once : LibraryOnce
library-once h ms m calls r A =
    let w = said h in
    let x : Caller = record { held = h; memory = m; completions = [] } in
    let R = library-runs x ms calls r (steady w A.fresh.sound) A.fresh.reliable A.permitted
    (calls-inside w.pair.setup w.regions ms (stream w.pair.setup.start ms) _ calls A.each) in
    let O = exactly-once w ms m calls A in
    (agrees-as x ms calls R _ (delivery w ms m calls A), O.0, agrees-as x ms calls R _ O.1)

pub library-delivery : LibraryDelivery
library-delivery h s hosts ms m calls lw le ls f k service n ready p long c =
    let w = said (set_up_then s h hosts) in
    let e = made-said h s hosts lw le ls f k n in
    let M = fresh-made s h.regions h.entries h.saved hosts f service le ls n in
    let F : Fresh w = subst Fresh (sym e) (M.1 (sym (made-state h s hosts lw le ls f k n) ∙ ready)) in
    (ap (λ y. y.pair.setup) e ∙ M.0, library-once (set_up_then s h hosts) ms m calls (made-in-range h s hosts lw le ls f k n) (record { fresh = F; permitted = p; waiting = long; each = c }))

pub library-reset : LibraryReset
unfolding hosting
library-reset h r f =
    let s = (said h).pair.setup in
    let A = (reset-allowed h.words h.regions r.words).0 f in
    let U = set-up-is h.words h.regions s r.words in
    let words = A.1 ∙ sym (U.2 (set-up-done s h.regions f).0 ∙ ap pair_words (set-up-pair s f)) in
    let rows = A.2 ∙ sym (U.1 ∙ set-up-regions s h.regions f) in
    λ i. leaves h (words i) (rows i) h.entries

pub library-ready : LibraryReady
library-ready h s hosts lw le ls f k n =
    let w = made h s hosts lw le ls f k n in
    let t = made_held h s hosts lw le ls f k n in
    ap (λ x. get_or (hosting x MakeReady).words 28 0) t.0
    ∙ (ap (λ x. get_or x.words 28 0) (hosted-is w (made-sound h s hosts lw le ls f k n).pair t.1 MakeReady tt)
    ∙ ((words-at (called w MakeReady).pair).state ∙ ready_made s h.regions h.entries h.saved hosts f le ls n))
