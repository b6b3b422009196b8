-- The ledger of exported calls is the history of the pair's, without the set-ups that are refused.
use Prim.Native.Nat.{ℕ, ◌<◌, ◌^◌}
use mathlib.Core.Path.{◌≡◌, refl, sym, ap, subst, ◌∙◌}
use mathlib.Core.Bool.{Bool, true, false, cond, true≢false}
use mathlib.Core.List.{List, [], ◌∷◌, ◌++◌, append-nil}
use native.Mathlib.Omega.{arith}
use lib.Dec.{ltb}
use lib.ListN.{length}
use borrow.Author.Tests.{ltb-false}
use Rattle.table.specs.Table.{entry_row}
use Rattle.pair.specs.Answer.{status_number, executed}
use Rattle.pair.specs.Host.{no_regions, set_up_status, set_up, set_up_regions, reset_status, reset_to, posted}
use Rattle.pair.specs.Sound.{memory_limit, setup_unfit}
use Rattle.pair.specs.Calls.{Whole, HostCall, begun, called, called_all}
use Rattle.pair.specs.Calls.HostCall.{SetUp, Reset, MakeReady, AddRegion, RemoveRegion, PostEntry}
use Rattle.pair.specs.Claims.{SetupSound, WholeSound, Accepted}
use Rattle.pair.specs.declared.Setup.{Setup}
use Rattle.pair.specs.declared.Status.TheVariants.{Executed, OutOfRange, BadNumber}
use Rattle.pair.proofs.Begin.{done-status}
use Rattle.pair.proofs.Kept.{begun-sound, calls-sound}
use Rattle.pair.proofs.Tests.{setup-tested}
use Rattle.responder_spec.specs.Arrival.{arriving_at}
use Rattle.responder_spec.specs.Response.{next_response}
use Rattle.sound_laws.proofs.Kept.{inbound-sound, next-sound}
use Rattle.abi_spec.specs.Pair.{other_length, strays, pair_of, pair_words}
use Rattle.abi_spec.proofs.Laws.{pair-back, ranges-tested}
use Rattle.udalopek_spec.specs.Host.{set_up_words, set_up_table}
use Rattle.udalopek_spec.proofs.Claims.{set-up-is, reset-is, post_is}
use Rattle.udalopek_spec.proofs.Steps.{second, many}
use Rattle.udalopek_spec.proofs.Widths.{TypeWidths, bytes_fit, inbound-widths}
use Rattle.delivery_spec.specs.Made.{NotSetUp}
use Rattle.entry_order.specs.Order.{AnyCall, History, new_history, goes, hosted, history_after, ran, PostingOrder}
use Rattle.entry_order.specs.Order.AnyCall.{Host, Inbound, Next}
use Rattle.entry_order.proofs.Order.{since-set-up}
use Rattle.library_delivery.specs.Calls.{Holding, holding, hosting}
use Rattle.library_delivery.specs.Order.{Ledger, new_ledger, goes_on, anew, posted_after, hosted_ledger, ledger_after, ledger_run, Typed, AllTyped, history_of, gone_on, without_refused, LibraryHistory, LibraryStays, LibraryOrder, TypedIs}
use Rattle.library_delivery.proofs.Steps.{fields, received_is, next-held, hosted-is, next-widths, hosted-widths}
use Rattle.library_delivery.proofs.Runs.{begun-is, begun-widths}

abbrev ledger_of : History → Ledger
ledger_of y = record { held = holding y.whole; posted = y.posted; completions = y.completions }

-- a set-up that is done was a sound one
done-sound : (s : Setup) → executed (set_up_status s) ≡ true → SetupSound s
unfolding set_up_status executed status_number
done-sound s = go (setup_unfit s) (ltb memory_limit s.memory) refl refl
  where
    go : (u o : Bool) → setup_unfit s ≡ u → ltb memory_limit s.memory ≡ o → executed (cond u BadNumber (cond o OutOfRange Executed)) ≡ true → SetupSound s
    go true o p q h = absurd (true≢false (sym h))
    go false true p q h = absurd (true≢false (sym h))
    go false false p q h = ((setup-tested s).0 p, ltb-false memory_limit s.memory q)

-- one that is refused leaves what was held
refused-held : (w : Whole) (s : Setup) → executed (set_up_status s) ≡ false → hosting (holding w) (SetUp s) ≡ holding w
unfolding hosting set_up_words set_up_table set_up set_up_regions pair_words
refused-held w s e =
    let v = pair_words w.pair in
    λ i. record {
      words = (sym (second (other_length v) v _ (many v refl)) ∙ ap (λ b. cond b (pair_words (set_up s).pair) v) e) i;
      regions = (sym (second (other_length v) w.regions _ (many v refl)) ∙ ap (λ b. cond b no_regions w.regions) e) i;
      entries = w.entries;
      saved = w.saved;
    }

record Made (w : Whole) : Type 0 where
  sound : WholeSound w
  widths : TypeWidths w.pair

-- one call that is no set-up, or one that is done
record Goes (c : AnyCall) (y : History) : Type 0 where
  is : ledger_after (ledger_of y) c ≡ ledger_of (history_after y c)
  made : Made (history_after y c).whole

module _ (y : History) (M : Made y.whole) where
  abbrev w : Whole
  w = y.whole

  called-made : (c : HostCall) → NotSetUp c → Accepted c → Made (called w c)
  unfolding called_all
  called-made c n a = record { sound = calls-sound w (c ∷ []) (a, tt) M.sound; widths = hosted-widths w M.widths c n }

  -- the words and tables after it
  after : (c : HostCall) → NotSetUp c → hosting (holding w) c ≡ holding (called w c)
  after c n = hosted-is w M.sound.pair M.widths c n

  either : (b : Bool) → (cond b (new_ledger (holding (called w Reset))) (goes_on (ledger_of y) (holding (called w Reset))) ≡ ledger_of (cond b (new_history (called w Reset)) (goes y (called w Reset))))
      × Made (cond b (new_history (called w Reset)) (goes y (called w Reset))).whole
  either true = (refl, called-made Reset tt tt)
  either false = (refl, called-made Reset tt tt)

  set-up : (s : Setup) → s.pkey < 2 ^ 16 → SetupSound s → Goes (Host (SetUp s)) y
  unfolding ledger_after hosted_ledger history_after hosted called pair_words set_up status_number
  set-up s k f =
      let n = (set-up-is (pair_words w.pair) w.regions s refl).0 ∙ ap status_number (done-status s f) in
      record {
        is = λ i. anew (n i) (ledger_of y) (begun-is (holding w) s refl f i);
        made = record {
          sound = begun-sound s w.regions w.entries w.saved f M.sound.entries.sized M.sound.saved.sized;
          widths = begun-widths s w.regions w.entries w.saved f k;
        };
      }

  host : (c : HostCall) → NotSetUp c → Goes (Host c) y
  unfolding ledger_after hosted_ledger history_after hosted executed reset_to posted
  host (SetUp s) n = absurd n
  host Reset n =
      let r = (reset-is w.pair w.regions (fields w M.sound.pair M.widths)).0 in
      let e = either (executed (reset_status w.pair)) in
      record { is = (λ i. anew (r i) (ledger_of y) (after Reset tt i)) ∙ e.0; made = e.1 }
  host MakeReady n = record { is = ap (goes_on (ledger_of y)) (after MakeReady tt); made = called-made MakeReady tt tt }
  host (AddRegion r) n = record { is = ap (goes_on (ledger_of y)) (after (AddRegion r) tt); made = called-made (AddRegion r) tt tt }
  host (RemoveRegion key) n = record { is = ap (goes_on (ledger_of y)) (after (RemoveRegion key) tt); made = called-made (RemoveRegion key) tt tt }
  host (PostEntry e) n =
      let r = (post_is w.pair w.entries e (fields w M.sound.pair M.widths)).0 in
      record {
        is = λ i. record { held = after (PostEntry e) tt i; posted = posted_after (r i) y.posted (entry_row e); completions = y.completions };
        made = called-made (PostEntry e) tt tt;
      }

  handed : (m p out : List ℕ) → Typed (Inbound m p out) → Goes (Inbound m p out) y
  unfolding ledger_after history_after
  handed m p out t =
      let a = arriving_at w m p out in
      record {
        is = received_is w M.sound.pair M.widths m p out (λ h _ cs. record { held = h; posted = y.posted; completions = y.completions ++ cs });
        made = record { sound = inbound-sound a t.0 t.1 M.sound; widths = inbound-widths a (bytes_fit p t.1) M.sound.pair M.widths };
      }

  drains : (m out : List ℕ) → Goes (Next m out) y
  unfolding ledger_after history_after next_response
  drains m out =
      record {
        is = λ i. record { held = next-held w M.sound.pair M.widths m out i; posted = y.posted; completions = sym (append-nil y.completions) i };
        made = record { sound = next-sound w m out M.sound; widths = next-widths w M.widths m out };
      }

  -- a set-up that is refused leaves all
  refused : (s : Setup) → executed (set_up_status s) ≡ false → ledger_after (ledger_of y) (Host (SetUp s)) ≡ ledger_of y
  unfolding ledger_after hosted_ledger executed set_up pair_words
  refused s e =
      ap (λ n. anew n (ledger_of y) (hosting (holding w) (SetUp s))) (set-up-is (pair_words w.pair) w.regions s refl).0
      ∙ λ i. cond (e i) (new_ledger (hosting (holding w) (SetUp s))) (goes_on (ledger_of y) (refused-held w s e i))

-- every list of calls, and the pair's calls that it comes to
record Ends (y : History) (calls pairs : List AnyCall) : Type 0 where
  is : ledger_run (ledger_of y) calls ≡ ledger_of (ran y pairs)
  made : Made (ran y pairs).whole

on : (y : History) (c : AnyCall) (cs pairs : List AnyCall) → Goes c y → Ends (history_after y c) cs pairs → Ends y (c ∷ cs) (c ∷ pairs)
unfolding ledger_run ran
on y c cs pairs G E = record { is = ap (λ x. ledger_run x cs) G.is ∙ E.is; made = E.made }

all : (calls : List AnyCall) (y : History) → Made y.whole → AllTyped calls → Ends y calls (without_refused calls)
unfolding ledger_run ran without_refused
all [] y M t = record { is = refl; made = M }
all (Host (SetUp s) ∷ cs) y M t = go (executed (set_up_status s)) refl (all cs y M t.1) (λ G. all cs (history_after y (Host (SetUp s))) G.made t.1)
  where
    go : (b : Bool) → executed (set_up_status s) ≡ b → Ends y cs (without_refused cs)
        → (Goes (Host (SetUp s)) y → Ends (history_after y (Host (SetUp s))) cs (without_refused cs))
        → Ends y (Host (SetUp s) ∷ cs) (gone_on b (Host (SetUp s)) (without_refused cs))
    go true e E f = let G = set-up y M s t.0 (done-sound s e) in on y (Host (SetUp s)) cs _ G (f G)
    go false e E f = record { is = ap (λ x. ledger_run x cs) (refused y M s e) ∙ E.is; made = E.made }
all (Host Reset ∷ cs) y M t = let G = host y M Reset tt in on y _ cs _ G (all cs _ G.made t.1)
all (Host MakeReady ∷ cs) y M t = let G = host y M MakeReady tt in on y _ cs _ G (all cs _ G.made t.1)
all (Host (AddRegion r) ∷ cs) y M t = let G = host y M (AddRegion r) tt in on y _ cs _ G (all cs _ G.made t.1)
all (Host (RemoveRegion key) ∷ cs) y M t = let G = host y M (RemoveRegion key) tt in on y _ cs _ G (all cs _ G.made t.1)
all (Host (PostEntry e) ∷ cs) y M t = let G = host y M (PostEntry e) tt in on y _ cs _ G (all cs _ G.made t.1)
all (Inbound m p out ∷ cs) y M t = let G = handed y M m p out t.0 in on y _ cs _ G (all cs _ G.made t.1)
all (Next m out ∷ cs) y M t = let G = drains y M m out in on y _ cs _ G (all cs _ G.made t.1)

module _ (h : Holding) (s : Setup) (calls : List AnyCall) (lw : length h.words ≡ 30) (le : length h.entries ≡ 16) (ls : length h.saved ≡ 16)
    (f : SetupSound s) (k : s.pkey < 2 ^ 16) (t : AllTyped calls) where
  abbrev begins : History
  begins = new_history (begun s h.regions h.entries h.saved)

  abbrev last : Whole
  last = (ran begins (without_refused calls)).whole

  ends : Ends begins calls (without_refused calls)
  ends =
      all calls begins
      (record { sound = begun-sound s h.regions h.entries h.saved f le ls; widths = begun-widths s h.regions h.entries h.saved f k }) t

  back : (pair_of (pair_words last.pair) ≡ last.pair) × (strays (pair_words last.pair) ≡ false)
  back = pair-back last.pair (fields last ends.made.sound.pair ends.made.widths)

  ledger-is : ledger_run (new_ledger (hosting h (SetUp s))) calls ≡ ledger_of (ran begins (without_refused calls))
  ledger-is = ap (λ x. ledger_run (new_ledger x) calls) (begun-is h s lw f) ∙ ends.is

pub library-history : LibraryHistory
library-history h s calls lw le ls f k t =
    let y = ran (new_history (begun s h.regions h.entries h.saved)) (without_refused calls) in
    ap history_of (ledger-is h s calls lw le ls f k t)
    ∙ λ i. record {
      whole = record { pair = (back h s calls lw le ls f k t).0 i; regions = y.whole.regions; entries = y.whole.entries; saved = y.whole.saved };
      posted = y.posted;
      completions = y.completions;
    }

pub library-stays : LibraryStays
library-stays h s calls lw le ls f k t = (
  (ranges-tested _).0 (ap (λ x. strays x.held.words) (ledger-is h s calls lw le ls f k t) ∙ (back h s calls lw le ls f k t).1),
  subst (λ y. WholeSound y.whole) (sym (library-history h s calls lw le ls f k t)) (ends h s calls lw le ls f k t).made.sound,
)

pub library-order : LibraryOrder
library-order h s calls lw le ls f k t =
    subst PostingOrder (sym (library-history h s calls lw le ls f k t))
    (since-set-up s h.regions h.entries h.saved (without_refused calls) le)

pub typed-is : TypedIs
typed-is c s m p out = (others c, ((λ h. omega (arith, h)), (λ h. omega (arith, h))), ((λ h. h), (λ h. h)), tt)
  where
    others : (c : HostCall) → ((s : Setup) → c ≡ SetUp s → ⊥) → Typed (Host c)
    others (SetUp t) n = absurd (n t refl)
    others Reset n = tt
    others MakeReady n = tt
    others (AddRegion r) n = tt
    others (RemoveRegion key) n = tt
    others (PostEntry e) n = tt
