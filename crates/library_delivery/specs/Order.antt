-- Every list of the library's calls is a history of the pair's, and the order of receive entries in it.
use Rattle.std.specs.Prelude.{ℕ, ◌<◌, ◌^◌, ◌≡◌, Bool, cond, List, [], ◌∷◌, ◌++◌, eqb, length, get_or}
use Rattle.header.specs.Bytes.{Bytes}
use Rattle.table.specs.Table.{entry_row}
use Rattle.pair.specs.Answer.{executed}
use Rattle.pair.specs.Host.{set_up_status}
use Rattle.pair.specs.Calls.{HostCall, begun}
use Rattle.pair.specs.Calls.HostCall.{SetUp, Reset, MakeReady, AddRegion, RemoveRegion, PostEntry}
use Rattle.pair.specs.Claims.{SetupSound, WholeSound}
use Rattle.pair.specs.declared.Setup.{Setup}
use Rattle.responder_spec.specs.declared.Completion.{Completion}
use Rattle.abi_spec.specs.Claims.{InRange}
use Rattle.udalopek_spec.specs.Host.{set_up_number, reset_number, post_number}
use Rattle.udalopek_spec.specs.Packets.{Returned}
use Rattle.entry_order.specs.Order.{AnyCall, History, new_history, ran, PostingOrder}
use Rattle.entry_order.specs.Order.AnyCall.{Host, Inbound, Next}
use Rattle.delivery_spec.specs.Demand.{All}
use Rattle.delivery_spec.specs.Asked.{Says}
use Rattle.library_delivery.specs.Calls.{Holding, said, hosting, inbound_on, left_of, next_on, told}

-- What a caller holds of a pair; since the last set-up or reset that was answered 0, the rows of the entries whose post
-- was answered 0, and the completions told.
pub record Ledger : Type 0 where
  pub held : Holding
  pub posted : List (List ℕ)
  pub completions : List Completion

abbrev pub new_ledger : Holding → Ledger
new_ledger h = record { held = h; posted = []; completions = [] }

abbrev pub goes_on : Ledger → Holding → Ledger
goes_on x h = record { held = h; posted = x.posted; completions = x.completions }

-- begins anew if the call is answered 0
abbrev pub anew : ℕ → Ledger → Holding → Ledger
anew number x h = cond (eqb number 0) (new_ledger h) (goes_on x h)

abbrev pub posted_after : ℕ → List (List ℕ) → List ℕ → List (List ℕ)
posted_after number rows row = cond (eqb number 0) (rows ++ (row ∷ [])) rows

unfoldable pub hosted_ledger : Ledger → HostCall → Ledger
hosted_ledger x (SetUp s) = anew (set_up_number x.held.words s) x (hosting x.held (SetUp s))
hosted_ledger x Reset = anew (reset_number x.held.words) x (hosting x.held Reset)
hosted_ledger x MakeReady = goes_on x (hosting x.held MakeReady)
hosted_ledger x (AddRegion r) = goes_on x (hosting x.held (AddRegion r))
hosted_ledger x (RemoveRegion key) = goes_on x (hosting x.held (RemoveRegion key))
hosted_ledger x (PostEntry e) =
    record {
      held = hosting x.held (PostEntry e);
      posted = posted_after (post_number x.held.words e) x.posted (entry_row e);
      completions = x.completions;
    }

abbrev pub telling_ledger : Ledger → Returned → Ledger
telling_ledger x r = record { held = left_of x.held r; posted = x.posted; completions = x.completions ++ told r.report }

unfoldable pub ledger_after : Ledger → AnyCall → Ledger
ledger_after x (Host c) = hosted_ledger x c
ledger_after x (Inbound m p out) = telling_ledger x (inbound_on x.held m p out)
ledger_after x (Next m out) = goes_on x (next_on x.held m out)

unfoldable pub ledger_run : Ledger → List AnyCall → Ledger
ledger_run x [] = x
ledger_run x (c ∷ cs) = ledger_run (ledger_after x c) cs

-- What the types of the library say of a call: bytes are bytes, a P_Key has 16 bits.
abbrev pub HostTyped : HostCall → Type 0
HostTyped (SetUp s) = s.pkey < 2 ^ 16
HostTyped Reset = Unit {0}
HostTyped MakeReady = Unit {0}
HostTyped (AddRegion r) = Unit {0}
HostTyped (RemoveRegion key) = Unit {0}
HostTyped (PostEntry e) = Unit {0}

abbrev pub Typed : AnyCall → Type 0
Typed (Host c) = HostTyped c
Typed (Inbound m p out) = Bytes m × Bytes p
Typed (Next m out) = Unit {0}

abbrev pub AllTyped : List AnyCall → Type 0
AllTyped calls = All Typed calls

-- They ask this of a set-up and of inbound, and nothing of any other call.
abbrev pub TypedIs : Type 0
TypedIs =
    (c : HostCall) (s : Setup) (m p out : List ℕ)
    → (((s : Setup) → c ≡ SetUp s → ⊥) → Typed (Host c))
    × Says (Typed (Host (SetUp s))) (s.pkey < 65536)
    × Says (Typed (Inbound m p out)) (((i : ℕ) → get_or m i 0 < 256) × ((i : ℕ) → get_or p i 0 < 256))
    × Typed (Next m out)

-- The pair's history that a ledger says.
abbrev pub history_of : Ledger → History
history_of x = record { whole = said x.held; posted = x.posted; completions = x.completions }

-- A set-up that is refused leaves the library's words, and not the blank pair: the history goes on without it.
abbrev pub gone_on : Bool → AnyCall → List AnyCall → List AnyCall
gone_on done c cs = cond done (c ∷ cs) cs

unfoldable pub without_refused : List AnyCall → List AnyCall
without_refused [] = []
without_refused (Host (SetUp s) ∷ cs) = gone_on (executed (set_up_status s)) (Host (SetUp s)) (without_refused cs)
without_refused (Host Reset ∷ cs) = Host Reset ∷ without_refused cs
without_refused (Host MakeReady ∷ cs) = Host MakeReady ∷ without_refused cs
without_refused (Host (AddRegion r) ∷ cs) = Host (AddRegion r) ∷ without_refused cs
without_refused (Host (RemoveRegion key) ∷ cs) = Host (RemoveRegion key) ∷ without_refused cs
without_refused (Host (PostEntry e) ∷ cs) = Host (PostEntry e) ∷ without_refused cs
without_refused (Inbound m p out ∷ cs) = Inbound m p out ∷ without_refused cs
without_refused (Next m out ∷ cs) = Next m out ∷ without_refused cs

-- What holds of the ledger since a set-up on any 30 words and tables of any contents, after every list of exported
-- calls, on both services: packets of any bytes, refused calls and further set-ups among them.
abbrev pub AfterAll : (Holding → Setup → List AnyCall → Ledger → Type 0) → Type 0
AfterAll P =
    (h : Holding) (s : Setup) (calls : List AnyCall)
    → length h.words ≡ 30
    → length h.entries ≡ 16
    → length h.saved ≡ 16
    → SetupSound s
    → s.pkey < 2 ^ 16
    → AllTyped calls
    → P h s calls (ledger_run (new_ledger (hosting h (SetUp s))) calls)

-- The pair that the words say, the tables, the entries posted and the completions told are those of the history: what is
-- proved of every list of the pair's calls holds of the library's.
abbrev pub LibraryHistory : Type 0
LibraryHistory =
    AfterAll (λ h s calls x. history_of x ≡ ran (new_history (begun s h.regions h.entries h.saved)) (without_refused calls))

-- The words are in range, and say a sound pair with sound tables: no call is ever refused with 34 for words or rows that
-- the calls before it have left.
abbrev pub LibraryStays : Type 0
LibraryStays = AfterAll (λ h s calls x. InRange x.held.words × WholeSound (said x.held))

-- The entries posted are those completed, in the order told, then the one held, then those that wait.
abbrev pub LibraryOrder : Type 0
LibraryOrder = AfterAll (λ h s calls x. PostingOrder (history_of x))
