-- The order of receive entries, on both services, after every list of calls since a set-up or reset: none is lost, none
-- overtakes another.
use Rattle.std.specs.Prelude.{ℕ, ◌≡◌, cond, List, [], ◌∷◌, ◌++◌, map, get_or, length}
use Rattle.responder_spec.specs.Arrival.{arriving_at}
use Rattle.table.specs.Table.{entry_row}
use Rattle.pair.specs.Answer.{executed}
use Rattle.pair.specs.Host.{reset_status, post_status}
use Rattle.pair.specs.View.{held_of, waiting_of}
use Rattle.pair.specs.Calls.{Whole, HostCall, begun, called}
use Rattle.pair.specs.Calls.HostCall.{SetUp, Reset, MakeReady, AddRegion, RemoveRegion, PostEntry}
use Rattle.pair.specs.Claims.{SetupSound}
use Rattle.pair.specs.declared.Setup.{Setup}
use Rattle.responder_spec.specs.Inbound.{inbound}
use Rattle.responder_spec.specs.Response.{next_response}
use Rattle.responder_spec.specs.Calls.{drained, reports}
use Rattle.responder_spec.specs.declared.Completion.{Completion}

-- Every call there is. Memory, packet and output are any lists, anew with each call.
pub data AnyCall : Type 0 where
  Host : HostCall → AnyCall
  Inbound : (memory packet output : List ℕ) → AnyCall
  Next : (memory output : List ℕ) → AnyCall

-- The pair with its tables; since the last set-up or reset, the rows of the entries posted and what was reported to the
-- host.
pub record History : Type 0 where
  pub whole : Whole
  pub posted : List (List ℕ)
  pub completions : List Completion

-- Nothing posted yet, nothing reported.
abbrev pub new_history : Whole → History
new_history w = record { whole = w; posted = []; completions = [] }

-- A call that posts nothing and reports nothing, and leaves the pair and its tables so.
abbrev pub goes : History → Whole → History
goes x w = record { whole = w; posted = x.posted; completions = x.completions }

-- A call of the host. An entry is posted where post entry accepts it. A set-up gives another pair, a refused one the
-- blank pair, and an accepted reset a fresh one: nothing was posted since. A refused reset changes nothing.
unfoldable pub hosted : History → HostCall → History
hosted x (SetUp s) = new_history (called x.whole (SetUp s))
hosted x Reset =
    cond (executed (reset_status x.whole.pair)) (new_history (called x.whole Reset)) (goes x (called x.whole Reset))
hosted x MakeReady = goes x (called x.whole MakeReady)
hosted x (AddRegion r) = goes x (called x.whole (AddRegion r))
hosted x (RemoveRegion key) = goes x (called x.whole (RemoveRegion key))
hosted x (PostEntry e) =
    record {
      whole = called x.whole (PostEntry e);
      posted = cond (executed (post_status x.whole.pair e)) (x.posted ++ (entry_row e ∷ [])) x.posted;
      completions = x.completions;
    }

-- A call of the responder, which may report a completion.
abbrev pub tells : History → Whole → Completion → History
tells x w c = record { whole = w; posted = x.posted; completions = x.completions ++ reports c }

-- One call;
unfoldable pub history_after : History → AnyCall → History
history_after x (Host c) = hosted x c
history_after x (Inbound m p out) =
    tells x (inbound (arriving_at x.whole m p out)).whole (inbound (arriving_at x.whole m p out)).completion
history_after x (Next m out) = tells x (drained x.whole m out) (next_response x.whole.pair m out).completion

-- and a list of them, one after the other.
unfoldable pub ran : History → List AnyCall → History
ran x [] = x
ran x (c ∷ cs) = ran (history_after x c) cs

-- The entry that an open message holds, and those that wait.
abbrev pub held : History → List (List ℕ)
held x = held_of x.whole.pair x.whole.entries

abbrev pub waiting : History → List (List ℕ)
waiting x = waiting_of x.whole.pair x.whole.entries

-- Completed are those reported to the host, each by its number and in that order.
pub record PostingOrder (x : History) : Type 0 where
  pub completed : List (List ℕ)
  pub reported : map (λ c. c.number) x.completions ≡ map (λ row. get_or row 0 0) completed
  pub order : x.posted ≡ completed ++ (held x ++ waiting x)

-- From any pair on that has no entries, and a table of 16 rows. Nothing is asked of the rest of the pair or of any
-- bytes.
abbrev pub EntriesInOrder : Type 0
EntriesInOrder =
    (w : Whole) (calls : List AnyCall) → length w.entries ≡ 16 → w.pair.entries.count ≡ 0 → PostingOrder (ran (new_history w) calls)

-- So it is since a set-up, accepted or refused, whatever the tables held before;
abbrev pub SinceSetUp : Type 0
SinceSetUp =
    (s : Setup) (regions entries saved : List (List ℕ)) (calls : List AnyCall) → length entries ≡ 16
    → PostingOrder (ran (new_history (begun s regions entries saved)) calls)

-- and since a reset of a pair that was set up, whatever it has received and its tables hold.
abbrev pub SinceReset : Type 0
SinceReset =
    (w : Whole) (calls : List AnyCall) → SetupSound w.pair.setup → length w.entries ≡ 16
    → PostingOrder (ran (new_history (called w Reset)) calls)
