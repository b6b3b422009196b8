-- What holds between calls of the plain run and the pair's.
use Prim.Native.Nat.{ℕ, ◌+◌, ◌*◌, ◌≤◌}
use mathlib.Core.Path.{◌≡◌, ◌∙◌}
use mathlib.Core.Bool.{Bool, true, false}
use mathlib.Core.List.{List, [], ◌∷◌, ◌++◌, append-nil, map}
use lib.Dec.{eqb}
use lib.ListN.{length}
use Rattle.sequence.specs.Sequence.{after}
use Rattle.table.specs.Table.{entry_slot}
use Rattle.table.specs.View.{in_ring}
use Rattle.table.specs.declared.Entry.{Entry}
use Rattle.pair.specs.declared.OpenMessage.{OpenMessage}
use Rattle.pair.specs.declared.ReadAnswer.{ReadAnswer}
use Rattle.cut_spec.specs.Claims.{kind_number}
use Rattle.cut_spec.specs.declared.Request.{Request}
use Rattle.cut_spec.specs.declared.Request.TheVariants.{Send, SendImmediate, Write, WriteImmediate, Read, CmpSwap, FetchAdd}
use Rattle.pair.specs.Calls.{with_pair}
use Rattle.responder_spec.specs.Apply.{memory_by, with}
use Rattle.responder_spec.specs.Inbound.{whole_by}
use Rattle.responder_spec.specs.Calls.{reports}
use Rattle.responder_spec.specs.declared.Completion.{Completion}
use Rattle.responder_spec.specs.declared.Decision.{Decision}
use Rattle.delivery_spec.specs.Stream.{Message, Slot, slot, number_along}
use Rattle.delivery_spec.specs.Plain.{Plain, with_responses}
use Rattle.delivery_spec.specs.Demand.{Run, AllLongEnough, entry_of}
use Rattle.delivery_steps.proofs.Operands.{address_of, key_of, named_of}

-- the message u is of the kind k, with so many bytes stored, and names the bytes
pub record Is (k off at y n : ℕ) (u : OpenMessage) : Type 0 where
  pub kind : u.kind ≡ k
  pub stored : u.stored ≡ off
  pub address : u.address ≡ at
  pub key : u.key ≡ y
  pub length : u.length ≡ n

-- it is that of the packet t, before it
abbrev pub IsOf : Slot → OpenMessage → Type 0
IsOf t u =
    Is (kind_number t.message.request) (t.index * t.message.connection.pmtu) (address_of t.message.request) (key_of t.message.request)
    (named_of t.message.request (length t.message.bytes)) u

-- an open SEND holds an entry that takes it; nothing else holds one
abbrev pub Holding : Request → ℕ → List Entry → Type 0
Holding Send n held = (e : Entry) × (held ≡ e ∷ []) × (n ≤ e.length)
Holding (SendImmediate v) n held = (e : Entry) × (held ≡ e ∷ []) × (n ≤ e.length)
Holding (Write t) n held = held ≡ []
Holding (WriteImmediate t v) n held = held ≡ []
Holding (Read a) n held = held ≡ []
Holding (CmpSwap a) n held = held ≡ []
Holding (FetchAdd t v) n held = held ≡ []

-- before the first packet of a message none is open, before all others it is the open one
abbrev pub OpenedFor : Bool → Slot → OpenMessage → List Entry → Type 0
OpenedFor true t u held = (u.kind ≡ 255) × (held ≡ [])
OpenedFor false t u held = IsOf t u × Holding t.message.request (length t.message.bytes) held

pub record Link (ms : List Message) (S : List Slot) (p : Plain) (x : Run) : Type 0 where
  pub ready : x.whole.pair.state ≡ 1
  pub expected : x.whole.pair.expected ≡ p.expected
  pub msn : x.whole.pair.msn ≡ p.msn
  pub entries : map entry_of (in_ring entry_slot x.whole.entries x.whole.pair.entries) ≡ p.held ++ p.waiting
  pub reads : x.whole.pair.read.remaining ≡ p.r
  pub memory : x.memory ≡ p.memory
  pub completions : x.completions ≡ p.completions
  pub within : p.k ≤ length S
  pub number : p.expected.0 ≡ after x.whole.pair.setup.start.0 (number_along S p.k)
  pub long : AllLongEnough ms p.waiting
  pub opened : OpenedFor (eqb (slot S p.k).index 0) (slot S p.k) x.whole.pair.message p.held

-- what a decision d about the packet b leads to
abbrev pub step_by : Run → Decision → List ℕ → Run
step_by x d b =
    record {
      whole = whole_by x.whole d x.memory;
      memory = memory_by d.change x.memory b;
      completions = x.completions ++ reports d.progress.completion;
    }

-- another NAK mark and another READ being answered
abbrev pub eased : Run → Bool → ReadAnswer → List Completion → Run
eased x nakmark reads completions =
    record {
      whole = with_pair x.whole (with x.whole.pair x.whole.pair.state nakmark reads);
      memory = x.memory;
      completions = completions;
    }

module _ {ms : List Message} {S : List Slot} {p : Plain} {x : Run} (L : Link ms S p x) (nakmark : Bool) (a : ReadAnswer) (r : ℕ) (e : a.remaining ≡ r) where
  pub reads_on : (cs : List Completion) → cs ≡ p.completions → Link ms S (with_responses p r) (eased x nakmark a cs)
  reads_on cs c =
      record {
        ready = L.ready;
        expected = L.expected;
        msn = L.msn;
        entries = L.entries;
        reads = e;
        memory = L.memory;
        completions = c;
        within = L.within;
        number = L.number;
        long = L.long;
        opened = L.opened;
      }

  -- a decision that reports no completion
  pub eases : Link ms S (with_responses p r) (eased x nakmark a (x.completions ++ []))
  eases = reads_on (x.completions ++ []) (append-nil x.completions ∙ L.completions)
