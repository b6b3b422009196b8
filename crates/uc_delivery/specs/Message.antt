-- A message on the unreliable connection. Handed in whole it is stored and reported once; with a packet lost it is
-- reported never, whatever came before.
use Rattle.std.specs.Prelude.{◌^◌, ℕ, suc, ◌-◌, ◌≤◌, ◌<◌, ◌≡◌, Bool, true, false, cond, List, [], ◌∷◌, ◌++◌, ◌⊎◌, length, get_or, replicate}
use Rattle.sequence.specs.Sequence.{psn_after, msn_next}
use Rattle.sequence.specs.declared.Psn.{Psn}
use Rattle.header.specs.Bytes.{Bytes}
use Rattle.header.specs.Read.{bth_of}
use Rattle.memory.specs.Memory.{overwrite}
use Rattle.table.specs.Table.{entry_slot}
use Rattle.table.specs.declared.Entry.{Entry}
use Rattle.table.specs.declared.Ring.{Ring}
use Rattle.pair.specs.Calls.{Whole, HostCall, begun, called_all}
use Rattle.pair.specs.Claims.{SetupSound}
use Rattle.pair.specs.declared.Setup.{Setup}
use Rattle.cut_spec.specs.Claims.{Carrier, kind_number}
use Rattle.cut_spec.specs.declared.Request.{Request}
use Rattle.cut_spec.specs.declared.Request.TheVariants.{Send, SendImmediate, Write, WriteImmediate, Read, CmpSwap, FetchAdd}
use Rattle.responder_spec.specs.Steady.{Steady}
use Rattle.delivery_spec.specs.Stream.{Message, packet_count, packet_at}
use Rattle.delivery_spec.specs.Made.{NoneSetUp}
use Rattle.delivery_spec.specs.Plain.{answer_room, takes_entry, completions_for, region_offset}
use Rattle.delivery_spec.specs.Demand.{Run, taken, Allowed, Addressed, AtLeast, entry_of}

-- A pair of the unreliable connection as calls leave it, Ready. It may have received anything: a message may be open,
-- and any PSN expected. A READ is never being answered on such a pair.
pub record Standing (w : Whole) : Type 0 where
  pub steady : Steady w
  pub unreliable : w.pair.setup.service ≡ 1
  pub ready : w.pair.state ≡ 1
  pub idle : w.pair.read.remaining ≡ 0

-- So is a pair that was set up, given regions and entries and made Ready by any calls of the host; none is open then.
abbrev pub StandsMade : Type 0
StandsMade =
    (s : Setup) (regions entries saved : List (List ℕ)) (calls : List HostCall) → SetupSound s
    → s.service ≡ 1
    → length entries ≡ 16
    → length saved ≡ 16
    → NoneSetUp calls
    → let w = called_all (begun s regions entries saved) calls in
    w.pair.state ≡ 1
    → Standing w × (w.pair.message.kind ≡ 255)

-- packet i of a message whose first packet has the PSN given; its bytes are those that the cutting call writes
abbrev pub message_packet : Message → Psn → ℕ → List ℕ
message_packet m first i = packet_at (record { message = m; first = first; index = i })

-- Of the packets from packet i on, those marked true are handed in, in their order, and the others are lost. Nothing
-- else comes between; each call has an output of its own.
unfoldable pub handed : (ℕ → List ℕ) → Message → Psn → Run → ℕ → List Bool → Run
handed outs m first x i [] = x
handed outs m first x i (true ∷ bs) = handed outs m first (taken x (message_packet m first i) (outs i)) (suc i) bs
handed outs m first x i (false ∷ bs) = handed outs m first x (suc i) bs

-- What both claims ask: memory of the length set up, outputs with room for an answer, and a SEND or WRITE to this pair
pub record MayCome (outs : ℕ → List ℕ) (m : Message) (first : Psn) (x : Run) : Type 0 where
  pub standing : Standing x.whole
  pub memory : length x.memory ≡ x.whole.pair.setup.memory
  pub outputs : (i : ℕ) → answer_room ≤ length (outs i)
  pub first24 : first.0 < 2 ^ 24
  pub addressed : Addressed x.whole.pair.setup m
  pub carries : Carrier m.request

-- The first entry of the ring: the one of an open SEND, which a First or Only closes, else the first that waits.
abbrev pub first_waiting : Whole → Entry
first_waiting w = entry_of (get_or w.entries (entry_slot w.pair.entries.head 0) [])

-- an entry is there if the message takes one, and a SEND fits it
pub record HasEntry (w : Whole) (m : Message) : Type 0 where
  pub some : takes_entry m.request ≡ true → 1 ≤ w.pair.entries.count
  pub long : AtLeast (first_waiting w).length m.request (length m.bytes)

-- where the message goes: into the entry, or to the address of its region
abbrev pub target : Request → List (List ℕ) → Entry → ℕ
target Send regions e = e.offset
target (SendImmediate v) regions e = e.offset
target (Write t) regions e = region_offset regions t.key t.address
target (WriteImmediate t v) regions e = region_offset regions t.key t.address
target (Read a) regions e = 0
target (CmpSwap a) regions e = 0
target (FetchAdd t v) regions e = 0

-- the entry, if the message takes one, is used up
abbrev pub without : Bool → Ring → Ring
without takes_entry r = cond takes_entry (record { head = entry_slot r.head 1; count = r.count - 1 }) r

-- The whole of what is left: the message's bytes where they belong and no other byte changed; one completion, if the
-- message takes an entry; the MSN one higher, the PSN behind the last packet's expected, no message open.
abbrev pub handed_all : Run → Message → Psn → Run
handed_all x m first =
    let w = x.whole in
    let q = w.pair in
    record {
      whole =
          record {
            pair =
                record {
                  setup = q.setup;
                  state = q.state;
                  expected = psn_after first (packet_count m);
                  msn = msn_next q.msn;
                  nakmark = false;
                  message = record { kind = 255; stored = 0; address = 0; key = 0; length = 0 };
                  entries = without (takes_entry m.request) q.entries;
                  read = q.read;
                  saved = q.saved;
                };
            regions = w.regions;
            entries = w.entries;
            saved = w.saved;
          };
      memory = overwrite x.memory (target m.request w.regions (first_waiting w)) m.bytes;
      completions = x.completions ++ completions_for m.request (first_waiting w) (length m.bytes);
    }

-- Its function is enabled, and the bytes that a WRITE names lie in the region of its key.
abbrev pub HandedWhole : Type 0
HandedWhole =
    (outs : ℕ → List ℕ) (m : Message) (first : Psn) (x : Run) → MayCome outs m first x
    → Allowed x.whole.pair.setup x.whole.regions m.request (length m.bytes)
    → HasEntry x.whole m
    → handed outs m first x 0 (replicate (packet_count m) true) ≡ handed_all x m first

-- The pair does not take a later packet of the message for one of a message that is open already: none of its kind is
-- open, or the expected PSN is none of theirs. Without this the rules let such a packet go on with the other message.
abbrev pub Apart : Whole → Message → Psn → Type 0
Apart w m first =
    (w.pair.message.kind ≡ kind_number m.request → ⊥)
    ⊎ ((i : ℕ) → 0 < i → i < packet_count m → w.pair.expected.0 ≡ (psn_after first i).0 → ⊥)

-- a packet is lost
abbrev pub Lost : List Bool → ℕ → Type 0
Lost chosen n = (i : ℕ) × (i < n) × (get_or chosen i true ≡ false)

-- nothing was reported, no message counted, no entry used up
pub record Unreported (x y : Run) : Type 0 where
  pub completions : y.completions ≡ x.completions
  pub msn : y.whole.pair.msn ≡ x.whole.pair.msn
  pub entries : y.whole.pair.entries ≡ x.whole.pair.entries

-- Whichever packets are lost. Where the first was handed in, nothing is asked of what came before.
abbrev pub HandedInPart : Type 0
HandedInPart =
    (outs : ℕ → List ℕ) (m : Message) (first : Psn) (x : Run) (chosen : List Bool) → MayCome outs m first x
    → length chosen ≡ packet_count m
    → Lost chosen (packet_count m)
    → (get_or chosen 0 false ≡ true) ⊎ Apart x.whole m first
    → Unreported x (handed outs m first x 0 chosen)

-- What came before: any bytes, each with an output.
pub record Earlier : Type 0 where
  pub packet : List ℕ
  pub output : List ℕ

unfoldable pub heard : Run → List Earlier → Run
heard x [] = x
heard x (a ∷ rest) = heard (taken x a.packet a.output) rest

abbrev pub AllBytes : List Earlier → Type 0
AllBytes [] = Unit {0}
AllBytes (a ∷ rest) = Bytes a.packet × AllBytes rest

-- None of these packets has a PSN of the message's; that of its last packet may be among theirs.
abbrev pub Foreign : Message → Psn → List Earlier → Type 0
Foreign m first [] = Unit {0}
Foreign m first (a ∷ rest) = ((i : ℕ) → suc i < packet_count m → (bth_of a.packet).psn.0 ≡ (psn_after first i).0 → ⊥) × Foreign m first rest

-- Whatever a pair hears, it stays as the claims ask, and a pair that is apart stays so if all of it was foreign.
abbrev pub MayComeOn : Type 0
MayComeOn =
    (outs : ℕ → List ℕ) (m : Message) (first : Psn) (x : Run) (before : List Earlier) → MayCome outs m first x
    → AllBytes before
    → MayCome outs m first (heard x before)

abbrev pub ApartOn : Type 0
ApartOn =
    (outs : ℕ → List ℕ) (m : Message) (first : Psn) (x : Run) (before : List Earlier) → MayCome outs m first x
    → AllBytes before
    → Apart x.whole m first
    → Foreign m first before
    → Apart (heard x before).whole m first

-- So both claims hold after any packets.
abbrev pub WholeAfter : Type 0
WholeAfter =
    (outs : ℕ → List ℕ) (m : Message) (first : Psn) (x : Run) (before : List Earlier) → MayCome outs m first x
    → AllBytes before
    → let y = heard x before in
    Allowed y.whole.pair.setup y.whole.regions m.request (length m.bytes)
    → HasEntry y.whole m
    → handed outs m first y 0 (replicate (packet_count m) true) ≡ handed_all y m first

abbrev pub PartAfter : Type 0
PartAfter =
    (outs : ℕ → List ℕ) (m : Message) (first : Psn) (x : Run) (before : List Earlier) (chosen : List Bool) → MayCome outs m first x
    → AllBytes before
    → length chosen ≡ packet_count m
    → Lost chosen (packet_count m)
    → (get_or chosen 0 false ≡ true) ⊎ (Apart x.whole m first × Foreign m first before)
    → Unreported (heard x before) (handed outs m first (heard x before) 0 chosen)
