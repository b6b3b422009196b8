-- The plain run: from the stream, the start and each call's arguments alone. It stores from the message, and knows no
-- packet, no header, no answer.
use Rattle.std.specs.Prelude.{ℕ, suc, ◌+◌, ◌-◌, ◌*◌, ◌<◌, Bool, true, false, cond, not, ◌&&◌, ◌||◌, List, [], ◌∷◌, ◌++◌, leb, ltb, eqb, length, take, drop}
use Rattle.sequence.specs.Sequence.{psn_after, msn_next}
use Rattle.sequence.specs.declared.Psn.{Psn}
use Rattle.sequence.specs.declared.Msn.{Msn}
use Rattle.memory.specs.Memory.{overwrite}
use Rattle.memory.specs.Word.{fetch_added, swapped}
use Rattle.pmtu.specs.Pieces.{piece_at}
use Rattle.table.specs.RegionRow as RegionRow
use Rattle.table.specs.Table.{entry_capacity}
use Rattle.table.specs.View.{region_of}
use Rattle.table.specs.declared.Entry.{Entry}
use Rattle.pair.specs.declared.Setup.{Setup}
use Rattle.cut_spec.specs.declared.Request.{Request}
use Rattle.cut_spec.specs.declared.Request.TheVariants.{Send, SendImmediate, Write, WriteImmediate, Read, CmpSwap, FetchAdd}
use Rattle.responder_spec.specs.declared.Completion.{Completion}
use Rattle.delivery_spec.specs.Stream.{packet_count, Slot, slot, psn_count}

-- k packets were executed; held is the entry of an open SEND; r responses are still to send
pub record Plain : Type 0 where
  pub k : ℕ
  pub memory : List ℕ
  pub completions : List Completion
  pub msn : Msn
  pub expected : Psn
  pub held : List Entry
  pub waiting : List Entry
  pub r : ℕ

-- the calls: packet j of the stream is handed in, with this output; the next response is asked for; an entry is posted
pub data Call : Type 0 where
  Hand : ℕ → List ℕ → Call
  Next : List ℕ → Call
  Post : Entry → Call

-- every packet handed in is one of n
abbrev pub AllInside : ℕ → List Call → Type 0
AllInside n [] = Unit {0}
AllInside n (Hand j out ∷ cs) = (j < n) × AllInside n cs
AllInside n (Next out ∷ cs) = AllInside n cs
AllInside n (Post e ∷ cs) = AllInside n cs

-- a packet that needs an entry, by its index and the count of its message: the first of a SEND, the last of a WRITE
-- with immediate
abbrev pub needs_entry_at : Request → ℕ → ℕ → Bool
needs_entry_at Send i n = eqb i 0
needs_entry_at (SendImmediate v) i n = eqb i 0
needs_entry_at (Write t) i n = false
needs_entry_at (WriteImmediate t v) i n = eqb (suc i) n
needs_entry_at (Read a) i n = false
needs_entry_at (CmpSwap a) i n = false
needs_entry_at (FetchAdd t v) i n = false

-- a message that takes an entry
abbrev pub takes_entry : Request → Bool
takes_entry Send = true
takes_entry (SendImmediate v) = true
takes_entry (Write t) = false
takes_entry (WriteImmediate t v) = true
takes_entry (Read a) = false
takes_entry (CmpSwap a) = false
takes_entry (FetchAdd t v) = false

abbrev pub completion_with : Entry → ℕ → Bool → ℕ → Completion
completion_with e n immediate value =
    record { some = true; number = e.number; length = n; immediate = immediate; value = value }

-- what is reported at its end: one completion, if it took an entry
abbrev pub completions_for : Request → Entry → ℕ → List Completion
completions_for Send e n = completion_with e n false 0 ∷ []
completions_for (SendImmediate v) e n = completion_with e n true v ∷ []
completions_for (Write t) e n = []
completions_for (WriteImmediate t v) e n = completion_with e n true v ∷ []
completions_for (Read a) e n = []
completions_for (CmpSwap a) e n = []
completions_for (FetchAdd t v) e n = []

-- where in memory the address of a region lies
unfoldable pub region_offset : List (List ℕ) → ℕ → ℕ → ℕ
region_offset regions key address =
    RegionRow.offset (region_of key regions) + (address - RegionRow.address (region_of key regions))

-- memory after packet i, of the entry e: piece i of the message at its offset
abbrev pub memory_after : Request → List (List ℕ) → ℕ → List ℕ → ℕ → Entry → List ℕ → List ℕ
memory_after Send regions pmtu d i e m = overwrite m (e.offset + i * pmtu) (piece_at d pmtu i)
memory_after (SendImmediate v) regions pmtu d i e m = overwrite m (e.offset + i * pmtu) (piece_at d pmtu i)
memory_after (Write t) regions pmtu d i e m = overwrite m (region_offset regions t.key t.address + i * pmtu) (piece_at d pmtu i)
memory_after (WriteImmediate t v) regions pmtu d i e m = overwrite m (region_offset regions t.key t.address + i * pmtu) (piece_at d pmtu i)
memory_after (Read a) regions pmtu d i e m = m
memory_after (CmpSwap a) regions pmtu d i e m = swapped m (region_offset regions a.key a.address) a.compare a.swap
memory_after (FetchAdd t v) regions pmtu d i e m = fetch_added m (region_offset regions t.key t.address) v

-- the responses of a READ are to be sent
abbrev pub is_read : Request → Bool
is_read Send = false
is_read (SendImmediate v) = false
is_read (Write t) = false
is_read (WriteImmediate t v) = false
is_read (Read a) = true
is_read (CmpSwap a) = false
is_read (FetchAdd t v) = false

abbrev pub none : List Entry → Bool
none [] = true
none (e ∷ es) = false

-- of the entries in their order, the first; a packet that needs none, and has none, stores nothing by it
abbrev pub first_of : List Entry → Entry
first_of [] = record { number = 0; offset = 0; length = 0 }
first_of (e ∷ es) = e

abbrev pub slot_needs_entry : Slot → Bool
slot_needs_entry t = needs_entry_at t.message.request t.index (packet_count t.message)

abbrev pub is_last : Slot → Bool
is_last t = eqb (suc t.index) (packet_count t.message)

-- the same with other responses to send, other entries waiting
abbrev pub with_responses : Plain → ℕ → Plain
with_responses p r =
    record { k = p.k; memory = p.memory; completions = p.completions; msn = p.msn; expected = p.expected; held = p.held; waiting = p.waiting; r = r }

abbrev pub with_waiting : Plain → List Entry → Plain
with_waiting p waiting =
    record { k = p.k; memory = p.memory; completions = p.completions; msn = p.msn; expected = p.expected; held = p.held; waiting = waiting; r = p.r }

-- packet k takes the first entry, if it needs one
abbrev pub held_now : Plain → Slot → List Entry
held_now p t = cond (slot_needs_entry t) (take 1 p.waiting) p.held

abbrev pub waiting_now : Plain → Slot → List Entry
waiting_now p t = cond (slot_needs_entry t) (drop 1 p.waiting) p.waiting

-- the packet t is executed, once, with its entry e
unfoldable pub execute_with : List (List ℕ) → Plain → Slot → Entry → Plain
execute_with regions p t e =
    record {
      k = suc p.k;
      memory = memory_after t.message.request regions t.message.connection.pmtu t.message.bytes t.index e p.memory;
      completions = p.completions ++ cond (is_last t) (completions_for t.message.request e (length t.message.bytes)) [];
      msn = cond (is_last t) (msn_next p.msn) p.msn;
      expected = psn_after p.expected (psn_count t);
      held = cond (is_last t) [] (held_now p t);
      waiting = waiting_now p t;
      r = cond (is_read t.message.request) (psn_count t) p.r;
    }

abbrev pub execute : List (List ℕ) → Plain → Slot → Plain
execute regions p t = execute_with regions p t (first_of (held_now p t))

-- packet k has come: without the entry that it needs, nothing
abbrev pub execute_next : List (List ℕ) → Plain → Slot → Plain
execute_next regions p t = cond (slot_needs_entry t && none p.waiting) p (execute regions p t)

-- packet j is delivered: packet k is executed, a READ before it, a duplicate, is answered, all else changes nothing
abbrev pub deliver : List (List ℕ) → List Slot → Plain → ℕ → Plain
deliver regions S p j =
    cond (eqb j p.k) (execute_next regions p (slot S j))
    (cond (ltb j p.k && is_read (slot S j).message.request) (with_responses p (psn_count (slot S j))) p)

-- how long an output must be to take any answer, and the headers of a READ's response
abbrev pub answer_room : ℕ
answer_room = 24

abbrev pub response_room : ℕ
response_room = 16

-- The order of checks, read on the plain run. A packet handed in is refused if the output is too short, memory is not as
-- long as it was set up, or responses are still to send;
abbrev pub hand_refused : Setup → Plain → List ℕ → Bool
hand_refused s p out = ltb (length out) answer_room || (not (eqb (length p.memory) s.memory) || not (eqb p.r 0))

-- a response asked for, if there is none to send, the output is too short, or memory is not as long as it was set up;
abbrev pub next_refused : Setup → Plain → List ℕ → Bool
next_refused s p out =
    eqb p.r 0 || (ltb (length out) (response_room + s.pmtu) || not (eqb (length p.memory) s.memory))

-- an entry, if it does not lie in memory, or there are 16, the one of an open SEND among them
abbrev pub post_refused : Setup → Plain → Entry → Bool
post_refused s p e =
    ltb s.memory (e.offset + e.length) || leb entry_capacity (length p.held + length p.waiting)

-- a call that is refused changes nothing
abbrev pub plain_step : Setup → List (List ℕ) → List Slot → Plain → Call → Plain
plain_step s regions S p (Hand j out) = cond (hand_refused s p out) p (deliver regions S p j)
plain_step s regions S p (Next out) = cond (next_refused s p out) p (with_responses p (p.r - 1))
plain_step s regions S p (Post e) = cond (post_refused s p e) p (with_waiting p (p.waiting ++ (e ∷ [])))

unfoldable pub plain : Setup → List (List ℕ) → List Slot → Plain → List Call → Plain
plain s regions S p [] = p
plain s regions S p (c ∷ cs) = plain s regions S (plain_step s regions S p c) cs

-- the start: memory, the number first expected, and the entries that wait
abbrev pub start : Setup → List ℕ → List Entry → Plain
start s m waiting =
    record { k = 0; memory = m; completions = []; msn = record { 0 = 0 }; expected = s.start; held = []; waiting = waiting; r = 0 }

-- the entries of the posts that are accepted, in their order
abbrev pub accepted_now : Setup → Plain → Call → List Entry
accepted_now s p (Hand j out) = []
accepted_now s p (Next out) = []
accepted_now s p (Post e) = cond (post_refused s p e) [] (e ∷ [])

unfoldable pub accepted : Setup → List (List ℕ) → List Slot → Plain → List Call → List Entry
accepted s regions S p [] = []
accepted s regions S p (c ∷ cs) = accepted_now s p c ++ accepted s regions S (plain_step s regions S p c) cs

-- Packets one after the other, each once: no calls, none lost, none twice.
unfoldable pub execute_all : List (List ℕ) → Plain → List Slot → Plain
execute_all regions p [] = p
execute_all regions p (t ∷ ts) = execute_all regions (execute regions p t) ts
