-- What each answer of the responder's calls leaves, by its number; the proofs stand in proofs/.
use Rattle.std.specs.Prelude.{ℕ, ◌+◌, ◌-◌, ◌%◌, ◌≤◌, ◌<◌, ◌≡◌, true, false, List, [], ◌∷◌, ◌++◌, ◌⊎◌, length, drop, get_or}
use Rattle.lemmas.specs.OneOf.{OneOf}
use Rattle.sequence.specs.Sequence.{psn_after, msn_next}
use Rattle.sequence.specs.declared.Msn.{Msn}
use Rattle.opcode.specs.Opcode.{class_of}
use Rattle.header.specs.Read.{bth_of, reth_of, atomic_of}
use Rattle.memory.specs.Memory.{store}
use Rattle.memory.specs.Word.{word_at, fetch_added, swapped}
use Rattle.memory.specs.Claims.{OnlyWord}
use Rattle.packet.specs.Packet.{payload_of}
use Rattle.pmtu.specs.Pieces.{pieces}
use Rattle.table.specs.Claims.{EntriesSound}
use Rattle.table.specs.View.{region_of, saved_ring, saved_rows}
use Rattle.pair.specs.Answer.{status_number}
use Rattle.pair.specs.Claims.{Sound}
use Rattle.pair.specs.declared.Setup.{Setup}
use Rattle.pair.specs.declared.Pair.{Pair}
use Rattle.pair.specs.declared.ReadAnswer.{ReadAnswer}
use Rattle.responder_spec.specs.declared.Completion.{Completion}
use Rattle.responder_spec.specs.declared.Outcome.{Outcome}
use Rattle.responder_spec.specs.Arrival.{Arrival, Left, arriving}
use Rattle.responder_spec.specs.Inbound.{inbound, Leaves}
use Rattle.responder_spec.specs.Calls.{drained}
use Rattle.pair.specs.Calls.{Whole}
use Rattle.responder_spec.specs.Response.{next_response, next_bytes, next_out}

-- Nothing completes: field by field, and not by the definition under test.
pub record Silent (c : Completion) : Type 0 where
  pub some : c.some ≡ false
  pub number : c.number ≡ 0
  pub length : c.length ≡ 0
  pub immediate : c.immediate ≡ false
  pub value : c.value ≡ 0

-- Memory and the saved atomics are as before, and nothing completes.
pub record Unexecuted (a : Arrival) (l : Left) : Type 0 where
  pub memory : l.memory ≡ a.memory
  pub saved : l.whole.saved ≡ a.whole.saved
  pub completion : Silent l.completion

-- Regions and entries are only read, whatever the answer.
pub record OnlyRead (a : Arrival) (l : Left) : Type 0 where
  pub regions : l.whole.regions ≡ a.whole.regions
  pub entries : l.whole.entries ≡ a.whole.entries

abbrev pub InboundReads : Type 0
InboundReads = (a : Arrival) → OnlyRead a (inbound a)

-- The promise of inbound is one equation between records: it is of the very things that the call was given, and gives
-- each thing that it leaves.
abbrev pub LeavesEach : Type 0
LeavesEach =
    (q : Pair) (regions entries saved : List (List ℕ)) (m p out : List ℕ) (o : Outcome) (saved' : List (List ℕ)) (m' out' : List ℕ)
    → Leaves (arriving q regions entries saved m p out) o saved' m' out'
    → let x = inbound (record { whole = record { pair = q; regions = regions; entries = entries; saved = saved }; memory = m; packet = p; out = out }) in
    (status_number o.status ≡ x.number) × (o.pair ≡ x.whole.pair) × (o.completion ≡ x.completion) × (o.outgoing ≡ x.outgoing)
    × (saved' ≡ x.whole.saved) × (m' ≡ x.memory) × (out' ≡ x.out)

-- Nothing at all is changed.
pub record Unchanged (a : Arrival) (l : Left) : Type 0 where
  pub pair : l.whole.pair ≡ a.whole.pair
  pub tables : OnlyRead a l
  pub unexecuted : Unexecuted a l
  pub outgoing : l.outgoing ≡ 0
  pub out : l.out ≡ a.out

-- Of two pairs, what no answer from 4 on moves; only 6 moves the message.
pub record Fixed (old new : Pair) : Type 0 where
  pub setup : new.setup ≡ old.setup
  pub expected : new.expected ≡ old.expected
  pub msn : new.msn ≡ old.msn
  pub message : new.message ≡ old.message
  pub entries : new.entries ≡ old.entries
  pub saved : new.saved ≡ old.saved

-- The NAK mark is set, and that is all; 16 bytes are sent.
pub record NakMarkAlone (a : Arrival) (l : Left) : Type 0 where
  pub nakmark : l.whole.pair.nakmark ≡ true
  pub fixed : Fixed a.whole.pair l.whole.pair
  pub state : l.whole.pair.state ≡ a.whole.pair.state
  pub read : l.whole.pair.read ≡ a.whole.pair.read
  pub unexecuted : Unexecuted a l
  pub outgoing : l.outgoing ≡ 16

-- The state is Error, and that is all; 16 bytes are sent.
pub record ErrorAlone (a : Arrival) (l : Left) : Type 0 where
  pub state : l.whole.pair.state ≡ 2
  pub fixed : Fixed a.whole.pair l.whole.pair
  pub nakmark : l.whole.pair.nakmark ≡ a.whole.pair.nakmark
  pub read : l.whole.pair.read ≡ a.whole.pair.read
  pub unexecuted : Unexecuted a l
  pub outgoing : l.outgoing ≡ 16

-- A READ begins to be answered: all its responses remain, and there is one at least. The RETH says how many bytes, and
-- the region of its key where, in memory; no bytes lie at 0.
pub record Begun (regions : List (List ℕ)) (s : Setup) (p : List ℕ) (number : Msn) (a : ReadAnswer) : Type 0 where
  pub some : 0 < a.remaining
  pub all : a.remaining ≡ pieces a.length s.pmtu
  pub psn : a.psn ≡ (bth_of p).psn
  pub msn : a.msn ≡ number
  pub length : a.length ≡ (reth_of p).length
  pub offset : 0 < a.length
      → a.offset ≡ get_or (region_of (reth_of p).key regions) 3 0 + ((reth_of p).address - get_or (region_of (reth_of p).key regions) 1 0)
  pub empty : a.length ≡ 0 → a.offset ≡ 0
  pub within : a.offset + a.length ≤ s.memory

-- A packet was sent, and the READ being answered is as before; or none was, and one begins.
abbrev pub AnsweredOr : Arrival → Left → Type 0
AnsweredOr a l =
    (((l.outgoing ≡ 16) ⊎ (l.outgoing ≡ 24)) × (l.whole.pair.read ≡ a.whole.pair.read))
    ⊎ ((l.outgoing ≡ 0) × (l.out ≡ a.out) × Begun a.whole.regions a.whole.pair.setup a.packet a.whole.pair.msn l.whole.pair.read)

pub record DuplicateLeaves (a : Arrival) (l : Left) : Type 0 where
  pub fixed : Fixed a.whole.pair l.whole.pair
  pub state : l.whole.pair.state ≡ a.whole.pair.state
  pub nakmark : l.whole.pair.nakmark ≡ a.whole.pair.nakmark
  pub unexecuted : Unexecuted a l
  pub answer : AnsweredOr a l

-- 6: a message was open and is closed, and that is all. The ring of entries is as before: an entry that was held is its
-- first still, and so waits again. Bytes stored before stay.
pub record Abandons (a : Arrival) (l : Left) : Type 0 where
  pub opened : a.whole.pair.message.kind ≡ 255 → ⊥
  pub message : l.whole.pair.message ≡ (record { kind = 255; stored = 0; address = 0; key = 0; length = 0 })
  pub setup : l.whole.pair.setup ≡ a.whole.pair.setup
  pub state : l.whole.pair.state ≡ a.whole.pair.state
  pub expected : l.whole.pair.expected ≡ a.whole.pair.expected
  pub msn : l.whole.pair.msn ≡ a.whole.pair.msn
  pub nakmark : l.whole.pair.nakmark ≡ a.whole.pair.nakmark
  pub entries : l.whole.pair.entries ≡ a.whole.pair.entries
  pub read : l.whole.pair.read ≡ a.whole.pair.read
  pub ring : l.whole.pair.saved ≡ a.whole.pair.saved
  pub unexecuted : Unexecuted a l
  pub outgoing : l.outgoing ≡ 0
  pub out : l.out ≡ a.out

-- Executed: the NAK mark is cleared, set-up and state stay.
pub record Executes (old new : Pair) : Type 0 where
  pub nakmark : new.nakmark ≡ false
  pub setup : new.setup ≡ old.setup
  pub state : new.state ≡ old.state

-- The packet's payload was stored, where memory has room for it; atomics and READs are as before. The expected PSN
-- moves on by 1 on RC; on UC, service 1, it is the packet's plus 1, whatever it was. A Last or Only, place 2 or 4,
-- raises the MSN and leaves no message open; what completes has used up the first entry.
pub record StoresPacket (a : Arrival) (l : Left) : Type 0 where
  pub executed : Executes a.whole.pair l.whole.pair
  pub expected : (a.whole.pair.setup.service ≡ 1 → ⊥) → l.whole.pair.expected ≡ psn_after a.whole.pair.expected 1
  pub taken : a.whole.pair.setup.service ≡ 1 → l.whole.pair.expected ≡ psn_after (bth_of a.packet).psn 1
  pub memory : (at : ℕ) × (at + length (payload_of a.packet) ≤ a.whole.pair.setup.memory) × (l.memory ≡ store a.memory at (payload_of a.packet))
  pub ends : 2 ≤ (class_of (bth_of a.packet).opcode).place
      → (l.whole.pair.msn ≡ msn_next a.whole.pair.msn)
      × (l.whole.pair.message ≡ (record { kind = 255; stored = 0; address = 0; key = 0; length = 0 }))
  pub onward : (class_of (bth_of a.packet).opcode).place < 2 → (l.whole.pair.msn ≡ a.whole.pair.msn) × Silent l.completion
  pub completes : l.completion.some ≡ true
      → l.whole.pair.entries ≡ (record { head = (a.whole.pair.entries.head + 1) % 16; count = a.whole.pair.entries.count - 1 })
  pub silent : l.completion.some ≡ false → l.whole.pair.entries ≡ a.whole.pair.entries
  pub read : l.whole.pair.read ≡ a.whole.pair.read
  pub ring : l.whole.pair.saved ≡ a.whole.pair.saved
  pub saved : l.whole.saved ≡ a.whole.saved

-- A READ was accepted: it takes a PSN for each response.
pub record Accepts (a : Arrival) (l : Left) : Type 0 where
  pub executed : Executes a.whole.pair l.whole.pair
  pub begun : Begun a.whole.regions a.whole.pair.setup a.packet (msn_next a.whole.pair.msn) l.whole.pair.read
  pub expected : l.whole.pair.expected ≡ psn_after a.whole.pair.expected l.whole.pair.read.remaining
  pub msn : l.whole.pair.msn ≡ msn_next a.whole.pair.msn
  pub message : l.whole.pair.message ≡ a.whole.pair.message
  pub entries : l.whole.pair.entries ≡ a.whole.pair.entries
  pub ring : l.whole.pair.saved ≡ a.whole.pair.saved
  pub unexecuted : Unexecuted a l
  pub outgoing : l.outgoing ≡ 0
  pub out : l.out ≡ a.out

-- A word of memory, before and after: FetchAdd, kind 20, or CmpSwap, kind 19, on no other byte; the old value is saved.
pub record OnWord (a : Arrival) (l : Left) (at : ℕ) : Type 0 where
  pub within : at + 8 ≤ a.whole.pair.setup.memory
  pub only : OnlyWord a.memory l.memory at
  pub fetch : (class_of (bth_of a.packet).opcode).kind ≡ 20 → l.memory ≡ fetch_added a.memory at (atomic_of a.packet).swap
  pub swap : (class_of (bth_of a.packet).opcode).kind ≡ 19 → l.memory ≡ swapped a.memory at (atomic_of a.packet).compare (atomic_of a.packet).swap
  pub saved : l.whole.saved ≡ saved_rows a.whole.saved a.whole.pair.saved (bth_of a.packet).psn.0 (word_at a.memory at)

-- An atomic was executed: one PSN, one message, 24 bytes sent.
pub record Swaps (a : Arrival) (l : Left) : Type 0 where
  pub executed : Executes a.whole.pair l.whole.pair
  pub expected : l.whole.pair.expected ≡ psn_after a.whole.pair.expected 1
  pub msn : l.whole.pair.msn ≡ msn_next a.whole.pair.msn
  pub message : l.whole.pair.message ≡ a.whole.pair.message
  pub entries : l.whole.pair.entries ≡ a.whole.pair.entries
  pub read : l.whole.pair.read ≡ a.whole.pair.read
  pub word : (at : ℕ) × OnWord a l at
  pub ring : l.whole.pair.saved ≡ saved_ring a.whole.pair.saved
  pub completion : Silent l.completion
  pub outgoing : l.outgoing ≡ 24

-- The table, for every pair, whatever the tables, memory, packet and output hold.
pub record Table (a : Arrival) (l : Left) : Type 0 where
  pub quiet : (l.number ≡ 5) ⊎ (32 ≤ l.number) → Unchanged a l
  pub nakmarks : (l.number ≡ 16) ⊎ (l.number ≡ 19) → NakMarkAlone a l
  pub errs : (l.number ≡ 17) ⊎ (l.number ≡ 18) → ErrorAlone a l
  pub abandons : l.number ≡ 6 → Abandons a l
  pub duplicates : l.number ≡ 4 → DuplicateLeaves a l
  pub swaps : l.number ≡ 3 → Swaps a l
  pub accepts : l.number ≡ 2 → Accepts a l
  pub acknowledges : l.number ≡ 1 → StoresPacket a l × (l.outgoing ≡ 16)
  pub executes : l.number ≡ 0 → StoresPacket a l × (l.outgoing ≡ 0) × (l.out ≡ a.out)

abbrev pub InboundTable : Type 0
InboundTable =
    (a : Arrival)
    → Table a (inbound a)

-- No other number comes: never 6 on RC; on UC, service 1, none that stands for an ACK, a READ, an atomic, a duplicate
-- or a NAK.
abbrev pub InboundNumbers : Type 0
InboundNumbers =
    (a : Arrival) → (a.whole.pair.setup.service ≡ 1 → ⊥)
    → OneOf (0 ∷ 1 ∷ 2 ∷ 3 ∷ 4 ∷ 5 ∷ 16 ∷ 17 ∷ 18 ∷ 19 ∷ 32 ∷ 34 ∷ 35 ∷ []) (inbound a).number

abbrev pub UcNumbers : Type 0
UcNumbers =
    (a : Arrival) → a.whole.pair.setup.service ≡ 1
    → OneOf (0 ∷ 5 ∷ 6 ∷ 32 ∷ 34 ∷ 35 ∷ []) (inbound a).number

-- Memory and output keep their lengths.
abbrev pub InboundLengths : Type 0
InboundLengths =
    (a : Arrival)
    → (length (inbound a).memory ≡ length a.memory)
    × (length (inbound a).out ≡ length a.out)

-- Refusals before the packet is looked at, in their order: 35, 34, 32.
abbrev pub AnswersWith : Arrival → ℕ → Type 0
AnswersWith a n = (inbound a).number ≡ n

abbrev pub InboundShort : Type 0
InboundShort =
    (a : Arrival) → length a.out < 24 → AnswersWith a 35

abbrev pub InboundRange : Type 0
InboundRange =
    (a : Arrival) → 24 ≤ length a.out
    → (length a.memory ≡ a.whole.pair.setup.memory → ⊥) ⊎ (Sound a.whole.pair → ⊥)
    → AnswersWith a 34

abbrev pub InboundUnfinished : Type 0
InboundUnfinished =
    (a : Arrival) → 24 ≤ length a.out → length a.memory ≡ a.whole.pair.setup.memory → Sound a.whole.pair
    → (a.whole.pair.read.remaining ≡ 0 → ⊥)
    → AnswersWith a 32

-- Else neither 35 nor 32 comes; 34 may, for an entry that no call made.
abbrev pub InboundTaken : Type 0
InboundTaken =
    (a : Arrival) → 24 ≤ length a.out → length a.memory ≡ a.whole.pair.setup.memory → Sound a.whole.pair
    → a.whole.pair.read.remaining ≡ 0
    → ((inbound a).number ≤ 19) ⊎ AnswersWith a 34

-- With entries that calls made it does not: no answer is over 19.
abbrev pub InboundAnswered : Type 0
InboundAnswered =
    (a : Arrival) → 24 ≤ length a.out → length a.memory ≡ a.whole.pair.setup.memory → Sound a.whole.pair
    → a.whole.pair.read.remaining ≡ 0
    → EntriesSound a.whole.pair.setup.memory a.whole.entries a.whole.pair.entries
    → (inbound a).number ≤ 19

-- What is not refused had room and the memory of its set-up, and the pair was sound.
abbrev pub InboundMeant : Type 0
InboundMeant =
    (a : Arrival)
    → (inbound a).number < 32
    → (24 ≤ length a.out) × (length a.memory ≡ a.whole.pair.setup.memory) × Sound a.whole.pair × (a.whole.pair.read.remaining ≡ 0)

-- Next response: 36, 35, 34, in this order, with nothing changed.
pub record NextRefused (q : Pair) (bytes output : List ℕ) (k : ℕ) : Type 0 where
  pub number : status_number (next_response q bytes output).status ≡ k
  pub pair : (next_response q bytes output).pair ≡ q
  pub completion : Silent (next_response q bytes output).completion
  pub outgoing : (next_response q bytes output).outgoing ≡ 0
  pub out : next_out q bytes output ≡ output

abbrev pub NextNone : Type 0
NextNone = (q : Pair) (m out : List ℕ) → q.read.remaining ≡ 0 → NextRefused q m out 36

abbrev pub NextShort : Type 0
NextShort =
    (q : Pair) (m out : List ℕ) → (q.read.remaining ≡ 0 → ⊥) → length out < 16 + q.setup.pmtu → NextRefused q m out 35

abbrev pub NextRange : Type 0
NextRange =
    (q : Pair) (m out : List ℕ) → (q.read.remaining ≡ 0 → ⊥) → 16 + q.setup.pmtu ≤ length out
    → (length m ≡ q.setup.memory → ⊥) ⊎ (Sound q → ⊥)
    → NextRefused q m out 34

-- Of a READ being answered, one response fewer remains.
pub record OneFewer (old new : ReadAnswer) : Type 0 where
  pub remaining : new.remaining ≡ old.remaining - 1
  pub offset : new.offset ≡ old.offset
  pub length : new.length ≡ old.length
  pub psn : new.psn ≡ old.psn
  pub msn : new.msn ≡ old.msn

-- Else a response is written, and one fewer remains; nothing else of the pair moves, and output past the packet stays.
pub record NextDone (q : Pair) (bytes output : List ℕ) : Type 0 where
  pub number : status_number (next_response q bytes output).status ≡ 0
  pub fixed : Fixed q (next_response q bytes output).pair
  pub state : (next_response q bytes output).pair.state ≡ q.state
  pub nakmark : (next_response q bytes output).pair.nakmark ≡ q.nakmark
  pub read : OneFewer q.read (next_response q bytes output).pair.read
  pub completion : Silent (next_response q bytes output).completion
  pub outgoing : (next_response q bytes output).outgoing ≡ length (next_bytes q bytes output)
  pub out : next_out q bytes output ≡ next_bytes q bytes output ++ drop (length (next_bytes q bytes output)) output

-- The tables stay: next response is lent none.
abbrev pub NextReads : Type 0
NextReads =
    (w : Whole) (m out : List ℕ)
    → ((drained w m out).regions ≡ w.regions) × ((drained w m out).entries ≡ w.entries) × ((drained w m out).saved ≡ w.saved)

abbrev pub NextAnswers : Type 0
NextAnswers =
    (q : Pair) (m out : List ℕ) → (q.read.remaining ≡ 0 → ⊥) → 16 + q.setup.pmtu ≤ length out
    → length m ≡ q.setup.memory
    → Sound q
    → NextDone q m out
