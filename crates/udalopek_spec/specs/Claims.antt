-- What is proved of the exported calls; the proofs stand in proofs/.
use Rattle.std.specs.Prelude.{ℕ, ◌+◌, ◌%◌, ◌≤◌, ◌<◌, ◌≡◌, true, false, List, [], ◌∷◌, ◌⊎◌, length, get_or, replicate, Ok}
use Rattle.sequence.specs.declared.Psn.{Psn}
use Rattle.header.specs.Bytes.{Bytes}
use Rattle.header.specs.Read.{read_reason, read_header}
use Rattle.header.specs.Write.{written, written_out, answer_number, done_bytes}
use Rattle.header.specs.declared.Header.{Header}
use Rattle.table.specs.declared.Region.{Region}
use Rattle.table.specs.declared.Entry.{Entry}
use Rattle.pair.specs.declared.Setup.{Setup}
use Rattle.pair.specs.declared.Pair.{Pair}
use Rattle.pair.specs.Answer.{status_number}
use Rattle.pair.specs.Pair.{fresh_pair}
use Rattle.pair.specs.Claims.{SetupSound, WholeSound}
use Rattle.pair.specs.Host.{no_regions, set_up, set_up_regions, reset_to, reset_regions, made_ready, add_status, add_regions, remove_status, remove_regions, posted, post_entries}
use Rattle.responder_spec.specs.Inbound.{inbound}
use Rattle.responder_spec.specs.Response.{next_response, next_out}
use Rattle.responder_spec.specs.declared.Completion.{Completion}
use Rattle.cut_spec.specs.Cut.{cut_written, cut_out}
use Rattle.cut_spec.specs.Next.{next_psn}
use Rattle.cut_spec.specs.declared.Connection.{Connection}
use Rattle.cut_spec.specs.declared.Request.{Request}
use Rattle.cut_spec.specs.declared.Request.TheVariants.{Send, SendImmediate, Write, WriteImmediate, Read, CmpSwap, FetchAdd}
use Rattle.abi_spec.specs.Pair.{pair_of, pair_words}
use Rattle.abi_spec.specs.Fields.{bth_words, extension_words}
use Rattle.abi_spec.specs.Claims.{InRange, PairFields, BthFields, ExtensionFields}
use Rattle.udalopek_spec.specs.Packets.{Lent, Returned, lent, returned, arrival_with, inbound_of, inbound_returned, report_words, next_number, next_words, next_output, next_report}
use Rattle.udalopek_spec.specs.Cutting.{request_of, cut_report, cut_number, cut_output, cut_words}
use Rattle.udalopek_spec.specs.Headers.{read_header_number, read_report, read_bth, read_extension, write_number, write_output, write_report}
use Rattle.udalopek_spec.specs.Host.{set_up_number, set_up_words, set_up_table, reset_number, reset_words, reset_table, ready_number}
use Rattle.udalopek_spec.specs.Host.{ready_words, add_number, add_table, remove_number, remove_table, post_number, post_words, post_table}

-- A packet dropped or a call refused leaves all words, rows and bytes as they were, and reports nothing.
pub record Keeps (l : Lent) (r : Returned) : Type 0 where
  pub words : r.words ≡ l.words
  pub saved : r.saved ≡ l.saved
  pub memory : r.memory ≡ l.memory
  pub out : r.out ≡ l.out
  pub report : r.report ≡ replicate 6 0

abbrev pub InboundKeeps : Type 0
InboundKeeps = (l : Lent) → ((inbound_returned l).number ≡ 5) ⊎ (32 ≤ (inbound_returned l).number) → Keeps l (inbound_returned l)

-- So does every other call that is refused. Numbers from 32 on are the refusals.
abbrev pub NextKeeps : Type 0
NextKeeps =
    (w m out : List ℕ) → 32 ≤ next_number w m out
    → (next_words w m out ≡ w) × (next_output w m out ≡ out) × (next_report w m out ≡ 0 ∷ [])

abbrev pub SetUpKeeps : Type 0
SetUpKeeps =
    (w : List ℕ) (rows : List (List ℕ)) (s : Setup) → 32 ≤ set_up_number w s → (set_up_words w s ≡ w) × (set_up_table w rows s ≡ rows)

abbrev pub ResetKeeps : Type 0
ResetKeeps = (w : List ℕ) (rows : List (List ℕ)) → 32 ≤ reset_number w → (reset_words w ≡ w) × (reset_table w rows ≡ rows)

abbrev pub ReadyKeeps : Type 0
ReadyKeeps = (w : List ℕ) → 32 ≤ ready_number w → ready_words w ≡ w

abbrev pub AddKeeps : Type 0
AddKeeps = (w : List ℕ) (rows : List (List ℕ)) (r : Region) → 32 ≤ add_number w rows r → add_table w rows r ≡ rows

abbrev pub RemoveKeeps : Type 0
RemoveKeeps = (w : List ℕ) (rows : List (List ℕ)) (key : ℕ) → 32 ≤ remove_number w rows key → remove_table w rows key ≡ rows

abbrev pub PostKeeps : Type 0
PostKeeps =
    (w : List ℕ) (rows : List (List ℕ)) (e : Entry) → 32 ≤ post_number w e → (post_words w e ≡ w) × (post_table w rows e ≡ rows)

-- A packet whose header does not read is 5 with the check that failed first, and leaves both lists of words.
abbrev pub ReadKeeps : Type 0
ReadKeeps =
    (p b e : List ℕ) → (read_reason p ≡ 0 → ⊥)
    → (read_header_number p ≡ 5) × (read_report p ≡ read_reason p ∷ []) × (read_bth p b ≡ b) × (read_extension p e ≡ e)

-- Of a write and a cut any number but 0 is a refusal, whatever the words: both leave the output, and tell 0 throughout.
abbrev pub WriteKeeps : Type 0
WriteKeeps = (b e out : List ℕ) → (write_number b e out ≡ 0 → ⊥) → (write_output b e out ≡ out) × (write_report b e out ≡ 0 ∷ [])

abbrev pub CutKeeps : Type 0
CutKeeps =
    (kind : ℕ) (c : Connection) (r : Request) (d : List ℕ) (first : Psn) (i : ℕ) (out : List ℕ)
    → (cut_number kind c r d first i out ≡ 0 → ⊥)
    → (cut_output kind c r d first i out ≡ out) × (cut_words kind c r d first i out ≡ 0 ∷ 0 ∷ [])

-- Another number of words than 30 is refused by every call, before all else.
abbrev pub LengthRefused : Type 0
LengthRefused =
    (l : Lent) (m out : List ℕ) (rows : List (List ℕ)) (s : Setup) (r : Region) (key : ℕ) (e : Entry) → (length l.words ≡ 30 → ⊥)
    → let w = l.words in
    ((inbound_returned l).number ≡ 34) × (next_number w m out ≡ 34) × (set_up_number w s ≡ 34) × (reset_number w ≡ 34)
    × (ready_number w ≡ 34) × (add_number w rows r ≡ 34) × (remove_number w rows key ≡ 34) × (post_number w e ≡ 34)

-- A word out of its range is refused where the order of checks has 34: inbound after 35,
abbrev pub WordsRefused : Type 0
WordsRefused =
    (l : Lent) → length l.words ≡ 30 → (InRange l.words → ⊥)
    → (24 ≤ length l.out → (inbound_returned l).number ≡ 34)
    × (length l.out < 24 → (inbound_returned l).number ≡ 35)

-- next response after 36 and 35, make ready, add region and post entry after 36, by the numbers that the words say, and
-- reset at once. Remove region does not look at the words.
abbrev pub OthersRefused : Type 0
OthersRefused =
    (w m out : List ℕ) (rows : List (List ℕ)) (r : Region) (e : Entry) → length w ≡ 30 → (InRange w → ⊥)
    → (get_or w 19 0 ≡ 0 → next_number w m out ≡ 36)
    × ((get_or w 19 0 ≡ 0 → ⊥) → length out < 16 + get_or w 0 0 → next_number w m out ≡ 35)
    × ((get_or w 19 0 ≡ 0 → ⊥) → 16 + get_or w 0 0 ≤ length out → next_number w m out ≡ 34)
    × (reset_number w ≡ 34)
    × ((get_or w 28 0 % 256 ≡ 0 → ⊥) → ready_number w ≡ 36)
    × (get_or w 28 0 % 256 ≡ 0 → ready_number w ≡ 34)
    × (get_or w 28 0 % 256 ≡ 2 → (add_number w rows r ≡ 36) × (post_number w e ≡ 36))
    × ((get_or w 28 0 % 256 ≡ 2 → ⊥) → (add_number w rows r ≡ 34) × (post_number w e ≡ 34))

-- One order of checks for both interfaces: on 30 words, in range or not, every exported call answers the number that the
-- call of the pair which they say does. What that order is, the laws of the pair's calls say.
abbrev pub OneOrder : Type 0
OneOrder =
    (l : Lent) (m out : List ℕ) (rows : List (List ℕ)) (r : Region) (key : ℕ) (e : Entry) → length l.words ≡ 30
    → let w = l.words in
    let q = pair_of w in
    ((inbound_returned l).number ≡ (inbound_of l).number)
    × (next_number w m out ≡ status_number (next_response q m out).status)
    × (reset_number w ≡ status_number (reset_to q).status)
    × (ready_number w ≡ status_number (made_ready q).status)
    × (add_number w rows r ≡ status_number (add_status q rows r))
    × (remove_number w rows key ≡ status_number (remove_status rows key))
    × (post_number w e ≡ status_number (posted q e).status)

-- Reset is allowed on all words whose set-up numbers a set-up accepts, whatever else they say, and refuses all others:
-- there is nothing that it could bring back. Words out of range say no such numbers.
abbrev pub ResetAllowed : Type 0
ResetAllowed =
    (w : List ℕ) (rows : List (List ℕ)) → length w ≡ 30
    → (SetupSound (pair_of w).setup
    → (reset_number w ≡ 0) × (reset_words w ≡ pair_words (fresh_pair (pair_of w).setup)) × (reset_table w rows ≡ no_regions))
    × ((SetupSound (pair_of w).setup → ⊥) → reset_number w ≡ 34)
    × ((InRange w → ⊥) → SetupSound (pair_of w).setup → ⊥)

-- On the words of a pair the calls are those of the pair: whatever is proved of these holds of the exported ones.
abbrev pub InboundIs : Type 0
InboundIs =
    (q : Pair) (regions entries saved : List (List ℕ)) (m p out : List ℕ) → PairFields q
    → let x = inbound (record { whole = record { pair = q; regions = regions; entries = entries; saved = saved }; memory = m; packet = p; out = out }) in
    inbound_returned (lent (pair_words q) regions entries saved m p out)
    ≡ (record { number = x.number; words = pair_words x.whole.pair; saved = x.whole.saved; memory = x.memory; out = x.out; report = report_words x.outgoing x.completion })

-- What the promise of the exported inbound gathers in one equation is each thing that the call returns.
abbrev pub ReturnedEach : Type 0
ReturnedEach =
    (number : ℕ) (words : List ℕ) (saved : List (List ℕ)) (m out report : List ℕ) (x : Returned)
    → returned number words saved m out report ≡ x
    → (number ≡ x.number) × (words ≡ x.words) × (saved ≡ x.saved) × (m ≡ x.memory) × (out ≡ x.out) × (report ≡ x.report)

abbrev pub NextIs : Type 0
NextIs =
    (q : Pair) (m out : List ℕ) → PairFields q
    → (next_number (pair_words q) m out ≡ status_number (next_response q m out).status)
    × (next_words (pair_words q) m out ≡ pair_words (next_response q m out).pair)
    × (next_output (pair_words q) m out ≡ next_out q m out)
    × (next_report (pair_words q) m out ≡ (next_response q m out).outgoing ∷ [])

abbrev pub PostIs : Type 0
PostIs =
    (q : Pair) (rows : List (List ℕ)) (e : Entry) → PairFields q
    → (post_number (pair_words q) e ≡ status_number (posted q e).status)
    × (post_words (pair_words q) e ≡ pair_words (posted q e).pair)
    × (post_table (pair_words q) rows e ≡ post_entries q rows e)

-- set-up is lent any 30 words
abbrev pub SetUpIs : Type 0
SetUpIs =
    (w : List ℕ) (rows : List (List ℕ)) (s : Setup) → length w ≡ 30
    → (set_up_number w s ≡ status_number (set_up s).status)
    × (set_up_table w rows s ≡ set_up_regions s rows)
    × (status_number (set_up s).status ≡ 0 → set_up_words w s ≡ pair_words (set_up s).pair)

abbrev pub ReadyIs : Type 0
ReadyIs =
    (q : Pair) → PairFields q
    → (ready_number (pair_words q) ≡ status_number (made_ready q).status)
    × (ready_words (pair_words q) ≡ pair_words (made_ready q).pair)

abbrev pub ResetIs : Type 0
ResetIs =
    (q : Pair) (rows : List (List ℕ)) → PairFields q
    → (reset_number (pair_words q) ≡ status_number (reset_to q).status)
    × (reset_words (pair_words q) ≡ pair_words (reset_to q).pair)
    × (reset_table (pair_words q) rows ≡ reset_regions q rows)

abbrev pub AddIs : Type 0
AddIs =
    (q : Pair) (rows : List (List ℕ)) (r : Region) → PairFields q
    → (add_number (pair_words q) rows r ≡ status_number (add_status q rows r))
    × (add_table (pair_words q) rows r ≡ add_regions q rows r)

abbrev pub RemoveIs : Type 0
RemoveIs =
    (w : List ℕ) (rows : List (List ℕ)) (key : ℕ) → length w ≡ 30
    → (remove_number w rows key ≡ status_number (remove_status rows key))
    × (remove_table w rows key ≡ remove_regions rows key)

-- A cut by the numbers of a request is the cut of that request: number and output, and, where it is done, the bytes
-- written and the PSN of the message after this one.
pub record CutAs (kind : ℕ) (c : Connection) (asked r : Request) (d : List ℕ) (first : Psn) (i : ℕ) (out : List ℕ) : Type 0 where
  pub number : cut_number kind c asked d first i out ≡ answer_number (cut_written c r d first i (length out))
  pub output : cut_output kind c asked d first i out ≡ cut_out c r d first i out
  pub told : (n : ℕ) → cut_written c r d first i (length out) ≡ Ok n
      → cut_words kind c asked d first i out ≡ n ∷ (next_psn r (length d) c.pmtu first).0 ∷ []

-- So it is of each kind, the request written out; a kind past the last is 39.
abbrev pub CutIs : Type 0
CutIs =
    (c : Connection) (address key size swap compare immediate : ℕ) (d : List ℕ) (first : Psn) (i : ℕ) (out : List ℕ)
    → let cut : ℕ → Request → Type 0 = λ kind r. CutAs kind c (request_of kind address key size swap compare immediate) r d first i out in
    cut 0 Send
    × cut 1 (SendImmediate immediate)
    × cut 2 (Write (record { address = address; key = key }))
    × cut 3 (WriteImmediate (record { address = address; key = key }) immediate)
    × cut 4 (Read (record { address = address; key = key; length = size }))
    × cut 5 (CmpSwap (record { address = address; key = key; swap = swap; compare = compare }))
    × cut 6 (FetchAdd (record { address = address; key = key }) swap)
    × ((kind : ℕ) → 6 < kind → cut_number kind c (request_of kind address key size swap compare immediate) d first i out ≡ 39)

-- A packet that reads is 0 with no check, and leaves the words of its header.
abbrev pub ReadIs : Type 0
ReadIs =
    (p b e : List ℕ) (h : Header) → read_header p ≡ Ok h
    → (read_header_number p ≡ 0) × (read_report p ≡ 0 ∷ [])
    × (read_bth p b ≡ bth_words h.bth) × (read_extension p e ≡ extension_words h.extension)

-- The words of a header are written as that header: number, output and bytes told.
abbrev pub WriteIs : Type 0
WriteIs =
    (h : Header) (out : List ℕ) → BthFields h.bth → ExtensionFields h.extension
    → (write_number (bth_words h.bth) (extension_words h.extension) out ≡ answer_number (written h (length out)))
    × (write_output (bth_words h.bth) (extension_words h.extension) out ≡ written_out h out)
    × (write_report (bth_words h.bth) (extension_words h.extension) out ≡ done_bytes (written h (length out)) ∷ [])

-- Any others are 39.
abbrev pub WriteBad : Type 0
WriteBad =
    (b e out : List ℕ)
    → ((h : Header) → BthFields h.bth → ExtensionFields h.extension → b ≡ bth_words h.bth → e ≡ extension_words h.extension → ⊥)
    → write_number b e out ≡ 39

-- Words that say a pair, in range.
abbrev pub Say : List ℕ → Pair → Type 0
Say v q = InRange v × (pair_of v ≡ q)

-- What each call leaves of words, tables and bytes that calls made says the pair that is left, in range again: no call
-- refuses it for that. A set-up may be lent any words.
abbrev pub SetUpStays : Type 0
SetUpStays = (w : List ℕ) (s : Setup) → length w ≡ 30 → SetupSound s → s.pkey < 65536 → Say (set_up_words w s) (fresh_pair s)

abbrev pub HostStays : Type 0
HostStays =
    (w : List ℕ) (regions entries saved : List (List ℕ)) → length w ≡ 30
    → WholeSound (record { pair = pair_of w; regions = regions; entries = entries; saved = saved })
    → Say (reset_words w) (fresh_pair (pair_of w).setup)
    × Say (ready_words w) (made_ready (pair_of w)).pair
    × ((e : Entry) → Say (post_words w e) (posted (pair_of w) e).pair)

abbrev pub NextStays : Type 0
NextStays =
    (w : List ℕ) (regions entries saved : List (List ℕ)) (m out : List ℕ) → length w ≡ 30
    → WholeSound (record { pair = pair_of w; regions = regions; entries = entries; saved = saved })
    → Say (next_words w m out) (next_response (pair_of w) m out).pair

abbrev pub InboundStays : Type 0
InboundStays =
    (l : Lent) → length l.words ≡ 30 → Bytes l.memory → Bytes l.packet
    → WholeSound (arrival_with l (pair_of l.words)).whole
    → Say (inbound_returned l).words (inbound_of l).whole.pair

-- The report to the host, word by word, listed here once more and not by the definition under test; so are the kinds of
-- a cut and what a cut reports.
pub record Reports (n : ℕ) (c : Completion) (t : List ℕ) : Type 0 where
  pub outgoing : get_or t 0 0 ≡ n
  pub completes : c.some ≡ true → get_or t 1 0 ≡ 1
  pub nothing : c.some ≡ false → get_or t 1 0 ≡ 0
  pub entry : get_or t 2 0 ≡ c.number
  pub bytes : get_or t 3 0 ≡ c.length
  pub immediate : c.immediate ≡ true → get_or t 4 0 ≡ 1
  pub none : c.immediate ≡ false → get_or t 4 0 ≡ 0
  pub value : get_or t 5 0 ≡ c.value

abbrev pub ReportSays : Type 0
ReportSays = (n : ℕ) (c : Completion) → Reports n c (report_words n c)

abbrev pub KindsAre : Type 0
KindsAre =
    (address key length swap compare immediate : ℕ)
    → (request_of 0 address key length swap compare immediate ≡ Send)
    × (request_of 1 address key length swap compare immediate ≡ SendImmediate immediate)
    × (request_of 2 address key length swap compare immediate ≡ Write (record { address = address; key = key }))
    × (request_of 3 address key length swap compare immediate ≡ WriteImmediate (record { address = address; key = key }) immediate)
    × (request_of 4 address key length swap compare immediate ≡ Read (record { address = address; key = key; length = length }))
    × (request_of 5 address key length swap compare immediate ≡ CmpSwap (record { address = address; key = key; swap = swap; compare = compare }))
    × (request_of 6 address key length swap compare immediate ≡ FetchAdd (record { address = address; key = key }) swap)

abbrev pub CutReports : Type 0
CutReports = (n psn : ℕ) → (cut_report 0 n psn ≡ n ∷ psn ∷ []) × ((k : ℕ) → (k ≡ 0 → ⊥) → cut_report k n psn ≡ 0 ∷ 0 ∷ [])
