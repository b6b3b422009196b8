-- Messages: what a request carries, how long it is, and how many packets and responses it has.
use Rattle.std.specs.Prelude.{ℕ, Bool, true, false, cond, not, List, [], Result, Ok, Err, ltb, ⊤}
use Rattle.std.specs.Result.{result_and}
use Rattle.header.specs.Refusal.{out_of_range, bad_number}
use Rattle.header.specs.declared.Refusal.{Refusal}
use Rattle.header.specs.declared.Refusal.TheVariants.{OutOfRange, BadNumber}
use Rattle.pmtu.specs.Pieces.{pmtu_fits, pieces}
use Rattle.cut_spec.specs.declared.Request.{Request}
use Rattle.cut_spec.specs.declared.Request.TheVariants.{Send, SendImmediate, Write, WriteImmediate, Read, CmpSwap, FetchAdd}

-- SENDs and WRITEs carry the message's bytes; a READ or atomic request carries none
unfoldable pub carries : Request → Bool
carries Send = true
carries (SendImmediate v) = true
carries (Write t) = true
carries (WriteImmediate t v) = true
carries (Read a) = false
carries (CmpSwap a) = false
carries (FetchAdd t v) = false

-- what is carried of the lent bytes d, and of n lent bytes
unfoldable pub carried : Request → List ℕ → List ℕ
carried r d = cond (carries r) d []

unfoldable pub carried_length : Request → ℕ → ℕ
carried_length r n = cond (carries r) n 0

-- the length of a message of n lent bytes: a READ's is its DMA length, an atomic has none
unfoldable pub message_length : Request → ℕ → ℕ
message_length Send n = n
message_length (SendImmediate v) n = n
message_length (Write t) n = n
message_length (WriteImmediate t v) n = n
message_length (Read a) n = a.length
message_length (CmpSwap a) n = 0
message_length (FetchAdd t v) n = 0

-- the longest message
abbrev pub message_limit : ℕ
message_limit = 1048576

-- the packets of a message: what it carries, cut at the PMTU; so a READ or atomic request is one
unfoldable pub packets_of : Request → ℕ → ℕ → ℕ
packets_of r n pmtu = pieces (carried_length r n) pmtu

-- the refusals of a length: no such PMTU; over the limit
unfoldable pub check_length : ℕ → ℕ → Result ⊤ Refusal
check_length n pmtu = cond (not (pmtu_fits pmtu)) (Err BadNumber) (cond (ltb message_limit n) (Err OutOfRange) (Ok tt))

-- the number of the one that applies, by the rules, or 0
unfoldable pub length_refusal : ℕ → ℕ → ℕ
length_refusal n pmtu = cond (not (pmtu_fits pmtu)) bad_number (cond (ltb message_limit n) out_of_range 0)

-- the answers: how many packets a message has, and how many responses a READ of n bytes
unfoldable pub packets_answer : Request → ℕ → ℕ → Result ℕ Refusal
packets_answer r n pmtu = result_and (check_length (message_length r n) pmtu) (Ok (packets_of r n pmtu))

unfoldable pub responses_answer : ℕ → ℕ → Result ℕ Refusal
responses_answer n pmtu = result_and (check_length n pmtu) (Ok (pieces n pmtu))
