-- The request checks, in their order. Each test names the failing case, by numbers alone.
use Rattle.std.specs.Prelude.{ℕ, ◌+◌, ◌-◌, ◌%◌, Bool, false, true, cond, not, ◌&&◌, ◌||◌, List, eqb, ltb}
use Rattle.opcode.specs.Kind as Kind
use Rattle.opcode.specs.Place as Place
use Rattle.opcode.specs.Place.{starts, ends}
use Rattle.table.specs.Table.{outside, past_top}
use Rattle.table.specs.RegionRow as RegionRow
use Rattle.table.specs.EntryRow as EntryRow
use Rattle.pair.specs.Number as Number
use Rattle.pair.specs.Pair.{closed}
use Rattle.pair.specs.Sound.{memory_limit}
use Rattle.pair.specs.declared.Setup.{Setup}
use Rattle.pair.specs.declared.OpenMessage.{OpenMessage}
use Rattle.request_spec.specs.Packet.{atomic_length}
use Rattle.request_spec.specs.RequestCheck as RequestCheck
use Rattle.request_spec.specs.declared.Packet.{Packet}

-- SEND and WRITE, whose numbers are the lowest, carry bytes
unfoldable pub carrying : ℕ → Bool
carrying kind = ltb kind Kind.read

-- READs and atomics are messages of one packet
unfoldable pub single : ℕ → Bool
single kind = eqb kind Kind.read || (eqb kind Kind.cmp_swap || eqb kind Kind.fetch_add)

-- so no opcode is a Middle or Last of theirs
unfoldable pub fragment : Packet → Bool
fragment p = single p.kind && not (starts p.place)

-- Sequence: what begins a message comes while none is open; a Middle or Last goes on with one of its kind
unfoldable pub out_of_sequence : ℕ → ℕ → ℕ → Bool
out_of_sequence opened kind place = cond (starts place) (not (eqb opened closed)) (not (eqb opened kind))

-- Function: one of the four, and switched on; a reserved opcode has none
unfoldable pub not_enabled : Setup → ℕ → Bool
not_enabled s kind =
    cond (eqb kind Kind.send) (not s.send)
    (cond (eqb kind Kind.write) (not s.write)
    (cond (eqb kind Kind.read) (not s.read)
    (cond (eqb kind Kind.cmp_swap) (not s.atomic)
    (cond (eqb kind Kind.fetch_add) (not s.atomic) true))))

-- Pad: only where a message ends
unfoldable pub pad_early : ℕ → ℕ → Bool
pad_early place pad = not (ends place) && not (eqb pad 0)

-- Limit of the DMA length
unfoldable pub over_limit : ℕ → Bool
over_limit length = ltb memory_limit length

-- Entry: wanted where a SEND begins, and by a WRITE's immediate
unfoldable pub needs_entry : ℕ → ℕ → Bool → Bool
needs_entry kind place immediate = cond (eqb kind Kind.send) (starts place) immediate

-- of the entries, those that wait: an open SEND holds one
unfoldable pub entries_waiting : ℕ → ℕ → ℕ
entries_waiting opened count = cond (eqb opened Kind.send) (count - 1) count

unfoldable pub none_waiting : ℕ → ℕ → Bool → ℕ → ℕ → Bool
none_waiting kind place immediate opened count = needs_entry kind place immediate && eqb (entries_waiting opened count) 0

-- The entry that a packet uses does not lie in memory: a row that no call made
unfoldable pub uses_entry : ℕ → Bool → Bool
uses_entry kind immediate = eqb kind Kind.send || immediate

unfoldable pub entry_outside : ℕ → Bool → List ℕ → ℕ → Bool
entry_outside kind immediate entry memory =
    uses_entry kind immediate && outside (EntryRow.offset entry) (EntryRow.length entry) memory

-- R_Key: each kind has its right
unfoldable pub right_of : ℕ → List ℕ → ℕ
right_of kind region =
    cond (eqb kind Kind.write) (RegionRow.write region)
    (cond (eqb kind Kind.read) (RegionRow.read region) (RegionRow.atomic region))

-- the region does not hold n bytes at an address: no right, or it is no region that the host could add, in memory and
-- below 2^64, or they do not lie in it
unfoldable pub lacks : List ℕ → ℕ → ℕ → ℕ → ℕ → Bool
lacks region right memory address n =
    eqb right 0
    || (outside (RegionRow.offset region) (RegionRow.length region) memory
    || (past_top (RegionRow.address region) (RegionRow.length region)
    || (ltb address (RegionRow.address region) || ltb (RegionRow.address region + RegionRow.length region) (address + n))))

-- what the key must hold: the bytes still to come
unfoldable pub bytes_to_come : ℕ → ℕ → ℕ
bytes_to_come length stored = length - stored

-- a SEND has no key, and no bytes need none
unfoldable pub key_lacking : ℕ → List ℕ → ℕ → ℕ → ℕ → Bool
key_lacking kind region memory address needed =
    cond (eqb kind Kind.send) false (cond (eqb needed 0) false (lacks region (right_of kind region) memory address needed))

unfoldable pub key_fails : ℕ → ℕ → OpenMessage → List ℕ → Bool
key_fails memory kind m region =
    key_lacking kind region memory (m.address + m.stored) (bytes_to_come m.length m.stored)

-- Lengths. Before the end of a message the PMTU is filled; at its end there is no more than that, and in a Last
-- something
unfoldable pub size_off : ℕ → ℕ → ℕ → Bool
size_off place pmtu size = cond (ends place) ((eqb place Place.last && eqb size 0) || ltb pmtu size) (not (eqb size pmtu))

-- a SEND stays within its entry; a WRITE reaches its DMA length with its last packet, and not before
unfoldable pub total_off : ℕ → ℕ → ℕ → ℕ → ℕ → ℕ → Bool
total_off kind place stored size length most =
    cond (eqb kind Kind.send) (ltb most (stored + size))
    (cond (ends place) (not (eqb (stored + size) length)) (not (ltb (stored + size) length)))

-- all other kinds are bare, and atomics aligned to their length
unfoldable pub bare_off : ℕ → ℕ → ℕ → Bool
bare_off kind body address = not (eqb body 0) || (not (eqb kind Kind.read) && not (eqb (address % atomic_length) 0))

-- the bytes carried: those there are but the pad
unfoldable pub payload_size : Packet → ℕ
payload_size p = p.body - p.pad

unfoldable pub lengths_off : Packet → ℕ → OpenMessage → ℕ → Bool
lengths_off p pmtu m most =
    ltb p.body p.pad
    || cond (carrying p.kind)
    (size_off p.place pmtu (payload_size p) || total_off p.kind p.place m.stored (payload_size p) m.length most)
    (bare_off p.kind p.body m.address)

-- The message that a packet is of, as it is before the packet: it begins it, or it is the open one
unfoldable pub current : OpenMessage → Packet → OpenMessage
current opened p =
    cond (starts p.place)
    (record { kind = p.kind; stored = 0; address = p.operands.address; key = p.operands.key; length = p.operands.length })
    opened

-- The checks but the first: which one failed first, or none. By the set-up, the kind of the open message, the message m
-- that the packet is of, the packet, the count of entries, the entry's row and the region's
abbrev pub request_check_of : Setup → ℕ → OpenMessage → Packet → ℕ → List ℕ → List ℕ → ℕ
request_check_of s opened m p count entry region =
    cond (not_enabled s p.kind) RequestCheck.function
    (cond (pad_early p.place p.pad) RequestCheck.pad
    (cond (over_limit p.operands.length) RequestCheck.dma_length
    (cond (none_waiting p.kind p.place p.operands.immediate opened count) RequestCheck.entry
    (cond (entry_outside p.kind p.operands.immediate entry s.memory) RequestCheck.entry_outside
    (cond (key_fails s.memory p.kind m region) RequestCheck.key
    (cond (lengths_off p s.pmtu m (EntryRow.length entry)) RequestCheck.lengths RequestCheck.none))))))

-- All of them, on RC
abbrev pub expected_check_of : Setup → ℕ → OpenMessage → Packet → ℕ → List ℕ → List ℕ → ℕ
expected_check_of s opened m p count entry region =
    cond (out_of_sequence opened p.kind p.place) RequestCheck.sequence (request_check_of s opened m p count entry region)

-- The same, of the message that the packet is of while this one is open
unfoldable pub request_check : Setup → OpenMessage → Packet → ℕ → List ℕ → List ℕ → ℕ
request_check s opened p count entry region = request_check_of s opened.kind (current opened p) p count entry region

unfoldable pub expected_check : Setup → OpenMessage → Packet → ℕ → List ℕ → List ℕ → ℕ
expected_check s opened p count entry region =
    cond (out_of_sequence opened.kind p.kind p.place) RequestCheck.sequence (request_check s opened p count entry region)

-- The number of the answer, by the check that failed; by all but these the request is invalid
unfoldable pub check_answer : ℕ → ℕ
check_answer check =
    cond (eqb check RequestCheck.none) Number.executed
    (cond (eqb check RequestCheck.entry) Number.not_ready_nak
    (cond (eqb check RequestCheck.key) Number.access_nak
    (cond (eqb check RequestCheck.entry_outside) Number.out_of_range Number.invalid_request_nak)))
