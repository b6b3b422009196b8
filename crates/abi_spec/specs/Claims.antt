-- What is proved of words; the proofs stand in proofs/.
use Rattle.std.specs.Prelude.{ℕ, ◌≤◌, ◌<◌, ◌^◌, ◌≡◌, Bool, true, false, List, length, get_or}
use Rattle.header.specs.Claims.{Writable}
use Rattle.header.specs.declared.Header.{Header}
use Rattle.header.specs.declared.Bth.{Bth}
use Rattle.header.specs.declared.Reth.{Reth}
use Rattle.header.specs.declared.Aeth.{Aeth}
use Rattle.header.specs.declared.Extension.{Extension}
use Rattle.header.specs.declared.Extension.TheVariants.{Bare, Remote, RemoteImmediate, Immediate, Atomic, Acknowledge, AtomicAcknowledge}
use Rattle.pair.specs.Claims.{Sound}
use Rattle.pair.specs.declared.Setup.{Setup}
use Rattle.pair.specs.declared.Pair.{Pair}
use Rattle.abi_spec.specs.Words.{eq_words}
use Rattle.abi_spec.specs.Pair.{pair_of, pair_words, strays}
use Rattle.abi_spec.specs.Fields.{bth_from, bth_words, extension_from, extension_words}

-- The test of two lists is equality.
abbrev pub SameIs : Type 0
SameIs = (a b : List ℕ) → (eq_words a b ≡ true → a ≡ b) × (a ≡ b → eq_words a b ≡ true)

-- The words in range, in plain numbers: 30 of them, and of the words that are not listed any number.
pub record InRange (w : List ℕ) : Type 0 where
  pub words : length w ≡ 30
  pub ours : get_or w 2 0 < 16777216
  pub theirs : get_or w 3 0 < 16777216
  pub start : get_or w 4 0 < 16777216
  pub pkey : get_or w 5 0 < 65536
  pub service : get_or w 6 0 ≤ 1
  pub timer : get_or w 7 0 ≤ 31
  pub send : get_or w 8 0 ≤ 1
  pub write : get_or w 9 0 ≤ 1
  pub read : get_or w 10 0 ≤ 1
  pub atomic : get_or w 11 0 ≤ 1
  pub kind : get_or w 12 0 < 256
  pub key : get_or w 15 0 < 4294967296
  pub entries : get_or w 17 0 < 16
  pub psn : get_or w 22 0 < 4294967296
  pub answered : get_or w 23 0 < 4294967296
  pub saved : get_or w 24 0 < 16
  pub expected : get_or w 26 0 < 16777216
  pub msn : get_or w 27 0 < 16777216
  pub state : get_or w 28 0 < 256
  pub nakmark : get_or w 29 0 ≤ 1

-- The test is that: words are in range exactly if it finds none that strays.
abbrev pub RangesTested : Type 0
RangesTested = (w : List ℕ) → (strays w ≡ false → InRange w) × (InRange w → strays w ≡ false)

-- Words in range are the words of the pair that they say: what a call does to that pair is all that it does to them.
abbrev pub WordsSaid : Type 0
WordsSaid = (w : List ℕ) → InRange w → w ≡ pair_words (pair_of w)

-- Words out of range say no sound pair, whatever else they are.
abbrev pub StrayUnsound : Type 0
StrayUnsound = (w : List ℕ) → length w ≡ 30 → (InRange w → ⊥) → Sound (pair_of w) → ⊥

-- Numbers of a pair that are in the ranges of their words.
pub record SetupFields (s : Setup) : Type 0 where
  pub ours : s.ours < 2 ^ 24
  pub theirs : s.theirs < 2 ^ 24
  pub start : s.start.0 < 2 ^ 24
  pub pkey : s.pkey < 2 ^ 16
  pub service : s.service < 2
  pub timer : s.timer < 2 ^ 5

pub record PairFields (q : Pair) : Type 0 where
  pub setup : SetupFields q.setup
  pub kind : q.message.kind < 2 ^ 8
  pub key : q.message.key < 2 ^ 32
  pub entries : q.entries.head < 16
  pub psn : q.read.psn.0 < 2 ^ 32
  pub answered : q.read.msn.0 < 2 ^ 32
  pub saved : q.saved.head < 16
  pub expected : q.expected.0 < 2 ^ 24
  pub msn : q.msn.0 < 2 ^ 24
  pub state : q.state < 2 ^ 8

-- The words of a pair say that pair, and are in range.
abbrev pub PairBack : Type 0
PairBack = (q : Pair) → PairFields q → (pair_of (pair_words q) ≡ q) × (strays (pair_words q) ≡ false)

-- So have the numbers of a pair that words in range say.
abbrev pub SaidFits : Type 0
SaidFits = (w : List ℕ) → InRange w → PairFields (pair_of w)

-- Where each number of a pair stands, listed here once more and not by the definition under test.
abbrev pub FlagAt : List ℕ → ℕ → Bool → Type 0
FlagAt w i b = (b ≡ true → get_or w i 0 ≡ 1) × (b ≡ false → get_or w i 0 ≡ 0)

pub record SetupAt (w : List ℕ) (s : Setup) : Type 0 where
  pub pmtu : get_or w 0 0 ≡ s.pmtu
  pub memory : get_or w 1 0 ≡ s.memory
  pub ours : get_or w 2 0 ≡ s.ours
  pub theirs : get_or w 3 0 ≡ s.theirs
  pub start : get_or w 4 0 ≡ s.start.0
  pub pkey : get_or w 5 0 ≡ s.pkey
  pub service : get_or w 6 0 ≡ s.service
  pub timer : get_or w 7 0 ≡ s.timer
  pub send : FlagAt w 8 s.send
  pub write : FlagAt w 9 s.write
  pub read : FlagAt w 10 s.read
  pub atomic : FlagAt w 11 s.atomic

pub record PairAt (w : List ℕ) (q : Pair) : Type 0 where
  pub setup : SetupAt w q.setup
  pub kind : get_or w 12 0 ≡ q.message.kind
  pub stored : get_or w 13 0 ≡ q.message.stored
  pub address : get_or w 14 0 ≡ q.message.address
  pub key : get_or w 15 0 ≡ q.message.key
  pub length : get_or w 16 0 ≡ q.message.length
  pub entries : (get_or w 17 0 ≡ q.entries.head) × (get_or w 18 0 ≡ q.entries.count)
  pub remaining : get_or w 19 0 ≡ q.read.remaining
  pub offset : get_or w 20 0 ≡ q.read.offset
  pub bytes : get_or w 21 0 ≡ q.read.length
  pub psn : get_or w 22 0 ≡ q.read.psn.0
  pub answered : get_or w 23 0 ≡ q.read.msn.0
  pub saved : (get_or w 24 0 ≡ q.saved.head) × (get_or w 25 0 ≡ q.saved.count)
  pub expected : get_or w 26 0 ≡ q.expected.0
  pub msn : get_or w 27 0 ≡ q.msn.0
  pub state : get_or w 28 0 ≡ q.state
  pub nakmark : FlagAt w 29 q.nakmark

abbrev pub WordsAt : Type 0
WordsAt = (q : Pair) → PairAt (pair_words q) q

-- Every sound pair has such numbers, if those that soundness leaves open fit their types.
abbrev pub SoundFits : Type 0
SoundFits =
    (q : Pair) → Sound q → q.setup.pkey < 2 ^ 16 → q.message.key < 2 ^ 32 → q.read.psn.0 < 2 ^ 32 → q.read.msn.0 < 2 ^ 32
    → PairFields q

-- Headers whose numbers fit their fields.
pub record BthFields (b : Bth) : Type 0 where
  pub opcode : b.opcode < 2 ^ 8
  pub pad : b.pad < 2 ^ 8
  pub tver : b.tver < 2 ^ 8
  pub pkey : b.pkey < 2 ^ 16
  pub reserved8 : b.reserved8 < 2 ^ 8
  pub dest : b.dest < 2 ^ 32
  pub reserved7 : b.reserved7 < 2 ^ 8
  pub psn : b.psn.0 < 2 ^ 32

abbrev pub RethFields : Reth → Type 0
RethFields r = (r.key < 2 ^ 32) × (r.length < 2 ^ 32)

abbrev pub AethFields : Aeth → Type 0
AethFields a = (a.syndrome < 2 ^ 8) × (a.msn.0 < 2 ^ 32)

unfoldable pub ExtensionFields : Extension → Type 0
ExtensionFields Bare = Unit {0}
ExtensionFields (Remote r) = RethFields r
ExtensionFields (RemoteImmediate r i) = RethFields r × (i < 2 ^ 32)
ExtensionFields (Immediate i) = i < 2 ^ 32
ExtensionFields (Atomic a) = a.key < 2 ^ 32
ExtensionFields (Acknowledge a) = AethFields a
ExtensionFields (AtomicAcknowledge a v) = AethFields a

-- So do the numbers of every header that can be written.
abbrev pub WritableFits : Type 0
WritableFits = (h : Header) → Writable h → BthFields h.bth × ExtensionFields h.extension

-- The words of a header say that header.
abbrev pub BthBack : Type 0
BthBack = (b : Bth) → BthFields b → bth_from (bth_words b) ≡ b

abbrev pub ExtensionBack : Type 0
ExtensionBack = (e : Extension) → ExtensionFields e → extension_from (extension_words e) ≡ e

-- The header that any words say has numbers that fit.
abbrev pub HeaderFits : Type 0
HeaderFits = (b e : List ℕ) → BthFields (bth_from b) × ExtensionFields (extension_from e)

-- Where each number of a header stands, listed here once more and not by the definition under test: the eleven words of
-- the BTH, and the ten of the headers that follow, by their kind, whose number is the first; 0 for what is not there.
pub record BthWordsAt (w : List ℕ) (b : Bth) : Type 0 where
  pub words : length w ≡ 11
  pub opcode : get_or w 0 0 ≡ b.opcode
  pub se : FlagAt w 1 b.se
  pub migreq : FlagAt w 2 b.migreq
  pub pad : get_or w 3 0 ≡ b.pad
  pub tver : get_or w 4 0 ≡ b.tver
  pub pkey : get_or w 5 0 ≡ b.pkey
  pub reserved8 : get_or w 6 0 ≡ b.reserved8
  pub dest : get_or w 7 0 ≡ b.dest
  pub ackreq : FlagAt w 8 b.ackreq
  pub reserved7 : get_or w 9 0 ≡ b.reserved7
  pub psn : get_or w 10 0 ≡ b.psn.0

pub record TenAt (w : List ℕ) (kind address key size swap compare syndrome msn value immediate : ℕ) : Type 0 where
  pub words : length w ≡ 10
  pub word0 : get_or w 0 0 ≡ kind
  pub word1 : get_or w 1 0 ≡ address
  pub word2 : get_or w 2 0 ≡ key
  pub word3 : get_or w 3 0 ≡ size
  pub word4 : get_or w 4 0 ≡ swap
  pub word5 : get_or w 5 0 ≡ compare
  pub word6 : get_or w 6 0 ≡ syndrome
  pub word7 : get_or w 7 0 ≡ msn
  pub word8 : get_or w 8 0 ≡ value
  pub word9 : get_or w 9 0 ≡ immediate

abbrev pub ExtensionWordsAt : List ℕ → Extension → Type 0
ExtensionWordsAt w Bare = TenAt w 0 0 0 0 0 0 0 0 0 0
ExtensionWordsAt w (Remote r) = TenAt w 1 r.address r.key r.length 0 0 0 0 0 0
ExtensionWordsAt w (RemoteImmediate r i) = TenAt w 2 r.address r.key r.length 0 0 0 0 0 i
ExtensionWordsAt w (Immediate i) = TenAt w 3 0 0 0 0 0 0 0 0 i
ExtensionWordsAt w (Atomic a) = TenAt w 4 a.address a.key 0 a.swap a.compare 0 0 0 0
ExtensionWordsAt w (Acknowledge a) = TenAt w 5 0 0 0 0 0 a.syndrome a.msn.0 0 0
ExtensionWordsAt w (AtomicAcknowledge a v) = TenAt w 6 0 0 0 0 0 a.syndrome a.msn.0 v 0

abbrev pub HeaderWordsAt : Type 0
HeaderWordsAt = (b : Bth) (e : Extension) → BthWordsAt (bth_words b) b × ExtensionWordsAt (extension_words e) e
