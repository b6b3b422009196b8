-- A pair as words: its numbers in the order of its fields, each in the range of its field.
use Rattle.std.specs.Prelude.{ℕ, ◌%◌, ◌^◌, Bool, cond, not, ◌||◌, List, [], ◌∷◌, eqb, ltb, leb, length}
use Rattle.sequence.specs.Sequence.{space, msn_space}
use Rattle.header.specs.Bytes.{bit}
use Rattle.header.specs.Write.{qpn_space}
use Rattle.table.specs.Table.{entry_capacity, saved_capacity}
use Rattle.pair.specs.Pair.{blank_pair}
use Rattle.pair.specs.Sound.{timer_limit}
use Rattle.pair.specs.declared.Setup.{Setup}
use Rattle.pair.specs.declared.OpenMessage.{OpenMessage}
use Rattle.pair.specs.declared.ReadAnswer.{ReadAnswer}
use Rattle.pair.specs.declared.Pair.{Pair}
use Rattle.abi_spec.specs.Words.{word, low, flag}

-- how many words a pair has
abbrev pub pair_length : ℕ
pair_length = 30

unfoldable pub other_length : List ℕ → Bool
other_length w = not (eqb (length w) pair_length)

-- Words out of range. Our and their queue pair number, the first PSN, the expected PSN and the MSN have 24 bits
unfoldable pub numbers_stray : ℕ → ℕ → ℕ → ℕ → ℕ → Bool
numbers_stray ours theirs start expected msn =
    leb qpn_space ours || (leb qpn_space theirs || (leb space start || (leb space expected || leb msn_space msn)))

-- the service and a flag are 0 or 1
unfoldable pub flags_stray : ℕ → ℕ → ℕ → ℕ → ℕ → ℕ → Bool
flags_stray service send write read atomic nakmark =
    ltb 1 service || (ltb 1 send || (ltb 1 write || (ltb 1 read || (ltb 1 atomic || ltb 1 nakmark))))

-- a ring begins in one of its rows
unfoldable pub heads_stray : ℕ → ℕ → Bool
heads_stray entries saved = leb entry_capacity entries || leb saved_capacity saved

-- P_Key, timer code, kind and R_Key of the open message, PSN and MSN of the READ being answered, and the state
unfoldable pub fields_stray : ℕ → ℕ → ℕ → ℕ → ℕ → ℕ → ℕ → Bool
fields_stray pkey timer kind key psn msn state =
    leb (2 ^ 16) pkey
    || (ltb timer_limit timer || (leb (2 ^ 8) kind || (leb (2 ^ 32) key || (leb (2 ^ 32) psn || (leb (2 ^ 32) msn || leb (2 ^ 8) state)))))

-- words out of range: not as many as a pair has, or one over its range; the others may be any number of 64 bits
unfoldable pub strays : List ℕ → Bool
strays w =
    other_length w
    || (numbers_stray (word w 2) (word w 3) (word w 4) (word w 26) (word w 27)
    || (flags_stray (word w 6) (word w 8) (word w 9) (word w 10) (word w 11) (word w 29)
    || (heads_stray (word w 17) (word w 24)
    || fields_stray (word w 5) (word w 7) (word w 12) (word w 15) (word w 22) (word w 23) (word w 28))))

-- Words out of range say a timer code that no set-up accepts: so a call refuses them where it refuses a pair that is not
-- sound
abbrev pub no_timer : ℕ
no_timer = 255

unfoldable pub timer_said : Bool → ℕ → ℕ
timer_said stray timer = cond stray no_timer (timer % 2 ^ 5)

-- the pair that words say, each modulo its range
unfoldable pub setup_said : Bool → List ℕ → Setup
setup_said stray w =
    record {
      pmtu = word w 0;
      memory = word w 1;
      ours = low 24 w 2;
      theirs = low 24 w 3;
      start = record { 0 = low 24 w 4 };
      pkey = low 16 w 5;
      service = low 1 w 6;
      timer = timer_said stray (word w 7);
      send = flag (word w 8);
      write = flag (word w 9);
      read = flag (word w 10);
      atomic = flag (word w 11);
    }

unfoldable pub message_of : List ℕ → OpenMessage
message_of w = record { kind = low 8 w 12; stored = word w 13; address = word w 14; key = low 32 w 15; length = word w 16 }

unfoldable pub read_of : List ℕ → ReadAnswer
read_of w =
    record {
      remaining = word w 19;
      offset = word w 20;
      length = word w 21;
      psn = record { 0 = low 32 w 22 };
      msn = record { 0 = low 32 w 23 };
    }

abbrev pub narrowed : Bool → List ℕ → Pair
narrowed stray w =
    record {
      setup = setup_said stray w;
      message = message_of w;
      entries = record { head = word w 17 % entry_capacity; count = word w 18 };
      read = read_of w;
      saved = record { head = word w 24 % saved_capacity; count = word w 25 };
      expected = record { 0 = low 24 w 26 };
      msn = record { 0 = low 24 w 27 };
      state = low 8 w 28;
      nakmark = flag (word w 29);
    }

-- the blank pair where they are too few
unfoldable pub said_by : Bool → List ℕ → Pair
said_by stray w = cond (ltb (length w) pair_length) blank_pair (narrowed stray w)

unfoldable pub pair_of : List ℕ → Pair
pair_of w = said_by (strays w) w

unfoldable pub pair_words : Pair → List ℕ
pair_words q =
    q.setup.pmtu ∷ q.setup.memory ∷ q.setup.ours ∷ q.setup.theirs ∷ q.setup.start.0 ∷ q.setup.pkey ∷ q.setup.service
    ∷ q.setup.timer ∷ bit q.setup.send ∷ bit q.setup.write ∷ bit q.setup.read ∷ bit q.setup.atomic
    ∷ q.message.kind ∷ q.message.stored ∷ q.message.address ∷ q.message.key ∷ q.message.length
    ∷ q.entries.head ∷ q.entries.count
    ∷ q.read.remaining ∷ q.read.offset ∷ q.read.length ∷ q.read.psn.0 ∷ q.read.msn.0
    ∷ q.saved.head ∷ q.saved.count
    ∷ q.expected.0 ∷ q.msn.0 ∷ q.state ∷ bit q.nakmark ∷ []
