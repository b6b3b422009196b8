-- The pair as set-up and reset leave it.
use Rattle.std.specs.Prelude.{ℕ, false}
use Rattle.table.specs.declared.Ring.{Ring}
use Rattle.pair.specs.State as State
use Rattle.pair.specs.declared.Setup.{Setup}
use Rattle.pair.specs.declared.OpenMessage.{OpenMessage}
use Rattle.pair.specs.declared.ReadAnswer.{ReadAnswer}
use Rattle.pair.specs.declared.Pair.{Pair}

-- the kind of an open message where none is open, which no opcode has
abbrev pub closed : ℕ
closed = 255

abbrev pub no_message : OpenMessage
no_message = record { kind = closed; stored = 0; address = 0; key = 0; length = 0 }

abbrev pub no_read : ReadAnswer
no_read = record { remaining = 0; offset = 0; length = 0; psn = record { 0 = 0 }; msn = record { 0 = 0 } }

abbrev pub no_rows : Ring
no_rows = record { head = 0; count = 0 }

-- Init, the numbers of the set-up, MSN 0, and nothing in any table, no message open, no READ being answered, no NAK
-- mark
unfoldable pub fresh_pair : Setup → Pair
fresh_pair s =
    record {
      setup = s;
      state = State.init;
      expected = s.start;
      msn = record { 0 = 0 };
      nakmark = false;
      message = no_message;
      entries = no_rows;
      read = no_read;
      saved = no_rows;
    }

-- what a refused set-up gives: no numbers, no functions, no memory, in Error
abbrev pub blank_setup : Setup
blank_setup =
    record {
      service = 0;
      pmtu = 0;
      ours = 0;
      theirs = 0;
      pkey = 0;
      start = record { 0 = 0 };
      timer = 0;
      send = false;
      write = false;
      read = false;
      atomic = false;
      memory = 0;
    }

-- the same pair in another state, with other entries
abbrev pub moved : Pair → ℕ → Ring → Pair
moved q state entries =
    record {
      setup = q.setup;
      state = state;
      expected = q.expected;
      msn = q.msn;
      nakmark = q.nakmark;
      message = q.message;
      entries = entries;
      read = q.read;
      saved = q.saved;
    }

unfoldable pub blank_pair : Pair
unfolding fresh_pair
blank_pair = moved (fresh_pair blank_setup) State.error no_rows
