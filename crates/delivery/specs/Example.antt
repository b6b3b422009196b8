-- A pair and a stream that meet what is asked: every kind of request, messages of one packet and of several, none of
-- bytes, numbers that wrap, P_Keys of a full and of a limited member.
use Rattle.std.specs.Prelude.{ℕ, ◌≤◌, ◌≡◌, true, false, List, [], ◌∷◌, ◌++◌, length, replicate}
use Rattle.opcode.specs.Service as Service
use Rattle.table.specs.declared.Region.{Region}
use Rattle.table.specs.declared.Entry.{Entry}
use Rattle.pair.specs.Calls.HostCall.{AddRegion, PostEntry, MakeReady}
use Rattle.pair.specs.Calls.{Whole, HostCall, begun, called_all}
use Rattle.pair.specs.declared.Setup.{Setup}
use Rattle.cut_spec.specs.declared.Request.{Request}
use Rattle.cut_spec.specs.declared.Request.TheVariants.{Send, SendImmediate, Write, WriteImmediate, Read, CmpSwap, FetchAdd}
use Rattle.delivery_spec.specs.Stream.{Message, Slot, stream}
use Rattle.delivery_spec.specs.Plain.{Plain, Call, plain, start}
use Rattle.delivery_spec.specs.Plain.Call.{Hand, Next, Post}
use Rattle.delivery_spec.specs.Demand.{Fresh, AllPermitted, LongEnough, AllLongEnough, Run, waiting_at, run, Asked}
use Rattle.delivery.specs.Witness.{whole_entry, with_faults, ExecutesAll}

unfoldable pub setup : Setup
setup =
    record {
      service = Service.rc;
      pmtu = 256;
      ours = 18;
      theirs = 52;
      pkey = 65535;
      start = record { 0 = 16777214 };
      timer = 0;
      send = true;
      write = true;
      read = true;
      atomic = true;
      memory = 4096;
    }

unfoldable pub region : Region
region = record { key = 7; address = 65536; length = 1024; offset = 512; write = true; read = true; atomic = true }

-- a region is added, an entry waits, and the pair is made ready
unfoldable pub calls : List HostCall
calls = AddRegion region ∷ PostEntry (record { number = 5; offset = 2048; length = 600 }) ∷ MakeReady ∷ []

unfoldable pub made : Whole
made = called_all (begun setup [] (replicate 16 (replicate 3 0)) (replicate 16 (replicate 2 0))) calls

unfoldable pub message : ℕ → Request → List ℕ → Message
message pkey r bytes = record { connection = record { service = Service.rc; pmtu = 256; pkey = pkey; dest = 18 }; request = r; bytes = bytes }

-- bytes that tell the packets of a message apart
abbrev pub sent : List ℕ
sent = replicate 256 1 ++ (replicate 256 2 ++ replicate 88 3)

abbrev pub written : List ℕ
written = replicate 256 4 ++ replicate 44 5

unfoldable pub messages : List Message
messages =
    message 65535 Send (6 ∷ 7 ∷ 8 ∷ [])
    ∷ message 32767 (SendImmediate 77) sent
    ∷ message 65535 (Write (record { address = 65540; key = 7 })) written
    ∷ message 65535 (WriteImmediate (record { address = 65536; key = 7 }) 1) []
    ∷ message 65535 (Read (record { address = 65536; key = 7; length = 1024 })) []
    ∷ message 65535 (CmpSwap (record { address = 66544; key = 7; swap = 3; compare = 0 })) []
    ∷ message 65535 (FetchAdd (record { address = 66552; key = 7 }) 2) []
    ∷ []

pub record Fulfilled : Type 0 where
  pub fresh : Fresh made
  pub permitted : AllPermitted made.pair.setup made.regions messages
  pub waiting : AllLongEnough messages (waiting_at made)
  pub fits : LongEnough messages (whole_entry made.pair.setup)

unfoldable pub memory : List ℕ
memory = replicate 4096 0

unfoldable pub packets : List Slot
packets = stream made.pair.setup.start messages

-- the plain run of these calls on memory m
abbrev pub plainly : List ℕ → List Call → Plain
plainly m calls = plain made.pair.setup made.regions packets (start made.pair.setup m (waiting_at made)) calls

-- So all ten packets can be executed.
abbrev pub Executed : Type 0
Executed =
    (length packets ≡ 10)
    × ((out : List ℕ) → 4112 ≤ length out → ExecutesAll made messages memory (with_faults made.pair.setup out packets 0 10))

-- A list of calls with every kind of fault. Most outputs have room for any answer, 16 bytes and a PMTU.
abbrev pub room : List ℕ
room = replicate 272 0

-- No response is to send; the output is a byte short of an answer; packet 2 comes ahead, since 0 and 1 were lost; then
-- packet 0 is executed, with the entry that waits, and comes again.
abbrev pub opening : List Call
opening = Next room ∷ Hand 0 (replicate 23 0) ∷ Hand 2 room ∷ Hand 0 room ∷ Hand 0 room ∷ []

-- Packet 1, the First of a SEND, finds no entry. An entry does not lie in memory; sixteen are taken; a seventeenth is one
-- too many, also while packet 1, which now comes again, holds one of them. Packet 3 comes before packet 2 and after it,
-- and two packets come once more.
abbrev pub sixth : Entry
sixth = record { number = 6; offset = 3000; length = 600 }

abbrev pub seventh : Entry
seventh = record { number = 7; offset = 0; length = 600 }

abbrev pub another : Entry
another = record { number = 8; offset = 0; length = 4096 }

abbrev pub sending : List Call
sending =
    Hand 1 room ∷ Post (record { number = 9; offset = 1; length = 4096 }) ∷ Post sixth ∷ Post seventh
    ∷ (replicate 14 (Post another)
    ++ (Post another ∷ Hand 1 room ∷ Post another ∷ Hand 3 room ∷ Hand 2 room ∷ Hand 3 room ∷ Hand 3 room ∷ Hand 1 room ∷ []))

-- The two WRITEs, then the READ. While its responses are to be sent no packet is taken, and none is sent into an output
-- that is a byte short. The READ comes again when they are sent, and is answered again.
abbrev pub reading : List Call
reading =
    Hand 4 room ∷ Hand 5 room ∷ Hand 6 room ∷ Hand 7 room ∷ Hand 8 room ∷ Next (replicate 271 0) ∷ Next room ∷ Next room
    ∷ Next room ∷ Next room ∷ Hand 7 room ∷ Next room ∷ Hand 7 room ∷ Next room ∷ Next room ∷ Next room ∷ []

-- Each atomic comes twice; the first packet of all comes once more, and there is no response to send.
abbrev pub closing : List Call
closing = Hand 8 room ∷ Hand 8 room ∷ Hand 9 room ∷ Hand 9 room ∷ Hand 0 room ∷ Next room ∷ []

unfoldable pub faulty : List Call
faulty = opening ++ (sending ++ (reading ++ closing))

-- What is left: the payloads, the two words of the atomics, and no other byte; three completions; seven messages, and a
-- number that has wrapped.
abbrev pub zeros : ℕ → List ℕ
zeros n = replicate n 0

unfoldable pub ended : Plain
ended =
    record {
      k = 10;
      memory =
          zeros 516 ++ (written ++ (zeros 704 ++ ((3 ∷ zeros 7) ++ ((2 ∷ zeros 7) ++ (zeros 512 ++ ((6 ∷ 7 ∷ 8 ∷ []) ++ (zeros 949 ++ (sent ++ zeros 496))))))));
      completions =
          record { some = true; number = 5; length = 3; immediate = false; value = 0 }
          ∷ record { some = true; number = 6; length = 600; immediate = true; value = 77 }
          ∷ record { some = true; number = 7; length = 0; immediate = true; value = 1 }
          ∷ [];
      msn = record { 0 = 7 };
      expected = record { 0 = 11 };
      held = [];
      waiting = replicate 14 another;
      r = 0;
    }

-- the pair's run of these calls on memory m ends as the plain run p, named part by part
abbrev pub ran_on : List ℕ → Run
ran_on m = run packets (record { whole = made; memory = m; completions = [] }) faulty

pub record Ends (m : List ℕ) (p : Plain) : Type 0 where
  pub asked : Asked made messages m faulty
  pub plain : plainly m faulty ≡ p
  pub memory : (ran_on m).memory ≡ p.memory
  pub completions : (ran_on m).completions ≡ p.completions
  pub msn : (ran_on m).whole.pair.msn ≡ p.msn
  pub expected : (ran_on m).whole.pair.expected ≡ p.expected

abbrev pub Faulty : Type 0
Faulty = Ends memory ended

-- The same calls on memory a byte shorter than was set up: no packet is taken, and entries are, up to sixteen.
unfoldable pub short : List ℕ
short = replicate 4095 0

unfoldable pub refused : Plain
refused =
    record {
      k = 0;
      memory = short;
      completions = [];
      msn = record { 0 = 0 };
      expected = record { 0 = 16777214 };
      held = [];
      waiting = record { number = 5; offset = 2048; length = 600 } ∷ sixth ∷ seventh ∷ replicate 13 another;
      r = 0;
    }

abbrev pub Shorter : Type 0
Shorter = Ends short refused
