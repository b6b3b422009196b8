-- A pair and messages that meet what is asked: SEND and WRITE, with and without immediate, of one packet and of
-- several, of no bytes, with numbers that wrap.
use Rattle.std.specs.Prelude.{ℕ, ◌≡◌, true, false, List, [], ◌∷◌, length, replicate}
use Rattle.sequence.specs.declared.Psn.{Psn}
use Rattle.opcode.specs.Service as Service
use Rattle.table.specs.declared.Region.{Region}
use Rattle.pair.specs.Calls.HostCall.{AddRegion, PostEntry, MakeReady}
use Rattle.pair.specs.Calls.{Whole, HostCall, begun, called_all}
use Rattle.pair.specs.declared.Setup.{Setup}
use Rattle.cut_spec.specs.declared.Request.{Request}
use Rattle.cut_spec.specs.declared.Request.TheVariants.{Send, SendImmediate, Write, WriteImmediate}
use Rattle.delivery_spec.specs.Stream.{Message, packet_count}
use Rattle.delivery_spec.specs.Plain.{answer_room}
use Rattle.delivery_spec.specs.Demand.{Run, Allowed}
use Rattle.uc_delivery.specs.Message.{MayCome, HasEntry, handed, handed_all, Unreported}

unfoldable pub setup : Setup
setup =
    record {
      service = Service.uc;
      pmtu = 256;
      ours = 18;
      theirs = 52;
      pkey = 65535;
      start = record { 0 = 3 };
      timer = 0;
      send = true;
      write = true;
      read = true;
      atomic = true;
      memory = 4096;
    }

unfoldable pub region : Region
region = record { key = 7; address = 65536; length = 1024; offset = 512; write = true; read = false; atomic = false }

-- a region is added, an entry waits, and the pair is made ready
unfoldable pub calls : List HostCall
calls = AddRegion region ∷ PostEntry (record { number = 5; offset = 2048; length = 600 }) ∷ MakeReady ∷ []

unfoldable pub made : Whole
made = called_all (begun setup [] (replicate 16 (replicate 3 0)) (replicate 16 (replicate 2 0))) calls

unfoldable pub message : Request → ℕ → Message
message r n = record { connection = record { service = Service.uc; pmtu = 256; pkey = 65535; dest = 18 }; request = r; bytes = replicate n 9 }

-- the PSN of each message's first packet: the third of a message is 0
abbrev pub first : Psn
first = record { 0 = 16777214 }

abbrev pub out : ℕ → List ℕ
out i = replicate answer_room 0

unfoldable pub fresh : Run
fresh = record { whole = made; memory = replicate 4096 0; completions = [] }

pub record Fulfilled (m : Message) : Type 0 where
  pub comes : MayCome out m first fresh
  pub allowed : Allowed made.pair.setup made.regions m.request (length m.bytes)
  pub supplied : HasEntry made m

pub record AllFulfilled : Type 0 where
  pub send : Fulfilled (message Send 3)
  pub send_immediate : Fulfilled (message (SendImmediate 77) 600)
  pub write : Fulfilled (message (Write (record { address = 65540; key = 7 })) 300)
  pub write_immediate : Fulfilled (message (WriteImmediate (record { address = 65536; key = 7 }) 1) 0)

-- So three packets are handed in, and the run is as it should be.
abbrev pub Delivered : Type 0
Delivered =
    (packet_count (message (SendImmediate 77) 600) ≡ 3)
    × (handed out (message (SendImmediate 77) 600) first fresh 0 (true ∷ true ∷ true ∷ [])
    ≡ handed_all fresh (message (SendImmediate 77) 600) first)

-- And with the second and third packet lost nothing is reported; then another SEND, an Only, comes to the pair whose
-- one entry the first message holds, and is delivered with it.
unfoldable pub broken : Run
broken = handed out (message (SendImmediate 77) 600) first fresh 0 (true ∷ false ∷ false ∷ [])

abbrev pub Interrupted : Type 0
Interrupted =
    Unreported fresh broken
    × (handed out (message Send 3) first broken 0 (true ∷ []) ≡ handed_all broken (message Send 3) first)
