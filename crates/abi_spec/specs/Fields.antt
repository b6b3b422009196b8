-- A header as words: 11 of its BTH, 10 of the headers that follow it.
use Rattle.std.specs.Prelude.{ℕ, cond, List, [], ◌∷◌, eqb, replicate}
use Rattle.opcode.specs.Follows as Follows
use Rattle.header.specs.declared.Aeth.{Aeth}
use Rattle.header.specs.declared.AtomicEth.{AtomicEth}
use Rattle.header.specs.declared.Bth.{Bth}
use Rattle.header.specs.declared.Reth.{Reth}
use Rattle.header.specs.declared.Extension.{Extension}
use Rattle.header.specs.declared.Extension.TheVariants.{Bare, Remote, RemoteImmediate, Immediate, Atomic, Acknowledge, AtomicAcknowledge}
use Rattle.header.specs.Bytes.{bit}
use Rattle.abi_spec.specs.Words.{word, low, flag}

unfoldable pub bth_from : List ℕ → Bth
bth_from w =
    record {
      opcode = low 8 w 0;
      se = flag (word w 1);
      migreq = flag (word w 2);
      pad = low 8 w 3;
      tver = low 8 w 4;
      pkey = low 16 w 5;
      reserved8 = low 8 w 6;
      dest = low 32 w 7;
      ackreq = flag (word w 8);
      reserved7 = low 8 w 9;
      psn = record { 0 = low 32 w 10 };
    }

unfoldable pub bth_words : Bth → List ℕ
bth_words b =
    b.opcode ∷ bit b.se ∷ bit b.migreq ∷ b.pad ∷ b.tver ∷ b.pkey ∷ b.reserved8 ∷ b.dest ∷ bit b.ackreq
    ∷ b.reserved7 ∷ b.psn.0 ∷ []

-- The words after the BTH: which headers follow, by the number of their class; address, R_Key, DMA length, swap-or-add,
-- compare, syndrome, MSN, the value of AtomicAckETH, the immediate.
abbrev pub follows_from : List ℕ → ℕ
follows_from w = word w 0

unfoldable pub reth_from : List ℕ → Reth
reth_from w = record { address = word w 1; key = low 32 w 2; length = low 32 w 3 }

unfoldable pub atomic_from : List ℕ → AtomicEth
atomic_from w = record { address = word w 1; key = low 32 w 2; swap = word w 4; compare = word w 5 }

unfoldable pub aeth_from : List ℕ → Aeth
aeth_from w = record { syndrome = low 8 w 6; msn = record { 0 = low 32 w 7 } }

unfoldable pub extension_from : List ℕ → Extension
extension_from w =
    cond (eqb (follows_from w) Follows.reth) (Remote (reth_from w))
    (cond (eqb (follows_from w) Follows.reth_immediate) (RemoteImmediate (reth_from w) (low 32 w 9))
    (cond (eqb (follows_from w) Follows.immediate) (Immediate (low 32 w 9))
    (cond (eqb (follows_from w) Follows.atomic_eth) (Atomic (atomic_from w))
    (cond (eqb (follows_from w) Follows.aeth) (Acknowledge (aeth_from w))
    (cond (eqb (follows_from w) Follows.aeth_atomic_ack) (AtomicAcknowledge (aeth_from w) (word w 8)) Bare)))))

-- a field that the headers lack is 0
unfoldable pub remote_words : ℕ → Reth → ℕ → List ℕ
remote_words follows r immediate =
    follows ∷ r.address ∷ r.key ∷ r.length ∷ 0 ∷ 0 ∷ 0 ∷ 0 ∷ 0 ∷ immediate ∷ []

unfoldable pub atomic_words : AtomicEth → List ℕ
atomic_words a = Follows.atomic_eth ∷ a.address ∷ a.key ∷ 0 ∷ a.swap ∷ a.compare ∷ 0 ∷ 0 ∷ 0 ∷ 0 ∷ []

unfoldable pub aeth_words : ℕ → Aeth → ℕ → List ℕ
aeth_words follows a value = follows ∷ 0 ∷ 0 ∷ 0 ∷ 0 ∷ 0 ∷ a.syndrome ∷ a.msn.0 ∷ value ∷ 0 ∷ []

unfoldable pub immediate_words : ℕ → List ℕ
immediate_words i = Follows.immediate ∷ 0 ∷ 0 ∷ 0 ∷ 0 ∷ 0 ∷ 0 ∷ 0 ∷ 0 ∷ i ∷ []

unfoldable pub extension_words : Extension → List ℕ
extension_words Bare = replicate 10 0
extension_words (Remote r) = remote_words Follows.reth r 0
extension_words (RemoteImmediate r i) = remote_words Follows.reth_immediate r i
extension_words (Immediate i) = immediate_words i
extension_words (Atomic a) = atomic_words a
extension_words (Acknowledge a) = aeth_words Follows.aeth a 0
extension_words (AtomicAcknowledge a v) = aeth_words Follows.aeth_atomic_ack a v
