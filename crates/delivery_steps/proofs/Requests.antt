-- The requests by their kinds: what the plain run knows of each.
use Prim.Native.Nat.{ℕ, suc, ◌+◌, ◌*◌, ◌≤◌}
use mathlib.Core.Path.{◌≡◌, refl}
use mathlib.Core.Bool.{Bool, true, false, cond, ◌&&◌}
use mathlib.Core.List.{List, [], ◌∷◌}
use lib.Dec.{ltb, eqb}
use lib.ListN.{length}
use Rattle.memory.specs.Memory.{overwrite}
use Rattle.memory.specs.Word.{fetch_added, swapped}
use Rattle.pmtu.specs.Pieces.{pieces, piece_at}
use Rattle.table.specs.declared.Entry.{Entry}
use Rattle.header.specs.declared.Reth.{Reth}
use Rattle.header.specs.declared.AtomicEth.{AtomicEth}
use Rattle.cut_spec.specs.Message.{carries, carried}
use Rattle.cut_spec.specs.Cut.{fetch_add_eth, extension_for, payload_at}
use Rattle.cut_spec.specs.Claims.{Carrier, kind_number}
use Rattle.cut_spec.specs.declared.Connection.{Connection}
use Rattle.cut_spec.specs.declared.Target.{Target}
use Rattle.cut_spec.specs.declared.Request.{Request}
use Rattle.cut_spec.specs.declared.Request.TheVariants.{Send, SendImmediate, Write, WriteImmediate, Read, CmpSwap, FetchAdd}
use Rattle.pair.specs.declared.Setup.{Setup}
use Rattle.table.specs.Table.{region_row}
use Rattle.table.specs.declared.Region.{Region}
use Rattle.request_spec.specs.Packet.{operands_of}
use Rattle.request_spec.specs.Verdict.{right_of}
use Rattle.responder_spec.specs.Apply.{memory_by}
use Rattle.responder_spec.specs.declared.Change.{Change}
use Rattle.delivery_spec.specs.Stream.{psn_count_of}
use Rattle.delivery_spec.specs.Plain.{needs_entry_at, takes_entry, completion_with, completions_for, region_offset, memory_after, is_read}
use Rattle.delivery_spec.specs.Demand.{LiesInRegion, Allowed, AtLeast}
use Rattle.delivery_steps.proofs.Operands.{key_of, address_of, named_of, immediate_of, value_of}
use Rattle.delivery_steps.proofs.Rel.{Holding}
use Rattle.delivery_steps.proofs.Fitting.{Suits, swap-right, add_right}

-- SENDs and WRITEs
pub record Carries (r : Request) : Type 0 where
  pub carrier : Carrier r
  pub psn_count : (pmtu : ℕ) → psn_count_of r pmtu ≡ 1
  pub read : is_read r ≡ false
  pub completions : (e : Entry) (n : ℕ) → completions_for r e n ≡ cond (takes_entry r) (completion_with e n (immediate_of r) (value_of r) ∷ []) []
  pub payload : (c : Connection) (d : List ℕ) (i : ℕ) → payload_at c r d i ≡ piece_at d c.pmtu i

pub record Sends (r : Request) : Type 0 where
  pub kind : kind_number r ≡ 0
  pub takes_entry : takes_entry r ≡ true
  pub needs_entry_at : (i n : ℕ) → needs_entry_at r i n ≡ eqb i 0
  pub memory-is :
      (regions : List (List ℕ)) (pmtu : ℕ) (d : List ℕ) (i : ℕ) (e : Entry) (m : List ℕ)
      → memory_after r regions pmtu d i e m ≡ overwrite m (e.offset + i * pmtu) (piece_at d pmtu i)
  pub holding : (n : ℕ) (held : List Entry) (e : Entry) → held ≡ e ∷ [] → n ≤ e.length → Holding r n held
  pub held : (n : ℕ) (held : List Entry) → Holding r n held → (e : Entry) × (held ≡ e ∷ []) × (n ≤ e.length)
  pub suits : (n most : ℕ) → n ≤ most → Suits r n most
  pub least : (n most : ℕ) → AtLeast most r n → n ≤ most

pub record Writes (r : Request) : Type 0 where
  pub kind : kind_number r ≡ 6
  pub takes_entry : takes_entry r ≡ immediate_of r
  pub needs_entry_at : (i n : ℕ) → needs_entry_at r i n ≡ (eqb (suc i) n && immediate_of r)
  pub memory-is :
      (regions : List (List ℕ)) (pmtu : ℕ) (d : List ℕ) (i : ℕ) (e : Entry) (m : List ℕ)
      → memory_after r regions pmtu d i e m ≡ overwrite m (region_offset regions (key_of r) (address_of r) + i * pmtu) (piece_at d pmtu i)
  pub holding : (n : ℕ) (held : List Entry) → held ≡ [] → Holding r n held
  pub held : (n : ℕ) (held : List Entry) → Holding r n held → held ≡ []
  pub suits : (n most : ℕ) → Suits r n most
  pub right : (s : Setup) (regions : List (List ℕ)) (n : ℕ) → Allowed s regions r n → LiesInRegion regions (λ x. x.write) (key_of r) (address_of r) n
  pub named : (n : ℕ) → named_of r n ≡ n

-- READs and atomics: one packet, no entry
pub record Single (r : Request) : Type 0 where
  pub bare : Carrier r → ⊥
  pub completions : (e : Entry) (n : ℕ) → completions_for r e n ≡ []
  pub needs_entry_at : (i n : ℕ) → needs_entry_at r i n ≡ false
  pub suits : (n most : ℕ) → Suits r n most
  pub immediate : immediate_of r ≡ false

pub send-carries : Carries Send
unfolding payload_at carried carries
send-carries = record { carrier = tt; psn_count = λ m. refl; read = refl; completions = λ e n. refl; payload = λ c d i. refl }

pub send-imm-carries : (v : ℕ) → Carries (SendImmediate v)
unfolding payload_at carried carries
send-imm-carries v = record { carrier = tt; psn_count = λ m. refl; read = refl; completions = λ e n. refl; payload = λ c d i. refl }

pub write-carries : (t : Target) → Carries (Write t)
unfolding payload_at carried carries
write-carries t = record { carrier = tt; psn_count = λ m. refl; read = refl; completions = λ e n. refl; payload = λ c d i. refl }

pub write-imm-carries : (t : Target) (v : ℕ) → Carries (WriteImmediate t v)
unfolding payload_at carried carries
write-imm-carries t v = record { carrier = tt; psn_count = λ m. refl; read = refl; completions = λ e n. refl; payload = λ c d i. refl }

pub send-sends : Sends Send
send-sends =
    record {
      kind = refl;
      takes_entry = refl;
      needs_entry_at = λ i n. refl;
      memory-is = λ g p d i e m. refl;
      holding = λ n h e q l. (e, q, l);
      held = λ n h w. w;
      suits = λ n most l. l;
      least = λ n most l. l;
    }

pub send-imm-sends : (v : ℕ) → Sends (SendImmediate v)
send-imm-sends v =
    record {
      kind = refl;
      takes_entry = refl;
      needs_entry_at = λ i n. refl;
      memory-is = λ g p d i e m. refl;
      holding = λ n h e q l. (e, q, l);
      held = λ n h w. w;
      suits = λ n most l. l;
      least = λ n most l. l;
    }

and-false : (b : Bool) → false ≡ (b && false)
and-false true = refl
and-false false = refl

true-and : (b : Bool) → b ≡ (b && true)
true-and true = refl
true-and false = refl

pub write-writes : (t : Target) → Writes (Write t)
write-writes t =
    record {
      kind = refl;
      takes_entry = refl;
      needs_entry_at = λ i n. and-false (eqb (suc i) n);
      memory-is = λ g p d i e m. refl;
      holding = λ n h q. q;
      held = λ n h w. w;
      suits = λ n most. tt;
      right = λ s g n a. a.1;
      named = λ n. refl;
    }

pub write-imm-writes : (t : Target) (v : ℕ) → Writes (WriteImmediate t v)
write-imm-writes t v =
    record {
      kind = refl;
      takes_entry = refl;
      needs_entry_at = λ i n. true-and (eqb (suc i) n);
      memory-is = λ g p d i e m. refl;
      holding = λ n h q. q;
      held = λ n h w. w;
      suits = λ n most. tt;
      right = λ s g n a. a.1;
      named = λ n. refl;
    }

pub read-single : (a : Reth) → Single (Read a)
read-single a = record { bare = λ c. c; completions = λ e n. refl; needs_entry_at = λ i n. refl; suits = λ n most. tt; immediate = refl }

pub swap-single : (a : AtomicEth) → Single (CmpSwap a)
swap-single a = record { bare = λ c. c; completions = λ e n. refl; needs_entry_at = λ i n. refl; suits = λ n most. tt; immediate = refl }

pub add-single : (t : Target) (v : ℕ) → Single (FetchAdd t v)
add-single t v = record { bare = λ c. c; completions = λ e n. refl; needs_entry_at = λ i n. refl; suits = λ n most. tt; immediate = refl }

pub record Reads (r : Request) : Type 0 where
  pub kind : kind_number r ≡ 12
  pub read : is_read r ≡ true
  pub psn_count : (n pmtu : ℕ) → psn_count_of r pmtu ≡ pieces (named_of r n) pmtu
  pub memory-is : (regions : List (List ℕ)) (pmtu : ℕ) (d : List ℕ) (i : ℕ) (e : Entry) (m : List ℕ) → memory_after r regions pmtu d i e m ≡ m

pub reads-reads : (a : Reth) → Reads (Read a)
reads-reads a = record { kind = refl; read = refl; psn_count = λ n pmtu. refl; memory-is = λ g p d i e m. refl }

-- FetchAdd and CmpSwap: what either does to memory, by the act of its decision
pub record Swaps (r : Request) (k act : ℕ) (does : List ℕ → ℕ → ℕ → ℕ → List ℕ) : Type 0 where
  pub kind : kind_number r ≡ k
  pub apart : (ltb k 12 ≡ false) × (eqb k 12 ≡ false)
  pub act-is : cond (eqb k 20) 2 3 ≡ act
  pub acts : (c : Change) (m b : List ℕ) → c.act ≡ act → memory_by c m b ≡ does m c.at c.compare c.swap
  pub read : is_read r ≡ false
  pub psn_count : (pmtu : ℕ) → psn_count_of r pmtu ≡ 1
  pub named : (n : ℕ) → named_of r n ≡ 8
  pub right : (s : Setup) (regions : List (List ℕ)) (n : ℕ) → Allowed s regions r n → LiesInRegion regions (λ x. x.atomic) (key_of r) (address_of r) 8
  pub rights : (x : Region) → right_of k (region_row x) ≡ cond x.atomic 1 0
  pub memory-is :
      (n place : ℕ) (regions : List (List ℕ)) (pmtu : ℕ) (d : List ℕ) (i : ℕ) (e : Entry) (m : List ℕ)
      → memory_after r regions pmtu d i e m
      ≡ does m (region_offset regions (key_of r) (address_of r)) (operands_of (extension_for r n place)).compare (operands_of (extension_for r n place)).swap

pub adds-swaps : (t : Target) (v : ℕ) → Swaps (FetchAdd t v) 20 2 (λ m at c w. fetch_added m at w)
unfolding memory_by operands_of extension_for fetch_add_eth
adds-swaps t v =
    record {
      kind = refl;
      apart = (refl, refl);
      act-is = refl;
      acts = λ d m b e. rw e;
      read = refl;
      psn_count = λ p. refl;
      named = λ n. refl;
      right = λ s g n a. a.1;
      rights = add_right;
      memory-is = λ n place g p d i e m. refl;
    }

pub swaps-swaps : (a : AtomicEth) → Swaps (CmpSwap a) 19 3 (λ m at c w. swapped m at c w)
unfolding memory_by operands_of extension_for
swaps-swaps a =
    record {
      kind = refl;
      apart = (refl, refl);
      act-is = refl;
      acts = λ d m b e. rw e;
      read = refl;
      psn_count = λ p. refl;
      named = λ n. refl;
      right = λ s g n b. b.1;
      rights = swap-right;
      memory-is = λ n place g p d i e m. refl;
    }
