-- What is proved of a message's numbers, each statement by a name; the proofs stand in proofs/.
use Rattle.std.specs.Prelude.{ℕ, suc, ◌^◌, ◌<◌, ◌≡◌, Ok, Err}
use Rattle.sequence.specs.Sequence.{psn_after}
use Rattle.sequence.specs.declared.Psn.{Psn}
use Rattle.header.specs.Write.{answer_number}
use Rattle.header.specs.declared.Refusal.TheVariants.{OutOfRange, BadNumber}
use Rattle.header.specs.declared.Reth.{Reth}
use Rattle.header.specs.declared.AtomicEth.{AtomicEth}
use Rattle.pmtu.specs.Pieces.{pieces}
use Rattle.pmtu.specs.Claims.{IsPmtu}
use Rattle.cut_spec.specs.Message.{message_length, packets_of}
use Rattle.cut_spec.specs.Next.{psns_of, next_psn, next_refusal, next_answer}
use Rattle.cut_spec.specs.Cut.{header_at}
use Rattle.cut_spec.specs.Claims.{Carrier, InLimit}
use Rattle.cut_spec.specs.declared.Connection.{Connection}
use Rattle.cut_spec.specs.declared.Target.{Target}
use Rattle.cut_spec.specs.declared.Request.{Request}
use Rattle.cut_spec.specs.declared.Request.TheVariants.{Read, CmpSwap, FetchAdd}

-- A message takes as many PSNs as it has packets, but a READ as many as it has responses.
pub record Taken (n pmtu : ℕ) : Type 0 where
  pub packets : (r : Request) → Carrier r → psns_of r n pmtu ≡ packets_of r n pmtu
  pub read : (a : Reth) → psns_of (Read a) n pmtu ≡ pieces a.length pmtu
  pub cmp-swap : (a : AtomicEth) → psns_of (CmpSwap a) n pmtu ≡ 1
  pub fetch-add : (t : Target) (v : ℕ) → psns_of (FetchAdd t v) n pmtu ≡ 1

abbrev pub PsnsTaken : Type 0
PsnsTaken = (n pmtu : ℕ) → Taken n pmtu

-- The next message's PSN is as much further on.
abbrev pub NextIs : Type 0
NextIs = (r : Request) (n pmtu : ℕ) (first : Psn) → next_psn r n pmtu first ≡ psn_after first (psns_of r n pmtu)

-- Packet i has the PSN i after the first.
abbrev pub PsnAt : Type 0
PsnAt = (c : Connection) (r : Request) (n : ℕ) (first : Psn) (i : ℕ) → (header_at c r n first i).bth.psn ≡ psn_after first i

-- PSNs are consecutive from the first, and the next message goes on behind the last packet.
abbrev pub PsnFirst : Type 0
PsnFirst = (c : Connection) (r : Request) (n : ℕ) (first : Psn) → first.0 < 2 ^ 24 → (header_at c r n first 0).bth.psn ≡ first

abbrev pub PsnNext : Type 0
PsnNext =
    (c : Connection) (r : Request) (n : ℕ) (first : Psn) (i : ℕ)
    → (header_at c r n first (suc i)).bth.psn ≡ psn_after (header_at c r n first i).bth.psn 1

abbrev pub NextMessage : Type 0
NextMessage =
    (c : Connection) (r : Request) (n : ℕ) (first : Psn) (i : ℕ) → Carrier r → suc i ≡ packets_of r n c.pmtu
    → next_psn r n c.pmtu first ≡ psn_after (header_at c r n first i).bth.psn 1

-- The answer: 39 without a PMTU or with a PSN over 24 bits, then 34 over the limit, else the PSN.
pub record Followed (r : Request) (n pmtu : ℕ) (first : Psn) : Type 0 where
  pub unfit : (IsPmtu pmtu × (first.0 < 2 ^ 24) → ⊥) → next_answer r n pmtu first ≡ Err BadNumber
  pub over : IsPmtu pmtu → first.0 < 2 ^ 24 → (InLimit r n → ⊥) → next_answer r n pmtu first ≡ Err OutOfRange
  pub next : IsPmtu pmtu → first.0 < 2 ^ 24 → InLimit r n → next_answer r n pmtu first ≡ Ok (next_psn r n pmtu first)

abbrev pub Follows : Type 0
Follows = (r : Request) (n pmtu : ℕ) (first : Psn) → Followed r n pmtu first

abbrev pub NextNumbers : Type 0
NextNumbers =
    (r : Request) (n pmtu : ℕ) (first : Psn)
    → answer_number (next_answer r n pmtu first) ≡ next_refusal (message_length r n) pmtu first.0
