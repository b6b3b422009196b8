-- What the headers of a cut say: class, AckReq, extension headers, numbers.
use Prim.Native.Nat.{ℕ, zero, suc, ◌+◌, ◌≤◌, ◌<◌}
use mathlib.Core.Path.{◌≡◌, refl, sym, ap, ◌∙◌}
use mathlib.Core.Bool.{Bool, true, false, cond, ◌||◌}
use native.Mathlib.Omega.{arith}
use lib.Dec.{eqb}
use borrow.Author.Tests.{eq-eqb, ne_eqb, eqb-true, eqb-false}
use Rattle.sequence.specs.Sequence.{psn_after}
use Rattle.sequence.specs.declared.Psn.{Psn}
use Rattle.sequence.proofs.Circle.{after_none, after-after}
use Rattle.opcode.specs.Opcode.{place_of, low_class, class_of}
use Rattle.opcode.specs.Place.{ends, starts}
use Rattle.pmtu.specs.Pieces.{pieces, place_at}
use Rattle.pmtu.proofs.Cuts.{places}
use Rattle.cut_spec.specs.Message.{carries, carried_length, message_length, packets_of}
use Rattle.cut_spec.specs.Next.{psns_of, next_psn}
use Rattle.cut_spec.specs.Cut.{with_immediate, low_for, send_extension, reth_for, write_extension, write_end, write_immediate_extension, fetch_add_eth, extension_for, bth_at, header_at}
use Rattle.cut_spec.specs.Claims.{Carrier, CutMarked, CutOpcodes, CutExtended}
use Rattle.cut_spec.specs.Numbers.{PsnsTaken, PsnAt, PsnFirst, PsnNext, NextMessage, NextIs}
use Rattle.cut_spec.specs.declared.Request.{Request}
use Rattle.cut_spec.specs.declared.Request.TheVariants.{Send, SendImmediate, Write, WriteImmediate, Read, CmpSwap, FetchAdd}
use Rattle.pmtu.proofs.Cuts.{place-bound}
use Rattle.cut_spec.proofs.Bounds.{low-bound}
use Rattle.cut_spec.proofs.Shapes.{shape, place-said, service-is}
use Rattle.cut_spec.proofs.Fits.{class_low, follows_said}

-- the place that the opcode says; a READ or atomic request is an Only
place-of : (r : Request) (n pmtu i : ℕ)
    → (low_class (low_for r (place_at (packets_of r n pmtu) i))).place ≡ place_at (packets_of r n pmtu) i
unfolding low_class place_of low_for packets_of carried_length carries pieces place_at
place-of Send n pmtu i = (place-said Send (packets_of Send n pmtu) i tt).0
place-of (SendImmediate v) n pmtu i = (place-said (SendImmediate v) (packets_of (SendImmediate v) n pmtu) i tt).0
place-of (Write t) n pmtu i = (place-said (Write t) (packets_of (Write t) n pmtu) i tt).0
place-of (WriteImmediate t v) n pmtu i = (place-said (WriteImmediate t v) (packets_of (WriteImmediate t v) n pmtu) i tt).0
place-of (Read a) n pmtu i = refl
place-of (CmpSwap a) n pmtu i = refl
place-of (FetchAdd t v) n pmtu i = refl

pub cut-marked : CutMarked
unfolding header_at bth_at
cut-marked c r n first i K l =
    let count = packets_of r n c.pmtu in
    let k : class_of (header_at c r n first i).bth.opcode ≡ low_class (low_for r (place_at count i)) = class_low c r n first i K in
    record {
      service = service-is c.service (low_for r (place_at count i)) (omega (arith, low-bound r (place_at count i) (place-bound count i)));
      kind = ap (λ x. x.kind) k ∙ (shape r 0 count i).1;
      place = ap (λ x. x.place) k ∙ place-of r n c.pmtu i;
      follows = follows_said c r n first i K;
      pkey = refl;
      dest = refl;
      plain = (refl, refl);
      zeros = (refl, refl, refl);
      asks = λ e. eq-eqb (i + 1) count (omega arith);
      silent = λ h. ne_eqb (i + 1) count (λ e. omega arith);
    }

-- the headers after the BTH: the first packet begins the message, the last one ends it
begins : (count : ℕ) → starts (place_at count 0) ≡ true
unfolding place_at starts
begins count = go (eqb count 1)
  where
    go : (b : Bool) → (eqb (cond b 4 0) 0 || eqb (cond b 4 0) 4) ≡ true
    go true = refl
    go false = refl

last-ends : (count i : ℕ) → suc i ≡ count → ends (place_at count i) ≡ true
unfolding ends
last-ends count zero h = rw ((places count).only (sym h))
last-ends count (suc i) h = rw ((places count).last (suc i) (omega arith) h)

more-not : (count i : ℕ) → suc i < count → ends (place_at count i) ≡ false
unfolding ends
more-not count zero h = rw ((places count).first h)
more-not count (suc i) h = rw ((places count).middle (suc i) (omega arith) h)

later : (count i : ℕ) → 0 < i → suc i ≤ count → starts (place_at count i) ≡ false
unfolding starts
later count i g h = go (eqb (suc i) count) refl
  where
    go : (b : Bool) → eqb (suc i) count ≡ b → (eqb (place_at count i) 0 || eqb (place_at count i) 4) ≡ false
    go true e = rw ((places count).last i g (eqb-true (suc i) count e))
    go false e = rw ((places count).middle i g (omega (arith, eqb-false (suc i) count e)))

pub cut-extended : CutExtended
unfolding header_at extension_for send_extension write_extension write_end write_immediate_extension packets_of carried_length carries message_length ends starts reth_for fetch_add_eth
cut-extended c t v n first =
    let P = places (pieces n c.pmtu) in
    record {
      send = λ i. refl;
      send-more = λ i h. rw (more-not (pieces n c.pmtu) i h);
      send-last = λ i h. rw (last-ends (pieces n c.pmtu) i h);
      write = rw (begins (pieces n c.pmtu));
      write-more = λ i g h. rw (later (pieces n c.pmtu) i g h);
      write-first = λ h. rw (P.first h);
      write-only = λ h. rw (P.only h);
      write-middle = λ i g h. rw (P.middle i g h);
      write-last = λ i g h. rw (P.last i g h);
      read = λ a. refl;
      cmp-swap = λ a. refl;
      fetch-add = λ w. refl;
    }

pub cut-opcodes : CutOpcodes
unfolding header_at bth_at low_for with_immediate ends
cut-opcodes t v w a b =
    record {
      is = λ c r n first i. refl;
      send = (refl, refl, refl, refl);
      send-imm = (refl, refl, refl, refl);
      write = (refl, refl, refl, refl);
      write-imm = (refl, refl, refl, refl);
      one = (refl, refl, refl);
    }

-- PSNs
same_taken : (n pmtu : ℕ) (r : Request) → Carrier r → psns_of r n pmtu ≡ packets_of r n pmtu
unfolding psns_of message_length packets_of carried_length carries
same_taken n pmtu Send k = refl
same_taken n pmtu (SendImmediate v) k = refl
same_taken n pmtu (Write t) k = refl
same_taken n pmtu (WriteImmediate t v) k = refl
same_taken n pmtu (Read a) k = absurd k
same_taken n pmtu (CmpSwap a) k = absurd k
same_taken n pmtu (FetchAdd t v) k = absurd k

pub psns-taken : PsnsTaken
unfolding psns_of pieces message_length
psns-taken n pmtu = record { packets = same_taken n pmtu; read = λ a. refl; cmp-swap = λ a. refl; fetch-add = λ t v. refl }

pub psn-at : PsnAt
unfolding header_at bth_at
psn-at c r n first i = refl

pub psn-first : PsnFirst
unfolding header_at bth_at
psn-first c r n first h = after_none first h

pub psn-next : PsnNext
unfolding header_at bth_at
psn-next c r n first i = sym (after-after first i 1 ∙ ap (psn_after first) (omega arith))

follows : (first : Psn) (i m : ℕ) → suc i ≡ m → psn_after first m ≡ psn_after (psn_after first i) 1
follows first i m e =
    let q : m ≡ i + 1 = omega arith in
    ap (psn_after first) q ∙ sym (after-after first i 1)

pub next-message : NextMessage
unfolding next_psn header_at bth_at
next-message c r n first i k e = follows first i (psns_of r n c.pmtu) (e ∙ sym (same_taken n c.pmtu r k))

pub next-is : NextIs
unfolding next_psn
next-is r n pmtu first = refl
