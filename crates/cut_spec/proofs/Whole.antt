-- Cut packets: written, read back, admitted, and joined to the message again.
use Prim.Native.Nat.{ℕ, zero, suc, ◌+◌, ◌*◌, ◌≤◌, ◌<◌}
use mathlib.Core.Path.{◌≡◌, refl, sym, ap, subst, ◌∙◌}
use mathlib.Core.Bool.{Bool, true, false, cond}
use mathlib.Core.List.{List, [], ◌∷◌, ◌++◌}
use mathlib.Core.Logic.{◌⊎◌, inl, inr}
use native.Mathlib.Omega.{arith}
use lib.Dec.{leb, ltb, eqb}
use lib.ListN.{length, take, drop}
use Rattle.std.specs.Prelude.{Result, Ok, Err, ⊤}
use Rattle.std.specs.Result.{result_and}
use Rattle.sequence.specs.declared.Psn.{Psn}
use Rattle.opcode.specs.Opcode.{low_of}
use Rattle.header.specs.Write.{header_fits, answer_number}
use Rattle.header.specs.declared.Header.{Header}
use Rattle.header.specs.declared.Refusal.{Refusal}
use Rattle.header.specs.declared.Refusal.TheVariants.{OutOfRange, OutputShort, BadNumber}
use Rattle.header.proofs.Checks.{admits}
use Rattle.packet.specs.Packet.{pad_of, packet_length, packet_written, packet_answer, payload_of}
use Rattle.packet.specs.Claims.{Found}
use Rattle.packet.proofs.Bytes.{length-packet}
use Rattle.packet.proofs.ReadBack.{found, none}
use Rattle.packet.proofs.Refusals.{lacking, packet-numbers}
use Rattle.pmtu.specs.Pieces.{pieces, place_at, piece_at, joined}
use Rattle.pmtu.proofs.Counting.{pmtus, pmtu-bounds}
use Rattle.pmtu.proofs.Cuts.{joins, full, rest, at_most}
use Rattle.cut_spec.specs.Message.{carries, carried, carried_length, message_length, message_limit, packets_of}
use Rattle.cut_spec.specs.Cut.{low_for, bth_at, header_at, payload_at, cut_bytes, cut_unfit, check_cut, cut_written, cut_refusal, cut_answer, cut_out}
use Rattle.cut_spec.specs.Claims.{Carrier, Fit, Cuttable, Refuses, CutUnfit, CutOver, CutShort, Cuts}
use Rattle.cut_spec.specs.Claims.{CutNumbers, CutReads, CutAdmitted, CutPayload, CutPad, CutJoins, CutFull}
use Rattle.cut_spec.specs.Claims.{CutLast, CutEmpty}
use Rattle.cut_spec.specs.declared.Connection.{Connection}
use Rattle.cut_spec.specs.declared.Request.{Request}
use Rattle.cut_spec.specs.declared.Request.TheVariants.{Send, SendImmediate, Write, WriteImmediate, Read, CmpSwap, FetchAdd}
use Rattle.pmtu.proofs.Cuts.{place-bound}
use Rattle.cut_spec.proofs.Bounds.{immediate-bound, low-bound}
use Rattle.cut_spec.proofs.Steps.{refused, length-carried}
use Rattle.cut_spec.proofs.Shapes.{place-said, carrier-carries, service-is, low-is}
use Rattle.cut_spec.proofs.Fitting.{refused-unfit, refused-over, not-refused}
use Rattle.cut_spec.proofs.Fits.{none-carried, size_is, header-fits, packet-short}

-- what holds of packet i of a sound message
module _ (c : Connection) (r : Request) (d : List ℕ) (first : Psn) (i : ℕ) (S : Cuttable c r (length d) first.0) where
  h : Header
  h = header_at c r (length d) first i

  good : header_fits h ≡ true
  unfolding h
  good = header-fits c r (length d) first i S

  pad : h.bth.pad ≡ pad_of (length (payload_at c r d i))
  unfolding h header_at bth_at
  pad = ap pad_of (size_is c r d i)

  short : packet_length h (length (payload_at c r d i)) ≤ 4128
  unfolding h
  short = packet-short c r d first i S

  size : length (cut_bytes c r d first i) ≡ packet_length h (length (payload_at c r d i))
  unfolding cut_bytes h
  size = length-packet (header_at c r (length d) first i) (payload_at c r d i) good

  pub reads : Found (header_at c r (length d) first i) (payload_at c r d i) (cut_bytes c r d first i)
  unfolding cut_bytes h
  reads = found (header_at c r (length d) first i) (payload_at c r d i) good pad short

-- what is refused before the output is looked at
early : (c : Connection) (r : Request) (d : List ℕ) (first : Psn) (i : ℕ) (out : List ℕ) (x : Refusal)
    → check_cut c r (length d) first.0 i ≡ Err x → Refuses c r d first i out x
early c r d first i out x e =
    let R = refused c r d out first i x e in
    record { answer = sym R.0; output = sym R.1 }

pub cut-unfit : CutUnfit
cut-unfit c r d first i out h = early c r d first i out BadNumber (refused-unfit c r (length d) first.0 i h)

pub cut-over : CutOver
cut-over c r d first i out F h = early c r d first i out OutOfRange (refused-over c r (length d) first.0 i F h)

-- and after: as the packet writer answers
late : (c : Connection) (r : Request) (d : List ℕ) (first : Psn) (i room : ℕ) → Cuttable c r (length d) first.0
    → i < packets_of r (length d) c.pmtu
    → cut_written c r d first i room ≡ packet_written (header_at c r (length d) first i) (length (payload_at c r d i)) room
unfolding cut_written
late c r d first i room S l = rw (not-refused c r (length d) first.0 i S.fit S.limit l)

pub cut_short : CutShort
unfolding h cut_out
cut_short c r d first i out S l room =
    let H = header_at c r (length d) first i in
    let e : cut_written c r d first i (length out) ≡ Err OutputShort =
    late c r d first i (length out) S l
    ∙ lacking H (length (payload_at c r d i)) (length out) (good c r d first i S) (pad c r d first i S) (short c r d first i S) (subst (λ k. length out < k) (size c r d first i S) room) in
    record { answer = e; output = rw e }

pub cuts : Cuts
unfolding h cut_out
cuts c r d first i out S l room =
    let H = header_at c r (length d) first i in
    let s : length (cut_bytes c r d first i) ≡ packet_length H (length (payload_at c r d i)) = size c r d first i S in
    let e : cut_written c r d first i (length out) ≡ Ok (packet_length H (length (payload_at c r d i))) =
    late c r d first i (length out) S l
    ∙ none H (length (payload_at c r d i)) (length out) (good c r d first i S) (pad c r d first i S) (short c r d first i S) (subst (λ k. k ≤ length out) s room) in
    (e ∙ ap Ok (sym s), rw (e, s))

pub cut-numbers : CutNumbers
unfolding cut_written cut_answer check_cut cut_refusal answer_number
cut-numbers c r d first i room =
    go (cut_unfit c (carries r) first.0) (ltb message_limit (message_length r (length d))) (leb (packets_of r (length d) c.pmtu) i)
  where
    answer : Result ℕ Refusal
    answer = packet_written (header_at c r (length d) first i) (length (payload_at c r d i)) room

    number : ℕ
    number = packet_answer (header_at c r (length d) first i) (length (payload_at c r d i)) room

    check : (x y z : Bool) → Result ⊤ Refusal
    check x y z = cond x (Err BadNumber) (cond y (Err OutOfRange) (cond z (Err OutOfRange) (Ok tt)))

    go : (x y z : Bool) → answer_number (result_and (check x y z) answer)
        ≡ cond (eqb (cond x 39 (cond y 34 (cond z 34 0))) 0) number (cond x 39 (cond y 34 (cond z 34 0)))
    go true y z = refl
    go false true z = refl
    go false false true = refl
    go false false false = packet-numbers (header_at c r (length d) first i) (length (payload_at c r d i)) room

pub cut-reads : CutReads
cut-reads c r d first i S l = reads c r d first i S

pub cut-empty : CutEmpty
cut-empty c r d first i k S = (reads c r d first i S).payload ∙ empty (payload_at c r d i) (none-carried c r d i k)
  where
    empty : (x : List ℕ) → length x ≡ 0 → x ≡ []
    empty [] e = refl
    empty (y ∷ x) e = absurd (omega arith)

-- the message again
same-joined : (f g : ℕ → List ℕ) → ((i : ℕ) → f i ≡ g i) → (i k : ℕ) → joined f i k ≡ joined g i k
unfolding joined
same-joined f g e i zero = refl
same-joined f g e i (suc k) = λ z. e i z ++ same-joined f g e (suc i) k z

carried-all : (r : Request) (d : List ℕ) → Carrier r → carried r d ≡ d
unfolding carried
carried-all r d k = rw (carrier-carries r k)

positive : (c : Connection) (r : Request) (psn : ℕ) → Fit c r psn → 0 < c.pmtu
positive c r psn K = omega (arith, (pmtu-bounds c.pmtu ((pmtus c.pmtu).1 K.pmtu)).0)

pub cut-joins : CutJoins
unfolding packets_of payload_at
cut-joins c r d first k S =
    let e : carried r d ≡ d = carried-all r d k in
    let n : carried_length r (length d) ≡ length (carried r d) = sym (length-carried r d) in
    same-joined (λ i. payload_of (cut_bytes c r d first i)) (piece_at (carried r d) c.pmtu) (λ i. (reads c r d first i S).payload) 0 (pieces (carried_length r (length d)) c.pmtu)
    ∙ (ap (λ m. joined (piece_at (carried r d) c.pmtu) 0 (pieces m c.pmtu)) n
    ∙ (joins (carried r d) c.pmtu (positive c r first.0 S.fit) ∙ e))

-- sizes
pub cut-payload : CutPayload
unfolding payload_at piece_at
cut-payload c r d first i k S =
    (reads c r d first i S).payload ∙ ap (λ x. take c.pmtu (drop (i * c.pmtu) x)) (carried-all r d k)

pub cut-pad : CutPad
unfolding h
cut-pad c r d first i S = pad c r d first i S ∙ ap (λ x. pad_of (length x)) (sym (reads c r d first i S).payload)

carried-most : (r : Request) (d : List ℕ) → length (carried r d) ≤ length d
unfolding carried
carried-most r d = go (carries r)
  where
    go : (b : Bool) → length (cond b d []) ≤ length d
    go true = omega arith
    go false = omega arith

pub cut-full : CutFull
unfolding packets_of payload_at
cut-full c r d first i S l =
    let n : carried_length r (length d) ≡ length (carried r d) = sym (length-carried r d) in
    let F = full (carried r d) c.pmtu i (positive c r first.0 S.fit) (subst (λ m. suc i < pieces m c.pmtu) n l) in
    (ap length (reads c r d first i S).payload ∙ F.0, omega (arith, F.1, carried-most r d))

pub cut-last : CutLast
unfolding packets_of payload_at
cut-last c r d first i S l =
    let n : carried_length r (length d) ≡ length (carried r d) = sym (length-carried r d) in
    let p : length (payload_of (cut_bytes c r d first i)) ≡ length (piece_at (carried r d) c.pmtu i) = ap length (reads c r d first i S).payload in
    let R = rest (carried r d) c.pmtu i (positive c r first.0 S.fit) (l ∙ ap (λ m. pieces m c.pmtu) n) in (
      omega (arith, p, at_most (carried r d) c.pmtu i),
      λ g. omega (arith, p, R.1 g),
      λ k. omega (arith, p, R.0, ap length (carried-all r d k)),
    )

-- the header checks of a pair
requests : (r : Request) (place : ℕ) → place ≤ 4 → (low_for r place < 13) ⊎ (18 < low_for r place)
unfolding low_for
requests Send place h = inl (omega arith)
requests (SendImmediate v) place h = inl (omega (arith, immediate-bound place h))
requests (Write t) place h = inl (omega arith)
requests (WriteImmediate t v) place h = inl (omega (arith, immediate-bound place h))
requests (Read a) place h = inl (omega arith)
requests (CmpSwap a) place h = inr (omega arith)
requests (FetchAdd t v) place h = inr (omega arith)

pub cut-admitted : CutAdmitted
unfolding header_at bth_at
cut-admitted c r d first i pkey S l m =
    let p = place_at (packets_of r (length d) c.pmtu) i in
    let low = low_for r p in
    let b : low < 32 = omega (arith, low-bound r p (place-bound (packets_of r (length d) c.pmtu) i)) in
    let o : low_of (c.service * 32 + low) ≡ low = low-is c.service low b in
    admits c.service c.dest pkey (cut_bytes c r d first i) (header_at c r (length d) first i) (reads c r d first i S).header
    (service-is c.service low b) refl m
    (subst (λ x. (x < 13) ⊎ (18 < x)) (sym o) (requests r p (place-bound (packets_of r (length d) c.pmtu) i)))
    (λ e. subst (λ x. x < 12) (sym o) (uc S.fit.service e))
  where
    uc : (c.service ≡ 0) ⊎ ((c.service ≡ 1) × Carrier r) → c.service ≡ 1 → low_for r (place_at (packets_of r (length d) c.pmtu) i) < 12
    uc (inl z) e = absurd (omega arith)
    uc (inr z) e = (place-said r (packets_of r (length d) c.pmtu) i z.1).1
