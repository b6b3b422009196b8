-- What inbound leaves of a pair has the widths of its types: the R_Key of the open message, and PSN and MSN of the READ
-- being answered, come from the packet's bytes or were there.
use Rattle.std.proofs.Common.{Option, Some, None}
use Prim.Native.Nat.{ℕ, ◌+◌, ◌^◌, ◌<◌}
use mathlib.Core.Bool.{Bool, true, false, cond, ◌||◌}
use mathlib.Core.List.{List}
use lib.Dec.{eqb, leb}
use native.Mathlib.Omega.{arith}
use Rattle.sequence.specs.Sequence.{psn_after, psn_class}
use Rattle.sequence.specs.declared.Psn.{Psn}
use Rattle.sequence.specs.declared.Msn.{Msn}
use Rattle.sequence.specs.declared.Class.{Class}
use Rattle.sequence.specs.declared.Class.TheVariants as class
use Rattle.sequence.proofs.Circle.{after-below}
use Rattle.opcode.specs.Kind as Kind
use Rattle.opcode.specs.Follows as Follows
use Rattle.opcode.specs.Place.{starts, ends}
use Rattle.opcode.specs.Service as Service
use Rattle.header.specs.Bytes.{Bytes, be4}
use Rattle.header.specs.Read.{bth_of, reth_of, atomic_of, extension_of, header_of, read_by}
use Rattle.header.specs.Check.{header_checks, admitted}
use Rattle.header.specs.declared.Header.{Header}
use Rattle.header.specs.declared.Extension.{Extension}
use Rattle.header.specs.declared.Reason.{Reason}
use Rattle.std.specs.Prelude.{Result, Ok, Err}
use Rattle.table.specs.View.{newest_saved}
use Rattle.pair.specs.Answer.{status_number, executed}
use Rattle.pair.specs.Calls.{Whole}
use Rattle.pair.specs.Claims.{Sound}
use Rattle.pair.specs.declared.OpenMessage.{OpenMessage}
use Rattle.pair.specs.declared.ReadAnswer.{ReadAnswer}
use Rattle.pair.specs.declared.Setup.{Setup}
use Rattle.pair.specs.declared.Pair.{Pair}
use Rattle.pair.specs.declared.Status.{Status}
use Rattle.request_spec.specs.Packet.{operands_of, packet_of}
use Rattle.request_spec.specs.Verdict.{carrying, current, request_check, expected_check, check_answer}
use Rattle.request_spec.specs.declared.Packet.{Packet}
use Rattle.responder_spec.specs.declared.Decision.{Decision}
use Rattle.responder_spec.specs.Arrival.{Arrival}
use Rattle.responder_spec.specs.Decide as Decide
use Rattle.responder_spec.specs.Inbound.{inbound, left_by}
use Rattle.responder_spec.specs.Apply.{read_answer_by, msn_by, executed_pair, pair_by_number, pair_by}
use Rattle.sound_laws.proofs.Kept.{psn-below}

abbrev pub Small : ℕ → Type 0
Small n = n < 4294967296

-- the numbers of a pair that soundness leaves open
abbrev pub TypeWidths : Pair → Type 0
TypeWidths q = (q.setup.pkey < 65536) × Small q.message.key × Small q.read.psn.0 × Small q.read.msn.0

zero-small : Small 0
zero-small = omega arith

-- of a decision: the message that it leaves open, and its PSN
pub record Narrow (d : Decision) : Type 0 where
  pub key : Small d.progress.message.key
  pub psn : Small d.reply.psn.0

either : (b : Bool) (x y : Decision) → Narrow x → Narrow y → Narrow (cond b x y)
either true x y f g = f
either false x y f g = g

key-either : (b : Bool) (x y : OpenMessage) → Small x.key → Small y.key → Small (cond b x y).key
key-either true x y f g = f
key-either false x y f g = g

after_small : (psn : Psn) (n : ℕ) → Small (psn_after psn n).0
after_small psn n = let t = after-below psn n in omega (arith, t)

quiet : (s : Status) → Narrow (Decide.no_reply s)
unfolding Decide.no_reply
quiet s = record { key = zero-small; psn = zero-small }

-- a packet with an R_Key of 32 bits and such a PSN
module _ (p : Packet) (k : Small p.operands.key) (n : Small p.psn.0) where
  current-small : (m : OpenMessage) → Small m.key → Small (current m p).key
  unfolding current
  current-small m h = key-either (starts p.place) _ m k h

  stores : (asked : Bool) (psns : ℕ) (m : OpenMessage) (entry region : List ℕ) → Small m.key → Narrow (Decide.store_payload asked psns p m entry region)
  unfolding Decide.store_payload Decide.message_after
  stores asked psns m entry region h = record { key = key-either (ends p.place) _ _ zero-small h; psn = n }

  executes : (m opened : OpenMessage) (entry region : List ℕ) (pmtu : ℕ) → Small m.key → Small opened.key
      → Narrow (Decide.execute p m opened entry region pmtu)
  unfolding Decide.execute Decide.accept_read Decide.run_atomic
  executes m opened entry region pmtu h o =
      either (carrying p.kind) _ _ (stores p.ackreq 1 m entry region h) (either (eqb p.kind Kind.read) _ _ (record { key = o; psn = n }) (record { key = o; psn = n }))

  fails : (check timer : ℕ) → Narrow (Decide.failed check p.psn timer)
  unfolding Decide.failed Decide.acknowledging
  fails check timer =
      let c = check_answer check in
      let z : (s : Status) (x : ℕ) → Narrow (Decide.acknowledging s p.psn x) = λ s x. record { key = zero-small; psn = n } in
      either (eqb c 17) _ _ (z _ _) (either (eqb c 18) _ _ (z _ _) (either (eqb c 19) _ _ (z _ _) (quiet _)))

  expects : (s : Setup) (m : OpenMessage) (count : ℕ) (entry region : List ℕ) → Small m.key
      → Narrow (Decide.expected_decision p s m count entry region)
  unfolding Decide.expected_decision Decide.checked_decision
  expects s m count entry region h =
      either (eqb (expected_check s m p count entry region) 0) _ _ (executes (current m p) m entry region s.pmtu (current-small m h) h) (fails _ s.timer)

  saved-answers : (v : Option ℕ) → Narrow (Decide.duplicate_atomic v p.psn)
  saved-answers (Some v) = record { key = zero-small; psn = n }
  saved-answers None = quiet _

  duplicates : (s : Setup) (expected : Psn) (m : OpenMessage) (region : List ℕ) (v : Option ℕ)
      → Narrow (Decide.duplicate_decision p s expected m region v)
  unfolding Decide.duplicate_decision Decide.acknowledging Decide.duplicate_read Decide.psn_before
  duplicates s expected m region v =
      either (carrying p.kind) _ _ (record { key = zero-small; psn = after_small expected 16777215 })
      (either (eqb p.kind Kind.read) _ _ (either (Decide.duplicate_read_fails p s m expected region) _ _ (quiet _) (record { key = zero-small; psn = n }))
      (either (Decide.is_atomic p.kind) _ _ (saved-answers v) (quiet _)))

  uc-decides : (s : Setup) (expected : Psn) (m : OpenMessage) (count : ℕ) (entry region : List ℕ) → Small m.key
      → Narrow (Decide.uc_decision p s expected m count entry region)
  unfolding Decide.uc_decision Decide.uc_checked_decision Decide.uc_execute Decide.abandoning
  uc-decides s expected m count entry region h =
      let check = request_check s (Decide.closed_by p.place m) p count entry region in
      either (Decide.orphaned p.place m.kind) _ _ (quiet _)
      (either (Decide.strays p expected m.kind) _ _ (quiet _)
      (either (eqb check 0) _ _ (either (carrying p.kind) _ _ (stores false _ (current m p) entry region (current-small m h)) (quiet _))
      (either (eqb (check_answer check) 34) _ _ (quiet _) (either (eqb m.kind 255) _ _ (quiet _) (quiet _)))))

  by-class : (c : Class) (q : Pair) (entry region : List ℕ) (v : Option ℕ) → Small q.message.key → Small q.expected.0
      → Narrow (Decide.decision_by_class c q p entry region v)
  unfolding Decide.ahead_decision Decide.acknowledging
  by-class class.Expected q entry region v h e = expects q.setup q.message q.entries.count entry region h
  by-class class.Ahead q entry region v h e = either q.nakmark _ _ (quiet _) (record { key = zero-small; psn = e })
  by-class class.Duplicate q entry region v h e = duplicates q.setup q.expected (current q.message p) region v

  decides : (w : Whole) → Small w.pair.message.key → Small w.pair.expected.0 → Narrow (Decide.packet_decision w p)
  unfolding Decide.packet_decision Decide.rc_decision
  decides w h e =
      let q = w.pair in
      let entry = Decide.head_entry q w.entries in
      let region = Decide.region_for p.kind (current q.message p).key w.regions in
      either (eqb q.setup.service Service.uc) _ _
      (uc-decides q.setup q.expected q.message q.entries.count entry region h)
      (by-class (psn_class p.psn.0 q.expected.0) q entry region (newest_saved p.psn.0 w.saved q.saved) h e)

-- the packet of bytes
be4-small : (p : List ℕ) (i : ℕ) → Bytes p → Small (be4 p i)
be4-small p i B = omega (arith, B i, B (i + 1), B (i + 1 + 1), B (i + 1 + 1 + 1))

record Keyed (e : Extension) : Type 0 where
  key : Small (operands_of e).key

keyed-either : (b : Bool) (x y : Extension) → Keyed x → Keyed y → Keyed (cond b x y)
keyed-either true x y f g = f
keyed-either false x y f g = g

keyed : (follows : ℕ) (p : List ℕ) → Bytes p → Keyed (extension_of follows p)
unfolding extension_of operands_of reth_of atomic_of
keyed follows p B =
    let k = be4-small p 20 B in
    keyed-either (eqb follows Follows.reth) _ _ (record { key = k })
    (keyed-either (eqb follows Follows.reth_immediate) _ _ (record { key = k })
    (keyed-either (eqb follows Follows.immediate) _ _ (record { key = zero-small })
    (keyed-either (eqb follows Follows.atomic_eth) _ _ (record { key = k })
    (keyed-either (eqb follows Follows.aeth) _ _ (record { key = zero-small })
    (keyed-either (eqb follows Follows.aeth_atomic_ack) _ _ (record { key = zero-small }) (record { key = zero-small }))))))

or-drop : (found : Result (Unit {0}) Reason) (p : List ℕ) (f : Header → Decision) → Narrow (f (header_of p))
    → Narrow (Decide.or_drop (read_by found p) f)
unfolding read_by
or-drop (Ok x) p f n = n
or-drop (Err why) p f n = quiet _

-- what reading finds in a packet: a PSN of 24 bits, an R_Key of 32
pub record Fitting (p : List ℕ) : Type 0 where
  pub psn : (bth_of p).psn.0 < 2 ^ 24
  pub key : Small (operands_of (header_of p).extension).key

pub bytes_fit : (p : List ℕ) → Bytes p → Fitting p
unfolding header_of
bytes_fit p B = record { psn = psn-below p B; key = (keyed _ p B).key }

decided : (a : Arrival) → Fitting a.packet → Small a.whole.pair.message.key → Small a.whole.pair.expected.0
    → Narrow (Decide.decision a)
unfolding Decide.decision admitted read_by packet_of header_of
decided a F h e =
    let t = F.psn in
    let s : Small (bth_of a.packet).psn.0 = omega (arith, t) in
    either (executed (Decide.refusal_of a)) _ _ (or-drop (header_checks _ _ _ _ a.packet) a.packet _ (decides _ F.key s a.whole h e)) (quiet _)

-- the pair that it leads to
pub record Held (a : ReadAnswer) : Type 0 where
  pub psn : Small a.psn.0
  pub msn : Small a.msn.0

answer-either : (b : Bool) (x y : ReadAnswer) → Held x → Held y → Held (cond b x y)
answer-either true x y f g = f
answer-either false x y f g = g

pub record Wide (q : Pair) : Type 0 where
  pub widths : TypeWidths q

-- one of two pairs that have the widths has them
pub pair-either : (b : Bool) (x y : Pair) → Wide x → Wide y → Wide (cond b x y)
pair-either true x y f g = f
pair-either false x y f g = g

msn-small : (b : Bool) (m : Msn) → Small m.0 → Small (msn_by b m).0
unfolding msn_by
msn-small true m h = omega arith
msn-small false m h = h

pair-wide : (q : Pair) (d : Decision) → TypeWidths q → Small q.msn.0 → Narrow d → Wide (pair_by q d)
unfolding pair_by pair_by_number executed_pair read_answer_by
pair-wide q d t m N =
    let r : Held q.read = record { psn = t.2; msn = t.3 } in
    let x = answer-either (eqb d.reply.remaining 0) q.read _ r (record { psn = N.psn; msn = msn-small d.progress.ends q.msn m }) in
    let y = answer-either (eqb d.reply.remaining 0) q.read _ r (record { psn = N.psn; msn = m }) in
    let k = status_number d.status in
    pair-either (leb k 3) _ _ (record { widths = (t.0, N.key, x.psn, x.msn) })
    (pair-either (eqb k 4) _ _ (record { widths = (t.0, t.1, y.psn, y.msn) })
    (pair-either (eqb k 16 || eqb k 19) _ _ (record { widths = t })
    (pair-either (eqb k 17 || eqb k 18) _ _ (record { widths = t })
    (pair-either (eqb k 6) _ _ (record { widths = (t.0, zero-small, t.2, t.3) }) (record { widths = t })))))

pub inbound-widths : (a : Arrival) → Fitting a.packet → Sound a.whole.pair → TypeWidths a.whole.pair → TypeWidths (inbound a).whole.pair
unfolding inbound left_by
inbound-widths a F S t =
    let e = S.expected in
    let m = S.msn in
    (pair-wide a.whole.pair (Decide.decision a) t (omega (arith, m)) (decided a F t.1 (omega (arith, e)))).widths
