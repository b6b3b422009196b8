-- The packet of an answer reads back.
use Rattle.std.proofs.Common.{Option, Some, None}
use Prim.Native.Nat.{ℕ, zero, suc, ◌+◌, ◌^◌, ◌≤◌, ◌<◌}
use mathlib.Core.Path.{◌≡◌, refl, sym, ap, subst, ◌∙◌}
use mathlib.Core.Bool.{Bool, true, false, cond, ◌||◌}
use mathlib.Core.List.{List, [], append-nil}
use mathlib.Core.Logic.{◌⊎◌, inl, inr}
use native.Mathlib.Omega.{arith}
use lib.Dec.{eqb, leb, ltb}
use lib.ListN.{length, take, drop, get_or}
use lib.Seq.{take_at, drop_at}
use borrow.Author.Tests.{ne_eqb}
use Rattle.responder_spec.specs.Arrival.{Arrival, Left}
use Rattle.responder_spec.specs.Decide.{refusal_of}
use Rattle.sequence.specs.Sequence.{psn_after, msn_next}
use Rattle.sequence.proofs.Circle.{after-below}
use Rattle.opcode.specs.Opcode.{follows_of, length_of, low_class, class_of}
use Rattle.header.specs.Bytes.{Bytes}
use Rattle.header.specs.Read.{bth_of, header_of, read_header}
use Rattle.header.specs.Write.{follows_by, header_bytes, header_fits, header_length}
use Rattle.header.specs.Claims.{BthWidths}
use Rattle.header.specs.declared.Extension.{Extension}
use Rattle.header.specs.declared.Extension.TheVariants.{AtomicAcknowledge}
use Rattle.header.specs.declared.Header.{Header}
use Rattle.std.specs.Prelude.{Ok}
use Rattle.header.proofs.Lengths.{length-header}
use Rattle.header.proofs.ReadBack.{read-packet}
use Rattle.header.proofs.Widths.{bth-fits, extension-fits}
use Rattle.header.proofs.Writes.{both-fit}
use Rattle.table.specs.Table.{saved_capacity, saved_slot}
use Rattle.table.specs.View.{ring_from, in_ring, later, newest, newest_saved, saved_rows}
use Rattle.table.specs.Claims.{SavedSound}
use Rattle.table.specs.declared.Ring.{Ring}
use Rattle.memory.specs.Word.{word_at}
use Rattle.memory.proofs.Words.{word_below}
use Rattle.pair.specs.Answer.{status_number, executed}
use Rattle.pair.specs.Claims.{Sound, status_of}
use Rattle.pair.specs.declared.Status.{Status}
use Rattle.pair.specs.declared.Status.TheVariants as status
use Rattle.pair.proofs.Known.{number-back}
use Rattle.pair.specs.declared.Setup.{Setup}
use Rattle.pair.specs.declared.OpenMessage.{OpenMessage}
use Rattle.pair.specs.declared.Pair.{Pair}
use Rattle.request_spec.specs.Packet.{packet_of, packet_in}
use Rattle.responder_spec.specs.declared.Reply.{Reply}
use Rattle.responder_spec.specs.declared.Decision.{Decision}
use Rattle.responder_spec.specs.Apply.{acts_atomic, value_by, saved_by, msn_by, executed_pair, pair_by_number, pair_by}
use Rattle.responder_spec.specs.Inbound.{reply_with, sent_by, left_by, inbound}
use Rattle.response_laws.specs.Responses.{plain_header}
use Rattle.reply_laws.specs.Replies.{ReplyPackets, AckSent, ValueSent, Replies, InboundReplies}
use Rattle.decision_laws.proofs.Rows.Quiet.{dropped, short, range, unfinished}
use Rattle.decision_laws.proofs.Rows.Late.{unread, outside}
use Rattle.decision_laws.proofs.Rows.Row.{quiet, ahead, invalid, access, unready, ack_duplicate, read_duplicate, atomic_duplicate, stored, begin, swap}
use Rattle.decision_laws.proofs.Rows.UcRow.{unheard, abandon, deliver}
use Rattle.decision_laws.proofs.Rows.AnyRow.{reliable, unreliable}
use Rattle.decision_laws.proofs.Rows.{UcRow, AnyRow, Quiet, Late, Row, either, passed, refusal-quiet, taken-row}
use Rattle.effect_laws.proofs.Effects.{act_by}
use Rattle.responder_spec.specs.Decide.{acknowledging, reply_only, psn_before, store_payload, run_atomic, no_reply, decision}
use Rattle.responder_spec.specs.Reply.{sending, reply_header, ack_header, atomic_header, ack_bytes, index_of, reply_bytes, over}

-- a header alone, written into an output: it reads back, and the rest stays
alone : (h : Header) (out : List ℕ) (n : ℕ) → header_fits h ≡ true → header_length h ≡ n → n ≤ 4128
    → (read_header (take n (over (header_bytes h) out)) ≡ Ok h) × (drop n (over (header_bytes h) out) ≡ drop n out)
unfolding over
alone h out n good e most =
    let l : length (header_bytes h) ≡ n = length-header h good ∙ e in (
      ap read_header (take_at (header_bytes h) (drop (length (header_bytes h)) out) n l ∙ sym (append-nil (header_bytes h))) ∙ read-packet h [] good refl (omega arith),
      drop_at (header_bytes h) (drop (length (header_bytes h)) out) n l ∙ ap (λ k. drop k out) l,
    )

-- the widths of what a reply is made of
record Wide (s : Setup) (r : Reply) : Type 0 where
  pkey : s.pkey < 2 ^ 16
  dest : s.theirs < 2 ^ 24
  psn : r.psn.0 < 2 ^ 24
  syndrome : r.syndrome < 2 ^ 8
  msn : r.msn.0 < 2 ^ 24

bth-widths : (s : Setup) (opcode : ℕ) (r : Reply) (e : Extension) → opcode < 64 → Wide s r → BthWidths (reply_header s opcode 0 r.psn e).bth
unfolding reply_header
bth-widths s opcode r e o w =
    record {
      opcode = o;
      pad = omega arith;
      tver = refl;
      pkey = w.pkey;
      reserved8 = omega arith;
      dest = w.dest;
      reserved7 = omega arith;
      psn = w.psn;
    }

ack-fits : (s : Setup) (r : Reply) → Wide s r → header_fits (ack_header s r) ≡ true
unfolding ack_header reply_header class_of low_class follows_of follows_by
ack-fits s r w =
    let h = ack_header s r in
    both-fit h (bth-fits h.bth (bth-widths s 17 r h.extension (omega arith) w))
    (extension-fits (class_of 17).follows h.extension refl (w.syndrome, w.msn))

value-fits : (s : Setup) (r : Reply) → Wide s r → r.value < 2 ^ 64 → header_fits (atomic_header s r) ≡ true
unfolding atomic_header reply_header class_of low_class follows_of follows_by
value-fits s r w b =
    let h = atomic_header s r in
    both-fit h (bth-fits h.bth (bth-widths s 18 r h.extension (omega arith) w))
    (extension-fits (class_of 18).follows h.extension refl ((w.syndrome, w.msn), b))

-- a header alone reads back
lone : (h : Header) (n : ℕ) → header_fits h ≡ true → header_length h ≡ n → n ≤ 4128 → read_header (header_bytes h) ≡ Ok h
lone h n good e most = let l : length (header_bytes h) ≡ n = length-header h good ∙ e in
    ap read_header (sym (append-nil (header_bytes h))) ∙ read-packet h [] good refl (omega arith)

pub reply-packets : ReplyPackets
unfolding reply_bytes index_of ack_bytes ack_header atomic_header reply_header header_length class_of low_class follows_of length_of
reply-packets s r m pkey dest (psn, syndrome, msn, value) =
    let w : Wide s r = record { pkey = pkey; dest = dest; psn = psn; syndrome = syndrome; msn = msn } in
    record {
      ack = λ e. rw e (lone (ack_header s r) 16 (ack-fits s r w) refl (omega arith));
      atomic = λ e. rw e (lone (atomic_header s r) 24 (value-fits s r w value) refl (omega arith));
      response = λ e. rw e;
      none = λ a b c. rw (ne_eqb r.kind 13 a, ne_eqb r.kind 17 b, ne_eqb r.kind 18 c);
    }

-- a saved value has 64 bits
abbrev Small : Option ℕ → Type 0
Small (Some v) = v < 2 ^ 64
Small None = Unit {0}

later-small : (a b : Option ℕ) → Small a → Small b → Small (later a b)
later-small (Some v) b x y = x
later-small None b x y = y

match-small : (b : Bool) (v : ℕ) → v < 2 ^ 64 → Small (cond b (Some v) None)
match-small true v h = h
match-small false v h = tt

ring-small : (psn : ℕ) (rows : List (List ℕ)) (head n i : ℕ)
    → ((j : ℕ) → j < i + n → get_or (get_or rows (saved_slot head j) []) 1 0 < 2 ^ 64)
    → Small (newest psn (ring_from saved_slot rows head i n))
unfolding ring_from newest
ring-small psn rows head zero i h = tt
ring-small psn rows head (suc n) i h =
    let row = get_or rows (saved_slot head i) [] in
    later-small (newest psn (ring_from saved_slot rows head (suc i) n)) (cond (eqb (get_or row 0 0) psn) (Some (get_or row 1 0)) None)
    (ring-small psn rows head n (suc i) (λ j k. h j (omega arith)))
    (match-small (eqb (get_or row 0 0) psn) (get_or row 1 0) (h i (omega arith)))

saved-small : (psn : ℕ) (rows : List (List ℕ)) (r : Ring) → SavedSound rows r → Small (newest_saved psn rows r)
unfolding newest_saved
saved-small psn rows r S = go (ltb saved_capacity r.count)
  where
    go : (b : Bool) → Small (cond b None (newest psn (in_ring saved_slot rows r)))
    go true = tt
    go false = ring-small psn rows r.head r.count 0 (λ j k. (S.each j (omega arith)).1)

psn-small : (p : List ℕ) → Bytes p → (bth_of p).psn.0 < 2 ^ 24
unfolding bth_of
psn-small p B = omega (arith, B 9, B 10, B 11)

-- the MSN after a decision has 24 bits
abbrev Fine : Pair → Type 0
Fine x = x.msn.0 < 2 ^ 24

executed-small : (q : Pair) (d : Decision) → Sound q → Fine (executed_pair q d)
unfolding executed_pair msn_by
executed-small q d S = go d.progress.ends
  where
    go : (b : Bool) → (cond b (msn_next q.msn) q.msn).0 < 2 ^ 24
    go true = omega arith
    go false = S.msn

msn-small : (q : Pair) (d : Decision) → Sound q → Fine (pair_by q d)
unfolding pair_by pair_by_number
msn-small q d S =
    let n = status_number d.status in
    either Fine (leb n 3) (executed-small q d S)
    (either Fine (eqb n 4) S.msn (either Fine (eqb n 16 || eqb n 19) S.msn (either Fine (eqb n 17 || eqb n 18) S.msn (either Fine (eqb n 6) S.msn S.msn))))

module _ (arrival : Arrival) (S : Sound arrival.whole.pair) (P : arrival.whole.pair.setup.pkey < 2 ^ 16) (d : Decision) where
  -- the reply as it is sent
  abbrev sent : Reply
  sent = reply_with d.reply (pair_by arrival.whole.pair d).msn (value_by d.change d.reply.value arrival.memory)

  wide : d.reply.psn.0 < 2 ^ 24 → d.reply.syndrome < 2 ^ 8 → Wide arrival.whole.pair.setup sent
  wide x y = record { pkey = P; dest = S.setup.0.theirs; psn = x; syndrome = y; msn = msn-small arrival.whole.pair d S }

  ack-bytes : d.reply.kind ≡ 17 → sent_by arrival d ≡ header_bytes (ack_header arrival.whole.pair.setup sent)
  unfolding sent_by ack_bytes ack_header
  ack-bytes e = rw e

  value-bytes : d.reply.kind ≡ 18 → sent_by arrival d ≡ header_bytes (atomic_header arrival.whole.pair.setup sent)
  unfolding sent_by ack_bytes atomic_header
  value-bytes e = rw e

  ack-sent : d.reply.kind ≡ 17 → d.reply.psn.0 < 2 ^ 24 → d.reply.syndrome < 2 ^ 8
      → AckSent arrival (left_by arrival d) d.reply.psn d.reply.syndrome
  unfolding left_by ack_header reply_header header_length class_of low_class follows_of length_of
  ack-sent e x y =
      let h = ack_header arrival.whole.pair.setup sent in
      let f = ack-fits arrival.whole.pair.setup sent (wide x y) in
      let b = ack-bytes e in
      let O = alone h arrival.out 16 f refl (omega arith) in
      record {
        outgoing = ap length b ∙ length-header h f;
        packet = ap (λ z. read_header (take 16 (over z arrival.out))) b ∙ O.0;
        behind = ap (λ z. drop 16 (over z arrival.out)) b ∙ O.1;
      }

  value-sent : (v : ℕ) → d.reply.kind ≡ 18 → d.reply.psn.0 < 2 ^ 24 → d.reply.syndrome ≡ 31 → value_by d.change d.reply.value arrival.memory ≡ v → v < 2 ^ 64
      → ValueSent arrival (left_by arrival d) d.reply.psn v
  unfolding left_by atomic_header reply_header header_length class_of low_class follows_of length_of
  value-sent v e x y ev l =
      let h = atomic_header arrival.whole.pair.setup sent in
      let f = value-fits arrival.whole.pair.setup sent (wide x (omega arith)) (subst (λ z. z < 2 ^ 64) (sym ev) l) in
      let b = value-bytes e in
      let O = alone h arrival.out 24 f refl (omega arith) in
      record {
        outgoing = ap length b ∙ length-header h f;
        packet =
            ap (λ z. read_header (take 24 (over z arrival.out))) b
            ∙ (O.0 ∙ (λ i. Ok (plain_header arrival.whole.pair.setup 18 0 d.reply.psn (AtomicAcknowledge (record { syndrome = y i; msn = (pair_by arrival.whole.pair d).msn }) (ev i)))));
        behind = ap (λ z. drop 24 (over z arrival.out)) b ∙ O.1;
      }

-- what each answer sends
module _ (arrival : Arrival) where
  abbrev Swapped : Left → Type 0
  Swapped l =
      (at : ℕ) × ValueSent arrival l (bth_of arrival.packet).psn (word_at arrival.memory at) ×
      (l.whole.saved ≡ saved_rows arrival.whole.saved arrival.whole.pair.saved (bth_of arrival.packet).psn.0 (word_at arrival.memory at))

  abbrev DuplicateLeaves : Left → Type 0
  DuplicateLeaves l =
      AckSent arrival l (psn_after arrival.whole.pair.expected 16777215) 31
      ⊎ (((v : ℕ) × (newest_saved (bth_of arrival.packet).psn.0 arrival.whole.saved arrival.whole.pair.saved ≡ Some v) × ValueSent arrival l (bth_of arrival.packet).psn v) ⊎ (l.outgoing ≡ 0))

  abbrev Sends : Status → Left → Type 0
  Sends status.Executed l = Unit {0}
  Sends status.Acknowledged l = AckSent arrival l (bth_of arrival.packet).psn 31
  Sends status.ReadAccepted l = Unit {0}
  Sends status.AtomicExecuted l = Swapped l
  Sends status.DuplicateAnswered l = DuplicateLeaves l
  Sends status.Dropped l = Unit {0}
  Sends status.Abandoned l = Unit {0}
  Sends status.SequenceNak l = AckSent arrival l arrival.whole.pair.expected 96
  Sends status.InvalidRequestNak l = AckSent arrival l (bth_of arrival.packet).psn 97
  Sends status.AccessNak l = AckSent arrival l (bth_of arrival.packet).psn 98
  Sends status.NotReadyNak l = AckSent arrival l (bth_of arrival.packet).psn (32 + arrival.whole.pair.setup.timer)
  Sends status.ReadUnfinished l = Unit {0}
  Sends status.TableFull l = Unit {0}
  Sends status.OutOfRange l = Unit {0}
  Sends status.OutputShort l = Unit {0}
  Sends status.WrongState l = Unit {0}
  Sends status.NoSuchKey l = Unit {0}
  Sends status.KeyInUse l = Unit {0}
  Sends status.BadNumber l = Unit {0}

  module _ (S : Sound arrival.whole.pair) (P : arrival.whole.pair.setup.pkey < 2 ^ 16) (M : Bytes arrival.memory)
      (B : Bytes arrival.packet) (W : SavedSound arrival.whole.saved arrival.whole.pair.saved) where
    store-reply : (t : OpenMessage) (entry region : List ℕ) (b : Bool) → (packet_in arrival.packet).ackreq ≡ b
        → Sends (cond b status.Acknowledged status.Executed) (left_by arrival (store_payload (packet_in arrival.packet).ackreq 1 (packet_in arrival.packet) t entry region))
    unfolding store_payload packet_of header_of
    store-reply t entry region true e =
        ack-sent arrival S P (store_payload (packet_in arrival.packet).ackreq 1 (packet_in arrival.packet) t entry region) (ap (λ b. cond b 17 255) e) (psn-small arrival.packet B) (omega arith)
    store-reply t entry region false e = tt

    swap-reply : (t : OpenMessage) (region : List ℕ) → Swapped (left_by arrival (run_atomic (packet_in arrival.packet) t arrival.whole.pair.message region))
    unfolding left_by value_by saved_by acts_atomic run_atomic packet_of header_of
    swap-reply t region =
        let k = packet_in arrival.packet in
        let d = run_atomic k t arrival.whole.pair.message region in
        let w = word_at arrival.memory d.change.at in (
          d.change.at,
          value-sent arrival S P d w refl (psn-small arrival.packet B) refl (act_by (λ a. cond (acts_atomic a) w 0 ≡ w) refl refl (eqb k.kind 20)) (word_below arrival.memory d.change.at M),
          act_by (λ a. cond (acts_atomic a) (saved_rows arrival.whole.saved arrival.whole.pair.saved d.reply.psn.0 w) arrival.whole.saved ≡ saved_rows arrival.whole.saved arrival.whole.pair.saved d.reply.psn.0 w) refl refl (eqb k.kind 20),
        )

    reply : (d : Decision) → Row Late arrival.whole (packet_in arrival.packet) d → Sends d.status (left_by arrival d)
    unfolding no_reply acknowledging store_payload run_atomic packet_of header_of left_by psn_before value_by acts_atomic sent_by ack_bytes
    reply d (quiet a unread) = tt
    reply d (quiet a outside) = tt
    reply d ahead = ack-sent arrival S P (acknowledging status.SequenceNak arrival.whole.pair.expected 96) refl S.expected (omega arith)
    reply d invalid = ack-sent arrival S P (acknowledging status.InvalidRequestNak (bth_of arrival.packet).psn 97) refl (psn-small arrival.packet B) (omega arith)
    reply d access = ack-sent arrival S P (acknowledging status.AccessNak (bth_of arrival.packet).psn 98) refl (psn-small arrival.packet B) (omega arith)
    reply d unready =
        ack-sent arrival S P (acknowledging status.NotReadyNak (bth_of arrival.packet).psn (32 + arrival.whole.pair.setup.timer)) refl (psn-small arrival.packet B)
        (omega (arith, S.setup.0.timer))
    reply d ack_duplicate =
        inl (ack-sent arrival S P (acknowledging status.DuplicateAnswered (psn_before arrival.whole.pair.expected) 31) refl (after-below arrival.whole.pair.expected _) (omega arith))
    reply d (read_duplicate at n a s) = inr (inr refl)
    reply d (atomic_duplicate v e) =
        inr (inl (
          v,
          e,
          value-sent arrival S P (reply_only status.DuplicateAnswered (sending 18 (bth_of arrival.packet).psn 31 v)) v refl (psn-small arrival.packet B)
              refl refl (subst Small e (saved-small (bth_of arrival.packet).psn.0 arrival.whole.saved arrival.whole.pair.saved W)),
        ))
    reply d (stored t entry region w) = store-reply t entry region (packet_in arrival.packet).ackreq refl
    reply d (begin at n a s) = tt
    reply d (swap t region w) = swap-reply t region

    -- the unreliable connection sends nothing
    uc-reply : (d : Decision) → UcRow Late arrival.whole.pair (packet_in arrival.packet) d → Sends d.status (left_by arrival d)
    unfolding no_reply store_payload
    uc-reply d (unheard a unread) = tt
    uc-reply d (unheard a outside) = tt
    uc-reply d (abandon h) = tt
    uc-reply d (deliver t entry region w) = tt

    any-reply : (d : Decision) → AnyRow Late arrival.whole (packet_in arrival.packet) d → Sends d.status (left_by arrival d)
    any-reply d (reliable e r) = reply d r
    any-reply d (unreliable e r) = uc-reply d r

  -- refused at once, nothing is sent
  quiet-reply : (a : Status) (l : Left) → Quiet a → Sends a l
  quiet-reply a l dropped = tt
  quiet-reply a l short = tt
  quiet-reply a l range = tt
  quiet-reply a l unfinished = tt

  is : (a : Status) (l : Left) (n : ℕ) → status_number a ≡ n → Sends a l → Sends (status_of n) l
  is a l n e x = subst (λ b. Sends b l) (sym (number-back a) ∙ ap status_of e) x

  replies : (a : Status) (l : Left) → l.number ≡ status_number a → Sends a l → Replies arrival l
  unfolding status_of
  replies a l e x =
      record {
        acknowledged = λ h. is a l 1 (sym e ∙ h) x;
        swapped = λ h. is a l 3 (sym e ∙ h) x;
        duplicate = λ h. is a l 4 (sym e ∙ h) x;
        sequence = λ h. is a l 16 (sym e ∙ h) x;
        invalid = λ h. is a l 17 (sym e ∙ h) x;
        access = λ h. is a l 18 (sym e ∙ h) x;
        unready = λ h. is a l 19 (sym e ∙ h) x;
      }

refused-status : (a : Arrival) → executed (refusal_of a) ≡ false → (decision a).status ≡ refusal_of a
unfolding decision no_reply
refused-status a e = rw e

pub inbound-replies : InboundReplies
unfolding inbound left_by
inbound-replies a P M B W = replies a d.status (left_by a d) refl (go (executed (refusal_of a)) refl)
  where
    d : Decision
    d = decision a

    go : (b : Bool) → executed (refusal_of a) ≡ b → Sends a d.status (left_by a d)
    go true e =
        any-reply a (passed a.whole.pair (length a.memory) (length a.out) e).1 P M B W d
        (taken-row Late unread a (record { rc = λ region z. outside; uc = λ region z. outside }) e)
    go false e =
        subst (λ s. Sends a s (left_by a d)) (sym (refused-status a e))
        (quiet-reply a (refusal_of a) (left_by a d) (refusal-quiet a.whole.pair (length a.memory) (length a.out) e))
