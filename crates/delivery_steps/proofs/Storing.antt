-- Packet k of a SEND or WRITE: what both do alike.
use Prim.Native.Nat.{ℕ, ◌+◌, ◌≤◌}
use mathlib.Core.Path.{◌≡◌, refl, sym, ap, ◌∙◌}
use mathlib.Core.Bool.{Bool, true, false, cond, ◌&&◌}
use mathlib.Core.List.{List, [], ◌∷◌}
use native.Mathlib.Omega.{arith}
use lib.Dec.{eqb}
use lib.ListN.{length, get_or, take, drop}
use Rattle.lemmas.proofs.Auto.{tests}
use Rattle.header.specs.Write.{header_length}
use Rattle.memory.specs.Memory.{store}
use Rattle.opcode.specs.Place.{ends}
use Rattle.pmtu.specs.Pieces.{piece_at}
use Rattle.sequence.specs.declared.Msn.{Msn}
use Rattle.pair.specs.Answer.{status_number}
use Rattle.pair.specs.declared.Status.TheVariants as status
use Rattle.pair.specs.Claims.{SetupFit}
use Rattle.pair.specs.declared.Setup.{Setup}
use Rattle.pair.specs.declared.OpenMessage.{OpenMessage}
use Rattle.pair.specs.declared.ReadAnswer.{ReadAnswer}
use Rattle.table.specs.declared.Entry.{Entry}
use Rattle.cut_spec.specs.Claims.{kind_number}
use Rattle.request_spec.specs.Verdict.{payload_size, current}
use Rattle.responder_spec.specs.Decide.{no_completion, completes, completion_of, message_after, store_payload, target_offset}
use Rattle.responder_spec.specs.Apply.{memory_by, read_answer_by}
use Rattle.responder_spec.specs.Calls.{reports}
use Rattle.responder_spec.specs.declared.Completion.{Completion}
use Rattle.delivery_spec.specs.Stream.{Slot, psn_count, packet_at}
use Rattle.delivery_spec.specs.Plain.{takes_entry, completion_with, completions_for, is_last, is_read}
use Rattle.delivery_steps.proofs.Chain.{Stands, further}
use Rattle.delivery_steps.proofs.Cutting.{header_for, slot_size, place_for, cut_packet, carried-is, sizes}
use Rattle.delivery_steps.proofs.Rel.{IsOf, OpenedFor}
use Rattle.delivery_steps.proofs.Checks.{ends_is, says, now}
use Rattle.delivery_steps.proofs.Operands.{immediate_of, value_of}
use Rattle.delivery_steps.proofs.Requests.{Carries}

module _ (s : Setup) (regions : List (List ℕ)) (f : SetupFit s) (t : Slot) (h : Stands s regions t) (opened : OpenMessage) (held : List Entry)
    (U : OpenedFor (eqb t.index 0) t opened held) (C : Carries t.message.request) (entry region : List ℕ) where
  abbrev pub M : OpenMessage
  M = current opened (cut_packet t)

  pub storing-answers : status_number (store_payload (cut_packet t).ackreq 1 (cut_packet t) M entry region).status ≤ 3
  unfolding store_payload status_number
  storing-answers = go (cut_packet t).ackreq
    where
      go : (b : Bool) → status_number (cond b status.Acknowledged status.Executed) ≤ 3
      go true = omega arith
      go false = omega arith

  pub storing-psns : (store_payload (cut_packet t).ackreq 1 (cut_packet t) M entry region).progress.psns ≡ psn_count t
  unfolding store_payload
  storing-psns = sym (C.psn_count t.message.connection.pmtu)

  pub storing-ends : (store_payload (cut_packet t).ackreq 1 (cut_packet t) M entry region).progress.ends ≡ is_last t
  unfolding store_payload
  storing-ends = ends_is s regions f t h opened held U

  pub storing-reads : (a : ReadAnswer) (msn : Msn) (r : ℕ) → a.remaining ≡ r
      → (read_answer_by (store_payload (cut_packet t).ackreq 1 (cut_packet t) M entry region).reply a msn).remaining ≡ cond (is_read t.message.request) (psn_count t) r
  unfolding store_payload read_answer_by
  storing-reads a msn r e = e ∙ ap (λ b. cond b (psn_count t) r) (sym C.read)

  pub slot-payload-is : payload_size (cut_packet t) ≡ slot_size t
  unfolding payload_size
  slot-payload-is = omega arith

  -- the bytes stored are the message's piece
  pub storing-bytes : (m : List ℕ)
      → memory_by (store_payload (cut_packet t).ackreq 1 (cut_packet t) M entry region).change m (packet_at t)
      ≡ store m (target_offset (kind_number t.message.request) M entry region) (piece_at t.message.bytes t.message.connection.pmtu t.index)
  unfolding store_payload memory_by
  storing-bytes m =
      ap (store m (target_offset (kind_number t.message.request) M entry region))
      (ap (λ k. take k (drop (header_length (header_for t)) (packet_at t))) slot-payload-is ∙ (carried-is s f t h.outgoing ∙ C.payload t.message.connection t.message.bytes t.index))

  pub length-piece : length (piece_at t.message.bytes t.message.connection.pmtu t.index) ≡ slot_size t
  length-piece = sym (ap length (C.payload t.message.connection t.message.bytes t.index))

  -- the message that stays open
  pub message-after-last : is_last t ≡ true → (message_after (place_for t) M (payload_size (cut_packet t))).kind ≡ 255
  unfolding message_after
  message-after-last e = rw (ends_is s regions f t h opened held U ∙ e)

  pub message-after-more : is_last t ≡ false → IsOf (further t) (message_after (place_for t) M (payload_size (cut_packet t)))
  unfolding message_after
  message-after-more e =
      let N = now s regions f t h opened held U in
      let z = (sizes s f t h.outgoing C.carrier).more (omega (arith, tests, h.outgoing.inside)) in
      rw (ends_is s regions f t h opened held U ∙ e)
      (record { kind = N.kind; stored = omega (arith, N.stored, slot-payload-is, z.0); address = N.address; key = N.key; length = N.length })

  -- what is reported where a message with an entry ends
  module _ (e : Entry) (completing : completes (kind_number t.message.request) (place_for t) (cut_packet t).operands.immediate ≡ (is_last t && takes_entry t.message.request))
      (number : (is_last t && takes_entry t.message.request) ≡ true → get_or entry 0 0 ≡ e.number)
      (long : is_last t ≡ true → cond (eqb (kind_number t.message.request) 0) (M.stored + payload_size (cut_packet t)) M.length ≡ length t.message.bytes) where
    abbrev completed : Completion
    completed =
        record {
          some = true;
          number = get_or entry 0 0;
          length = cond (eqb (kind_number t.message.request) 0) (M.stored + payload_size (cut_packet t)) M.length;
          immediate = (cut_packet t).operands.immediate;
          value = (cut_packet t).operands.value;
        }

    abbrev reported : Completion
    reported = completion_with e (length t.message.bytes) (immediate_of t.message.request) (value_of t.message.request)

    completes-is : is_last t ≡ true → takes_entry t.message.request ≡ true → completed ≡ reported
    completes-is l q =
        let W = says s regions f t h opened in
        let o : ends (place_for t) ≡ true = ends_is s regions f t h opened held U ∙ l in
        λ k.
        record {
          some = true;
          number = number (λ i. l i && q i) k;
          length = long l k;
          immediate = (W.immediate ∙ ap (λ b. b && immediate_of t.message.request) o) k;
          value = W.value o k;
        }

    pub storing-completes :
        (reports (completion_of (cut_packet t) M (get_or entry 0 0)) ≡ cond (is_last t) (completions_for t.message.request e (length t.message.bytes)) [])
        × ((completion_of (cut_packet t) M (get_or entry 0 0)).some ≡ (is_last t && takes_entry t.message.request))
    unfolding completion_of
    storing-completes = rw (completing, C.completions e (length t.message.bytes)) (go (is_last t) (takes_entry t.message.request) refl refl)
      where
        go : (a b : Bool) → is_last t ≡ a → takes_entry t.message.request ≡ b
            → (reports (cond (a && b) completed no_completion) ≡ cond a (cond b (reported ∷ []) []) [])
            × ((cond (a && b) completed no_completion).some ≡ (a && b))
        go true true l q = (ap (λ c. c ∷ []) (completes-is l q), refl)
        go true false l q = (refl, refl)
        go false b l q = (refl, refl)
