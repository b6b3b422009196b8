-- Where the bytes of a SEND's or WRITE's packet are stored, and when it reports a completion: alike on both services.
use Prim.Native.Nat.{ℕ, suc, ◌+◌, ◌*◌, ◌≤◌, ◌<◌}
use mathlib.Core.Path.{◌≡◌, refl, sym, ap, ◌∙◌}
use mathlib.Core.Bool.{Bool, true, false, cond, ◌&&◌, ◌||◌}
use mathlib.Core.List.{List}
use native.Mathlib.Omega.{arith}
use lib.Dec.{eqb}
use lib.ListN.{length, get_or}
use borrow.Author.Tests.{eqb-true, eqb-false}
use Rattle.lemmas.proofs.Auto.{tests}
use Rattle.memory.specs.Memory.{overwrite, store}
use Rattle.memory.proofs.Overwrite.{store-overwrite, overwrite-none, store-none}
use Rattle.opcode.specs.Place.{ends}
use Rattle.pmtu.specs.Pieces.{piece_at}
use Rattle.table.specs.View.{region_of}
use Rattle.table.specs.Claims.{RegionsSound}
use Rattle.table.specs.declared.Entry.{Entry}
use Rattle.pair.specs.Claims.{SetupFit}
use Rattle.pair.specs.declared.Setup.{Setup}
use Rattle.pair.specs.declared.OpenMessage.{OpenMessage}
use Rattle.cut_spec.specs.Claims.{kind_number}
use Rattle.request_spec.specs.Verdict.{payload_size, current}
use Rattle.responder_spec.specs.Decide.{region_for, completes, target_offset, store_payload}
use Rattle.responder_spec.specs.Apply.{memory_by}
use Rattle.delivery_spec.specs.Stream.{packet_count, Slot, packet_at}
use Rattle.delivery_spec.specs.Plain.{region_offset, takes_entry, is_last}
use Rattle.delivery_spec.specs.Demand.{LiesInRegion}
use Rattle.delivery_steps.proofs.Chain.{Stands}
use Rattle.delivery_steps.proofs.Places.{Sizes}
use Rattle.delivery_steps.proofs.Cutting.{slot_size, place_for, cut_packet, sizes}
use Rattle.delivery_steps.proofs.Operands.{address_of, key_of}
use Rattle.delivery_steps.proofs.Rel.{IsOf, OpenedFor}
use Rattle.delivery_steps.proofs.Fitting.{payload-total, write-right}
use Rattle.delivery_steps.proofs.Checks.{ends_is, says, now}
use Rattle.delivery_steps.proofs.Verdicts.{offset-is}
use Rattle.delivery_steps.proofs.Requests.{Carries, Sends, Writes}
use Rattle.delivery_steps.proofs.Storing.{slot-payload-is, storing-bytes, length-piece}

twice : (b c : Bool) → (b && (b && c)) ≡ (b && c)
twice true c = refl
twice false c = refl

module _ (s : Setup) (regions : List (List ℕ)) (f : SetupFit s) (t : Slot) (H : Stands s regions t) (opened : OpenMessage) (held : List Entry)
    (U : OpenedFor (eqb t.index 0) t opened held) (C : Carries t.message.request) (entry : List ℕ) where
  abbrev M : OpenMessage
  M = current opened (cut_packet t)

  abbrev region : List ℕ
  region = region_for (kind_number t.message.request) M.key regions

  abbrev piece : List ℕ
  piece = piece_at t.message.bytes t.message.connection.pmtu t.index

  abbrev off : ℕ
  off = t.index * t.message.connection.pmtu

  N : IsOf t M
  N = now s regions f t H opened held U

  last-is : ends (place_for t) ≡ is_last t
  last-is = ends_is s regions f t H opened held U

  sized : Sizes t.index (packet_count t.message) (slot_size t) t.message.connection.pmtu (length t.message.bytes)
  sized = sizes s f t H.outgoing C.carrier

  pub inside : t.index * t.message.connection.pmtu + slot_size t ≤ length t.message.bytes
  inside = payload-total t.index (packet_count t.message) (slot_size t) t.message.connection.pmtu (length t.message.bytes) H.outgoing.inside sized

  piece-long : length piece ≡ slot_size t
  piece-long = length-piece s regions f t H opened held U C entry region

  bytes-are : (m : List ℕ) → memory_by (store_payload (cut_packet t).ackreq 1 (cut_packet t) M entry region).change m (packet_at t) ≡ store m (target_offset (kind_number t.message.request) M entry region) piece
  bytes-are m = storing-bytes s regions f t H opened held U C entry region m

  module _ (Z : Sends t.message.request) where
    pub send-memory-is : (m : List ℕ) → get_or entry 1 0 + get_or entry 2 0 ≤ length m → length t.message.bytes ≤ get_or entry 2 0
        → memory_by (store_payload (cut_packet t).ackreq 1 (cut_packet t) M entry region).change m (packet_at t) ≡ overwrite m (get_or entry 1 0 + off) piece
    unfolding target_offset
    send-memory-is m o large =
        let a : get_or entry 1 0 + M.stored ≡ get_or entry 1 0 + off = omega (arith, N.stored) in
        bytes-are m
        ∙ (ap (λ k. store m (target_offset k M entry region) piece) Z.kind
        ∙ (ap (λ k. store m k piece) a ∙ store-overwrite m (get_or entry 1 0 + off) piece (omega (arith, piece-long, inside, o, large))))

    pub send-completes : completes (kind_number t.message.request) (place_for t) (cut_packet t).operands.immediate ≡ (is_last t && takes_entry t.message.request)
    unfolding completes
    send-completes = rw (Z.kind, last-is, Z.takes_entry)

    pub send-long : is_last t ≡ true → cond (eqb (kind_number t.message.request) 0) (M.stored + payload_size (cut_packet t)) M.length ≡ length t.message.bytes
    send-long e =
        let z = sized.last (eqb-true (suc t.index) (packet_count t.message) e) in
        let n = slot-payload-is s regions f t H opened held U C entry region in
        ap (λ y. cond (eqb y 0) (M.stored + payload_size (cut_packet t)) M.length) Z.kind ∙ omega (arith, N.stored, n, z.2)

  module _ (Z : Writes t.message.request) where
    pub write-completes : completes (kind_number t.message.request) (place_for t) (cut_packet t).operands.immediate ≡ (is_last t && takes_entry t.message.request)
    unfolding completes
    write-completes =
        let m = (says s regions f t H opened).immediate in
        (λ i. last-is i && (eqb (Z.kind i) 0 || (m ∙ λ j. last-is j && sym Z.takes_entry j) i)) ∙ twice (is_last t) (takes_entry t.message.request)

    pub write-long : cond (eqb (kind_number t.message.request) 0) (M.stored + payload_size (cut_packet t)) M.length ≡ length t.message.bytes
    write-long = ap (λ y. cond (eqb y 0) (M.stored + payload_size (cut_packet t)) M.length) Z.kind ∙ (N.length ∙ Z.named (length t.message.bytes))

    -- where bytes are to come, this packet's offset is among them
    short : 0 < length t.message.bytes → off < length t.message.bytes
    short o = go (is_last t) refl
      where
        zeroth : (i : ℕ) → i ≡ 0 → i * t.message.connection.pmtu ≡ 0
        zeroth i e = omega (arith, ap (λ k. k * t.message.connection.pmtu) e)

        go : (b : Bool) → is_last t ≡ b → off < length t.message.bytes
        go false e = omega (arith, (sized.more (omega (arith, tests, H.outgoing.inside))).1)
        go true e = first (eqb t.index 0) refl
          where
            first : (c : Bool) → eqb t.index 0 ≡ c → off < length t.message.bytes
            first true z = omega (arith, zeroth t.index (eqb-true t.index 0 z))
            first false z =
                let l = sized.last (eqb-true (suc t.index) (packet_count t.message) e) in
                let g : 0 < slot_size t = l.1 (omega (arith, tests)) in
                omega (arith, l.2)

    abbrev to : ℕ
    to = region_offset regions (key_of t.message.request) (address_of t.message.request)

    abbrev keyed : List ℕ
    keyed = region_of (key_of t.message.request) regions

    region-is : region ≡ keyed
    unfolding region_for
    region-is = ap (λ k. region_for k M.key regions) Z.kind ∙ ap (λ k. region_of k regions) N.key

    -- what is named lies in the region
    right : LiesInRegion regions (λ r. r.write) (key_of t.message.request) (address_of t.message.request) (length t.message.bytes)
    right = Z.right s regions (length t.message.bytes) H.allowed

    module _ (sound : RegionsSound s.memory regions) where
      pub in_place : 0 < length t.message.bytes
          → (target_offset 6 M entry keyed ≡ to + off) × (to + length t.message.bytes ≤ s.memory)
      unfolding target_offset
      in_place o =
          offset-is s.memory 6 (key_of t.message.request) (address_of t.message.request) (length t.message.bytes) off regions (λ r. r.write) M sound write-right
          N.address N.stored (N.length ∙ Z.named (length t.message.bytes)) (omega (arith, inside)) right (short o)

      pub write-memory-is : (m : List ℕ) → length m ≡ s.memory
          → memory_by (store_payload (cut_packet t).ackreq 1 (cut_packet t) M entry region).change m (packet_at t) ≡ overwrite m (to + off) piece
      write-memory-is m l =
          bytes-are m
          ∙ ((λ i. store m (target_offset (Z.kind i) M entry (region-is i)) piece) ∙ go (eqb (length t.message.bytes) 0) refl)
        where
          go : (b : Bool) → eqb (length t.message.bytes) 0 ≡ b → store m (target_offset 6 M entry keyed) piece ≡ overwrite m (to + off) piece
          go true e = let z : length piece ≡ 0 = omega (arith, tests, piece-long, inside) in store-none m _ piece z ∙ sym (overwrite-none m (to + off) piece z)
          go false e =
              let w = in_place (omega (arith, eqb-false (length t.message.bytes) 0 e)) in
              ap (λ k. store m k piece) w.0 ∙ store-overwrite m (to + off) piece (omega (arith, piece-long, w.1, inside, l))
