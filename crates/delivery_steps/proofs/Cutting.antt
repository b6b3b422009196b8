-- The packet of a slot, as the pair reads it.
use Prim.Native.Nat.{ℕ, ◌+◌, ◌-◌, ◌*◌, ◌^◌, ◌≤◌, ◌<◌}
use mathlib.Core.Path.{◌≡◌, sym, ap, subst, ◌∙◌}
use mathlib.Core.Bool.{true}
use mathlib.Core.List.{List}
use mathlib.Core.Logic.{◌⊎◌, inl, inr}
use native.Mathlib.Omega.{arith}
use lib.ListN.{length, take, drop}
use Rattle.sequence.specs.Sequence.{psn_after}
use Rattle.sequence.proofs.Circle.{after-below}
use Rattle.header.specs.Check.{admitted}
use Rattle.header.specs.Read.{bth_of, header_of, read_header}
use Rattle.header.specs.Write.{header_length}
use Rattle.header.specs.declared.Header.{Header}
use Rattle.std.specs.Prelude.{Ok}
use Rattle.header.proofs.Reasons.{accepted}
use Rattle.packet.specs.Packet.{pad_of, packet_length, payload_of}
use Rattle.packet.proofs.Bytes.{length-packet}
use Rattle.pmtu.specs.Pieces.{place_at}
use Rattle.pmtu.specs.Claims.{IsPmtu}
use Rattle.pair.specs.declared.Setup.{Setup}
use Rattle.pair.specs.Claims.{SetupFit}
use Rattle.cut_spec.specs.Message.{message_length}
use Rattle.cut_spec.specs.Cut.{extension_for, header_at, payload_at, cut_bytes}
use Rattle.cut_spec.specs.Claims.{Carrier, Fit, Cuttable, kind_number}
use Rattle.cut_spec.proofs.Numbers.{cut-marked, psn-at}
use Rattle.cut_spec.proofs.Fits.{header-fits}
use Rattle.cut_spec.proofs.Whole.{cut-reads, cut-pad, cut-full, cut-last, cut-admitted}
use Rattle.request_spec.specs.Packet.{operands_of, packet_of}
use Rattle.request_spec.specs.declared.Packet.{Packet}
use Rattle.delivery_spec.specs.Stream.{packet_count, Slot, packet_at}
use Rattle.delivery_steps.proofs.Chain.{Served, Sent}
use Rattle.delivery_steps.proofs.Places.{Sizes}

abbrev pub header_for : Slot → Header
header_for t = header_at t.message.connection t.message.request (length t.message.bytes) t.first t.index

abbrev pub payload_for : Slot → List ℕ
payload_for t = payload_at t.message.connection t.message.request t.message.bytes t.index

abbrev pub slot_size : Slot → ℕ
slot_size t = length (payload_for t)

abbrev pub place_for : Slot → ℕ
place_for t = place_at (packet_count t.message) t.index

abbrev pub cut_packet : Slot → Packet
cut_packet t =
    record {
      kind = kind_number t.message.request;
      place = place_for t;
      ackreq = (header_for t).bth.ackreq;
      pad = pad_of (slot_size t);
      psn = psn_after t.first t.index;
      start = header_length (header_for t);
      body = slot_size t + pad_of (slot_size t);
      operands = operands_of (extension_for t.message.request (message_length t.message.request (length t.message.bytes)) (place_for t));
    }

module _ (s : Setup) (f : SetupFit s) (t : Slot) (h : Sent s t) where
  pub pmtu-is : IsPmtu t.message.connection.pmtu
  pmtu-is = subst IsPmtu (sym h.addressed.pmtu) f.pmtu

  served : Served s t.message.request
      → (t.message.connection.service ≡ 0) ⊎ ((t.message.connection.service ≡ 1) × Carrier t.message.request)
  served (inl e) = inl (h.addressed.service ∙ e)
  served (inr (e, c)) = inr (h.addressed.service ∙ e, c)

  fit : Fit t.message.connection t.message.request t.first.0
  fit =
      let e : t.message.connection.dest ≡ s.ours = h.addressed.dest in
      let o : s.ours < 2 ^ 24 = f.ours in
      record { pmtu = pmtu-is; service = served h.served; dest = omega arith; first = h.first }

  pub cuttable : Cuttable t.message.connection t.message.request (length t.message.bytes) t.first.0
  cuttable = record { fit = fit; limit = h.addressed.limit; pkey = omega (arith, h.addressed.pkey); widths = h.addressed.widths }

  reads : read_header (packet_at t) ≡ Ok (header_for t)
  unfolding packet_at
  reads = (cut-reads t.message.connection t.message.request t.message.bytes t.first t.index cuttable h.inside).header

  pub admits : admitted s.service s.ours s.pkey true (packet_at t) ≡ Ok (header_for t)
  unfolding packet_at
  admits =
      subst (λ x. admitted x s.ours s.pkey true (packet_at t) ≡ Ok (header_for t)) h.addressed.service
      (subst (λ x. admitted t.message.connection.service x s.pkey true (packet_at t) ≡ Ok (header_for t)) h.addressed.dest
      (cut-admitted t.message.connection t.message.request t.message.bytes t.first t.index s.pkey cuttable h.inside h.addressed.match))

  psn-is : (header_for t).bth.psn ≡ psn_after t.first t.index
  psn-is = psn-at t.message.connection t.message.request (length t.message.bytes) t.first t.index

  -- what reading finds as its PSN has 24 bits
  pub psn-small : (bth_of (packet_at t)).psn.0 < 2 ^ 24
  unfolding header_of
  psn-small =
      let e : (bth_of (packet_at t)).psn.0 ≡ (psn_after t.first t.index).0 =
      ap (λ x. x.bth.psn.0) (accepted (packet_at t) (header_for t) reads).1 ∙ ap (λ x. x.0) psn-is in
      omega (arith, after-below t.first t.index)

  payload-is : payload_of (packet_at t) ≡ payload_for t
  unfolding packet_at
  payload-is = (cut-reads t.message.connection t.message.request t.message.bytes t.first t.index cuttable h.inside).payload

  pad-is : (header_for t).bth.pad ≡ pad_of (slot_size t)
  unfolding packet_at
  pad-is = cut-pad t.message.connection t.message.request t.message.bytes t.first t.index cuttable ∙ ap (λ x. pad_of (length x)) payload-is

  body_is : length (packet_at t) - header_length (header_for t) ≡ slot_size t + pad_of (slot_size t)
  unfolding packet_at cut_bytes packet_length
  body_is =
      let l = length-packet (header_for t) (payload_for t) (header-fits t.message.connection t.message.request (length t.message.bytes) t.first t.index cuttable) in
      omega (arith, l)

  pub is-packet : packet_of (header_for t) (length (packet_at t)) ≡ cut_packet t
  unfolding packet_of header_at header_length
  is-packet =
      let m = cut-marked t.message.connection t.message.request (length t.message.bytes) t.first t.index fit h.inside in
      λ k.
      record {
        kind = m.kind k;
        place = m.place k;
        ackreq = (header_for t).bth.ackreq;
        pad = pad-is k;
        psn = psn-is k;
        start = header_length (header_for t);
        body = body_is k;
        operands = operands_of (extension_for t.message.request (message_length t.message.request (length t.message.bytes)) (place_for t));
      }

  -- the payload stands behind the headers
  pub carried-is : take (slot_size t) (drop (header_length (header_for t)) (packet_at t)) ≡ payload_for t
  unfolding packet_at
  carried-is = (cut-reads t.message.connection t.message.request t.message.bytes t.first t.index cuttable h.inside).bytes

  pub sizes : Carrier t.message.request → Sizes t.index (packet_count t.message) (slot_size t) t.message.connection.pmtu (length t.message.bytes)
  unfolding packet_at
  sizes r =
      record {
        more = λ l.
            let g = cut-full t.message.connection t.message.request t.message.bytes t.first t.index cuttable l in
            (ap length (sym payload-is) ∙ g.0, g.1);
        last = λ l.
            let g = cut-last t.message.connection t.message.request t.message.bytes t.first t.index cuttable l in (
              subst (λ x. length x ≤ t.message.connection.pmtu) payload-is g.0,
              (λ o. subst (λ x. 0 < length x) payload-is (g.1 o)),
              subst (λ x. t.index * t.message.connection.pmtu + length x ≡ length t.message.bytes) payload-is (g.2 r),
            );
      }
