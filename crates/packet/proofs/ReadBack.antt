-- A written packet reads as its header and its payload.
use Prim.Native.Nat.{ℕ, ◌+◌, ◌-◌, ◌%◌, ◌≤◌}
use mathlib.Core.Path.{◌≡◌, refl, sym, ap, ◌∙◌}
use mathlib.Core.Bool.{true, not}
use mathlib.Core.List.{List, ◌++◌, append_assoc}
use native.Mathlib.Omega.{arith}
use lib.ListN.{length, take, drop, replicate, length-append, length-replicate}
use lib.Seq.{take_at, drop_at}
use Rattle.std.specs.Prelude.{Ok}
use Rattle.lemmas.proofs.Tests.{not-false}
use Rattle.header.specs.Read.{header_of, read_header}
use Rattle.header.specs.Write.{header_bytes, header_fits, header_length}
use Rattle.header.specs.declared.Header.{Header}
use Rattle.std.specs.Prelude.{Ok}
use Rattle.header.proofs.Lengths.{length-header}
use Rattle.header.proofs.ReadBack.{read-packet}
use Rattle.header.proofs.Reasons.{accepted}
use Rattle.packet.specs.Packet.{pad_of, packet_bytes, packet_length, packet_written, packet_out, payload_of}
use Rattle.packet.specs.Claims.{Found, ReadBack, Writes}
use Rattle.packet.proofs.Pads.{pad-fills}
use Rattle.packet.proofs.Passes.{passed, passes}
use Rattle.packet.proofs.Bytes.{length-packet, yes}

-- the payload, behind the header that the packet's bytes have
payload-back : (h : Header) (d : List ℕ) → header_fits h ≡ true → h.bth.pad ≡ pad_of (length d)
    → header_of (packet_bytes h d) ≡ h → payload_of (packet_bytes h d) ≡ d
unfolding payload_of packet_bytes
payload-back h d good pad is =
    let b = header_bytes h in
    let z = replicate {A = ℕ} (pad_of (length d)) 0 in
    let lb : length b ≡ header_length h = length-header h good in
    let lz : length z ≡ pad_of (length d) = length-replicate (pad_of (length d)) 0 in
    let l : length (b ++ (d ++ z)) - header_length h - h.bth.pad ≡ length d = omega (arith, length-append b (d ++ z), length-append d z) in
    ap (λ x. take (length (b ++ (d ++ z)) - header_length x - x.bth.pad) (drop (header_length x) (b ++ (d ++ z)))) is
    ∙ (ap (λ n. take n (drop (header_length h) (b ++ (d ++ z)))) l
    ∙ (ap (take (length d)) (drop_at b (d ++ z) (header_length h) lb) ∙ take_at d z (length d) refl))

-- it stands right behind the headers
within : (h : Header) (d : List ℕ) → header_fits h ≡ true → take (length d) (drop (header_length h) (packet_bytes h d)) ≡ d
unfolding packet_bytes
within h d good =
    let z = replicate {A = ℕ} (pad_of (length d)) 0 in
    ap (take (length d)) (drop_at (header_bytes h) (d ++ z) (header_length h) (length-header h good)) ∙ take_at d z (length d) refl

-- the pad, behind both
behind : (h : Header) (d : List ℕ) → header_fits h ≡ true
    → drop (header_length h + length d) (packet_bytes h d) ≡ replicate (pad_of (length d)) 0
unfolding packet_bytes
behind h d good =
    let b = header_bytes h in
    let z = replicate {A = ℕ} (pad_of (length d)) 0 in
    let l : length (b ++ d) ≡ header_length h + length d = length-append b d ∙ ap (λ n. n + length d) (length-header h good) in
    ap (drop (header_length h + length d)) (sym (append_assoc b d z)) ∙ drop_at (b ++ d) z (header_length h + length d) l

-- the bytes of a packet, read
pub found : (h : Header) (d : List ℕ) → header_fits h ≡ true → h.bth.pad ≡ pad_of (length d)
    → packet_length h (length d) ≤ 4128 → Found h d (packet_bytes h d)
unfolding packet_length packet_bytes
found h d good pad short =
    let z = replicate {A = ℕ} (pad_of (length d)) 0 in
    let lz : length (d ++ z) ≡ length d + pad_of (length d) = length-append d z ∙ ap (λ n. length d + n) (length-replicate (pad_of (length d)) 0) in
    let words : length (d ++ z) % 4 ≡ 0 = ap (λ n. n % 4) lz ∙ pad-fills (length d) in
    let read : read_header (header_bytes h ++ (d ++ z)) ≡ Ok h = read-packet h (d ++ z) good words (omega arith) in
    record {
      header = read;
      payload = payload-back h d good pad (accepted (packet_bytes h d) h read).1;
      bytes = within h d good;
      zeros = behind h d good ∙ ap (λ n. replicate n 0) (sym pad);
    }

-- such a packet is written
pub none : (h : Header) (n room : ℕ) → header_fits h ≡ true → h.bth.pad ≡ pad_of n → packet_length h n ≤ 4128
    → packet_length h n ≤ room → packet_written h n room ≡ Ok (packet_length h n)
unfolding packet_written packet_length
none h n room good pad short enough =
    passes (not (header_fits h)) h.bth.pad (header_length h) n room
    (record { good = ap not good; pad = pad; short = short; room = enough })

pub writes : Writes
writes h d out good pad short room =
    let e = none h (length d) (length out) good pad short room in
    (e, yes h d out _ e)

pub read_back : ReadBack
unfolding packet_written packet_length
read_back h d out n e =
    let D = passed (not (header_fits h)) h.bth.pad (header_length h) (length d) (length out) n e in
    let P = D.0 in
    let good = not-false (header_fits h) (not (header_fits h)) refl P.good in
    let W = writes h d out good P.pad P.short P.room in
    let same : take n (packet_out h d out) ≡ packet_bytes h d =
    ap (take n) W.1
    ∙ take_at (packet_bytes h d) (drop (packet_length h (length d)) out) n (length-packet h d good ∙ sym D.1) in
    let F = found h d good P.pad P.short in
    record {
      header = ap read_header same ∙ F.header;
      payload = ap payload_of same ∙ F.payload;
      bytes = ap (λ p. take (length d) (drop (header_length h) p)) same ∙ F.bytes;
      zeros = ap (drop (header_length h + length d)) same ∙ F.zeros;
    }
