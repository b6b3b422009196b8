-- What writing a packet answers and leaves.
use Prim.Native.Nat.{ℕ, ◌+◌, ◌≤◌}
use mathlib.Core.Path.{◌≡◌, sym, ap, subst, ◌∙◌}
use mathlib.Core.Bool.{Bool, true, not}
use mathlib.Core.List.{List, ◌++◌, append_assoc}
use native.Mathlib.Omega.{arith}
use lib.ListN.{length, take, drop, replicate, length-append, length-replicate}
use Rattle.std.specs.Prelude.{Result, Ok, Err}
use Rattle.lemmas.proofs.Tests.{not-false}
use Rattle.memory.specs.Memory.{overwrite, store}
use Rattle.memory.proofs.Overwrite.{store-past, store-overwrite, store-twice, overwrite-start}
use Rattle.opcode.specs.Opcode.{class_of}
use Rattle.opcode.specs.declared.OpcodeClass.{OpcodeClass}
use Rattle.header.specs.Write.{header_bytes, header_fits, header_length, written, written_out}
use Rattle.header.specs.declared.Header.{Header}
use Rattle.header.specs.declared.Refusal.{Refusal}
use Rattle.header.proofs.Lengths.{length-header}
use Rattle.header.proofs.Writes.{done}
use Rattle.packet.specs.Packet.{pad_of, payload_out, packet_bytes, packet_length, checked_size, packet_written, packet_out}
use Rattle.packet.specs.Claims.{PayloadWritten, PayloadLeftOut}
use Rattle.packet.proofs.Passes.{Passed, passed}

-- a packet's length, if its header is one
pub length-packet : (h : Header) (d : List ℕ) → header_fits h ≡ true → length (packet_bytes h d) ≡ packet_length h (length d)
unfolding packet_bytes packet_length
length-packet h d good =
    let z = replicate {A = ℕ} (pad_of (length d)) 0 in
    length-append (header_bytes h) (d ++ z)
    ∙ (ap (λ n. n + length (d ++ z)) (length-header h good)
    ∙ ap (λ n. header_length h + n) (length-append d z ∙ ap (λ n. length d + n) (length-replicate (pad_of (length d)) 0)))

-- a payload that does not fit leaves the output
pub payload-left-out : PayloadLeftOut
unfolding payload_out
payload-left-out out d at h =
    let z = replicate {A = ℕ} (pad_of (length d)) 0 in
    ap (λ w. store w (at + length d) z) (store-past out at d h) ∙ store-past out (at + length d) z (omega arith)

-- one that fits stands in it with its pad
pub payload-written : PayloadWritten
unfolding payload_out overwrite
payload-written out d at h =
    let z = replicate {A = ℕ} (pad_of (length d)) 0 in
    let lz : length z ≡ pad_of (length d) = length-replicate (pad_of (length d)) 0 in
    let l : length (d ++ z) ≡ length d + pad_of (length d) = length-append d z ∙ ap (λ n. length d + n) lz in
    store-twice out at d z (omega arith)
    ∙ (store-overwrite out at (d ++ z) (omega arith) ∙ ap (λ n. take at out ++ ((d ++ z) ++ drop (at + n) out)) l)

-- written whole: the header, the payload behind it, the pad behind that
pub three-parts : (h : Header) (d out : List ℕ) → header_fits h ≡ true → packet_length h (length d) ≤ length out
    → store (store (written_out h out) (header_length h) d) (header_length h + length d) (replicate (pad_of (length d)) 0)
    ≡ packet_bytes h d ++ drop (packet_length h (length d)) out
unfolding packet_bytes packet_length
three-parts h d out good room =
    let b = header_bytes h in
    let z = replicate {A = ℕ} (pad_of (length d)) 0 in
    let lb : length b ≡ header_length h = length-header h good in
    let lz : length z ≡ pad_of (length d) = length-replicate (pad_of (length d)) 0 in
    let first : store out 0 b ≡ written_out h out =
    store-overwrite out 0 b (omega arith) ∙ (overwrite-start out b ∙ (ap (λ n. b ++ drop n out) lb ∙ sym (done h out good (omega arith)).1)) in
    let n1 : 0 + length b ≡ header_length h = omega arith in
    let second : store (written_out h out) (header_length h) d ≡ store out 0 (b ++ d) =
    subst (λ w. store w (header_length h) d ≡ store out 0 (b ++ d)) first
    (subst (λ n. store (store out 0 b) n d ≡ store out 0 (b ++ d)) n1 (store-twice out 0 b d (omega arith))) in
    let lbd : length (b ++ d) ≡ header_length h + length d = length-append b d ∙ ap (λ n. n + length d) lb in
    let n2 : 0 + length (b ++ d) ≡ header_length h + length d = omega arith in
    let third : store (store out 0 (b ++ d)) (header_length h + length d) z ≡ store out 0 ((b ++ d) ++ z) =
    subst (λ n. store (store out 0 (b ++ d)) n z ≡ store out 0 ((b ++ d) ++ z)) n2 (store-twice out 0 (b ++ d) z (omega arith)) in
    let l : length ((b ++ d) ++ z) ≡ header_length h + (length d + pad_of (length d)) = omega (arith, length-append (b ++ d) z) in
    ap (λ w. store w (header_length h + length d) z) second
    ∙ (third
    ∙ (store-overwrite out 0 ((b ++ d) ++ z) (omega arith)
    ∙ (overwrite-start out ((b ++ d) ++ z)
    ∙ (ap (λ n. ((b ++ d) ++ z) ++ drop n out) l
    ∙ ap (λ w. w ++ drop (header_length h + (length d + pad_of (length d))) out) (append_assoc b d z)))))

-- the output, by the answer
pub no : (h : Header) (d out : List ℕ) (r : Refusal) → packet_written h (length d) (length out) ≡ Err r → packet_out h d out ≡ out
unfolding packet_out
no h d out r e = rw e

pub yes : (h : Header) (d out : List ℕ) (n : ℕ) → packet_written h (length d) (length out) ≡ Ok n
    → packet_out h d out ≡ packet_bytes h d ++ drop (packet_length h (length d)) out
unfolding packet_out
yes h d out n e = rw e

-- what the code knows: u says whether there is no such header, k is the class of the opcode, r the size or the refusal
module _ (h : Header) (d out : List ℕ) (u : Bool) (e : u ≡ not (header_fits h)) (k : OpcodeClass)
    (is : k ≡ class_of h.bth.opcode) (r : Result ℕ Refusal)
    (q : r ≡ checked_size u h.bth.pad k.length (length d) (length out)) where
  answer : r ≡ packet_written h (length d) (length out)
  unfolding packet_written header_length
  answer = simp (q, e, is)

  size : k.length ≡ header_length h
  unfolding header_length
  size = ap (λ z. z.length) is

  pub refused : (x : Refusal) → r ≡ Err x → (Err x ≡ packet_written h (length d) (length out)) × (out ≡ packet_out h d out)
  refused x z =
      let a = sym z ∙ answer in
      (a, sym (no h d out x (sym a)))

  pub through : (n : ℕ) → r ≡ Ok n → Passed u h.bth.pad k.length (length d) (length out)
  through n z = (passed u h.bth.pad k.length (length d) (length out) n (sym q ∙ z)).0

  -- the header is written, and how many bytes that are
  pub headers : (n : ℕ) → r ≡ Ok n → written h (length out) ≡ Ok (header_length h)
  headers n z =
      let P = through n z in
      let room : header_length h ≤ length out = omega (arith, P.room, size) in
      (done h out (not-false (header_fits h) u e P.good) room).0

  pub whole : (n : ℕ) → r ≡ Ok n → (m : ℕ) → m ≡ header_length h → (a c : List ℕ) → a ≡ written_out h out → c ≡ payload_out a m d
      → (Ok n ≡ packet_written h (length d) (length out)) × (c ≡ packet_out h d out)
  unfolding packet_length payload_out
  whole n z m i a c x w =
      let P = through n z in
      let good : header_fits h ≡ true = not-false (header_fits h) u e P.good in
      let room : header_length h + (length d + pad_of (length d)) ≤ length out = subst (λ n. n + (length d + pad_of (length d)) ≤ length out) size P.room in
      let y = sym z ∙ answer in (
        y,
        simp (w, x, i) (three-parts h d out good room) ∙ sym (yes h d out n (sym y)),
      )
