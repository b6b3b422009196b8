-- What is refused, with which number, and that nothing is written then.
use Prim.Native.Nat.{ℕ, ◌+◌, ◌≤◌, ◌<◌}
use mathlib.Core.Path.{◌≡◌, refl, ap}
use Rattle.std.specs.Prelude.{Ok, Err}
use mathlib.Core.Bool.{Bool, true, false, cond, not}
use mathlib.Core.List.{List}
use mathlib.Core.Logic.{◌⊎◌, inl, inr}
use lib.Dec.{ltb, eqb}
use lib.ListN.{length}
use Rattle.header.specs.Write.{header_fits, header_length, answer_number}
use Rattle.header.specs.declared.Header.{Header}
use Rattle.header.specs.declared.Refusal.{Refusal}
use Rattle.header.specs.declared.Refusal.TheVariants.{OutOfRange, OutputShort, BadNumber}
use Rattle.packet.specs.Packet.{pad_of, packet_length, checked_size, packet_written, refusal_by, packet_answer}
use Rattle.packet.specs.Claims.{Refuses, Unfit, TooLong, TooShort, Numbers}
use Rattle.packet.proofs.Passes.{unfit, too_long, too_short}
use Rattle.packet.proofs.Bytes.{no}

refuses : (h : Header) (d out : List ℕ) (r : Refusal) → packet_written h (length d) (length out) ≡ Err r → Refuses h d out r
refuses h d out r e = record { answer = e; output = no h d out r e }

pub packet-unfit : Unfit
unfolding packet_written
packet-unfit h d out e =
    refuses h d out BadNumber (unfit (not (header_fits h)) h.bth.pad (header_length h) (length d) (length out) (go e))
  where
    go : (header_fits h ≡ false) ⊎ (h.bth.pad ≡ pad_of (length d) → ⊥)
        → (not (header_fits h) ≡ true) ⊎ (h.bth.pad ≡ pad_of (length d) → ⊥)
    go (inl f) = inl (ap not f)
    go (inr f) = inr f

pub packet-long : TooLong
unfolding packet_written packet_length
packet-long h d out good pad l =
    refuses h d out OutOfRange (too_long (not (header_fits h)) h.bth.pad (header_length h) (length d) (length out) (ap not good) pad l)

pub lacking : (h : Header) (n room : ℕ) → header_fits h ≡ true → h.bth.pad ≡ pad_of n → packet_length h n ≤ 4128
    → room < packet_length h n → packet_written h n room ≡ Err OutputShort
unfolding packet_written packet_length
lacking h n room good pad short few =
    too_short (not (header_fits h)) h.bth.pad (header_length h) n room (ap not good) pad short few

pub packet-short : TooShort
packet-short h d out good pad short few =
    refuses h d out OutputShort (lacking h (length d) (length out) good pad short few)

number-by : (u : Bool) (p h n m : ℕ) → answer_number (checked_size u p h n m) ≡ refusal_by u p h n m
unfolding checked_size refusal_by answer_number
number-by u p h n m = go u (eqb p (pad_of n)) (ltb 4128 (h + (n + pad_of n))) (ltb m (h + (n + pad_of n)))
  where
    go : (a b c d : Bool) → answer_number (cond a (Err BadNumber) (cond (not b) (Err BadNumber) (cond c (Err OutOfRange) (cond d (Err OutputShort) (Ok (h + (n + pad_of n)))))))
        ≡ cond a 39 (cond (not b) 39 (cond c 34 (cond d 35 0)))
    go true b c d = refl
    go false false c d = refl
    go false true true d = refl
    go false true false true = refl
    go false true false false = refl

pub packet-numbers : Numbers
unfolding packet_written packet_answer
packet-numbers h n room = number-by (not (header_fits h)) h.bth.pad (header_length h) n room
