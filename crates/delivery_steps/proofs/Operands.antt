-- What a request says, by kind, and that the headers of its packets say it.
use Prim.Native.Nat.{ℕ, ◌≤◌}
use mathlib.Core.Path.{◌≡◌, refl, sym}
use mathlib.Core.Bool.{Bool, true, false, ◌&&◌, true≢false}
use borrow.Author.Tests.{le-ltb}
use Rattle.opcode.specs.Place.{starts, ends}
use Rattle.pmtu.specs.Pieces.{place_at}
use Rattle.pair.specs.Sound.{memory_limit}
use Rattle.cut_spec.specs.Cut.{send_extension, reth_for, write_extension, write_end, write_immediate_extension, fetch_add_eth, extension_for}
use Rattle.cut_spec.specs.declared.Request.{Request}
use Rattle.cut_spec.specs.declared.Request.TheVariants.{Send, SendImmediate, Write, WriteImmediate, Read, CmpSwap, FetchAdd}
use Rattle.cut_spec.proofs.Shapes.{by_place}
use Rattle.request_spec.specs.Packet.{operands_of}
use Rattle.request_spec.specs.Verdict.{over_limit}
use Rattle.request_spec.specs.declared.Operands.{Operands}

abbrev pub address_of : Request → ℕ
address_of Send = 0
address_of (SendImmediate v) = 0
address_of (Write t) = t.address
address_of (WriteImmediate t v) = t.address
address_of (Read a) = a.address
address_of (CmpSwap a) = a.address
address_of (FetchAdd t v) = t.address

abbrev pub key_of : Request → ℕ
key_of Send = 0
key_of (SendImmediate v) = 0
key_of (Write t) = t.key
key_of (WriteImmediate t v) = t.key
key_of (Read a) = a.key
key_of (CmpSwap a) = a.key
key_of (FetchAdd t v) = t.key

-- the bytes named, of a message of n bytes
abbrev pub named_of : Request → ℕ → ℕ
named_of Send n = 0
named_of (SendImmediate v) n = 0
named_of (Write t) n = n
named_of (WriteImmediate t v) n = n
named_of (Read a) n = a.length
named_of (CmpSwap a) n = 8
named_of (FetchAdd t v) n = 8

abbrev pub immediate_of : Request → Bool
immediate_of Send = false
immediate_of (SendImmediate v) = true
immediate_of (Write t) = false
immediate_of (WriteImmediate t v) = true
immediate_of (Read a) = false
immediate_of (CmpSwap a) = false
immediate_of (FetchAdd t v) = false

abbrev pub value_of : Request → ℕ
value_of Send = 0
value_of (SendImmediate v) = v
value_of (Write t) = 0
value_of (WriteImmediate t v) = v
value_of (Read a) = 0
value_of (CmpSwap a) = 0
value_of (FetchAdd t v) = 0

-- the operands o of the packet at a place: the immediate at the end, the bytes named at the beginning
pub record Said (r : Request) (n place : ℕ) (o : Operands) : Type 0 where
  pub immediate : o.immediate ≡ (ends place && immediate_of r)
  pub value : ends place ≡ true → o.value ≡ value_of r
  pub limit : named_of r n ≤ 1048576 → over_limit o.length ≡ false
  pub begins : starts place ≡ true → (o.address ≡ address_of r) × (o.key ≡ key_of r) × (o.length ≡ named_of r n)

never : {P : Type 0} → false ≡ true → P
never e = absurd (true≢false (sym e))

none_over : over_limit 0 ≡ false
unfolding over_limit
none_over = refl

not-over : (n : ℕ) → n ≤ 1048576 → over_limit n ≡ false
unfolding over_limit
not-over n h = le-ltb memory_limit n h

abbrev SaidAt : Request → ℕ → ℕ → Type 0
SaidAt r n place = Said r n place (operands_of (extension_for r n place))

pub said : (r : Request) (n count i : ℕ) → SaidAt r n (place_at count i)
unfolding extension_for send_extension write_extension write_end write_immediate_extension reth_for fetch_add_eth operands_of starts ends
said Send n count i =
    by_place (SaidAt Send n)
    (record { immediate = refl; value = λ e. refl; limit = λ l. none_over; begins = λ e. (refl, refl, refl) })
    (record { immediate = refl; value = λ e. refl; limit = λ l. none_over; begins = λ e. (refl, refl, refl) })
    (record { immediate = refl; value = λ e. refl; limit = λ l. none_over; begins = λ e. (refl, refl, refl) })
    (record { immediate = refl; value = λ e. refl; limit = λ l. none_over; begins = λ e. (refl, refl, refl) })
    count i
said (SendImmediate v) n count i =
    by_place (SaidAt (SendImmediate v) n)
    (record { immediate = refl; value = λ e. never e; limit = λ l. none_over; begins = λ e. (refl, refl, refl) })
    (record { immediate = refl; value = λ e. never e; limit = λ l. none_over; begins = λ e. (refl, refl, refl) })
    (record { immediate = refl; value = λ e. refl; limit = λ l. none_over; begins = λ e. (refl, refl, refl) })
    (record { immediate = refl; value = λ e. refl; limit = λ l. none_over; begins = λ e. (refl, refl, refl) })
    count i
said (Write t) n count i =
    by_place (SaidAt (Write t) n)
    (record { immediate = refl; value = λ e. refl; limit = λ l. not-over n l; begins = λ e. (refl, refl, refl) })
    (record { immediate = refl; value = λ e. refl; limit = λ l. none_over; begins = λ e. never e })
    (record { immediate = refl; value = λ e. refl; limit = λ l. none_over; begins = λ e. never e })
    (record { immediate = refl; value = λ e. refl; limit = λ l. not-over n l; begins = λ e. (refl, refl, refl) })
    count i
said (WriteImmediate t v) n count i =
    by_place (SaidAt (WriteImmediate t v) n)
    (record { immediate = refl; value = λ e. never e; limit = λ l. not-over n l; begins = λ e. (refl, refl, refl) })
    (record { immediate = refl; value = λ e. never e; limit = λ l. none_over; begins = λ e. never e })
    (record { immediate = refl; value = λ e. refl; limit = λ l. none_over; begins = λ e. never e })
    (record { immediate = refl; value = λ e. refl; limit = λ l. not-over n l; begins = λ e. (refl, refl, refl) })
    count i
said (Read a) n count i =
    by_place (SaidAt (Read a) n)
    (record { immediate = refl; value = λ e. refl; limit = λ l. not-over a.length l; begins = λ e. (refl, refl, refl) })
    (record { immediate = refl; value = λ e. refl; limit = λ l. not-over a.length l; begins = λ e. (refl, refl, refl) })
    (record { immediate = refl; value = λ e. refl; limit = λ l. not-over a.length l; begins = λ e. (refl, refl, refl) })
    (record { immediate = refl; value = λ e. refl; limit = λ l. not-over a.length l; begins = λ e. (refl, refl, refl) })
    count i
said (CmpSwap a) n count i =
    by_place (SaidAt (CmpSwap a) n)
    (record { immediate = refl; value = λ e. refl; limit = λ l. not-over 8 l; begins = λ e. (refl, refl, refl) })
    (record { immediate = refl; value = λ e. refl; limit = λ l. not-over 8 l; begins = λ e. (refl, refl, refl) })
    (record { immediate = refl; value = λ e. refl; limit = λ l. not-over 8 l; begins = λ e. (refl, refl, refl) })
    (record { immediate = refl; value = λ e. refl; limit = λ l. not-over 8 l; begins = λ e. (refl, refl, refl) })
    count i
said (FetchAdd t v) n count i =
    by_place (SaidAt (FetchAdd t v) n)
    (record { immediate = refl; value = λ e. refl; limit = λ l. not-over 8 l; begins = λ e. (refl, refl, refl) })
    (record { immediate = refl; value = λ e. refl; limit = λ l. not-over 8 l; begins = λ e. (refl, refl, refl) })
    (record { immediate = refl; value = λ e. refl; limit = λ l. not-over 8 l; begins = λ e. (refl, refl, refl) })
    (record { immediate = refl; value = λ e. refl; limit = λ l. not-over 8 l; begins = λ e. (refl, refl, refl) })
    count i
