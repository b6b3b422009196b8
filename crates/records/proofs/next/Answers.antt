-- The two bytes of the length and the packet, as they were read, are the record; what was read before an error is gone.
use Rattle.std.proofs.Common.{ℕ, ◌≡◌, ◌≤◌, List, length, take, rules, ◌++◌, Result, Ok, Err, OnErr, subst, sym, ◌∙◌, take_all}
use Rattle.std.specs.Prelude.{Option}
use Rattle.std.specs.Int.{w16, to_be_bytes}
use Rattle.std.specs.Io.KnownBytes.{Consumes}
use Rattle.std.proofs.KnownBytes.{Consumes-trans}
use Rattle.records.specs.Next.{record_of, TakesSome}
use Rattle.records.proofs.next.Goals as goal

Consumes-record : (a b c : Option (List ℕ)) (two p : List ℕ) (m n : ℕ) → to_be_bytes w16 (length p) ≡ two → length two ≤ m → length p ≤ n
    → Consumes a b (take m two) → Consumes b c (take n p) → Consumes a c (record_of p)
Consumes-record a b c two p m n says all whole first second =
    Consumes-trans a b c _ _ (subst (Consumes a b) (take_all m two all ∙ sym says) first) (subst (Consumes b c) (take_all n p whole) second)

TakesSome-after : (a b c : Option (List ℕ)) (bs : List ℕ) → Consumes a b bs → TakesSome b c → TakesSome a c
TakesSome-after a b c bs first second = (bs ++ second.0, Consumes-trans a b c bs second.0 first second.1)

on_err : {T E P : Type 0} (r : Result T E) → P → OnErr r P
on_err (Ok x) p = tt
on_err (Err e) p = p

pub returns-clause-ok : goal.returns-clause-ok
returns-clause-ok g c = (search rules, Consumes-record _ _ _ c.fill.new.buf c.fill-2.new.buf c.in_ok-fill.field-0 c.in_ok-fill-2.field-0 (search rules) (search rules) (search rules) c.in_ok-fill.ensures.bytes c.in_ok-fill-2.ensures.bytes)

pub returns-in_err-fill-2-clause-err : goal.returns-in_err-fill-2-clause-err
returns-in_err-fill-2-clause-err g c = on_err _ (TakesSome-after _ _ _ _ c.in_ok-fill.ensures.bytes c.in_err-fill-2.ensures.err)

pub returns-then-branch-packet-clause-ok : goal.returns-then-branch-packet-clause-ok
returns-then-branch-packet-clause-ok g c = (search rules, TakesSome-after _ _ _ _ c.in_ok-fill.ensures.bytes (_, c.in_ok-fill-2.ensures.bytes), search rules)
