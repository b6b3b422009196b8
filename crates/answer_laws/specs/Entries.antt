-- What the calls of the responder do to the ring of entries, on both services; the proofs stand in proofs/.
use Rattle.std.specs.Prelude.{ℕ, ◌+◌, ◌-◌, ◌%◌, ◌≤◌, ◌<◌, ◌≡◌, true, false, List, [], get_or}
use Rattle.responder_spec.specs.Arrival.{Arrival}
use Rattle.table.specs.declared.Ring.{Ring}
use Rattle.pair.specs.declared.Pair.{Pair}
use Rattle.responder_spec.specs.declared.Completion.{Completion}
use Rattle.responder_spec.specs.Inbound.{inbound}
use Rattle.responder_spec.specs.Response.{next_response}

-- The ring before and after: what completes has used up the entry at the head, which was there, and names its number;
-- where nothing completes, the ring is as it was.
pub record Uses (old : Ring) (entries : List (List ℕ)) (c : Completion) (new : Ring) : Type 0 where
  pub there : c.some ≡ true → (old.head < 16) × (1 ≤ old.count)
  pub names : c.some ≡ true → c.number ≡ get_or (get_or entries old.head []) 0 0
  pub moves : c.some ≡ true → new ≡ (record { head = (old.head + 1) % 16; count = old.count - 1 })
  pub stays : c.some ≡ false → new ≡ old

-- For every pair, whatever the tables, memory, packet and output hold: a pair that no call made is refused, and nothing
-- completes.
abbrev pub InboundUses : Type 0
InboundUses =
    (a : Arrival)
    → Uses a.whole.pair.entries a.whole.entries (inbound a).completion
    (inbound a).whole.pair.entries

abbrev pub NextUses : Type 0
NextUses =
    (q : Pair) (entries : List (List ℕ)) (m out : List ℕ)
    → Uses q.entries entries (next_response q m out).completion (next_response q m out).pair.entries
