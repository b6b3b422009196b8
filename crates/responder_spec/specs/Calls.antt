-- The pair with its tables, before and after a call of the responder.
use Rattle.std.specs.Prelude.{ℕ, cond, List, [], ◌∷◌}
use Rattle.pair.specs.Calls.{Whole, with_pair}
use Rattle.responder_spec.specs.declared.Completion.{Completion}
use Rattle.responder_spec.specs.Response.{next_response}

-- next response writes none of the tables
unfoldable pub drained : Whole → List ℕ → List ℕ → Whole
drained w m out = with_pair w (next_response w.pair m out).pair

-- what a call reports to the host: one completion or none
abbrev pub reports : Completion → List Completion
reports c = cond c.some (c ∷ []) []
