use Rattle.responder_spec.specs.Reply.{index_of}
use Rattle.acknowledge.proofs.response.index_of.Goals as goal

pub returns : goal.returns
unfolding index_of
returns c = simp (← c.count-count.ensures, ← c.saturating_sub.ensures)
