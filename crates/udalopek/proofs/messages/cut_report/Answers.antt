use borrow.Author.Rules.{rules}
use Rattle.udalopek_spec.specs.Cutting.{cut_report}
use Rattle.lemmas.proofs.Auto.{tested}
use Rattle.udalopek.proofs.messages.cut_report.Goals as goal

pub returns-then-number-ne0 : goal.returns-then-number-ne0
unfolding cut_report
returns-then-number-ne0 c = search (rules, tested)

pub returns : goal.returns
unfolding cut_report
returns c = search (rules, tested)
