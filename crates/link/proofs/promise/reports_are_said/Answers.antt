use Rattle.frames.proofs.Grammar.{reports_are_said, reports_go_on}
use Rattle.link.proofs.promise.reports_are_said.Goals as goal

pub returns : goal.returns
returns c = record { said = reports_are_said; further = reports_go_on }
