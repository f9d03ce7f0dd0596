use Rattle.std.proofs.Common.{rules}
use Rattle.std.proofs.lemmas.Iterator.{IsFirst-from_position, YieldsList-from_slice}
use borrow.Author.Tests.{tests}
use Rattle.script.proofs.Ends.{IsEnd, IsNoEnd, ends_at_first}
use Rattle.script.proofs.lines.end_of_line.Goals as goal

pub returns : goal.returns
returns c =
    ends_at_first c.args.text.now c.position.result
    (IsFirst-from_position _ _ _ IsEnd IsNoEnd c.position.ensures.ran (YieldsList-from_slice c.args.text.now cc) (λ x q k. search (rules, tests)) (λ x q k. search (rules, tests)))
