use Rattle.std.proofs.Common.{take, ap, ◌∙◌}
use Rattle.std.proofs.lemmas.List.{take_min}
use Rattle.octets.proofs.front.Goals as goal

pub returns : goal.returns
returns c = ap (λ k. take k c.args.octets.now) c.min.ensures ∙ take_min c.args.count c.args.octets.now
