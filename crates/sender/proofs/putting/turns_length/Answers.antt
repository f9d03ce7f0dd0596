use Rattle.std.proofs.Common.{◌*◌, length, sym, ap, ◌∙◌}
use Rattle.sender.proofs.Puts.{repeated_long}
use Rattle.sender.proofs.putting.turns_length.Goals as goal

pub returns : goal.returns
returns c = ap (λ n. length c.args.turn.now * n) c.from.ensures ∙ sym (repeated_long c.args.turn.now c.args.times)
