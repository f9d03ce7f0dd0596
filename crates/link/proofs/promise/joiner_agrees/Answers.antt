use Rattle.frames.proofs.Joining.{joiner_agrees}
use Rattle.link.proofs.promise.joiner_agrees.Goals as goal

pub returns : goal.returns
returns g c = joiner_agrees g.S.SettlingCode.settling g.S.LineCode.back g.K.Check.good g.met.S.LineCode.receives g.met.S.SettlingCode.settled
