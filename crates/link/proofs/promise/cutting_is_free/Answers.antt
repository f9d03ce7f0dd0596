use Rattle.frames.proofs.Cutting.{cutting_is_free}
use Rattle.link.proofs.promise.cutting_is_free.Goals as goal

pub returns : goal.returns
returns g c = cutting_is_free g.C.LineCode.back g.D.LineCode.back g.K.Check.good g.met.C.LineCode.receives g.met.D.LineCode.receives
