use Rattle.frames.proofs.Ends.{hearing_ends}
use Rattle.link.proofs.promise.hearing_ends.Goals as goal

pub returns : goal.returns
returns g c = hearing_ends g.K.Check.good
