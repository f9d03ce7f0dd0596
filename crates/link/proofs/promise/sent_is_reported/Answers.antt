use Rattle.frames.proofs.Sent.{sent_is_reported}
use Rattle.link.proofs.promise.sent_is_reported.Goals as goal

pub returns : goal.returns
returns g c =
    sent_is_reported g.C.LineCode.onward g.C.LineCode.back g.D.LineCode.onward g.D.LineCode.back g.K.Check.width g.K.Check.owed g.K.Check.good
    g.met.C.LineCode.sends g.met.C.LineCode.undoes g.met.D.LineCode.receives g.met.K.Check.widths g.met.K.Check.long g.met.K.Check.tells
