use Rattle.link.proofs.Linking.{linked_new}
use Rattle.link.proofs.link.Link.new.Goals as goal

pub returns-in-Ok-new-clause-made : goal.returns-in-Ok-new-clause-made
returns-in-Ok-new-clause-made g c =
    let one = c.in-Ok.ensures in
    let two = c.in-Ok-new.ensures in
    (one.0, linked_new g.L.LineCode.onward g.D.LineCode.back g.K.Check.owes g.K.Check.passes g.K.Check.owed g.K.Check.good g.K.Check.width g.met.L.LineCode.sends c.args.settings c.args.line c.args.far _ _ one.0 one.1 one.2 two.1 two.2 two.3)
