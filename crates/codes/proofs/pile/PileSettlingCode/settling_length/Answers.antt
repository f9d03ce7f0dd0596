use Rattle.codes.specs.Piles.{pile_settles}
use Rattle.codes.proofs.pile.PileSettlingCode.settling_length.Goals as goal

pub returns-clause-settles : goal.returns-clause-settles
returns-clause-settles g k = λ c d.
    pile_settles (g.L.LineCode.back c.lower) (g.U.LineCode.back c.upper) (g.L.LineCode.back d.lower) (g.U.LineCode.back d.upper)
    (g.met.L.LineCode.receives c.lower) (g.met.U.LineCode.receives c.upper) (g.met.L.LineCode.receives d.lower) (g.met.U.LineCode.receives d.upper)
    g.L.SettlingCode.settling g.U.SettlingCode.settling (g.met.L.SettlingCode.settled c.lower d.lower) (g.met.U.SettlingCode.settled c.upper d.upper)
