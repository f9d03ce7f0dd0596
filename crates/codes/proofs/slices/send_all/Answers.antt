use Rattle.std.proofs.Common.{rules}
use Rattle.codes.proofs.Places.{runs_whole}
use Rattle.codes.proofs.slices.send_all.Goals as goal

pub returns-clause-sent : goal.returns-clause-sent
returns-clause-sent g c =
    let code = g.L.LineCode.onward in
    let new = c.answer_all.new in
    runs_whole (code c.args.line.now) (code new.line) c.args.octets.now new.octets (g.met.L.LineCode.sends new.line) (c.answer_all.ensures code (λ f f' a b x y fits called. search rules))
