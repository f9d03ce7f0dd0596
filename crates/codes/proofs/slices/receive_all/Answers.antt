use Rattle.std.proofs.Common.{rules}
use Rattle.codes.proofs.Places.{runs_whole}
use Rattle.codes.proofs.slices.receive_all.Goals as goal

pub returns-clause-received : goal.returns-clause-received
returns-clause-received g c =
    let code = g.L.LineCode.back in
    let new = c.answer_all.new in
    runs_whole (code c.args.line.now) (code new.line) c.args.octets.now new.octets (g.met.L.LineCode.receives new.line) (c.answer_all.ensures code (λ f f' a b x y fits called. search rules))
