use Rattle.std.proofs.Common.{◌<◌, take, subst, arith, length-take}
use Rattle.std.proofs.ByRecursion.{All-take}
use Rattle.octets.specs.Octets.{Octets}
use Rattle.octets.proofs.Typed.{typed}
use Rattle.receiver.specs.Models.{Fed}
use Rattle.hearing.proofs.Lines.{fed_within, fed_raised, fed_some}
use Rattle.hearing.proofs.line.feed_some.Goals as goal

pub returns : goal.returns
returns g c =
    let ahead = c.args.ahead.now in
    let stretch = take c.args.cut ahead in
    let back = g.L.LineCode.back in
    let passes = g.K.Check.passes in
    let good = g.K.Check.good in
    let rules = g.met.L.LineCode.receives in
    let r = c.args.receiver.now in
    let r' = c.feed.new.self in
    let buffer = c.args.delivery.now in
    let buffer' = c.feed.new.delivery in
    let n = c.feed.result.0 in
    let report = c.feed.result.1 in
    let fed : Fed back passes good r stretch buffer r' buffer' n report = subst (λ x. Fed back passes good r x buffer r' buffer' n report) c.front.ensures c.feed.ensures in
    let o : Octets stretch = All-take (λ x. x < 256) c.args.cut ahead (typed ahead c.type_inv.ahead) in
    let long = length-take c.args.cut ahead in
    record {
      fed = fed;
      within = omega (arith, fed_within back passes good rules r r' stretch buffer buffer' n report o fed);
      raised = fed_raised back passes good rules r r' stretch buffer buffer' n report o fed;
      some = λ a b. fed_some back passes good rules r r' stretch buffer buffer' n report o fed (omega arith);
    }
