use Rattle.octets.proofs.Typed.{typed}
use Rattle.receiver.proofs.Feeding.{run_none, run_more, run_stops, run_all}
use Rattle.receiver.proofs.receiver.Receiver.first_report.Goals as goal

pub loop-i-init : goal.loop-i-init
loop-i-init g c = run_none g.L.LineCode.back g.K.Check.passes g.K.Check.good g.met.L.LineCode.receives c.args.self.now c.args.stretch.now c.args.delivery.now (typed c.args.stretch.now c.type_inv.stretch)

pub returns-in-Some : goal.returns-in-Some
returns-in-Some g c =
    run_stops g.L.LineCode.back g.K.Check.passes g.K.Check.good g.met.L.LineCode.receives c.args.self.now c.args.stretch.now c.args.delivery.now (typed c.args.stretch.now c.type_inv.stretch)
    c.loop-i.self c.loop-i.delivery c.loop-i.i c.loop-i.invariant c.loop-i-test.true c.hear.new.self c.hear.new.delivery c.hear.result c.hear.ensures c.in-Some.report c.in-Some.is

pub loop-i-preserved : goal.loop-i-preserved
loop-i-preserved g c =
    run_more g.L.LineCode.back g.K.Check.passes g.K.Check.good g.met.L.LineCode.receives c.args.self.now c.args.stretch.now c.args.delivery.now (typed c.args.stretch.now c.type_inv.stretch)
    c.loop-i.self c.loop-i.delivery c.loop-i.i c.loop-i.invariant c.loop-i-test.true c.hear.new.self c.hear.new.delivery c.hear.result c.hear.ensures c.in_default.is

pub returns : goal.returns
returns g c =
    run_all g.L.LineCode.back g.K.Check.passes g.K.Check.good g.met.L.LineCode.receives c.args.self.now c.args.stretch.now c.args.delivery.now (typed c.args.stretch.now c.type_inv.stretch)
    c.loop-i.self c.loop-i.delivery c.loop-i.i c.loop-i.invariant c.loop-i-test.false c.loop-i.auto.i-end
