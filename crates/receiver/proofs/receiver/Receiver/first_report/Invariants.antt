use Rattle.receiver.proofs.Feeding.{Run}
use Rattle.receiver.proofs.receiver.Receiver.first_report.Given as goal

abbrev pub invariant-loop-i : goal.invariant-loop-i
invariant-loop-i g l = Run g.L.LineCode.back g.K.Check.passes g.K.Check.good g.met.L.LineCode.receives l.initial.self l.stretch l.initial.delivery l.self l.delivery l.i
