use Rattle.std.proofs.Common.{sym, ◌∙◌, subst}
use Rattle.frames.specs.Of.{lent_call}
use Rattle.link.specs.Driving.{CallsOn}
use Rattle.link.proofs.Linking.{written, unwritten, written≢turned}
use Rattle.link.proofs.link.Link.call.Goals as goal
use Rattle.link.proofs.link.Link.call.Goals.{in-Ok, in-Err}

pub returns-clause-exchanged : goal.returns-clause-exchanged
returns-clause-exchanged g c = elim c.match-answer.branch [
  | in-Ok w ↦
      let called = subst (CallsOn g.L.LineCode.onward g.K.Check.owes g.K.Check.owed (lent_call c.args.request) c.args.self.sender c.args.stretch.now c.call-sender.result.sender c.call-sender.new.stretch) w.in-Ok.is c.call-sender.ensures.calls in
      simp (w.delivery-is, w.receiver-is, w.answer-is, w.report-is)
      (written g.L.LineCode.onward g.D.LineCode.back g.K.Check.owes g.K.Check.passes g.K.Check.owed g.K.Check.good g.K.Check.width
      g.met.K.Check.long g.met.K.Check.tells g.met.K.Check.widths (lent_call c.args.request) c.call-sender.ensures.typed c.args.self c.args.stretch.now
      c.call-sender.result.sender c.call-sender.new.stretch c.args.delivery.now w.in-Ok.written called w.hear_front-report.new.receiver w.hear_front-report.new.delivery w.hear_front-report.result w.hear_front-report.ensures)
  | in-Err w ↦
      simp (w.delivery-is, w.receiver-is, w.answer-is, w.report-is)
      (unwritten g.L.LineCode.onward g.D.LineCode.back g.K.Check.owes g.K.Check.passes g.K.Check.owed g.K.Check.good g.K.Check.width
      g.met.K.Check.long g.met.K.Check.tells g.met.K.Check.widths (lent_call c.args.request) c.call-sender.ensures.typed c.args.self c.args.stretch.now
      c.call-sender.result.sender c.call-sender.new.stretch c.args.delivery.now c.call-sender.result.answer (λ n h. written≢turned (sym h ∙ w.in-Err.is)) c.call-sender.ensures.calls)
]
