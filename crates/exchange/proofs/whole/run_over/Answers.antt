use Rattle.std.proofs.Common.{map, vec_items, ap, ◌∙◌, subst₂}
use Rattle.link.specs.declared.calling.Sender.TheVariants as sender
use Rattle.hearing.specs.Hears.{reports_of}
use Rattle.exchange.specs.Sending.{lent_of, SendsAll}
use Rattle.exchange.proofs.Running.{runs}
use Rattle.exchange.proofs.whole.run_over.Goals as goal

pub returns : goal.returns
returns g c =
    let κs = map lent_of c.args.calls.now in
    let sent = subst₂ (λ text past. SendsAll g.L.LineCode.onward g.K.Check.owes g.K.Check.owed κs (sender.Idle c.args.idle) text past (vec_items c.in_ok-line.field-0.line) (vec_items c.in_ok-line.field-0.answers))
    c.new.ensures.items c.new-2.ensures.items c.in_ok-line.ensures in
    runs g.L.LineCode.onward g.L.LineCode.back g.D.LineCode.onward g.D.LineCode.back g.K.Check.owes g.K.Check.owed g.K.Check.passes g.K.Check.good g.K.Check.width
    g.met.L.LineCode.sends g.met.L.LineCode.undoes g.met.K.Check.widths g.met.K.Check.long g.met.K.Check.tells c.args.idle c.args.receiver κs
    (record { answers = c.in_ok-line.field-0.answers; line = c.in_ok-line.field-0.line; reports = c.in_ok-reports.reports }) sent
    (c.in_ok-reports.ensures.reports ∙ ap (reports_of g.D.LineCode.back g.K.Check.passes g.K.Check.good c.args.receiver) c.as_slice.ensures.value)
