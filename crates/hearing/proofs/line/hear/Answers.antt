use Rattle.std.proofs.Common.{◌≡◌, ◌≤◌, map, length, vec_items, sym, refl, ap, subst, ◌∙◌, arith}
use Rattle.std.proofs.Math.Seq.{take-length}
use Rattle.std.proofs.lemmas.List.{take_rest}
use Rattle.std.proofs.lemmas.Bool.Decides.{nat_tests}
use Rattle.octets.proofs.Typed.{typed}
use Rattle.receiver.specs.Models.{HasHeard}
use Rattle.hearing.specs.Hears.{placed_of}
use Rattle.hearing.proofs.Lines.{ahead_none, ahead_more, ahead_all, ahead_part}
use Rattle.hearing.proofs.Late.{agrees_when_late}
use Rattle.hearing.proofs.line.hear.Goals as goal

pub loop-ahead-init : goal.loop-ahead-init
loop-ahead-init g c =
    let line = c.args.line.now in (
      ahead_none g.L.LineCode.back g.K.Check.passes g.K.Check.good g.met.L.LineCode.receives line (typed line c.type_inv.line) c.args.receiver.now
          (map placed_of (vec_items c.new-reports.result)) (ap (map placed_of) c.new-reports.ensures.items),
      refl,
    )

pub loop-ahead-preserved : goal.loop-ahead-preserved
loop-ahead-preserved g c =
    let line = c.args.line.now in
    let r₀ = c.args.receiver.now in
    let ahead = c.loop-ahead.ahead.now in
    let enough : r₀.settings.longest ≤ length c.loop-ahead.delivery = omega (arith, r₀.settings.most, c.loop-ahead.invariant.1) in (
      ahead_more g.L.LineCode.back g.K.Check.passes g.K.Check.good g.met.L.LineCode.receives line (typed line c.type_inv.line) r₀
          ahead c.loop-ahead.receiver (map placed_of (vec_items c.loop-ahead.reports)) c.loop-ahead.invariant.0
          _ c.next_cut-cut.result.0 c.feed_some-used.result.0 c.feed_some-used.new.receiver c.loop-ahead.delivery c.feed_some-used.new.delivery
          (map placed_of (vec_items c.note.new.reports)) c.feed_some-used.result.1 enough c.feed_some-used.ensures.fed c.feed_some-used.ensures.within
          (take_rest ahead c.feed_some-used.result.0) c.in_ok-note.ensures,
      c.feed_some-used.auto.delivery ∙ c.loop-ahead.invariant.1,
    )

pub returns-in_err-note-clause-begun : goal.returns-in_err-note-clause-begun
returns-in_err-note-clause-begun g c =
    let line = c.args.line.now in
    ahead_part g.L.LineCode.back g.K.Check.passes g.K.Check.good g.met.L.LineCode.receives line (typed line c.type_inv.line) c.args.receiver.now
    c.loop-ahead.ahead.now c.loop-ahead.receiver (map placed_of (vec_items c.loop-ahead.reports)) c.loop-ahead.invariant.0
    c.next_cut-cut.result.0 c.feed_some-used.result.0 c.feed_some-used.new.receiver c.feed_some-used.ensures.fed.leaves

pub returns : goal.returns
returns g c =
    let line = c.args.line.now in
    let back = g.L.LineCode.back in
    let passes = g.K.Check.passes in
    let good = g.K.Check.good in
    let rules = g.met.L.LineCode.receives in
    let r₀ = c.args.receiver.now in
    let reports = map placed_of (vec_items c.loop-ahead.reports) in
    let none : length c.loop-ahead.ahead.now ≡ 0 = grind (arith, nat_tests) in
    let all = ahead_all back passes good rules line (typed line c.type_inv.line) r₀ c.loop-ahead.ahead.now c.loop-ahead.receiver reports none c.loop-ahead.invariant.0 in
    record {
      reports = all.0;
      late = agrees_when_late back passes good rules r₀ line (typed line c.type_inv.line) reports all.0;
      leaves = all.1;
      begun = (length line, subst (λ x. HasHeard back passes good r₀ x c.loop-ahead.receiver) (sym (take-length line)) all.1);
    }
