use Rattle.std.proofs.Common.{◌≡◌, ◌++◌, length, Some, vec_items, ap, ◌∙◌, subst, subst₂, arith}
use Rattle.frames.specs.Calls.{Typed}
use Rattle.frames.specs.Of.{owned_call}
use Rattle.link.specs.Linked.{Exchanges}
use Rattle.listing.specs.Listing.{settings, stretch_length}
use Rattle.listing.specs.Steps.{answered_row, Lists}
use Rattle.listing.proofs.Stepping.{lists_answered}
use Rattle.listing.proofs.rows.Bench.list_call.Goals as goal

pub returns : goal.returns
returns g c =
    let κ = owned_call c.args.request.now in
    let t = subst Typed c.as_deref.ensures c.call-link.ensures.typed in
    let x = subst (λ k. Exchanges g.L.LineCode.onward g.D.LineCode.back g.K.Check.owes g.K.Check.passes g.K.Check.owed g.K.Check.good g.K.Check.width k c.args.link c.args.self.now.stretch c.args.self.now.delivery
    c.call-link.result.link c.call-link.new.stretch c.call-link.new.delivery c.call-link.result.answer c.call-link.result.report) c.as_deref.ensures c.call-link.ensures.exchanged in
    let room : length c.args.self.now.stretch ≡ stretch_length = omega arith in
    let shelf : length c.args.self.now.delivery ≡ settings.longest = omega arith in
    subst₂ (λ n m. Lists g.L.LineCode.onward g.D.LineCode.back g.K.Check.owes g.K.Check.passes g.K.Check.owed g.K.Check.good g.K.Check.width (Some κ) n m c.args.link (vec_items c.args.self.now.out) c.call-link.result.link (vec_items c.push_row.new.out)) room shelf
    (lists_answered g.L.LineCode.onward g.D.LineCode.back g.K.Check.owes g.K.Check.passes g.K.Check.owed g.K.Check.good g.K.Check.width g.met.K.Check.long
    κ t c.args.link c.args.self.now.stretch c.args.self.now.delivery c.call-link.result.link c.call-link.new.stretch c.call-link.new.delivery
    (vec_items c.args.self.now.out) (vec_items c.push_row.new.out) c.call-link.result.answer c.call-link.result.report x
    (c.in_ok-push_row.ensures
    ∙ ap (λ z. vec_items c.args.self.now.out ++ z) (c.answered-row.ensures ∙ ap (λ l. answered_row l c.call-link.result.answer c.call-link.new.stretch c.call-link.result.report) c.letter.ensures)))
