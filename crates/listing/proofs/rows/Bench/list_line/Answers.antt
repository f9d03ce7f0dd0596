use Rattle.std.proofs.Common.{◌≡◌, IfOk, Some, vec_items, sym, ap, ◌∙◌, subst}
use Rattle.std.specs.Option.{option_map}
use Rattle.frames.specs.Of.{owned_call}
use Rattle.script.specs.Requests.{line_of}
use Rattle.script.specs.Script.{line_call}
use Rattle.listing.specs.Listing.{settings, stretch_length}
use Rattle.listing.specs.Steps.{Lists}
use Rattle.listing.proofs.rows.Bench.list_line.Goals as goal

pub returns-in-Some : goal.returns-in-Some
returns-in-Some g c =
    let same : Some (owned_call c.in-Some.request) ≡ line_call (line_of c.args.line) = ap (option_map owned_call) (sym c.in-Some.is) ∙ c.in_ok-request.ensures in
    subst (λ k. IfOk c.list_call.result (λ after. Lists g.L.LineCode.onward g.D.LineCode.back g.K.Check.owes g.K.Check.passes g.K.Check.owed g.K.Check.good g.K.Check.width k stretch_length settings.longest c.args.link (vec_items c.args.self.now.out) after (vec_items c.list_call.new.self.out)))
    same c.list_call.ensures
