use Rattle.std.proofs.Common.{◌≡◌, ℕ, List, [], map, vec_items, ap, subst}
use Rattle.script.specs.Requests.{line_of}
use Rattle.script.specs.Script.{lines, line_call}
use Rattle.listing.specs.Listing.{settings, stretch_length}
use Rattle.listing.proofs.Stepping.{Progress, progress_more, progress_all}
use Rattle.listing.proofs.rows.Bench.list_lines.Goals as goal

no_lines : (text : List ℕ) → text ≡ [] → map line_call (lines text) ≡ []
unfolding lines
no_lines text e = ap (λ t. map line_call (lines t)) e

pub loop-line-preserved : goal.loop-line-preserved
loop-line-preserved g c =
    let so = subst (λ κs. Progress g.L.LineCode.onward g.D.LineCode.back g.K.Check.owes g.K.Check.passes g.K.Check.owed g.K.Check.good g.K.Check.width
    stretch_length settings.longest (map line_call (lines c.args.text.now)) c.args.link (vec_items c.args.self.now.out) κs c.loop-line.link (vec_items c.loop-line.self.out)) (ap (map line_call) c.in-Some.ensures.is_first) c.loop-line.invariant in
    progress_more g.L.LineCode.onward g.D.LineCode.back g.K.Check.owes g.K.Check.passes g.K.Check.owed g.K.Check.good g.K.Check.width
    stretch_length settings.longest (map line_call (lines c.args.text.now)) c.args.link (vec_items c.args.self.now.out)
    (line_call (line_of c.in-Some.line)) (map line_call (lines c.in-Some.further.now)) c.loop-line.link (vec_items c.loop-line.self.out) c.in_ok-link.link (vec_items c.list_line.new.self.out) so c.in_ok-link.ensures

pub returns : goal.returns
returns g c =
    progress_all g.L.LineCode.onward g.D.LineCode.back g.K.Check.owes g.K.Check.passes g.K.Check.owed g.K.Check.good g.K.Check.width
    stretch_length settings.longest (map line_call (lines c.args.text.now)) c.args.link (vec_items c.args.self.now.out) c.loop-line.link (vec_items c.loop-line.self.out)
    (subst (λ κs. Progress g.L.LineCode.onward g.D.LineCode.back g.K.Check.owes g.K.Check.passes g.K.Check.owed g.K.Check.good g.K.Check.width
    stretch_length settings.longest (map line_call (lines c.args.text.now)) c.args.link (vec_items c.args.self.now.out) κs c.loop-line.link (vec_items c.loop-line.self.out))
    (no_lines c.loop-line.rest.now c.in_default.ensures) c.loop-line.invariant)
