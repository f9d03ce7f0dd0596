use Rattle.std.proofs.Common.{map, length, vec_items}
use Rattle.script.specs.Script.{lines, line_call}
use Rattle.listing.specs.Listing.{settings, stretch_length}
use Rattle.listing.proofs.Stepping.{Progress}
use Rattle.listing.proofs.rows.Bench.list_lines.Given as goal

abbrev pub invariant-loop-line : goal.invariant-loop-line
invariant-loop-line g l =
    Progress g.L.LineCode.onward g.D.LineCode.back g.K.Check.owes g.K.Check.passes g.K.Check.owed g.K.Check.good g.K.Check.width
    stretch_length settings.longest (map line_call (lines l.initial.rest)) l.initial.link (vec_items l.initial.self.out) (map line_call (lines l.rest)) l.link (vec_items l.self.out)

abbrev pub decreases-loop-line : goal.decreases-loop-line
decreases-loop-line g l = length l.rest
