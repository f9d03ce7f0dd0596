use Rattle.std.proofs.Common.{◌≡◌, ◌+◌, map, length, vec_items}
use Rattle.hearing.specs.Hears.{placed_of}
use Rattle.hearing.proofs.Lines.{Ahead}
use Rattle.hearing.proofs.line.hear.Given as goal

abbrev pub invariant-loop-ahead : goal.invariant-loop-ahead
invariant-loop-ahead g l =
    Ahead g.L.LineCode.back g.K.Check.passes g.K.Check.good l.line l.initial.receiver l.ahead l.receiver (map placed_of (vec_items l.reports))
    × (length l.delivery ≡ 2048)

-- a stretch more, or an octet more
abbrev pub decreases-loop-ahead : goal.decreases-loop-ahead
decreases-loop-ahead g l = length l.rest + length l.ahead
