use Rattle.std.proofs.Common.{◌≡◌, ◌*◌, length}
use Rattle.octets.specs.Octets.{Octets}
use Rattle.sender.specs.Writing.{Put, repeated}
use Rattle.sender.proofs.putting.put_times.Given as goal

abbrev pub invariant-loop-turn : goal.invariant-loop-turn
invariant-loop-turn g l =
    (l.next ≡ length l.turn * l._turn)
    × Octets (repeated l.turn l._turn)
    × Put (g.L.LineCode.onward l.initial.line) (g.L.LineCode.onward l.line) (repeated l.turn l._turn) l.initial.stretch l.stretch
