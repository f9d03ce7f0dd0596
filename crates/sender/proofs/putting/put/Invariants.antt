use Rattle.std.proofs.Common.{◌≡◌, ℕ, List, length}
use Rattle.std.specs.Iterator.{Yields}
use Rattle.octets.specs.Octets.{Octets}
use Rattle.sender.specs.Writing.{Put}
use Rattle.sender.proofs.putting.put.Given as goal

abbrev pub invariant-loop-slot : goal.invariant-loop-slot
invariant-loop-slot g l =
    g.I.Iterator.can_next l.octets
    × (xs : List ℕ)
    × Yields g.I.Iterator.next_gives l.initial.octets xs l.octets
    × (length xs ≡ l.slot-index)
    × Octets xs
    × Put (g.L.LineCode.onward l.initial.line) (g.L.LineCode.onward l.line) xs l.initial.stretch l.stretch
