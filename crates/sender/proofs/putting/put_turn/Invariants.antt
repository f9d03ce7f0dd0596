use Rattle.std.proofs.Common.{◌≡◌, List, ℕ, ◌+◌, ◌++◌, length, take}
use Rattle.octets.specs.Octets.{Octets}
use Rattle.codes.specs.Rules.{Rule}
use Rattle.sender.specs.Writing.{Put}
use Rattle.sender.proofs.putting.put_turn.Given as goal

abbrev pub invariant-loop-octet : goal.invariant-loop-octet
invariant-loop-octet g l =
    (l.next ≡ l.initial.place + l.octet-index)
    × Octets (take l.octet-index l.turn)
    × ((f : List ℕ → List ℕ) (os before : List ℕ) → Rule f → Octets os → length os ≡ l.initial.place → length before ≡ length l.initial.stretch
    → Put f (g.L.LineCode.onward l.initial.line) os before l.initial.stretch → Put f (g.L.LineCode.onward l.line) (os ++ take l.octet-index l.turn) before l.stretch)
