use Rattle.std.proofs.Common.{ℕ, ◌<◌, List, get_or, take}
use Rattle.codes.specs.Rules.{EachCallSteps, Runs}
use Rattle.codes.proofs.Places.{Untouched}
use Rattle.codes.proofs.slices.answer_all.Given as goal

abbrev pub invariant-loop-octet : goal.invariant-loop-octet
invariant-loop-octet g l =
    goal.F-IsAlwaysCallable g l.answer
    × Untouched l.octet-index l.octets l.initial.octets
    × ((rule : _ → List ℕ → List ℕ) → EachCallSteps g.F.FnMut rule → Runs (rule l.initial.line) (take l.octet-index l.initial.octets) (take l.octet-index l.octets) (rule l.line))
    × ((k : ℕ) → get_or l.initial.octets k 0 < 256)
