use Rattle.std.proofs.Common.{◌≡◌, ℕ, List, ◌++◌, take}
use Rattle.checks.proofs.traits.take_in_all.Given as goal

-- what has been taken in is what the start would have taken in first
abbrev pub invariant-loop-octet : goal.invariant-loop-octet
invariant-loop-octet g l =
    ((os : List ℕ) → g.K.Check.owes l.check os ≡ g.K.Check.owes l.initial.check (take l.octet-index l.octets ++ os))
    × ((os : List ℕ) → g.K.Check.passes l.check os ≡ g.K.Check.passes l.initial.check (take l.octet-index l.octets ++ os))
