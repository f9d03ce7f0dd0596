use Rattle.std.proofs.Common.{◌≡◌, ◌-◌}
use Rattle.checks.specs.Shifts.{shifts}
use Rattle.checks.proofs.fcs.octet_taken.Given as goal

-- the places still to go lead to the same register
abbrev pub invariant-loop : goal.invariant-loop
invariant-loop l = shifts l.constant (8 - l.counter) l.moved ≡ shifts l.constant 8 l.initial.moved
