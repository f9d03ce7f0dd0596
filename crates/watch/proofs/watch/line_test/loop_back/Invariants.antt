use Rattle.std.proofs.Common.{◌≡◌, drop}
use Rattle.watch.proofs.watch.line_test.loop_back.Given as goal
use Rattle.watch.specs.Watch.{standing, all_answered, ticks_tested}

-- what is left of the test gives what the whole of it gives, on the same watch
abbrev pub invariant-loop-answered : goal.invariant-loop-answered
invariant-loop-answered l =
    let left = drop l.answered-index l.answers in
    (all_answered left ≡ all_answered l.answers) × (ticks_tested left (standing l.test.watch.now) ≡ ticks_tested l.answers (standing l.initial.test.watch.now)) × (l.test.watch.ghost_name ≡ l.initial.test.watch.ghost_name)
