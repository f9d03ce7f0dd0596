use Rattle.std.proofs.Common.{◌≡◌}
use Rattle.views.proofs.ip.ones_complement_sum.Given as goal
use Rattle.views.specs.Sum.{word_sum, folded_sum}

abbrev pub invariant-loop-sum : goal.invariant-loop-sum
invariant-loop-sum l = folded_sum l.sum ≡ folded_sum (word_sum l.octets)

abbrev pub decreases-loop-sum : goal.decreases-loop-sum
decreases-loop-sum l = l.sum
