use Rattle.std.proofs.Common.{◌≡◌, ◌++◌, length, vec_items}
use Rattle.std.specs.Option.{option_map}
use Rattle.text.specs.Hex.{unhex}
use Rattle.text.proofs.hex.parse_hex.Given as goal

-- what is left gives the octets that are still to come
abbrev pub invariant-loop-rest : goal.invariant-loop-rest
invariant-loop-rest l = unhex l.text ≡ option_map (λ os. vec_items l.octets ++ os) (unhex l.rest)

abbrev pub decreases-loop-rest : goal.decreases-loop-rest
decreases-loop-rest l = length l.rest
