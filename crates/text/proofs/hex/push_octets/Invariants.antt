use Rattle.std.proofs.Common.{◌≡◌, ◌++◌, take, vec_items}
use Rattle.std.specs.List.{flat_map}
use Rattle.text.specs.Hex.{octet_digits}
use Rattle.text.proofs.hex.push_octets.Given as goal

abbrev pub invariant-loop-octet : goal.invariant-loop-octet
invariant-loop-octet l = vec_items l.out ≡ vec_items l.initial.out ++ flat_map octet_digits (take l.octet-index l.octets)
