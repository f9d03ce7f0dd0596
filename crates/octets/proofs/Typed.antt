-- The octets of a slice are octets, as the checker knows them.
use Rattle.std.proofs.Common.{ℕ, ◌<◌, List, get_or, arith, w8, Fits}
use Rattle.std.proofs.ByRecursion.{All-from_get_or}
use Rattle.octets.specs.Octets.{Octets}

pub typed : (xs : List ℕ) → ((i : ℕ) → Fits w8 (get_or xs i 0)) → Octets xs
typed xs h = All-from_get_or (λ x. x < 256) xs 0 (λ i n. omega (arith, h i))
