-- Octets put together.
use Rattle.std.proofs.Common.{ℕ, ◌<◌, List, ◌++◌}
use Rattle.std.proofs.ByRecursion.{All-append}
use Rattle.octets.specs.Octets.{Octets}

pub octets_append : (xs ys : List ℕ) → Octets xs → Octets ys → Octets (xs ++ ys)
octets_append = All-append (λ x. x < 256)
