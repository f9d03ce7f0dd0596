-- In contracts a list of `u8` is a list of naturals. Octets are the naturals below 256.
use Rattle.std.specs.Prelude.{ℕ, ◌<◌, List}
use Rattle.std.specs.List.{AllByRecursion}

abbrev pub Octets : List ℕ → Type 0
Octets = AllByRecursion (λ x. x < 256)
