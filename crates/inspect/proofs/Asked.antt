-- A line tried by one code after the other.
use Rattle.std.proofs.Common.{ℕ, List, [], ◌∷◌, None, Option}
use Rattle.inspect.specs.declared.code.Code.{Code}
use Rattle.inspect.specs.Listing.{asked, or_else}

-- what the first code that the line asks for gives
abbrev pub first_asked : List ℕ → List Code → Option (Code × List ℕ)
first_asked line [] = None
first_asked line (c ∷ cs) = or_else c (asked c line) (first_asked line cs)
