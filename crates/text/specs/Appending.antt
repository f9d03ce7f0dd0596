-- What is added behind what is there: all of it, or nothing.
use Rattle.std.specs.Prelude.{ℕ, Bool, cond, List, ◌++◌}

abbrev pub appended : Bool → List ℕ → List ℕ → List ℕ
appended done before more = cond done (before ++ more) before
