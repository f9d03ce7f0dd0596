-- A line of any length is answered from its first 8203 characters, one more than the longest request has: the longest
-- name, a space, and two digits for each of 4096 octets.
use Rattle.std.specs.Prelude.{◌≡◌, ℕ, cond, List, [], ◌∷◌, ◌++◌, length, take, nat_le}
use Rattle.inspect.specs.Listing.{answer_line}

abbrev pub kept : List ℕ → List ℕ
kept = take 8203

-- one more character
abbrev pub keeping : List ℕ → ℕ → List ℕ
keeping held c = cond (nat_le (length held) 8202) (held ++ c ∷ []) held

-- kept character by character, a line is answered as it would be whole
pub record Enough : Type 0 where
  pub none : kept [] ≡ []
  pub more : (line : List ℕ) (c : ℕ) → keeping (kept line) c ≡ kept (line ++ c ∷ [])
  pub answers : (line : List ℕ) → answer_line (kept line) ≡ answer_line line
