-- Bits of numbers, and the two orders in which an octet's bits are taken.
use Rattle.std.specs.Prelude.{ℕ, ◌/◌, ◌%◌, ◌^◌, List, [], ◌∷◌}

-- the bit of n that is worth 2 ^ k
abbrev pub bit : ℕ → ℕ → ℕ
bit n k = n / 2 ^ k % 2

-- an octet's eight bits, the one worth 128 first: the order of a line
abbrev pub high_first : ℕ → List ℕ
high_first o = bit o 7 ∷ bit o 6 ∷ bit o 5 ∷ bit o 4 ∷ bit o 3 ∷ bit o 2 ∷ bit o 1 ∷ bit o 0 ∷ []

-- an octet's eight bits, the one worth 1 first: the order of a frame check
abbrev pub low_first : ℕ → List ℕ
low_first o = bit o 0 ∷ bit o 1 ∷ bit o 2 ∷ bit o 3 ∷ bit o 4 ∷ bit o 5 ∷ bit o 6 ∷ bit o 7 ∷ []
