-- Octets as text: two lower-case hexadecimal digits each, and back.
use Rattle.std.specs.Prelude.{ℕ, ◌+◌, ◌-◌, ◌*◌, ◌/◌, ◌%◌, cond, ◌&&◌, List, [], ◌∷◌, Some, None, Option, nat_le, nat_lt}
use Rattle.std.specs.List.{flat_map}

-- the code of a digit below sixteen, and the value of such a code
abbrev pub digit : ℕ → ℕ
digit n = cond (nat_lt n 10) (48 + n) (87 + n)

abbrev pub digit_value : ℕ → Option ℕ
digit_value c = cond (nat_le 48 c && nat_le c 57) (Some (c - 48)) (cond (nat_le 97 c && nat_le c 102) (Some (c - 87)) None)

abbrev pub octet_digits : ℕ → List ℕ
octet_digits o = digit (o / 16) ∷ digit (o % 16) ∷ []

unfoldable pub hex : List ℕ → List ℕ
hex = flat_map octet_digits

-- the octet of two digits, and the octets of a text of such pairs
abbrev pub both : Option ℕ → Option ℕ → Option ℕ
both (Some a) (Some b) = Some (a * 16 + b)
both (Some a) None = None
both None b = None

abbrev pub behind : Option ℕ → Option (List ℕ) → Option (List ℕ)
behind (Some o) (Some os) = Some (o ∷ os)
behind (Some o) None = None
behind None os = None

unfoldable pub unhex : List ℕ → Option (List ℕ)
unhex [] = Some []
unhex (a ∷ []) = None
unhex (a ∷ b ∷ cs) = behind (both (digit_value a) (digit_value b)) (unhex cs)
