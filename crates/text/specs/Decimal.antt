-- Numbers as text: decimal digits with no leading zero, and back.
use Rattle.std.specs.Prelude.{ℕ, ◌+◌, ◌-◌, ◌*◌, cond, ◌&&◌, List, [], ◌∷◌, map, Some, None, Option, ◌==◌, nat_le}
use Rattle.std.specs.Int.Digits.{digits_of}

-- the codes of a number's digits; of 0 alone there is a digit 0 in front
unfoldable pub decimal : ℕ → List ℕ
decimal n = cond (n == 0) (48 ∷ []) (map (λ d. 48 + d) (digits_of 10 n))

-- a number up to 65535 with one more digit behind it
abbrev pub number_with_digit : ℕ → ℕ → Option ℕ
number_with_digit n c = cond (nat_le 48 c && nat_le c 57 && nat_le (n * 10 + (c - 48)) 65535) (Some (n * 10 + (c - 48))) None

abbrev pub read_on : Option ℕ → List ℕ → Option ℕ
read_on None cs = None
read_on (Some n) [] = Some n
read_on (Some n) (c ∷ cs) = read_on (number_with_digit n c) cs

-- the number up to 65535 that a text writes with one digit or more, the first not 0 where another follows
abbrev pub undecimal : List ℕ → Option ℕ
undecimal [] = None
undecimal (c ∷ []) = read_on (Some 0) (c ∷ [])
undecimal (c ∷ d ∷ cs) = cond (c == 48) None (read_on (Some 0) (c ∷ d ∷ cs))
