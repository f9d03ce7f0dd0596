-- The published check values: those of the nine digits 1 to 9 in ASCII, by the definitions.
use Rattle.std.specs.Prelude.{◌≡◌, ℕ, true, false, List, [], ◌∷◌, ◌++◌, codes}
use Rattle.checks.specs.Fcs.{fcs16, fcs32, owed, good}

abbrev pub digits : List ℕ
digits = codes "123456789"

-- 0x906e and 0xcbf43926, the least octet first
abbrev pub digits16 : List ℕ
digits16 = 0x6e ∷ 0x90 ∷ []

abbrev pub digits32 : List ℕ
digits32 = 0x26 ∷ 0x39 ∷ 0xf4 ∷ 0xcb ∷ []

pub record Published : Type 0 where
  pub owed16 : owed fcs16 digits ≡ digits16
  pub owed32 : owed fcs32 digits ≡ digits32
  pub good16 : good fcs16 (digits ++ digits16) ≡ true
  pub good32 : good fcs32 (digits ++ digits32) ≡ true
  -- the check octets the other way round are not good
  pub turned16 : good fcs16 (digits ++ 0x90 ∷ 0x6e ∷ []) ≡ false
  pub turned32 : good fcs32 (digits ++ 0xcb ∷ 0xf4 ∷ 0x39 ∷ 0x26 ∷ []) ≡ false
