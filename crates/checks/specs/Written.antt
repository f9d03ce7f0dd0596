-- The check octets as a value holds them.
use Rattle.std.specs.Prelude.{ℕ, ◌-◌, List, take, map}
use Rattle.checks.specs.declared.owed.CheckOctets.{CheckOctets}

abbrev pub check_octets : CheckOctets → List ℕ
check_octets c = take c.width c.octets

-- octets with each bit the other way round
abbrev pub complemented : List ℕ → List ℕ
complemented = map (λ o. 255 - o)
