-- A frame's octets before line coding, by X.85 and, for escapes and rate adaptation, X.86.
use Rattle.std.specs.Prelude.{ℕ, zero, suc, ◌/◌, ◌%◌, cond, List, [], ◌∷◌, ◌++◌, replicate, ◌==◌}
use Rattle.std.specs.List.{flat_map}
use Rattle.checks.specs.Written.{complemented}

abbrev pub flag : ℕ
flag = 0x7e

abbrev pub escape : ℕ
escape = 0x7d

-- address 04, control 03, then the SAPI's high and low octet
abbrev pub header : ℕ → List ℕ
header sapi = 0x04 ∷ 0x03 ∷ sapi / 256 ∷ sapi % 256 ∷ []

-- octet stuffing: a flag and an escape among a frame's octets go out as an escape pair
abbrev pub stuffed : ℕ → List ℕ
stuffed o = cond (o == flag) (escape ∷ 0x5e ∷ []) (cond (o == escape) (escape ∷ 0x5d ∷ []) (o ∷ []))

abbrev pub stuff : List ℕ → List ℕ
stuff = flat_map stuffed

-- rate adaptation: k pairs that stand for nothing
unfoldable pub adaptations : ℕ → List ℕ
adaptations zero = []
adaptations (suc k) = escape ∷ 0xdd ∷ adaptations k

-- the octets of each call
abbrev pub opening_octets : ℕ → List ℕ
opening_octets sapi = flag ∷ stuff (header sapi)

abbrev pub adding_octets : List ℕ → List ℕ
adding_octets information = stuff information

abbrev pub adapting_octets : ℕ → List ℕ
adapting_octets k = adaptations k

abbrev pub filling_octets : ℕ → List ℕ
filling_octets k = replicate k flag

-- closing and spoiling, by the check octets that are owed
abbrev pub closing_octets : List ℕ → List ℕ
closing_octets owed = stuff owed ++ flag ∷ []

abbrev pub spoiling_octets : List ℕ → List ℕ
spoiling_octets owed = closing_octets (complemented owed)

abbrev pub aborting_octets : List ℕ
aborting_octets = escape ∷ flag ∷ []
