-- The frame check sequences of RFC 1662, appendix C, by their shift register.
use Rattle.std.specs.Prelude.{ℕ, zero, suc, ◌-◌, ◌*◌, ◌/◌, ◌%◌, ◌^◌, Bool, List, [], ◌∷◌, ◌==◌, bit_xor}
use Rattle.octets.specs.Bits.{low_first}
use Rattle.checks.specs.declared.sequence.Sequence.{Sequence}

abbrev pub fcs16 : Sequence
fcs16 = record { width = 2; constant = 0x8408; residue = 0xf0b8 }

abbrev pub fcs32 : Sequence
fcs32 = record { width = 4; constant = 0xedb88320; residue = 0xdebb20e3 }

-- the register moves one place right, and if a 1 falls out the constant is exclusive-ored in
abbrev pub shifted : ℕ → ℕ → ℕ
shifted constant register = bit_xor (register / 2) (register % 2 * constant)

-- bits, each exclusive-ored into the register's lowest bit before the register moves
abbrev pub bits_taken : ℕ → ℕ → List ℕ → ℕ
bits_taken constant register [] = register
bits_taken constant register (b ∷ bs) = bits_taken constant (shifted constant (bit_xor register b)) bs

-- octets, each from the bit worth 1 to the bit worth 128
abbrev pub octets_taken : ℕ → ℕ → List ℕ → ℕ
octets_taken constant register [] = register
octets_taken constant register (o ∷ os) = octets_taken constant (bits_taken constant register (low_first o)) os

-- a register of `width` octets with all bits 1
abbrev pub ones : Sequence → ℕ
ones s = 2 ^ (8 * s.width) - 1

-- a number's lowest `width` octets, the least first
abbrev pub least_first : ℕ → ℕ → List ℕ
least_first zero n = []
least_first (suc width) n = n % 256 ∷ least_first width (n / 256)

-- what a register stands for: the check octets it owes are its complement, and it is good at the residue
abbrev pub register_owes : Sequence → ℕ → List ℕ
register_owes s register = least_first s.width (ones s - register)

abbrev pub register_good : Sequence → ℕ → Bool
register_good s register = register == s.residue

-- the check octets of a list of octets, and whether such a list is good: from a register with all bits 1
abbrev pub owed : Sequence → List ℕ → List ℕ
owed s os = register_owes s (octets_taken s.constant (ones s) os)

abbrev pub good : Sequence → List ℕ → Bool
good s os = register_good s (octets_taken s.constant (ones s) os)
