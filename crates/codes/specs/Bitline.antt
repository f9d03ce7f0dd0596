-- The self-synchronous scrambler x^43 + 1 of X.85, annex C, as the standard tells it: over the bits of a line.
use Rattle.std.specs.Prelude.{ℕ, zero, suc, ◌+◌, ◌*◌, ◌/◌, ◌%◌, List, [], ◌∷◌, ◌++◌, bit_xor, slice_index}
use Rattle.octets.specs.Bits.{high_first}

-- Sending: a line bit is the given bit, exclusive-or the line bit 43 places earlier. `past` has the line's earlier
-- bits, the latest first.
unfoldable pub scrambled_bits : List ℕ → List ℕ → List ℕ
scrambled_bits past [] = []
scrambled_bits past (b ∷ bs) = bit_xor b (slice_index past 42) ∷ scrambled_bits (bit_xor b (slice_index past 42) ∷ past) bs

-- Receiving: the same, where the line's earlier bits are the received ones.
unfoldable pub descrambled_bits : List ℕ → List ℕ → List ℕ
descrambled_bits past [] = []
descrambled_bits past (b ∷ bs) = bit_xor b (slice_index past 42) ∷ descrambled_bits (b ∷ past) bs

-- the bits of octets, of each octet the bit worth 128 first, and back
unfoldable pub bits_of : List ℕ → List ℕ
bits_of [] = []
bits_of (o ∷ os) = high_first o ++ bits_of os

abbrev pub octet : ℕ → ℕ → ℕ → ℕ → ℕ → ℕ → ℕ → ℕ → ℕ
octet a b c d e f g h = a * 128 + b * 64 + c * 32 + d * 16 + e * 8 + f * 4 + g * 2 + h

unfoldable pub octets_of : List ℕ → List ℕ
octets_of [] = []
octets_of (a ∷ []) = []
octets_of (a ∷ b ∷ []) = []
octets_of (a ∷ b ∷ c ∷ []) = []
octets_of (a ∷ b ∷ c ∷ d ∷ []) = []
octets_of (a ∷ b ∷ c ∷ d ∷ e ∷ []) = []
octets_of (a ∷ b ∷ c ∷ d ∷ e ∷ f ∷ []) = []
octets_of (a ∷ b ∷ c ∷ d ∷ e ∷ f ∷ g ∷ []) = []
octets_of (a ∷ b ∷ c ∷ d ∷ e ∷ f ∷ g ∷ h ∷ bs) = octet a b c d e f g h ∷ octets_of bs

-- the line's last k bits as a register keeps them, the latest as the bit worth 1
unfoldable pub low_bits : ℕ → ℕ → List ℕ
low_bits zero n = []
low_bits (suc k) n = n % 2 ∷ low_bits k (n / 2)

-- the scrambler's two rules from a register of 43 bits
unfoldable pub scrambled : ℕ → List ℕ → List ℕ
scrambled register os = octets_of (scrambled_bits (low_bits 43 register) (bits_of os))

unfoldable pub descrambled : ℕ → List ℕ → List ℕ
descrambled register os = octets_of (descrambled_bits (low_bits 43 register) (bits_of os))
