-- The ones-complement sum of RFC 791.
use Rattle.std.specs.Prelude.{ℕ, ◌+◌, ◌*◌, ◌/◌, ◌%◌, List, [], ◌∷◌, slice_index}

-- two octets as a 16-bit word, the higher octet first
abbrev pub word : ℕ → ℕ → ℕ
word high low = high * 256 + low

abbrev pub word_value : List ℕ → ℕ
word_value octets = word (slice_index octets 0) (slice_index octets 1)

-- the sum of the words; a header is a whole number of them
abbrev pub word_sum : List ℕ → ℕ
word_sum [] = 0
word_sum (x ∷ []) = 0
word_sum (high ∷ low ∷ rest) = word high low + word_sum rest

-- what is carried out of sixteen bits is added in again
abbrev pub carried : ℕ → ℕ
carried s = s % 0x10000 + s / 0x10000

-- until nothing is carried any more: twice is enough for every sum below 2 ^ 32
abbrev pub folded_sum : ℕ → ℕ
folded_sum s = carried (carried s)
