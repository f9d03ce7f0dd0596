-- An octet with its eight bits in reverse order.
use Rattle.std.specs.Prelude.{ℕ, ◌*◌, ◌/◌, ◌%◌, ◌^◌, List, map, bit_and, bit_or}
use Rattle.octets.specs.Bits.{bit}
use Rattle.codes.specs.Bitline.{octet}

abbrev pub mirrored : ℕ → ℕ
mirrored o = octet (bit o 0) (bit o 1) (bit o 2) (bit o 3) (bit o 4) (bit o 5) (bit o 6) (bit o 7)

abbrev pub all_mirrored : List ℕ → List ℕ
all_mirrored = map mirrored

-- each bit of the mask exchanged with the one `by` places above it
unfoldable pub swapped : ℕ → ℕ → ℕ → ℕ
swapped o mask by = bit_or (bit_and (o / 2 ^ by) mask) (bit_and o mask * 2 ^ by % 2 ^ 8)
