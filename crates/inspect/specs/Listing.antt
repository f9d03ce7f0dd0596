-- One line of the listing: what is asked, and what is answered.
use Rattle.std.specs.Prelude.{ℕ, cond, List, ◌++◌, length, take, drop, Some, None, codes, Option, nat_le}
use Rattle.std.specs.Str.{bytes_eq}
use Rattle.checks.specs.Fcs.{fcs16, fcs32, owed}
use Rattle.codes.specs.Bitline.{scrambled}
use Rattle.codes.specs.Mirror.{all_mirrored}
use Rattle.text.specs.Hex.{hex, unhex}
use Rattle.inspect.specs.declared.code.Code.{Code}
use Rattle.inspect.specs.declared.code.Code.TheVariants.{Straight, Mirrored, Scrambler, Pile}

abbrev pub name : Code → List ℕ
name Straight = codes "straight"
name Mirrored = codes "mirrored"
name Scrambler = codes "scrambler"
name Pile = codes "pile"

-- what octets become on the line, from a new register
abbrev pub on_line : Code → List ℕ → List ℕ
on_line Straight os = os
on_line Mirrored os = all_mirrored os
on_line Scrambler os = scrambled 0 os
on_line Pile os = all_mirrored (scrambled 0 os)

-- A row: the code's name, the octets, their two frame checks, what they become on the line, and what a receiver gets
-- back from that, which is the octets.
abbrev pub field : List ℕ → List ℕ
field os = codes "," ++ hex os

unfoldable pub row : Code → List ℕ → List ℕ
row c os = name c ++ field os ++ field (owed fcs16 os) ++ field (owed fcs32 os) ++ field (on_line c os) ++ field os

-- the answer to what is no request
abbrev pub refused : List ℕ
refused = codes "?,,,,,"

-- what stands behind a front in a text that begins with it
unfoldable pub beyond : List ℕ → List ℕ → Option (List ℕ)
beyond front text = cond (bytes_eq (take (length front) text) front) (Some (drop (length front) text)) None

-- The code that a line asks for and the digits behind it: a line begins with the code's name and a space.
abbrev pub spaced : Option (List ℕ) → Option (List ℕ)
spaced (Some rest) = beyond (codes " ") rest
spaced None = None

abbrev pub asked : Code → List ℕ → Option (List ℕ)
asked c line = spaced (beyond (name c) line)

abbrev pub or_else : Code → Option (List ℕ) → Option (Code × List ℕ) → Option (Code × List ℕ)
or_else c (Some digits) other = Some (c, digits)
or_else c None other = other

unfoldable pub request : List ℕ → Option (Code × List ℕ)
request line = or_else Straight (asked Straight line) (or_else Mirrored (asked Mirrored line) (or_else Scrambler (asked Scrambler line) (or_else Pile (asked Pile line) None)))

-- the digits write at most 4096 octets
abbrev pub answer : Code → Option (List ℕ) → List ℕ
answer c (Some os) = cond (nat_le (length os) 4096) (row c os) refused
answer c None = refused

abbrev pub answered : Option (Code × List ℕ) → List ℕ
answered (Some asked) = answer asked.0 (unhex asked.1)
answered None = refused

abbrev pub answer_line : List ℕ → List ℕ
answer_line line = answered (request line)
