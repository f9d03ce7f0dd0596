-- A script: the line `call,value`, then one call a line, each line ended by 0a.
use Rattle.std.specs.Prelude.{◌≡◌, ℕ, ◌+◌, ◌*◌, ◌<◌, cond, List, [], ◌∷◌, ◌++◌, map, length, take, drop, Some, None, codes, Option, ◌==◌, nat_lt}
use Rattle.std.specs.Option.{option_map}
use Rattle.std.specs.List.{between}
use Rattle.std.specs.Str.{bytes_eq}
use Rattle.frames.specs.Calls.{Call, opening, adding, adapting, filling, closing, aborting, spoiling}
use Rattle.text.specs.Decimal.{undecimal}
use Rattle.text.specs.Hex.{unhex}
use Rattle.script.specs.declared.kind.Kind.{Kind}
use Rattle.script.specs.declared.kind.Kind.TheVariants as kind

-- the most octets of a script
abbrev pub longest_script : ℕ
longest_script = 16384

abbrev pub line_end : ℕ
line_end = 0x0a

abbrev pub comma : ℕ
comma = 0x2c

-- a line without the octet that ends it, or one that nothing ends
pub data Line : Type 0 where
  ended : List ℕ → Line
  unended : Line

-- one octet more at the front of the first line
abbrev pub in_front : ℕ → List Line → List Line
in_front o [] = unended ∷ []
in_front o (ended os ∷ ls) = ended (o ∷ os) ∷ ls
in_front o (unended ∷ ls) = unended ∷ ls

-- the lines of a text
unfoldable pub lines : List ℕ → List Line
lines [] = []
lines (o ∷ os) = cond (o == line_end) (ended [] ∷ lines os) (in_front o (lines os))

-- the first line of a text ends at place i: it is what stands before, and all other lines stand behind
abbrev pub EndsAt : ℕ → List ℕ → Type 0
EndsAt i os =
    (i < length os) × (os ≡ between 0 i os ++ line_end ∷ between (i + 1) (length os) os)
    × (lines os ≡ ended (between 0 i os) ∷ lines (between (i + 1) (length os) os))

-- nothing ends the only line of a text
abbrev pub NeverEnds : List ℕ → Type 0
NeverEnds os = 0 < length os → lines os ≡ unended ∷ []

-- the letter of each kind of call
abbrev pub letter : Kind → ℕ
letter kind.Open = 79  -- O
letter kind.Add = 73  -- I
letter kind.Adapt = 82  -- R
letter kind.Fill = 78  -- N
letter kind.Close = 67  -- C
letter kind.Abort = 88  -- X
letter kind.Spoil = 83  -- S

abbrev pub kind_of : ℕ → Option Kind
kind_of c =
    cond (c == letter kind.Open) (Some kind.Open)
    (cond (c == letter kind.Add) (Some kind.Add)
    (cond (c == letter kind.Adapt) (Some kind.Adapt)
    (cond (c == letter kind.Fill) (Some kind.Fill)
    (cond (c == letter kind.Close) (Some kind.Close)
    (cond (c == letter kind.Abort) (Some kind.Abort)
    (cond (c == letter kind.Spoil) (Some kind.Spoil) None))))))

-- a SAPI is two octets, the high one first
abbrev pub word : Option (List ℕ) → Option ℕ
word None = None
word (Some []) = None
word (Some (h ∷ [])) = None
word (Some (h ∷ l ∷ [])) = Some (h * 256 + l)
word (Some (h ∷ l ∷ o ∷ os)) = None

-- a call that takes no value
abbrev pub bare : Call → List ℕ → Option Call
bare κ [] = Some κ
bare κ (o ∷ os) = None

-- the call of a kind with its value
abbrev pub call_with : Option Kind → List ℕ → Option Call
call_with None value = None
call_with (Some kind.Open) value = option_map opening (word (unhex value))
call_with (Some kind.Add) value = option_map adding (unhex value)
call_with (Some kind.Adapt) value = option_map adapting (undecimal value)
call_with (Some kind.Fill) value = option_map filling (undecimal value)
call_with (Some kind.Close) value = bare closing value
call_with (Some kind.Abort) value = bare aborting value
call_with (Some kind.Spoil) value = bare spoiling value

-- the call that a line's octets are, if any: its letter, a comma and its value
abbrev pub read_call : List ℕ → Option Call
read_call [] = None
read_call (l ∷ []) = None
read_call (l ∷ c ∷ value) = cond (c == comma) (call_with (kind_of l) value) None

abbrev pub line_call : Line → Option Call
line_call (ended os) = read_call os
line_call unended = None

-- the first line, which names the columns, with its end
abbrev pub head_line : List ℕ
head_line = codes "call,value" ++ line_end ∷ []

-- the octets behind the first line; none if that is another, or the script is too long
abbrev pub stripped_head : List ℕ → Option (List ℕ)
stripped_head os = cond (bytes_eq (take (length head_line) os) head_line) (Some (drop (length head_line) os)) None

abbrev pub after_head : List ℕ → Option (List ℕ)
after_head os = cond (nat_lt longest_script (length os)) None (stripped_head os)

-- what each line behind the first asks for
abbrev pub script : List ℕ → Option (List (Option Call))
script os = option_map (λ rest. map line_call (lines rest)) (after_head os)
