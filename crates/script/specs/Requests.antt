-- The values of a parsed script as the definitions take them.
use Rattle.std.specs.Prelude.{◌≡◌, ℕ, ◌<◌, List, [], ◌∷◌, ◌++◌, length, Some, None, Ok, Err, Option, Result}
use Rattle.std.specs.Borrow.{Bor}
use Rattle.script.specs.Script as script
use Rattle.script.specs.Script.{lines, line_end}
use Rattle.script.specs.declared.lines.Unended.{Unended}

-- a line without the octet that ends it, or the mark that nothing ends it
abbrev pub Line : Type 0
Line = Result (Bor (List ℕ)) Unended

-- a line as the text has it
abbrev pub line_of : Line → script.Line
line_of (Ok os) = script.ended os.now
line_of (Err e) = script.unended

-- a text is its first line, the octet that ends it and the rest; of a line that nothing ends there is no rest
abbrev pub Parted : List ℕ → Line → List ℕ → Type 0
Parted text (Ok os) rest = text ≡ os.now ++ line_end ∷ rest
Parted text (Err e) rest = rest ≡ []

-- the first line of a text, and the rest
pub record First (text : List ℕ) (line : Line) (rest : List ℕ) : Type 0 where
  pub is_first : lines text ≡ line_of line ∷ lines rest
  pub parts : Parted text line rest
  pub shorter : length rest < length text

abbrev pub FirstLine : List ℕ → Option (Line × Bor (List ℕ)) → Type 0
FirstLine text None = text ≡ []
FirstLine text (Some (line, rest)) = First text line rest.now
