-- The listing of a script: what each of its calls was answered, wrote and brought about at the far end.
use Rattle.std.specs.Prelude.{ℕ, Bool, true, false, List, [], ◌∷◌, ◌++◌, Some, None, Option}
use Rattle.codes.specs.Rules.{after}
use Rattle.codes.specs.Bitline.{scrambled}
use Rattle.checks.specs.Fcs.{fcs32, owed}
use Rattle.frames.specs.declared.answers.Refusal.{Refusal}
use Rattle.frames.specs.Numbers.{refusal_number}
use Rattle.frames.specs.Terms.{Terms}
use Rattle.frames.specs.Calls.{Call, Frame, idle, allows, octets, next, refused, if_taken, entered}
use Rattle.link.specs.Linked.{first}
use Rattle.script.specs.Script.{script}
use Rattle.script.specs.Rows.{letter_of, row, unfit_row, names_line}

-- both ends of the run: all three services, 1,600 information octets, four check octets; stretches of 8,192 octets
abbrev pub settings : Terms
settings = record { served = 7; longest = 1600; width = 4 }

abbrev pub stretch_length : ℕ
stretch_length = 8192

-- the line code: the scrambler from zeros
abbrev pub line_code : List ℕ → List ℕ
line_code = scrambled 0

-- the check octets of four
abbrev pub check : List ℕ → List ℕ
check = owed fcs32

-- the rows over any settings, line code, check and length of the stretches
module _ (σ : Terms) (start : List ℕ → List ℕ) (owed : List ℕ → List ℕ) (room : ℕ) where
  -- a call's row: where it is taken its octets on the line and the ledger's entry as the report
  abbrev pub call_row : Frame → List ℕ → Call → Option Refusal → List ℕ
  call_row φ sent κ None = row (letter_of κ) 0 (after start sent (octets owed φ κ)) (first (entered σ φ κ))
  call_row φ sent κ (Some r) = row (letter_of κ) (refusal_number r) [] None

  -- a line's row: no call, a call that the frame does not allow, or one that it allows
  abbrev pub allowed_row : Bool → Frame → List ℕ → Call → List ℕ
  allowed_row true φ sent κ = call_row φ sent κ (refused σ owed φ κ room)
  allowed_row false φ sent κ = unfit_row

  abbrev pub line_row : Frame → List ℕ → Option Call → List ℕ
  line_row φ sent None = unfit_row
  line_row φ sent (Some κ) = allowed_row (allows φ κ) φ sent κ

  -- the frame and the octets sent behind a line
  abbrev pub allowed_frame : Bool → Frame → Call → Frame
  allowed_frame true φ κ = if_taken (refused σ owed φ κ room) (next φ κ) φ
  allowed_frame false φ κ = φ

  abbrev pub line_frame : Frame → Option Call → Frame
  line_frame φ None = φ
  line_frame φ (Some κ) = allowed_frame (allows φ κ) φ κ

  abbrev pub allowed_sent : Bool → Frame → List ℕ → Call → List ℕ
  allowed_sent true φ sent κ = if_taken (refused σ owed φ κ room) (sent ++ octets owed φ κ) sent
  allowed_sent false φ sent κ = sent

  abbrev pub line_sent : Frame → List ℕ → Option Call → List ℕ
  line_sent φ sent None = sent
  line_sent φ sent (Some κ) = allowed_sent (allows φ κ) φ sent κ

  -- the rows of a script from a frame and the octets sent on
  unfoldable pub rows : Frame → List ℕ → List (Option Call) → List ℕ
  rows φ sent [] = []
  rows φ sent (κ ∷ κs) = line_row φ sent κ ++ rows (line_frame φ κ) (line_sent φ sent κ) κs

abbrev pub body : Option (List (Option Call)) → List ℕ
body None = unfit_row
body (Some κs) = rows settings line_code check stretch_length idle [] κs

abbrev pub listing : List ℕ → List ℕ
listing input = names_line ++ body (script input)
