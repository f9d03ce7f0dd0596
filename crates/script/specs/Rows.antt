-- The listing of a run: the names, then one row for each line of the script.
use Rattle.std.specs.Prelude.{ℕ, ◌/◌, ◌%◌, List, [], ◌∷◌, ◌++◌, Some, None, Ok, Err, codes, Option}
use Rattle.std.specs.Option.{option_map}
use Rattle.frames.specs.Calls.{Call, opening, adding, adapting, filling, closing, aborting, spoiling, Entry}
use Rattle.frames.specs.Numbers.{fault_number}
use Rattle.frames.specs.Receiving.{Report, report_of}
use Rattle.text.specs.Decimal.{decimal}
use Rattle.text.specs.Hex.{hex}
use Rattle.script.specs.declared.kind.Kind.TheVariants as kind
use Rattle.script.specs.declared.rows.Row.{Row}
use Rattle.script.specs.Script.{letter, comma}

abbrev pub letter_of : Call → ℕ
letter_of (opening sapi) = letter kind.Open
letter_of (adding os) = letter kind.Add
letter_of (adapting k) = letter kind.Adapt
letter_of (filling k) = letter kind.Fill
letter_of closing = letter kind.Close
letter_of aborting = letter kind.Abort
letter_of spoiling = letter kind.Spoil

-- the columns of a report: D or F, its number, the SAPI and the count
abbrev pub fields_of_report : Option Report → List ℕ
fields_of_report None = codes "-,-,-,-"
fields_of_report (Some (Ok d)) = codes "D,0," ++ hex (d.sapi / 256 ∷ d.sapi % 256 ∷ []) ++ codes "," ++ decimal d.information
fields_of_report (Some (Err f)) = codes "F," ++ decimal (fault_number f.fault) ++ codes ",-," ++ decimal f.gathered

-- a call's letter, its answer, the line octets and the report
abbrev pub report_row : ℕ → ℕ → List ℕ → Option Report → List ℕ
report_row name answer line report =
    (name ∷ comma ∷ []) ++ decimal answer ++ codes "," ++ hex line ++ codes "," ++ fields_of_report report ++ codes "\n"

abbrev pub row_text : Row → List ℕ
row_text r = report_row r.letter r.answer r.line.now r.report

abbrev pub row : ℕ → ℕ → List ℕ → Option Entry → List ℕ
row name answer line entry = report_row name answer line (option_map report_of entry)

-- the row of a line that is no call, or no call that the sender allows
abbrev pub unfit_letter : ℕ
unfit_letter = 63  -- ?

abbrev pub unfit_number : ℕ
unfit_number = 31

abbrev pub unfit_row : List ℕ
unfit_row = row unfit_letter unfit_number [] None

abbrev pub names_line : List ℕ
names_line = codes "call,answer,line,report,number,sapi,count\n"
