-- What hearing a whole line comes to, however it is cut.
use Rattle.std.specs.Prelude.{◌≡◌, ℕ, ◌+◌, ◌-◌, ◌^◌, ◌<◌, ◌≤◌, Bool, List, [], ◌∷◌, ◌++◌, length, take, Some, None, Ok, Err, Vec, vec_items, Option, Result, slice_index}
use Rattle.std.specs.declared.alloc.Global.{Global}
use Rattle.octets.specs.Octets.{Octets}
use Rattle.codes.specs.Rules.{after, Settles}
use Rattle.frames.specs.declared.answers.Delivered.{Delivered}
use Rattle.frames.specs.declared.answers.Faulty.{Faulty}
use Rattle.frames.specs.Of.{terms}
use Rattle.frames.specs.Layout.{flag}
use Rattle.frames.specs.Calls.{Entry, handed_over, faulty}
use Rattle.frames.specs.Receiving.{Ear, Report}
use Rattle.frames.specs.Hearing.{Placed, reports_from, entries, behind}
use Rattle.receiver.specs.declared.receiver.Receiver.{Receiver}
use Rattle.receiver.specs.Models.{ear}
use Rattle.hearing.specs.declared.heard.Heard.{Heard}

-- what the host gets, as the definitions have it
abbrev pub outcome_entry : Result (Delivered (Vec ℕ Global)) Faulty → Entry
outcome_entry (Ok d) = handed_over d.sapi (vec_items d.information)
outcome_entry (Err x) = faulty x.fault x.gathered

abbrev pub placed_of : Heard → Placed
placed_of h = record { place = h.place; entry = outcome_entry h.outcome }

-- a report with what stands in the delivery buffer
abbrev pub report_entry : Report → List ℕ → Entry
report_entry (Ok d) delivery = handed_over d.sapi (take d.information delivery)
report_entry (Err x) delivery = faulty x.fault x.gathered

abbrev pub noted : ℕ → Option Report → List ℕ → List Placed
noted place None delivery = []
noted place (Some r) delivery = record { place = place; entry = report_entry r delivery } ∷ []

-- the length of the next stretch; behind the last there is one for all that is left
abbrev pub next_stretch : List ℕ → ℕ
next_stretch [] = 2 ^ 64 - 1
next_stretch (c ∷ cs) = c

module _ {L K : Type 0} (back : L → List ℕ → List ℕ) (passes : K → List ℕ → Bool) (good : List ℕ → Bool) where
  -- what a receiver reports of a line, with the places of the octets that raise it
  abbrev pub reports_of : Receiver L K → List ℕ → List Placed
  reports_of r line = reports_from (terms r.settings) good (ear passes r.ear) 0 (back r.line line)

  -- A late joiner agrees: whatever the line code settles in, let any other receiver with the same settings have heard the
  -- line from its start, `before` among it, in any state. Behind any flag, as that one gets it back, that lies the settling
  -- length or more past the joining, both report the same.
  abbrev pub AgreesWhenLate : Receiver L K → List ℕ → List Placed → Type 0
  AgreesWhenLate r line reports =
      (s : ℕ) → Settles s back → (all : L) (e : Ear) (before : List ℕ) → Octets before
      → (i : ℕ) → s ≤ i → i < length line → slice_index (after (back all) before line) i ≡ flag
      → entries (behind i reports) ≡ entries (behind (length before + i) (reports_from (terms r.settings) good e 0 (back all (before ++ line))))
