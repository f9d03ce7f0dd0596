-- What each step of a run adds to a listing, wherever the link stands.
use Rattle.std.specs.Prelude.{◌≡◌, ℕ, ◌≤◌, Bool, List, [], ◌++◌, take, None, Ok, Err, Option}
use Rattle.octets.specs.Octets.{Octets}
use Rattle.frames.specs.Numbers.{refusal_number}
use Rattle.frames.specs.Receiving.{Report}
use Rattle.frames.specs.Terms.{Terms}
use Rattle.frames.specs.Calls.{Call, Frame}
use Rattle.link.specs.Answering.{Answer}
use Rattle.link.specs.declared.answer.TurnedDown.TheVariants.{Refused, NotAllowed}
use Rattle.link.specs.declared.link.Link.{Link}
use Rattle.link.specs.Linked.{Start, Linked}
use Rattle.listing.specs.Listing.{line_row, line_frame, line_sent, rows}
use Rattle.script.specs.Rows.{report_row, unfit_row}

-- the row of a call by its letter, what it was answered, the stretch that it left and what was reported of it
abbrev pub answered_row : ℕ → Answer → List ℕ → Option Report → List ℕ
answered_row letter (Ok count) stretch report = report_row letter 0 (take count stretch) report
answered_row letter (Err (Refused r)) stretch report = report_row letter (refusal_number r) [] None
answered_row letter (Err NotAllowed) stretch report = unfit_row

module _ {L D K : Type 0} (onward : L → List ℕ → List ℕ) (back : D → List ℕ → List ℕ) (owes : K → List ℕ → List ℕ) (passes : K → List ℕ → Bool) (owed : List ℕ → List ℕ) (good : List ℕ → Bool) (width : ℕ) where
  -- the link stands at a frame and at octets sent
  pub record At (start start' : List ℕ → List ℕ) (σ : Terms) (φ : Frame) (sent : List ℕ) (l : Link L D K) : Type 0 where
    pub code : Start start start'
    pub octets : Octets sent
    pub linked : Linked onward back owes passes owed good width start start' σ φ sent l

  -- one line of a script, with stretches of `room` octets and a delivery buffer that holds the longest information
  abbrev pub Lists : Option Call → ℕ → ℕ → Link L D K → List ℕ → Link L D K → List ℕ → Type 0
  Lists κ room shelf l out l' out' =
      (start start' : List ℕ → List ℕ) (σ : Terms) (φ : Frame) (sent : List ℕ) → σ.longest ≤ shelf → At start start' σ φ sent l
      → (out' ≡ out ++ line_row σ start owed room φ sent κ)
      × At start start' σ (line_frame σ start owed room φ κ) (line_sent σ start owed room φ sent κ) l'

  -- a whole script
  abbrev pub ListsAll : List (Option Call) → ℕ → ℕ → Link L D K → List ℕ → List ℕ → Type 0
  ListsAll κs room shelf l out out' =
      (start start' : List ℕ → List ℕ) (σ : Terms) (φ : Frame) (sent : List ℕ) → σ.longest ≤ shelf → At start start' σ φ sent l
      → out' ≡ out ++ rows σ start owed room φ sent κs
