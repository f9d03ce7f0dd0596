-- A whole run over two new ends: the calls are made at the one, and the other hears the line to its end.
use Rattle.std.specs.Prelude.{◌≡◌, ℕ, Bool, List, map, Ok, Err, vec_items, Result, ◌≢◌}
use Rattle.codes.specs.Rules.{Alike}
use Rattle.frames.specs.declared.answers.Refusal.TheVariants as refusal
use Rattle.frames.specs.declared.settings.Settings.{Settings}
use Rattle.frames.specs.Of.{terms}
use Rattle.frames.specs.Calls.{idle, Lent, line, ledger}
use Rattle.frames.specs.Receiving.{hunting}
use Rattle.frames.specs.Hearing.{reports_from, entries}
use Rattle.sender.specs.declared.idle.Idle.{Idle}
use Rattle.receiver.specs.declared.receiver.Receiver.{Receiver}
use Rattle.receiver.specs.Models.{ear, AlikeEars}
use Rattle.hearing.specs.Hears.{placed_of}
use Rattle.exchange.specs.declared.run.Run.{Run}
use Rattle.exchange.specs.declared.run.RunError.{RunError}
use Rattle.exchange.specs.declared.run.RunError.TheVariants.{Refused, OutOfMemory}
use Rattle.exchange.specs.Sending.{allowed, answers}

module _ {L D : Type 0} (onward back : L → List ℕ → List ℕ) (onward' back' : D → List ℕ → List ℕ) (owed : List ℕ → List ℕ) (good : List ℕ → Bool) (width : ℕ)
    (s : Settings) (near : L) (far : D) (κs : List Lent) where
  -- The answers are those of the table. On the line is the onward rule on what the calls write that are allowed where they
  -- stand. The reports are those of a new receiver on what the back rule gives; and where the two line codes mean the same,
  -- they are the ledger's entries, in order, information included, and nothing else.
  pub record Runs (run : Run) : Type 0 where
    pub check_width : (terms s).width ≡ width
    pub answered : vec_items run.answers ≡ answers (terms s) owed idle κs
    pub written : vec_items run.line ≡ onward near (line (terms s) owed idle (allowed (terms s) owed idle κs))
    pub heard : map placed_of (vec_items run.reports) ≡ reports_from (terms s) good (hunting good) 0 (back' far (vec_items run.line))
    pub reported : Alike (onward near) (onward' far) → Alike (back near) (back' far)
        → entries (map placed_of (vec_items run.reports)) ≡ ledger (terms s) owed idle (allowed (terms s) owed idle κs)

  -- settings with another count of check octets than the check are refused
  abbrev pub Exchanges : Result Run RunError → Type 0
  Exchanges (Ok run) = Runs run
  Exchanges (Err (Refused r)) = ((terms s).width ≢ width) × (r ≡ refusal.Settings)
  Exchanges (Err (OutOfMemory wanting)) = Unit {0}

-- a run over ends that were just made with these settings and line codes
abbrev pub RunsNew : {L D K : Type 0} → (L → List ℕ → List ℕ) → (L → List ℕ → List ℕ) → (D → List ℕ → List ℕ) → (D → List ℕ → List ℕ) → (List ℕ → List ℕ) → (K → List ℕ → Bool) → (List ℕ → Bool) → ℕ → Idle L K → Receiver D K → List Lent → Run → Type 0
RunsNew {L} {D} onward back onward' back' owed passes good width s r κs run =
    (set : Settings) (near : L) (far : D) → (terms set).width ≡ width → s.settings ≡ set → s.line ≡ near
    → r.line ≡ far → r.settings ≡ set → AlikeEars (ear passes r.ear) (hunting good)
    → Runs onward back onward' back' owed good width set near far κs run
