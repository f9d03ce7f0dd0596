-- What a sender makes of a whole list of calls, those that it does not allow included.
use Rattle.std.specs.Prelude.{◌≡◌, ℕ, cond, List, [], ◌∷◌, ◌++◌, length, take, Some, None, Ok, Err, Option}
use Rattle.std.specs.List.{AllByRecursion}
use Rattle.octets.specs.Octets.{Octets}
use Rattle.codes.specs.Rules.{Rule, after}
use Rattle.frames.specs.declared.answers.Refusal.{Refusal}
use Rattle.frames.specs.Terms.{Terms}
use Rattle.frames.specs.Calls.{Frame, allows, octets, refused, Lent, frame_after, written, line, Typed, Known}
use Rattle.link.specs.declared.answer.TurnedDown.TheVariants.{Refused, NotAllowed}
use Rattle.link.specs.Answering.{Answer}
use Rattle.link.specs.declared.calling.Sender.{Sender}
use Rattle.frames.specs.Of.{lent_call}
use Rattle.link.specs.Driving.{Stands}
use Rattle.exchange.specs.declared.lent.Lent.{Lent as Given}

-- a call as the definitions have it
abbrev pub lent_of : Given → Lent
lent_of g = record { call = lent_call g.request; room = g.room }

-- of any list the calls that are allowed where they stand; the others alter nothing
unfoldable pub allowed : Terms → (List ℕ → List ℕ) → Frame → List Lent → List Lent
allowed σ owed φ [] = []
allowed σ owed φ (κ ∷ κs) = cond (allows φ κ.call) (κ ∷ allowed σ owed (frame_after σ owed φ κ) κs) (allowed σ owed φ κs)

-- what an answer says was written at the front of a stretch
abbrev pub written_front : Answer → List ℕ → List ℕ
written_front (Ok n) stretch = take n stretch
written_front (Err t) stretch = []

abbrev pub answered : Option Refusal → List ℕ → Answer
answered None os = Ok (length os)
answered (Some r) os = Err (Refused r)

-- at a frame a call is answered as the table of refusals says, or is not allowed
module _ (σ : Terms) (owed : List ℕ → List ℕ) where
  abbrev pub answer_at : Frame → Lent → Answer
  answer_at φ κ = cond (allows φ κ.call) (answered (refused σ owed φ κ.call κ.room) (octets owed φ κ.call)) (Err NotAllowed)

  abbrev pub frame_at : Frame → Lent → Frame
  frame_at φ κ = cond (allows φ κ.call) (frame_after σ owed φ κ) φ

  abbrev pub written_at : Frame → Lent → List ℕ
  written_at φ κ = cond (allows φ κ.call) (written σ owed φ κ) []

  unfoldable pub answers : Frame → List Lent → List Answer
  answers φ [] = []
  answers φ (κ ∷ κs) = answer_at φ κ ∷ answers (frame_at φ κ) κs

module _ {L K : Type 0} (onward : L → List ℕ → List ℕ) (owes : K → List ℕ → List ℕ) (owed : List ℕ → List ℕ) where
  -- one call, wherever the sender stands: its answer, what is put behind the line, and where the sender then stands
  abbrev pub SendsOne : Lent → Sender L K → List ℕ → List Answer → Sender L K → List ℕ → List Answer → Type 0
  SendsOne κ s text past s' text' past' =
      (start : List ℕ → List ℕ) → Rule start → (σ : Terms) (φ : Frame) (sent : List ℕ) → Octets sent → Known φ → Stands onward owes owed start σ φ sent s
      → (past' ≡ past ++ answer_at σ owed φ κ ∷ []) × (text' ≡ text ++ after start sent (written_at σ owed φ κ))
      × Stands onward owes owed start σ (frame_at σ owed φ κ) (sent ++ written_at σ owed φ κ) s'

  -- a list of calls: their answers, and on the line what the calls write that are allowed where they stand
  abbrev pub SendsAll : List Lent → Sender L K → List ℕ → List Answer → List ℕ → List Answer → Type 0
  SendsAll κs s text past text' past' =
      AllByRecursion (λ κ. Typed κ.call) κs
      × ((start : List ℕ → List ℕ) → Rule start → (σ : Terms) (φ : Frame) (sent : List ℕ) → Octets sent → Known φ → Stands onward owes owed start σ φ sent s
      → (past' ≡ past ++ answers σ owed φ κs) × (text' ≡ text ++ after start sent (line σ owed φ (allowed σ owed φ κs))))
