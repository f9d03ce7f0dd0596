-- A sender driven by calls given as data: at any moment it stands at a frame and at the octets sent so far.
use Rattle.std.specs.Prelude.{◌≡◌, ℕ, Bool, true, false, List, ◌++◌, length, drop, Some, None, Ok, Err, Option}
use Rattle.codes.specs.Rules.{Alike, after}
use Rattle.frames.specs.declared.answers.Refusal.{Refusal}
use Rattle.frames.specs.Terms.{Terms}
use Rattle.frames.specs.Of.{terms}
use Rattle.frames.specs.Layout.{header}
use Rattle.frames.specs.Calls.{Call, Frame, idle, opened, allows, octets, next, refused, Known}
use Rattle.link.specs.declared.answer.TurnedDown.TheVariants.{Refused, NotAllowed}
use Rattle.link.specs.Answering.{Answer}
use Rattle.link.specs.declared.calling.Sender.{Sender}
use Rattle.link.specs.declared.calling.Sender.TheVariants as sender

module _ {L K : Type 0} (onward : L → List ℕ → List ℕ) (owes : K → List ℕ → List ℕ) (owed : List ℕ → List ℕ) where
  -- A sender stands at a frame: without one open it is idle, with one open its check has taken in the header and the
  -- information and its count is the information's. Its line code has sent what was sent, from the rule `start` on.
  abbrev pub Stands : (List ℕ → List ℕ) → Terms → Frame → List ℕ → Sender L K → Type 0
  Stands start σ idle sent (sender.Idle s) = (terms s.settings ≡ σ) × Alike (onward s.line) (after start sent)
  Stands start σ idle sent (sender.Open s) = ⊥
  Stands start σ (opened a i) sent (sender.Idle s) = ⊥
  Stands start σ (opened a i) sent (sender.Open s) =
      (terms s.settings ≡ σ) × Alike (onward s.line) (after start sent)
      × (s.count ≡ length i) × ((further : List ℕ) → owes s.check further ≡ owed ((header a ++ i) ++ further))

  -- what a call that the frame allows does: taken, or turned down as the table says
  abbrev pub Driven : (List ℕ → List ℕ) → Terms → Frame → List ℕ → Call → Option Refusal → Sender L K → List ℕ → Sender L K → List ℕ → Answer → Type 0
  Driven start σ φ sent κ None s stretch s' stretch' a =
      (a ≡ Ok (length (octets owed φ κ)))
      × (stretch' ≡ after start sent (octets owed φ κ) ++ drop (length (octets owed φ κ)) stretch)
      × Stands start σ (next φ κ) (sent ++ octets owed φ κ) s'
  Driven start σ φ sent κ (Some r) s stretch s' stretch' a = (a ≡ Err (Refused r)) × (stretch' ≡ stretch) × (s' ≡ s)

  -- a call that the frame does not allow alters nothing
  abbrev pub IfAllowed : Bool → (List ℕ → List ℕ) → Terms → Frame → List ℕ → Call → Sender L K → List ℕ → Sender L K → List ℕ → Answer → Type 0
  IfAllowed true start σ φ sent κ s stretch s' stretch' a = Driven start σ φ sent κ (refused σ owed φ κ (length stretch)) s stretch s' stretch' a
  IfAllowed false start σ φ sent κ s stretch s' stretch' a = (a ≡ Err NotAllowed) × (stretch' ≡ stretch) × (s' ≡ s)

  -- whatever frame a sender stands at, and whatever it has sent from whatever rule
  abbrev pub CallsOn : Call → Sender L K → List ℕ → Sender L K → List ℕ → Answer → Type 0
  CallsOn κ s stretch s' stretch' a =
      (start : List ℕ → List ℕ) (σ : Terms) (φ : Frame) (sent : List ℕ) → Known φ → Stands start σ φ sent s
      → IfAllowed (allows φ κ) start σ φ sent κ s stretch s' stretch' a
