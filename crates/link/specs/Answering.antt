-- The outcome of a sender's call, as a sender in either state and an answer.
use Rattle.std.specs.Prelude.{◌≡◌, ℕ, Ok, Err, Result}
use Rattle.frames.specs.declared.answers.Refusal.{Refusal}
use Rattle.frames.specs.declared.answers.Refused.{Refused}
use Rattle.sender.specs.declared.idle.Idle.{Idle}
use Rattle.sender.specs.declared.open.Open.{Open}
use Rattle.link.specs.declared.answer.TurnedDown.{TurnedDown}
use Rattle.link.specs.declared.answer.TurnedDown.TheVariants as turned_down
use Rattle.link.specs.declared.calling.Sender.{Sender}
use Rattle.link.specs.declared.calling.Sender.TheVariants as sender
use Rattle.link.specs.declared.calling.Called.{Called}

-- how many octets a call wrote, or why none
abbrev pub Answer : Type 0
Answer = Result ℕ TurnedDown

abbrev pub answered_as : Result ℕ Refusal → Answer
answered_as (Ok written) = Ok written
answered_as (Err refusal) = Err (turned_down.Refused refusal)

abbrev pub stayed_as : {L K : Type 0} → Sender L K → Result ℕ Refusal → Called L K
stayed_as s outcome = record { sender = s; answer = answered_as outcome }

-- a sender in its other state, or the same one given back, each as a sender in either state
abbrev pub Crosses : {L K A B : Type 0} → (A → Sender L K → Type 0) → (B → Sender L K → Type 0) → Result (A × ℕ) (Refused B) → Called L K → Type 0
Crosses other back (Ok (a, written)) called = other a called.sender × (called.answer ≡ Ok written)
Crosses other back (Err e) called = back e.given called.sender × (called.answer ≡ Err (turned_down.Refused e.refusal))
