-- The link watch, call by call.
use Rattle.std.specs.Prelude.{ℕ, ◌-◌, Bool, true, false, cond, not, ◌&&◌, List, [], ◌∷◌, Ok, Err, Result, ◌==◌, nat_le}
use Rattle.watch.specs.declared.watch.Indication.{Indication}
use Rattle.watch.specs.declared.watch.Indication.TheVariants.{Quiet, LinkError}
use Rattle.watch.specs.declared.watch.LinkWatch.{LinkWatch}
use Rattle.watch.specs.declared.watch.Refusal.{Refusal}
use Rattle.watch.specs.declared.watch.Refusal.TheVariants.{Timer}

-- where a watch stands: T and N, how many ticks the timer has left, how many tries, and whether it is muted
pub record Standing : Type 0 where
  pub timer : ℕ
  pub tries : ℕ
  pub left : ℕ
  pub tries_left : ℕ
  pub muted : Bool

abbrev pub standing : LinkWatch → Standing
standing w = record { timer = w.timer.from; tries = w.tries.from; left = w.timer.left; tries_left = w.tries.left; muted = w.muted }

-- a new watch: the whole of T is left, and all N tries
abbrev pub fresh : ℕ → ℕ → Standing
fresh timer tries = record { timer = timer; tries = tries; left = timer; tries_left = tries; muted = false }

-- T from 1 to 600, N from 1 to 255
abbrev pub in_range : ℕ → ℕ → Bool
in_range timer tries = nat_le 1 timer && nat_le timer 600 && nat_le 1 tries && nat_le tries 255

abbrev pub made : ℕ → ℕ → Result Standing Refusal
made timer tries = cond (in_range timer tries) (Ok (fresh timer tries)) (Err Timer)

abbrev pub outcome : Result LinkWatch Refusal → Result Standing Refusal
outcome (Ok w) = Ok (standing w)
outcome (Err e) = Err e

abbrev pub heard_again : Standing → Standing
heard_again s = record { timer = s.timer; tries = s.tries; left = s.timer; tries_left = s.tries; muted = s.muted }

-- a tick takes one from `left`; whether that leaves none, and whether the try then taken was the last
abbrev pub runs_out : Standing → Bool
runs_out s = s.left - 1 == 0

abbrev pub last_try : Standing → Bool
last_try s = s.tries_left - 1 == 0

abbrev pub ticked : Standing → Standing
ticked s = record {
  timer = s.timer;
  tries = s.tries;
  left = cond (runs_out s) s.timer (s.left - 1);
  tries_left = cond (runs_out s) (cond (last_try s) s.tries (s.tries_left - 1)) s.tries_left;
  muted = s.muted;
}

-- what that tick tells the host
abbrev pub says : Standing → Indication
says s = cond ((runs_out s && last_try s) && not s.muted) LinkError Quiet

abbrev pub with_mute : Bool → Standing → Standing
with_mute flag s = record { timer = s.timer; tries = s.tries; left = s.left; tries_left = s.tries_left; muted = flag }

-- A line test that wants an answer at each tick, and gives up at the first that is missing: whether all came, the
-- ticks that it lasts, and where it leaves the watch.
abbrev pub all_answered : List Bool → Bool
all_answered [] = true
all_answered (true ∷ rest) = all_answered rest
all_answered (false ∷ rest) = false

abbrev pub ticks_tested : List Bool → Standing → Standing
ticks_tested [] s = s
ticks_tested (true ∷ rest) s = ticks_tested rest (ticked s)
ticks_tested (false ∷ rest) s = ticked s

abbrev pub tested : List Bool → Standing → Standing
tested answers s = with_mute false (ticks_tested answers (with_mute true s))

abbrev pub number_of : Refusal → ℕ
number_of Timer = 5
