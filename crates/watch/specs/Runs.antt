-- The link watch over whole runs.
use Rattle.std.specs.Prelude.{◌≡◌, ℕ, suc, ◌*◌, ◌%◌, Bool, true, false, cond, not, ◌&&◌, List, [], ◌∷◌, ◌==◌}
use Rattle.watch.specs.declared.watch.Indication.{Indication}
use Rattle.watch.specs.declared.watch.Indication.TheVariants.{Quiet, LinkError}
use Rattle.watch.specs.Watch.{Standing, fresh, heard_again, ticked, says, with_mute}

-- what can happen to a watch; a mute lasts from `test_begins` to `test_ends`
pub data Event : Type 0 where
  tick : Event
  heard : Event
  test_begins : Event
  test_ends : Event

-- A history is all that has happened to a watch since its making, the latest event first.
abbrev pub History : Type 0
History = List Event

-- how many ticks have passed since the link was last heard or the watch was made; mutes do not matter
abbrev pub ticks_since : History → ℕ
ticks_since [] = 0
ticks_since (tick ∷ h) = suc (ticks_since h)
ticks_since (heard ∷ h) = 0
ticks_since (test_begins ∷ h) = ticks_since h
ticks_since (test_ends ∷ h) = ticks_since h

-- whether a line test is in progress
abbrev pub testing : History → Bool
testing [] = false
testing (tick ∷ h) = testing h
testing (heard ∷ h) = testing h
testing (test_begins ∷ h) = true
testing (test_ends ∷ h) = false

-- The law of runs. Tick number k since the link was last heard indicates an error exactly when T · N divides k, and
-- no line test is in progress.
abbrev pub indicated : ℕ → ℕ → History → Indication
indicated timer tries h = cond (suc (ticks_since h) % (timer * tries) == 0 && not (testing h)) LinkError Quiet

-- where a history leaves a watch of T and N, by the definitions of the single calls
abbrev pub after : ℕ → ℕ → History → Standing
after timer tries [] = fresh timer tries
after timer tries (tick ∷ h) = ticked (after timer tries h)
after timer tries (heard ∷ h) = heard_again (after timer tries h)
after timer tries (test_begins ∷ h) = with_mute true (after timer tries h)
after timer tries (test_ends ∷ h) = with_mute false (after timer tries h)

-- the same history without its line tests: their ticks stay
abbrev pub untested : History → History
untested [] = []
untested (tick ∷ h) = tick ∷ untested h
untested (heard ∷ h) = heard ∷ untested h
untested (test_begins ∷ h) = untested h
untested (test_ends ∷ h) = untested h

-- Of a tick of a watch that stands at s and the indication r that it gave: whatever history led there, r is what the
-- law says of that history.
abbrev pub ByLaw : Standing → Indication → Type 0
ByLaw s r = (h : History) → s ≡ after s.timer s.tries h → r ≡ indicated s.timer s.tries h

-- A mute changes no later tick: outside a line test, r is what the tick gives after the same history without any.
abbrev pub MutesPass : Standing → Indication → Type 0
MutesPass s r = (h : History) → s ≡ after s.timer s.tries h → s.muted ≡ false → r ≡ says (after s.timer s.tries (untested h))
