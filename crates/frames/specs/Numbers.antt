-- The numbers by which a host and a listing know each answer.
use Rattle.std.specs.Prelude.{ℕ}
use Rattle.frames.specs.declared.answers.Fault.{Fault}
use Rattle.frames.specs.declared.answers.Fault.TheVariants as fault
use Rattle.frames.specs.declared.answers.Refusal.{Refusal}
use Rattle.frames.specs.declared.answers.Refusal.TheVariants as refusal
use Rattle.frames.specs.declared.standing.Cause.{Cause}
use Rattle.frames.specs.declared.standing.Cause.TheVariants as cause

abbrev pub refusal_number : Refusal → ℕ
refusal_number refusal.Settings = 1
refusal_number refusal.Unserved = 2
refusal_number refusal.Overfull = 3
refusal_number refusal.Stretch = 4

abbrev pub fault_number : Fault → ℕ
fault_number fault.Abort = 11
fault_number fault.Escape = 12
fault_number fault.Overlong = 13
fault_number fault.Short = 14
fault_number fault.Check = 15
fault_number fault.Address = 16
fault_number fault.Control = 17
fault_number fault.Sapi = 18
fault_number fault.Shelf = 19

-- what a frame that was passed over is reported as
abbrev pub cause_fault : Cause → Fault
cause_fault cause.Escape = fault.Escape
cause_fault cause.Overlong = fault.Overlong
