-- What a receiver makes of the octets that its line code gives back, octet by octet.
use Rattle.std.specs.Prelude.{ℕ, suc, ◌+◌, ◌-◌, ◌*◌, Bool, cond, not, List, [], ◌∷◌, ◌++◌, length, take, drop, Some, None, Ok, Err, Option, Result, ◌==◌, nat_lt, slice_index}
use Rattle.frames.specs.declared.answers.Fault.{Fault}
use Rattle.frames.specs.declared.answers.Fault.TheVariants as fault
use Rattle.frames.specs.declared.answers.Delivered.{Delivered}
use Rattle.frames.specs.declared.answers.Faulty.{Faulty}
use Rattle.frames.specs.declared.standing.Standing.{Standing}
use Rattle.frames.specs.declared.standing.Standing.TheVariants.{Hunting, Gathering, AfterEscape, Skipping}
use Rattle.frames.specs.declared.standing.Cause.TheVariants as cause
use Rattle.frames.specs.Numbers.{cause_fault}
use Rattle.frames.specs.Terms.{Terms, serves, header_length, limit}
use Rattle.frames.specs.Layout.{flag, escape}
use Rattle.frames.specs.Calls.{Entry, handed_over, faulty}

-- where a receiver stands, the octets gathered since the last flag, and what its check will say of them once further
-- octets are gathered
pub record Ear : Type 0 where
  pub standing : Standing
  pub gathered : List ℕ
  pub good_with : List ℕ → Bool

-- a frame begins with nothing gathered; `good` is the check's own
abbrev pub begun : (List ℕ → Bool) → Ear
begun good = record { standing = Gathering; gathered = []; good_with = good }

abbrev pub hunting : (List ℕ → Bool) → Ear
hunting good = record { standing = Hunting; gathered = []; good_with = good }

abbrev pub stand : Standing → Ear → Ear
stand s e = record { standing = s; gathered = e.gathered; good_with = e.good_with }

-- the reading of the octet behind an escape
pub data Reading : Type 0 where
  stands_for : ℕ → Reading
  adaptation : Reading
  nothing_known : Reading

abbrev pub read_escape : ℕ → Reading
read_escape o = cond (o == 0x5d) (stands_for escape) (cond (o == 0x5e) (stands_for flag) (cond (o == 0xdd) adaptation nothing_known))

-- one octet more, unless that is more than a good frame has
abbrev pub gather : Terms → Ear → ℕ → Ear
gather σ e x =
    cond (nat_lt (length e.gathered) (limit σ))
    (record { standing = Gathering; gathered = e.gathered ++ x ∷ []; good_with = λ os. e.good_with (x ∷ os) })
    (stand (Skipping cause.Overlong) e)

abbrev pub after_escape : Terms → Ear → Reading → Ear
after_escape σ e (stands_for x) = gather σ e x
after_escape σ e adaptation = stand Gathering e
after_escape σ e nothing_known = stand (Skipping cause.Escape) e

-- an octet other than a flag
abbrev pub on_octet : Terms → Ear → Standing → ℕ → Ear
on_octet σ e Hunting o = e
on_octet σ e (Skipping c) o = e
on_octet σ e Gathering o = cond (o == escape) (stand AfterEscape e) (gather σ e o)
on_octet σ e AfterEscape o = after_escape σ e (read_escape o)

-- any octet: after a flag a frame begins
abbrev pub moved : Terms → (List ℕ → Bool) → Ear → ℕ → Ear
moved σ good e o = cond (o == flag) (begun good) (on_octet σ e e.standing o)

-- the parts of a gathered frame
abbrev pub sapi_of : List ℕ → ℕ
sapi_of g = slice_index g 2 * 256 + slice_index g 3

abbrev pub information_of : Terms → List ℕ → List ℕ
information_of σ g = take (length g - header_length - σ.width) (drop header_length g)

-- what is wrong with a gathered frame, the first that applies; `room` is the length of the delivery buffer
abbrev pub fault_of : Terms → ℕ → Bool → List ℕ → Option Fault
fault_of σ room good? g =
    cond (nat_lt (length g) (header_length + σ.width)) (Some fault.Short)
    (cond (not good?) (Some fault.Check)
    (cond (not (slice_index g 0 == 0x04)) (Some fault.Address)
    (cond (not (slice_index g 1 == 0x03)) (Some fault.Control)
    (cond (not (serves σ.served (sapi_of g))) (Some fault.Sapi)
    (cond (nat_lt room (length (information_of σ g))) (Some fault.Shelf) None)))))

-- the judgement: such a fault, or the frame is handed over
abbrev pub judged : Terms → List ℕ → Option Fault → Entry
judged σ g (Some f) = faulty f (length g)
judged σ g None = handed_over (sapi_of g) (information_of σ g)

abbrev pub judgement : Terms → ℕ → Bool → List ℕ → Entry
judgement σ room good? g = judged σ g (fault_of σ room good? g)

-- what a flag makes of what came before it
abbrev pub verdict : Terms → ℕ → Ear → Standing → Option Entry
verdict σ room e Hunting = None
verdict σ room e Gathering = cond (length e.gathered == 0) None (Some (judgement σ room (e.good_with []) e.gathered))
verdict σ room e AfterEscape = Some (faulty fault.Abort (length e.gathered))
verdict σ room e (Skipping c) = Some (faulty (cause_fault c) (length e.gathered))

-- only a flag raises a report
abbrev pub raised : Terms → ℕ → Ear → ℕ → Option Entry
raised σ room e o = cond (o == flag) (verdict σ room e e.standing) None

-- a stretch of octets: they are used up to the one that raises a report, else all
unfoldable pub used : Terms → (List ℕ → Bool) → ℕ → Ear → List ℕ → ℕ
used σ good room e [] = 0
used σ good room e (o ∷ os) = elim (raised σ room e o) [ None ↦ suc (used σ good room (moved σ good e o) os) | Some r ↦ 1 ]

unfoldable pub reported : Terms → (List ℕ → Bool) → ℕ → Ear → List ℕ → Option Entry
reported σ good room e [] = None
reported σ good room e (o ∷ os) = elim (raised σ room e o) [ None ↦ reported σ good room (moved σ good e o) os | Some r ↦ Some r ]

unfoldable pub ear_after : Terms → (List ℕ → Bool) → Ear → List ℕ → Ear
ear_after σ good e [] = e
ear_after σ good e (o ∷ os) = ear_after σ good (moved σ good e o) os

-- a report as a host gets it, and the delivery buffer behind it: information at its front, else all as it was
abbrev pub Report : Type 0
Report = Result (Delivered ℕ) Faulty

abbrev pub report_of : Entry → Report
report_of (handed_over s i) = Ok (record { sapi = s; information = length i })
report_of (faulty f n) = Err (record { fault = f; gathered = n })

abbrev pub delivered : Option Entry → List ℕ → List ℕ
delivered None buffer = buffer
delivered (Some (handed_over s i)) buffer = i ++ drop (length i) buffer
delivered (Some (faulty f n)) buffer = buffer
