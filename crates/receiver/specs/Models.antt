-- The receiver's values as the definitions take them. The members of the bounds are handed over one by one, here and above,
-- so that a reader sees which of them a fact speaks of.
use Rattle.std.specs.Prelude.{◌≡◌, ℕ, Bool, List, length, take, Some, None, Ok, Err, Option, Result, ◌≢◌}
use Rattle.codes.specs.Rules.{Steps, Alike, after}
use Rattle.std.specs.Option.{option_map}
use Rattle.frames.specs.Of.{terms}
use Rattle.frames.specs.declared.settings.Settings.{Settings}
use Rattle.frames.specs.declared.answers.Refusal.TheVariants as refusal
use Rattle.frames.specs.declared.answers.Refused.{Refused}
use Rattle.frames.specs.declared.answers.Fault.{Fault}
use Rattle.frames.specs.declared.answers.Delivered.{Delivered}
use Rattle.frames.specs.Calls.{Entry}
use Rattle.frames.specs.Receiving.{Ear, Report, hunting, raised, moved, used, reported, ear_after, report_of, delivered}
use Rattle.frames.specs.Hearing.{Receiver as Hearer}
use Rattle.receiver.specs.declared.ear.Gatherer.{Gatherer}
use Rattle.receiver.specs.declared.receiver.Receiver.{Receiver}

-- what a receiver has in hand, by what its check will say of the octets gathered and further ones
abbrev pub ear : {K : Type 0} → (K → List ℕ → Bool) → Gatherer K → Ear
ear passes g = record { standing = g.standing; gathered = g.gathered; good_with = passes g.check }

-- two ears alike, field by field
pub record AlikeEars (e e' : Ear) : Type 0 where
  pub standing : e.standing ≡ e'.standing
  pub gathered : e.gathered ≡ e'.gathered
  pub good_with : (os : List ℕ) → e.good_with os ≡ e'.good_with os

-- a receiver by its back rule and what it has in hand
abbrev pub receiver : {L K : Type 0} → (L → List ℕ → List ℕ) → (K → List ℕ → Bool) → Receiver L K → Hearer
receiver back passes r = record { back = back r.line; ear = ear passes r.ear }

-- making: refused where the settings have another count of check octets than the check, else hunting with the settings and the line code given
abbrev pub Making : {L K : Type 0} → (K → List ℕ → Bool) → (List ℕ → Bool) → ℕ → Settings → L → Result (Receiver L K) (Refused L) → Type 0
Making passes good width s l (Ok r) = (s.width ≡ width) × (r.line ≡ l) × (r.settings ≡ s) × AlikeEars (ear passes r.ear) (hunting good)
Making passes good width s l (Err x) = (s.width ≢ width) × (x.given ≡ l) × (x.refusal ≡ refusal.Settings)

-- a report, the count of octets gathered put beside a fault
abbrev pub with_count : ℕ → Result (Delivered ℕ) Fault → Report
with_count n (Ok d) = Ok d
with_count n (Err f) = Err (record { fault = f; gathered = n })

-- the first report that a stretch raises, with the count of octets used, if it raises any
abbrev pub first_of : ℕ → Option Entry → Option (ℕ × Report)
first_of n None = None
first_of n (Some v) = Some (n, report_of v)

-- what hearing one octet of the line does: some octet comes back by the rule, and is heard
pub record Heard {L K : Type 0} (back : L → List ℕ → List ℕ) (passes : K → List ℕ → Bool) (good : List ℕ → Bool) (r : Receiver L K) (x : ℕ) (buffer : List ℕ) (r' : Receiver L K) (buffer' : List ℕ) (report : Option Report) : Type 0 where
  pub answer : ℕ
  pub steps : Steps (back r.line) x answer (back r'.line)
  pub reports : report ≡ option_map report_of (raised (terms r.settings) (length buffer) (ear passes r.ear) answer)
  pub delivers : buffer' ≡ delivered (raised (terms r.settings) (length buffer) (ear passes r.ear) answer) buffer
  pub moves : AlikeEars (ear passes r'.ear) (moved (terms r.settings) good (ear passes r.ear) answer)
  pub settings : r'.settings ≡ r.settings

module _ {L K : Type 0} (back : L → List ℕ → List ℕ) (passes : K → List ℕ → Bool) (good : List ℕ → Bool) where
  -- how many octets of a stretch a receiver uses, and what it reports, with a delivery buffer of `room` octets
  abbrev pub uses : Receiver L K → ℕ → List ℕ → ℕ
  uses r room stretch = used (terms r.settings) good room (ear passes r.ear) (back r.line stretch)

  abbrev pub raises : Receiver L K → ℕ → List ℕ → Option Entry
  raises r room stretch = reported (terms r.settings) good room (ear passes r.ear) (back r.line stretch)

  -- the receiver r' is r once it has heard these octets
  pub record HasHeard (r : Receiver L K) (os : List ℕ) (r' : Receiver L K) : Type 0 where
    pub ears : AlikeEars (ear passes r'.ear) (ear_after (terms r.settings) good (ear passes r.ear) (back r.line os))
    pub backs : Alike (back r'.line) (after (back r.line) os)
    pub settings : r'.settings ≡ r.settings

  -- a feed: the octets used, the report, the delivery buffer and the receiver left
  pub record Fed (r : Receiver L K) (stretch buffer : List ℕ) (r' : Receiver L K) (buffer' : List ℕ) (n : ℕ) (report : Option Report) : Type 0 where
    pub count : n ≡ uses r (length buffer) stretch
    pub report_is : report ≡ option_map report_of (raises r (length buffer) stretch)
    pub delivers : buffer' ≡ delivered (raises r (length buffer) stretch) buffer
    pub leaves : HasHeard r (take n stretch) r'

  -- the first report that a stretch raises, if any
  pub record First (r : Receiver L K) (stretch buffer : List ℕ) (r' : Receiver L K) (buffer' : List ℕ) (found : Option (ℕ × Report)) : Type 0 where
    pub found_is : found ≡ first_of (uses r (length buffer) stretch) (raises r (length buffer) stretch)
    pub else_all : found ≡ None → uses r (length buffer) stretch ≡ length stretch
    pub delivers : buffer' ≡ delivered (raises r (length buffer) stretch) buffer
    pub leaves : HasHeard r (take (uses r (length buffer) stretch) stretch) r'
