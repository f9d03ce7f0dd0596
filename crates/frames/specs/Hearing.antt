-- Hearing: any feeds, one after the other, of the octets of a line.
use Rattle.std.specs.Prelude.{◌≡◌, ℕ, suc, ◌+◌, ◌-◌, ◌≤◌, Bool, List, [], ◌∷◌, ◌++◌, map, length, take, drop, Some, None, filter, Option, nat_lt}
use Rattle.codes.specs.Rules.{after, Alike}
use Rattle.std.specs.List.{AllByRecursion}
use Rattle.frames.specs.Terms.{Terms, limit}
use Rattle.frames.specs.Calls.{Entry}
use Rattle.frames.specs.Receiving.{Ear, moved, raised, used, reported, ear_after}

-- a report, its information included, with the place on the line of the octet that raised it
pub record Placed : Type 0 where
  pub place : ℕ
  pub entry : Entry

abbrev pub placed : ℕ → Option Entry → List Placed
placed p None = []
placed p (Some e) = record { place = p; entry = e } ∷ []

-- the reports of a whole list of octets, from place p on, with room for the longest information
unfoldable pub reports_from : Terms → (List ℕ → Bool) → Ear → ℕ → List ℕ → List Placed
reports_from σ good e p [] = []
reports_from σ good e p (o ∷ os) = placed p (raised σ σ.longest e o) ++ reports_from σ good (moved σ good e o) (suc p) os

-- what a feed is lent: the lengths of its stretch and of its delivery buffer
pub record Feed : Type 0 where
  pub stretch : ℕ
  pub room : ℕ

-- a delivery buffer holds the longest information
abbrev pub Roomy : Terms → List Feed → Type 0
Roomy σ = AllByRecursion (λ φ. σ.longest ≤ φ.room)

-- a receiver: its line code's back rule and what it has in hand
pub record Receiver : Type 0 where
  pub back : List ℕ → List ℕ
  pub ear : Ear

-- how many of the octets ahead one feed uses, what it reports, and the receiver it leaves
abbrev pub feed_used : Terms → (List ℕ → Bool) → Receiver → Feed → List ℕ → ℕ
feed_used σ good r φ ahead = used σ good φ.room r.ear (r.back (take φ.stretch ahead))

abbrev pub feed_reported : Terms → (List ℕ → Bool) → Receiver → Feed → List ℕ → Option Entry
feed_reported σ good r φ ahead = reported σ good φ.room r.ear (r.back (take φ.stretch ahead))

abbrev pub heard : Terms → (List ℕ → Bool) → Receiver → List ℕ → Receiver
heard σ good r os = record { back = after r.back os; ear = ear_after σ good r.ear (r.back os) }

-- feeds in turn, each from the first unused octet on: the reports, the receiver left and the octets left over
pub record Hearing : Type 0 where
  pub reports : List Placed
  pub receiver : Receiver
  pub over : List ℕ

unfoldable pub hear : Terms → (List ℕ → Bool) → Receiver → ℕ → List ℕ → List Feed → Hearing
hear σ good r p ahead [] = record { reports = []; receiver = r; over = ahead }
hear σ good r p ahead (φ ∷ φs) =
    let n = feed_used σ good r φ ahead in
    let rest = hear σ good (heard σ good r (take n ahead)) (p + n) (drop n ahead) φs in
    record { reports = placed (p + n - 1) (feed_reported σ good r φ ahead) ++ rest.reports; receiver = rest.receiver; over = rest.over }

-- equal state, beside equal terms and one kind of check: the back rules answer alike, and standing, octets gathered
-- and what the check will say of them are the same
pub record Equal (r r' : Receiver) : Type 0 where
  pub back : Alike r.back r'.back
  pub ear : r.ear ≡ r'.ear

-- no more is gathered than a good frame has
abbrev pub Within : Terms → Ear → Type 0
Within σ e = length e.gathered ≤ limit σ

-- the reports raised behind a place
abbrev pub behind : ℕ → List Placed → List Placed
behind i = filter (λ x. nat_lt i x.place)

abbrev pub entries : List Placed → List Entry
entries = map (λ x. x.entry)
