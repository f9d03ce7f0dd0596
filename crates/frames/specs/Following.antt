-- A receiver that follows a sender whose octets it has all heard.
use Rattle.std.specs.Prelude.{◌≡◌, ℕ, ◌<◌, ◌≤◌, Bool, true, ◌⊎◌, List, ◌++◌, length}
use Rattle.octets.specs.Octets.{Octets}
use Rattle.frames.specs.declared.standing.Standing.TheVariants.{Gathering}
use Rattle.frames.specs.Terms.{Terms, serves}
use Rattle.frames.specs.Layout.{header}
use Rattle.frames.specs.Calls.{Frame, idle, opened}
use Rattle.frames.specs.Receiving.{Ear, hunting, begun}

-- a receiver that has gathered g since the last flag
abbrev pub holding : (List ℕ → Bool) → List ℕ → Ear
holding good g = record { standing = Gathering; gathered = g; good_with = λ os. good (g ++ os) }

-- in a frame it has gathered the header and the information
pub record InFrame (σ : Terms) (good : List ℕ → Bool) (s : ℕ) (i : List ℕ) (e : Ear) : Type 0 where
  pub holds : e ≡ holding good (header s ++ i)
  pub short : length i ≤ σ.longest
  pub served : serves σ.served s ≡ true
  pub sapi : s < 65536
  pub octets : Octets i

-- between frames it waits for one to begin
abbrev pub Follows : Terms → (List ℕ → Bool) → Frame → Ear → Type 0
Follows σ good idle e = (e ≡ hunting good) ⊎ (e ≡ begun good)
Follows σ good (opened s i) e = InFrame σ good s i e
