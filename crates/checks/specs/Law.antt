-- What any frame check owes its users, whatever it computes.
use Rattle.std.specs.Prelude.{◌≡◌, ℕ, Bool, true, ◌⊎◌, ◌↔◌, List, ◌++◌, length}
use Rattle.octets.specs.Octets.{Octets}

-- two check octets or four
abbrev pub Width : ℕ → Type 0
Width w = (w ≡ 2) ⊎ (w ≡ 4)

-- every list of octets owes w octets
pub record Owes (w : ℕ) (owed : List ℕ → List ℕ) : Type 0 where
  pub long : (m : List ℕ) → Octets m → length (owed m) ≡ w
  pub octets : (m : List ℕ) → Octets m → Octets (owed m)

-- a list of w octets or more is good exactly when its last w octets are the check octets of those before
abbrev pub Tells : ℕ → (List ℕ → List ℕ) → (List ℕ → Bool) → Type 0
Tells w owed good = (m t : List ℕ) → Octets m → Octets t → length t ≡ w → (good (m ++ t) ≡ true) ↔ (t ≡ owed m)
