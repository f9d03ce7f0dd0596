-- What a line code means: rules on lists of octets.
use Rattle.std.specs.Prelude.{◌≡◌, ℕ, ◌-◌, ◌^◌, ◌<◌, min, List, ◌∷◌, ◌++◌, length, take, drop}
use Rattle.std.specs.Fn.{Mut, CalledWithState}
use denote.Ref.{MutBor}
use Rattle.octets.specs.Octets.{Octets}

-- A rule answers a list of octets with as many octets, and each beginning of the answer is settled by the same
-- beginning of what was given.
pub record Rule (f : List ℕ → List ℕ) : Type 0 where
  pub long : (xs : List ℕ) → Octets xs → length (f xs) ≡ length xs
  pub octets : (xs : List ℕ) → Octets xs → Octets (f xs)
  pub beginning : (xs ys : List ℕ) → Octets xs → Octets ys → take (length xs) (f (xs ++ ys)) ≡ f xs

-- the remainder of a rule once it has answered `heard`: again a rule
abbrev pub after : (List ℕ → List ℕ) → List ℕ → List ℕ → List ℕ
after f heard further = drop (length heard) (f (heard ++ further))

-- two rules that answer alike
abbrev pub Alike : (List ℕ → List ℕ) → (List ℕ → List ℕ) → Type 0
Alike f g = (xs : List ℕ) → Octets xs → f xs ≡ g xs

abbrev pub Undoes : (List ℕ → List ℕ) → (List ℕ → List ℕ) → Type 0
Undoes back onward = (xs : List ℕ) → Octets xs → back (onward xs) ≡ xs

-- what one octet does to a rule: the first octet of the answer, and the remainder
abbrev pub Steps : (List ℕ → List ℕ) → ℕ → ℕ → (List ℕ → List ℕ) → Type 0
Steps f octet answer rest = (xs : List ℕ) → Octets xs → f (octet ∷ xs) ≡ answer ∷ rest xs

-- the same of several octets
abbrev pub Runs : (List ℕ → List ℕ) → List ℕ → List ℕ → (List ℕ → List ℕ) → Type 0
Runs f octets answers rest = (xs : List ℕ) → Octets xs → f (octets ++ xs) ≡ answers ++ rest xs

-- each call of a closure does to a rule what an octet does
abbrev pub EachCallSteps : {F C : Type 0} → Mut F (MutBor C × (ℕ × Unit {0})) (ℕ × (MutBor C × Unit {0})) → (C → List ℕ → List ℕ) → Type 0
EachCallSteps {F} {C} g rule = (f f' : F) (c d : C) (octet answer : ℕ) → octet < 256 → CalledWithState g f c octet answer f' d → Steps (rule c) octet answer (rule d)

-- Two values, of one kind or of two, mean the same when their rules answer alike both ways; then the back rule of
-- one undoes the onward rule of the other.
abbrev pub SameUndo : {C D : Type 0} → (C → List ℕ → List ℕ) → (D → List ℕ → List ℕ) → (D → List ℕ → List ℕ) → (C → List ℕ → List ℕ) → Type 0
SameUndo {C} {D} onward onward' back' back = (c : C) (d : D) → Alike (onward c) (onward' d) → Alike (back c) (back' d) → Undoes (back' d) (onward c)

-- A kind of code settles in s octets: whatever two of its values are, and whatever each has heard, they answer the
-- same further octets alike from octet s + 1 on.
abbrev pub Settles : {C : Type 0} → ℕ → (C → List ℕ → List ℕ) → Type 0
Settles {C} s back = (c d : C) (heard heard' further : List ℕ) → Octets heard → Octets heard' → Octets further → drop s (after (back c) heard further) ≡ drop s (after (back d) heard' further)

-- a length as 32 bits tell it: the largest number stands for itself or more
abbrev pub told : ℕ → ℕ
told s = min s (2 ^ 32 - 1)
