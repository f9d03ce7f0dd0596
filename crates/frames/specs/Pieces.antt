-- What a history says, in the words of frames: it falls into pieces at its flags, and each piece between two flags has
-- one verdict. `good` is the check's own.
use Rattle.std.specs.Prelude.{◌≡◌, ℕ, suc, ◌≤◌, Bool, cond, ◌≢◌, List, [], ◌∷◌, ◌++◌, length, Some, None, Option, ◌==◌}
use Rattle.std.specs.Option.{option_to_list}
use Rattle.std.specs.List.{AllByRecursion}
use Rattle.frames.specs.declared.answers.Fault.TheVariants as fault
use Rattle.frames.specs.Terms.{Terms, limit}
use Rattle.frames.specs.Layout.{flag, escape}
use Rattle.frames.specs.Calls.{Entry, faulty}
use Rattle.frames.specs.Receiving.{hunting, judgement, ear_after}
use Rattle.frames.specs.Hearing.{reports_from, entries}

abbrev pub NoFlag : List ℕ → Type 0
NoFlag = AllByRecursion (λ o. o ≢ flag)

-- how octets between flags read: each octet other than a flag and an escape stands for itself, an escape pair for an
-- escape or a flag, and a rate adaptation pair for nothing
pub data Reads : List ℕ → List ℕ → Type 0 where
  empty : Reads [] []
  plain : {u g : List ℕ} (x : ℕ) → x ≢ flag → x ≢ escape → Reads u g → Reads (x ∷ u) (x ∷ g)
  an_escape : {u g : List ℕ} → Reads u g → Reads (escape ∷ 0x5d ∷ u) (escape ∷ g)
  a_flag : {u g : List ℕ} → Reads u g → Reads (escape ∷ 0x5e ∷ u) (flag ∷ g)
  adapted : {u g : List ℕ} → Reads u g → Reads (escape ∷ 0xdd ∷ u) g

-- an octet that stands for nothing behind an escape
pub record Unreadable (y : ℕ) : Type 0 where
  pub no_flag : y ≢ flag
  pub no_escape_pair : y ≢ 0x5d
  pub no_flag_pair : y ≢ 0x5e
  pub no_adaptation : y ≢ 0xdd

-- the verdict on a piece: none of an empty one, else the judgement of what it reads as; an abort where a lone escape
-- ends it; a fault at the first unreadable pair, or where it reads as more octets than a good frame has
pub data Says (σ : Terms) (good : List ℕ → Bool) (room : ℕ) : List ℕ → Option Entry → Type 0 where
  read : {u : List ℕ} (g : List ℕ) → Reads u g → length g ≤ limit σ
      → Says σ good room u (cond (length g == 0) None (Some (judgement σ room (good g) g)))
  aborted : {u : List ℕ} (p g : List ℕ) → Reads p g → length g ≤ limit σ → u ≡ p ++ escape ∷ []
      → Says σ good room u (Some (faulty fault.Abort (length g)))
  misread : {u : List ℕ} (p g t : List ℕ) (y : ℕ) → Reads p g → length g ≤ limit σ → Unreadable y → u ≡ p ++ escape ∷ y ∷ t
      → Says σ good room u (Some (faulty fault.Escape (length g)))
  overlong : {u : List ℕ} (p g t : List ℕ) → Reads p g → length g ≡ suc (limit σ) → u ≡ p ++ t
      → Says σ good room u (Some (faulty fault.Overlong (limit σ)))

-- the pieces behind a first flag, and what they say: nothing yet of the last, which no flag has ended
pub data Tells (σ : Terms) (good : List ℕ → Bool) (room : ℕ) : List ℕ → List Entry → Type 0 where
  unfinished : {u : List ℕ} → NoFlag u → Tells σ good room u []
  ended : {l : List ℕ} {es : List Entry} (u rest : List ℕ) (v : Option Entry) → NoFlag u → Says σ good room u v
      → Tells σ good room rest es → l ≡ u ++ flag ∷ rest → Tells σ good room l (option_to_list v ++ es)

-- a whole history: nothing is said before the first flag
pub data History (σ : Terms) (good : List ℕ → Bool) (room : ℕ) : List ℕ → List Entry → Type 0 where
  unheard : {u : List ℕ} → NoFlag u → History σ good room u []
  begun_at : {l : List ℕ} {es : List Entry} (u rest : List ℕ) → NoFlag u → Tells σ good room rest es
      → l ≡ u ++ flag ∷ rest → History σ good room l es

-- over any history what is reported is what its pieces say, and every history says one thing
abbrev pub ReportsAreSaid : Type 0
ReportsAreSaid = (σ : Terms) (good : List ℕ → Bool) (os : List ℕ)
    → History σ good σ.longest os (entries (reports_from σ good (hunting good) 0 os))
    × ((es : List Entry) → History σ good σ.longest os es → es ≡ entries (reports_from σ good (hunting good) 0 os))

-- so too from any state that a receiver has reached: what it reports from there on is what the whole history says
-- beyond what was said before
abbrev pub ReportsGoOn : Type 0
ReportsGoOn = (σ : Terms) (good : List ℕ → Bool) (before os : List ℕ) (es : List Entry) → History σ good σ.longest before es
    → History σ good σ.longest (before ++ os) (es ++ entries (reports_from σ good (ear_after σ good (hunting good) before) (length before) os))
