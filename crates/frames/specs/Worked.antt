-- Worked cases of the definitions, for any check.
use Rattle.std.specs.Prelude.{◌≡◌, ℕ, Bool, true, false, List, [], ◌∷◌, ◌++◌, replicate}
use Rattle.frames.specs.declared.answers.Fault.TheVariants as fault
use Rattle.frames.specs.Terms.{Terms, valid}
use Rattle.frames.specs.Layout.{flag, escape, adding_octets, adapting_octets}
use Rattle.frames.specs.Calls.{Entry, faulty}
use Rattle.frames.specs.Receiving.{hunting}
use Rattle.frames.specs.Hearing.{reports_from, entries}

-- all services, 1,600 information octets and four check octets
abbrev pub usual : Terms
usual = record { served = 7; longest = 1600; width = 4 }

-- what a new receiver reports of octets
abbrev pub heard_new : (List ℕ → Bool) → List ℕ → List Entry
heard_new good os = entries (reports_from usual good (hunting good) 0 os)

pub record Worked : Type 0 where
  -- 7e 7d dd as information, over a line code that alters nothing
  pub stuffed_information : adding_octets (0x7e ∷ 0x7d ∷ 0xdd ∷ []) ≡ 0x7d ∷ 0x5e ∷ 0x7d ∷ 0x5d ∷ 0xdd ∷ []
  pub no_adaptation : adapting_octets 0 ≡ []
  -- a lone escape before a flag is an abort; behind an escape an escape stands for nothing; rate adaptation is no octet
  pub aborted : (good : List ℕ → Bool) → heard_new good (flag ∷ escape ∷ flag ∷ []) ≡ faulty fault.Abort 0 ∷ []
  pub unreadable : (good : List ℕ → Bool) → heard_new good (flag ∷ escape ∷ escape ∷ flag ∷ []) ≡ faulty fault.Escape 0 ∷ []
  pub adapted_alone : (good : List ℕ → Bool) → heard_new good (flag ∷ escape ∷ 0xdd ∷ flag ∷ []) ≡ []
  -- with four check octets seven octets are short, and octet 1,609 is one too many
  pub seven_short : (good : List ℕ → Bool) → heard_new good (flag ∷ replicate 7 0 ++ flag ∷ []) ≡ faulty fault.Short 7 ∷ []
  pub one_too_many : (good : List ℕ → Bool) → heard_new good (flag ∷ replicate 1609 0 ++ flag ∷ []) ≡ faulty fault.Overlong 1608 ∷ []
  -- serving MAC alone
  pub mac_too_small : valid (record { served = 4; longest = 1599; width = 4 }) ≡ false
  pub mac_enough : valid (record { served = 4; longest = 1600; width = 4 }) ≡ true
