-- What a SAPI reads as, by the octets at its places.
use Rattle.std.proofs.Common.{◌≡◌, ℕ, ◌+◌, ◌*◌, List, [], ◌∷◌, length, get_or, Some, None, Option, refl, arith}
use Rattle.text.specs.Hex.{digit_value, both, behind, unhex}
use Rattle.script.specs.Script.{word}

-- two octets as one number, where both are there
abbrev pub of_two : Option ℕ → Option ℕ → Option ℕ
of_two None l = None
of_two (Some h) None = None
of_two (Some h) (Some l) = Some (h * 256 + l)

two_read : (h l : Option ℕ) → of_two h l ≡ word (behind h (behind l (Some [])))
two_read None l = refl
two_read (Some h) None = refl
two_read (Some h) (Some l) = refl

-- what the digits at the places k and k + 1 write
abbrev pub octet_at : ℕ → List ℕ → Option ℕ
octet_at k cs = both (digit_value (get_or cs k 0)) (digit_value (get_or cs (k + 1) 0))

pub four_digits : (cs : List ℕ) → length cs ≡ 4 → of_two (octet_at 0 cs) (octet_at 2 cs) ≡ word (unhex cs)
unfolding unhex
four_digits [] h = absurd (omega arith)
four_digits (a ∷ []) h = absurd (omega arith)
four_digits (a ∷ b ∷ []) h = absurd (omega arith)
four_digits (a ∷ b ∷ c ∷ []) h = absurd (omega arith)
four_digits (a ∷ b ∷ c ∷ d ∷ []) h = two_read (both (digit_value a) (digit_value b)) (both (digit_value c) (digit_value d))
four_digits (a ∷ b ∷ c ∷ d ∷ e ∷ cs) h = absurd (omega arith)

-- fewer octets or more
none_read : (h : Option ℕ) → None ≡ word (behind h None)
none_read None = refl
none_read (Some h) = refl

one_read : (h : Option ℕ) → None ≡ word (behind h (Some []))
one_read None = refl
one_read (Some h) = refl

more_read : (h l : Option ℕ) (os : Option (List ℕ)) → (os ≡ Some [] → ⊥) → None ≡ word (behind h (behind l os))
more_read None l os n = refl
more_read (Some h) None os n = refl
more_read (Some h) (Some l) None n = refl
more_read (Some h) (Some l) (Some []) n = absurd (n refl)
more_read (Some h) (Some l) (Some (o ∷ os)) n = refl

never_none : (h : Option ℕ) (os : Option (List ℕ)) → behind h os ≡ Some [] → ⊥
never_none None os e = let z : ◌≡◌ {A = ℕ} 0 1 = cc in omega arith
never_none (Some h) None e = let z : ◌≡◌ {A = ℕ} 0 1 = cc in omega arith
never_none (Some h) (Some os) e = let z : ◌≡◌ {A = ℕ} 0 1 = cc in omega arith

digits_some : (c : ℕ) (cs : List ℕ) → unhex (c ∷ cs) ≡ Some [] → ⊥
unfolding unhex
digits_some c [] e = let z : ◌≡◌ {A = ℕ} 0 1 = cc in omega arith
digits_some c (d ∷ cs) e = never_none (both (digit_value c) (digit_value d)) (unhex cs) e

pub other_count : (cs : List ℕ) → (length cs ≡ 4 → ⊥) → None ≡ word (unhex cs)
unfolding unhex
other_count [] n = refl
other_count (a ∷ []) n = refl
other_count (a ∷ b ∷ []) n = one_read (both (digit_value a) (digit_value b))
other_count (a ∷ b ∷ c ∷ []) n = none_read (both (digit_value a) (digit_value b))
other_count (a ∷ b ∷ c ∷ d ∷ []) n = absurd (n refl)
other_count (a ∷ b ∷ c ∷ d ∷ e ∷ cs) n =
    more_read (both (digit_value a) (digit_value b)) (both (digit_value c) (digit_value d)) (unhex (e ∷ cs)) (digits_some e cs)
