-- `unhex`, two digits on and at its ends.
use Rattle.std.proofs.Common.{◌≡◌, ℕ, ◌-◌, ◌<◌, ◌≤◌, Bool, eqb, List, [], ◌∷◌, ◌++◌, length, get_or, take, drop, Some, None, Option, sym, refl, ap, append_assoc, arith}
use Rattle.std.specs.Bool.{then_some}
use Rattle.std.specs.Option.{option_map}
use Rattle.std.proofs.lemmas.List.{take_rest, append-nil}
use Rattle.text.specs.Hex.{digit_value, both, behind, unhex}

-- what the digits at the front of a text write
abbrev pub front : List ℕ → Option ℕ
front cs = both (digit_value (get_or cs 0 0)) (digit_value (get_or cs 1 0))

two_on : (cs : List ℕ) → 2 ≤ length cs → unhex cs ≡ behind (front cs) (unhex (drop 2 cs))
unfolding unhex
two_on [] h = absurd (omega arith)
two_on (a ∷ []) h = absurd (omega arith)
two_on (a ∷ b ∷ cs) h = refl

behind_push : (xs : List ℕ) (o : ℕ) (r : Option (List ℕ)) → option_map (λ os. xs ++ os) (behind (Some o) r) ≡ option_map (λ os. (xs ++ o ∷ []) ++ os) r
behind_push xs o None = refl
behind_push xs o (Some os) = ap Some (sym (append_assoc xs (o ∷ []) os))

pub no_octet : (xs cs : List ℕ) → 2 ≤ length cs → None ≡ front cs → None ≡ option_map (λ os. xs ++ os) (unhex cs)
no_octet xs cs h e = rw (two_on cs h, ← e) refl

pub one_octet : (xs ys cs : List ℕ) (o : ℕ) → 2 ≤ length cs → Some o ≡ front cs → ys ≡ xs ++ o ∷ [] → option_map (λ os. xs ++ os) (unhex cs) ≡ option_map (λ os. ys ++ os) (unhex (take (length cs - 2) (drop 2 cs)))
one_octet xs ys cs o h e p = rw (take_rest cs 2, p, two_on cs h, ← e) (behind_push xs o (unhex (drop 2 cs)))

-- at most one digit is left: with none the text is whole
pub at_end : {V : Type 0} (items : V → List ℕ) (v : V) (cs : List ℕ) (whole : Bool) → length cs < 2 → whole ≡ eqb (length cs) 0 → option_map items (then_some whole v) ≡ option_map (λ os. items v ++ os) (unhex cs)
unfolding unhex
at_end items v [] whole h e = rw e (ap Some (sym (append-nil (items v))))
at_end items v (a ∷ []) whole h e = rw e refl
at_end items v (a ∷ b ∷ cs) whole h e = absurd (omega arith)
