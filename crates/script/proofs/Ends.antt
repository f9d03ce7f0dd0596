-- The first line of a text, by where its end stands.
use Rattle.std.proofs.Common.{◌≡◌, ℕ, zero, suc, ◌<◌, false, eqb, List, [], ◌∷◌, ◌++◌, length, get_or, take, drop, Some, None, Option, MatchOption, sym, ap, ◌∙◌, add-one, arith, drop-cons}
use native.Mathlib.Nat.{sub-zero}
use Rattle.std.specs.List.{AllWithin, HoldsAt}
use Rattle.std.proofs.lemmas.List.{take_rest, take-append-drop}
use Rattle.std.proofs.lemmas.Bool.{ne_eqb, eq-eqb}
use Rattle.script.specs.Script.{ended, unended, in_front, lines, line_end, EndsAt, NeverEnds}

-- no line end among the octets before place i
abbrev pub WithoutEnd : ℕ → List ℕ → Type 0
WithoutEnd i os = (k : ℕ) → k < i → get_or os k 0 ≡ line_end → ⊥

-- so it is of the octets behind the first
without_first : (i o : ℕ) (os : List ℕ) → WithoutEnd (suc i) (o ∷ os) → WithoutEnd i os
without_first i o os w k h = w (suc k) (omega arith)

first_ended : (os : List ℕ) (i : ℕ) → i < length os → WithoutEnd i os → get_or os i 0 ≡ line_end
    → lines os ≡ ended (take i os) ∷ lines (drop (suc i) os)
unfolding lines
first_ended [] i h w e = absurd (omega arith)
first_ended (o ∷ os) zero h w e = rw (eq-eqb o line_end e)
first_ended (o ∷ os) (suc i) h w e =
    let n : eqb o line_end ≡ false = ne_eqb o line_end (w 0 (omega arith)) in
    let l : i < length os = omega arith in
    rw n (ap (in_front o) (first_ended os i l (without_first i o os w) e))

none_ended : (os : List ℕ) → 0 < length os → WithoutEnd (length os) os → lines os ≡ unended ∷ []
unfolding lines
none_ended [] h w = absurd (omega arith)
none_ended (o ∷ []) h w = rw (ne_eqb o line_end (w 0 (omega arith)))
none_ended (o ∷ p ∷ os) h w =
    rw (ne_eqb o line_end (w 0 (omega arith)))
    (ap (in_front o) (none_ended (p ∷ os) (omega arith) (without_first (length (p ∷ os)) o (p ∷ os) w)))

around_end : (os : List ℕ) (i : ℕ) → i < length os → get_or os i 0 ≡ line_end → os ≡ take i os ++ line_end ∷ drop (suc i) os
around_end os i h e =
    sym (take-append-drop i os) ∙ ap (λ rest. take i os ++ rest) (drop-cons os i 0 h ∙ ap (λ o. o ∷ drop (suc i) os) e)

abbrev pub IsEnd : ℕ → Type 0
IsEnd o = o ≡ line_end

abbrev pub IsNoEnd : ℕ → Type 0
IsNoEnd o = o ≡ line_end → ⊥

pub ends_at_first : (os : List ℕ) (r : Option ℕ)
    → MatchOption r (AllWithin IsNoEnd os 0 (length os)) (λ i. (i < length os) × HoldsAt IsEnd os i × AllWithin IsNoEnd os 0 i)
    → MatchOption r (NeverEnds os) (λ i. EndsAt i os)
ends_at_first os None h = λ some. none_ended os some (λ k. h k 0 (omega arith))
ends_at_first os (Some i) h = (
  h.0,
  simp (take_rest, sub-zero, add-one) (around_end os i h.0 (h.1 0)),
  simp (take_rest, sub-zero, add-one) (first_ended os i h.0 (λ k. h.2 k 0 (omega arith)) (h.1 0)),
)
