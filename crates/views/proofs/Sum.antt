-- The sum of words, two octets at a time.
use Rattle.std.proofs.Common.{◌≡◌, ℕ, zero, suc, ◌+◌, ◌*◌, ◌/◌, ◌^◌, ◌<◌, ◌≤◌, List, [], ◌∷◌, length, get_or, All, sum_by, Fits, w8, refl, ap, ◌∙◌, arith}
use Rattle.std.proofs.lemmas.List.Elements.{All-from_get_or, recursion_from_All}
use Rattle.std.proofs.lemmas.List.Sums.{sum_by-cons}
use Rattle.std.specs.Simd.{first_chunks}
use Rattle.octets.specs.Octets.{Octets}
use Rattle.views.specs.Sum.{word, word_value, word_sum}

chunks_sum : (k : ℕ) (octets : List ℕ) → k ≡ length octets / 2 → sum_by word_value (first_chunks 2 k octets) ≡ word_sum octets
chunks_sum zero [] e = refl
chunks_sum zero (x ∷ []) e = refl
chunks_sum zero (high ∷ low ∷ rest) e = omega arith
chunks_sum (suc k) [] e = omega arith
chunks_sum (suc k) (x ∷ []) e = omega arith
chunks_sum (suc k) (high ∷ low ∷ rest) e =
    sum_by-cons word_value (high ∷ low ∷ []) (first_chunks 2 k rest) ∙ ap (λ n. word high low + n) (chunks_sum k rest (omega arith))

bounded : (octets : List ℕ) → Octets octets → word_sum octets ≤ 32768 * length octets
bounded [] o = omega arith
bounded (x ∷ []) o = omega arith
bounded (high ∷ low ∷ rest) o = omega (arith, bounded rest o.1.1, o.0, o.1.0)

pub all_octets : (xs : List ℕ) → ((i : ℕ) → Fits w8 (get_or xs i 0)) → All (λ x. x < 256) xs
all_octets xs fits = All-from_get_or (λ x. x < 256) xs 0 (λ i _. omega (arith, fits i))

pub sum_bounded : (octets : List ℕ) → All (λ x. x < 256) octets → word_sum octets ≤ 32768 * length octets
sum_bounded octets o = bounded octets (recursion_from_All (λ x. x < 256) octets o)

-- the words of some octets
module _ (words : List (List ℕ)) (octets : List ℕ) (e : words ≡ first_chunks 2 (length octets / 2) octets) where
  pub words_sum : sum_by word_value words ≡ word_sum octets
  words_sum = ap (sum_by word_value) e ∙ chunks_sum (length octets / 2) octets refl

  pub words_fit : length octets ≤ 60 → ((i : ℕ) → Fits w8 (get_or octets i 0)) → sum_by word_value words < 2 ^ 32
  words_fit short fits = omega (arith, words_sum, sum_bounded octets (all_octets octets fits))
