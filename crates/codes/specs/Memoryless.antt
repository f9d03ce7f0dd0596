-- Codes that answer each octet by itself.
use Rattle.std.specs.Prelude.{◌≡◌, ℕ, ◌<◌, List, [], ◌∷◌, map, length, take, drop, refl}
use Rattle.std.proofs.Common.{ap, ap₂, ◌∙◌}
use Rattle.std.proofs.lemmas.List.{take_at, drop_at, length-map, map-append}
use Rattle.std.proofs.ByRecursion.{All-map, All-weaker}
use Rattle.codes.specs.Rules.{Rule, Undoes, after}

pub unaltered_rule : Rule (λ xs. xs)
unaltered_rule = record {
  long = λ xs o. refl;
  octets = λ xs o. o;
  beginning = λ xs ys o p. take_at xs ys (length xs) refl;
}

pub unaltered_after : (heard further : List ℕ) → after (λ xs. xs) heard further ≡ further
unaltered_after heard further = drop_at heard further (length heard) refl

module _ (f : ℕ → ℕ) where
  pub map_rule : ((x : ℕ) → x < 256 → f x < 256) → Rule (map f)
  map_rule fits = record {
    long = λ xs o. length-map xs f;
    octets = λ xs o. All-map (λ x. x < 256) f xs (All-weaker (λ x. x < 256) (λ x. f x < 256) fits xs o);
    beginning = λ xs ys o p. ap (take (length xs)) (map-append f xs ys) ∙ take_at (map f xs) (map f ys) (length xs) (length-map xs f);
  }

  pub map_after : (heard further : List ℕ) → after (map f) heard further ≡ map f further
  map_after heard further = ap (drop (length heard)) (map-append f heard further) ∙ drop_at (map f heard) (map f further) (length heard) (length-map heard f)

  pub map_undoes : ((x : ℕ) → x < 256 → f (f x) ≡ x) → Undoes (map f) (map f)
  map_undoes twice [] o = refl
  map_undoes twice (x ∷ xs) o = ap₂ (λ y ys. y ∷ ys) (twice x o.0) (map_undoes twice xs o.1)
