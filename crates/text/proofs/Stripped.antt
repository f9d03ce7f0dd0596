-- What `strip_prefix` gives, by comparing the front.
use Rattle.std.proofs.Common.{◌≡◌, ℕ, ◌+◌, true, false, cond, List, length, take, drop, Some, None, Option, refl, ap, Bor, MatchOption}
use Rattle.std.specs.Option.{option_map}
use Rattle.std.specs.Str.{bytes_eq}

pub stripped : (s p : List ℕ) (r : Option (Bor (List ℕ)))
    → MatchOption r (bytes_eq (take (length p) s) p ≡ false) (λ x. (bytes_eq (take (length p) s) p ≡ true) × (x.now ≡ drop (length p) s) × (length x.now + length p ≡ length s))
    → option_map (λ rest. rest.now) r ≡ cond (bytes_eq (take (length p) s) p) (Some (drop (length p) s)) None
stripped s p None h = rw h refl
stripped s p (Some x) h = rw h.0 (ap Some h.1)
