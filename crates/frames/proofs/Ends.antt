-- Any octets are all used by some feeds.
use Rattle.std.proofs.Common.{◌≡◌, ℕ, zero, suc, ◌+◌, ◌<◌, ◌≤◌, Bool, List, [], ◌∷◌, length, take, drop, refl, ap, ◌∙◌, arith, length-drop}
use Rattle.std.proofs.lemmas.List.{take_all, nil_from_length}
use Rattle.std.proofs.ByRecursion.{All-take, All-drop}
use Rattle.octets.specs.Octets.{Octets}
use Rattle.codes.specs.Rules.{Rule}
use Rattle.codes.specs.Remainders.{after_rule}
use Rattle.frames.specs.Terms.{Terms}
use Rattle.frames.specs.Hearing.{Feed, Roomy, Receiver, hear, heard, feed_used}
use Rattle.frames.specs.Promise.{HearingEnds}
use Rattle.frames.proofs.Feeds.{used_some}

module _ (σ : Terms) (good : List ℕ → Bool) where
  -- n feeds of everything that is left use n octets or more
  ends : (n : ℕ) (r : Receiver) → Rule r.back → (p : ℕ) (os : List ℕ) → Octets os → length os ≤ n
      → (φs : List Feed) × Roomy σ φs × ((hear σ good r p os φs).over ≡ [])
  unfolding hear
  ends zero r rule p os o h = ([], tt, nil_from_length os (omega arith))
  ends (suc n) r rule p [] o h = ([], tt, refl)
  ends (suc n) r rule p (x ∷ os) o h =
      let all = x ∷ os in
      let φ : Feed = record { stretch = length all; room = σ.longest } in
      let k = feed_used σ good r φ all in
      let front : take (length all) all ≡ all = take_all (length all) all (omega arith) in
      let long : length (r.back (take (length all) all)) ≡ length all = ap (λ l. length (r.back l)) front ∙ rule.long all o in
      let some : 0 < k = used_some σ good σ.longest r.ear (r.back (take (length all) all)) (omega arith) in
      let less : length (drop k all) ≤ n = omega (arith, length-drop k all) in
      let rest = ends n (heard σ good r (take k all)) (after_rule r.back rule (take k all) (All-take (λ y. y < 256) k all o)) (p + k) (drop k all) (All-drop (λ y. y < 256) k all o) less in
      (φ ∷ rest.0, (omega arith, rest.1), rest.2)

pub hearing_ends : (good : List ℕ → Bool) → HearingEnds good
hearing_ends good = record {
  uses_one = λ σ room e os h. used_some σ good room e os h;
  all_used = λ σ r rule p os o. ends σ good (length os) r rule p os o (omega arith);
}
