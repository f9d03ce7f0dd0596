use Rattle.std.proofs.Common.{◌≡◌, ℕ, ◌-◌, ◌<◌, List, length, get_or, take, map, sym, ap, ◌∙◌, arith, rules}
use Rattle.std.specs.Array.{IsMapOf}
use Rattle.std.specs.Fn.{Mut, Called}
use Rattle.std.proofs.lemmas.List.{ext_get_or, get_or-map, length-map, take-map}
use Rattle.checks.proofs.owed.CheckOctets.complement.Goals as goal

map_of : {F : Type 0} (g : Mut F (ℕ × Unit {0}) ℕ) (h : ℕ → ℕ) (f : F) (xs ys : List ℕ) (n : ℕ) → length xs ≡ n → ((p q : F) (x y : ℕ) → Called g p (x, tt) y q → y ≡ h x) → IsMapOf g f xs ys n → ys ≡ map h xs
map_of g h f xs ys n e step m =
    ext_get_or 0 ys (map h xs) (m.long ∙ sym (length-map xs h ∙ e))
    (λ i l.
    let within : i < length xs = omega (arith, m.long) in
    let at = m.at i 0 0 (omega (arith, m.long)) in
    step at.0 at.1 (get_or xs i 0) (get_or ys i 0) at.2 ∙ sym (get_or-map h xs i 0 0 within))

pub returns : goal.returns
returns c =
    let k = c.args.self in
    let long : length k.octets ≡ 4 = omega arith in
    ap (take k.width) (map_of _ (λ o. 255 - o) _ k.octets c.map.result 4 long (λ p q x y called. search rules) c.map.ensures.items)
    ∙ take-map (λ o. 255 - o) k.width k.octets
