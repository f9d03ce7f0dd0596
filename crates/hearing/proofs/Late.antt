-- A late joiner's reports, by their places past the joining.
use Rattle.std.proofs.Common.{◌≡◌, ℕ, suc, ◌+◌, ◌<◌, Bool, true, false, cond, ltb, List, [], ◌∷◌, ◌++◌, length, get_or, take, drop, Some, None, Option, sym, refl, ap, ◌∙◌, ap₂, ⊎_elim, arith, length-append}
use Rattle.std.proofs.lemmas.List.Elements.{filter-append}
use Rattle.std.proofs.lemmas.List.{map-append, take_at, drop_at, get_or-drop}
use Rattle.std.proofs.lemmas.Bool.{lt-ltb, le-ltb, cases_lt}
use Rattle.octets.specs.Octets.{Octets}
use Rattle.octets.proofs.Joined.{octets_append}
use Rattle.codes.specs.Rules.{Rule, after}
use Rattle.frames.specs.Terms.{Terms}
use Rattle.frames.specs.Of.{terms}
use Rattle.frames.specs.Layout.{flag}
use Rattle.frames.specs.Calls.{Entry}
use Rattle.frames.specs.Receiving.{Ear, moved, raised}
use Rattle.frames.specs.Hearing.{Placed, placed, reports_from, entries, behind}
use Rattle.frames.proofs.Joining.{agree_behind}
use Rattle.receiver.specs.declared.receiver.Receiver.{Receiver}
use Rattle.receiver.specs.Models.{ear}
use Rattle.hearing.specs.Hears.{reports_of, AgreesWhenLate}

-- places counted from further back
further : (p i q : ℕ) → ltb (p + i) (p + q) ≡ ltb i q
further p i q =
    ⊎_elim (λ h. lt-ltb (p + i) (p + q) (omega arith) ∙ sym (lt-ltb i q h)) (λ h. le-ltb (p + i) (p + q) (omega arith) ∙ sym (le-ltb i q h)) (cases_lt i q)

same_entry : (b : Bool) (p q : ℕ) (e : Entry) → entries (cond b (record { place = p; entry = e } ∷ []) []) ≡ entries (cond b (record { place = q; entry = e } ∷ []) [])
same_entry true p q e = refl
same_entry false p q e = refl

split : (k : ℕ) (a b : List Placed) → entries (behind k (a ++ b)) ≡ entries (behind k a) ++ entries (behind k b)
split k a b = ap entries (filter-append (λ x. ltb k x.place) a b) ∙ map-append (λ x. x.entry) (behind k a) (behind k b)

module _ (σ : Terms) (good : List ℕ → Bool) (p i : ℕ) where
  one_moved : (q : ℕ) (v : Option Entry) → entries (behind (p + i) (placed (p + q) v)) ≡ entries (behind i (placed q v))
  one_moved q None = refl
  one_moved q (Some e) = rw (further p i q) (same_entry (ltb i q) (p + q) q e)

  all_moved : (e : Ear) (q : ℕ) (os : List ℕ) → entries (behind (p + i) (reports_from σ good e (p + q) os)) ≡ entries (behind i (reports_from σ good e q os))
  unfolding reports_from
  all_moved e q [] = refl
  all_moved e q (o ∷ os) =
      let v = raised σ σ.longest e o in
      let e' = moved σ good e o in
      let next : suc (p + q) ≡ p + suc q = omega arith in
      split (p + i) (placed (p + q) v) (reports_from σ good e' (suc (p + q)) os)
      ∙ ap₂ ◌++◌ (one_moved q v) (ap (λ n. entries (behind (p + i) (reports_from σ good e' n os))) next ∙ all_moved e' (suc q) os)
      ∙ sym (split i (placed q v) (reports_from σ good e' (suc q) os))

pub agrees_when_late : {L K : Type 0} (back : L → List ℕ → List ℕ) (passes : K → List ℕ → Bool) (good : List ℕ → Bool) → ((l : L) → Rule (back l))
    → (r : Receiver L K) (line : List ℕ) → Octets line → (reports : List Placed) → reports ≡ reports_of back passes good r line → AgreesWhenLate back passes good r line reports
agrees_when_late back passes good rules r line o reports is s settles all e before ob i past inside is-flag =
    let σ = terms r.settings in
    let f = back all in
    let g = back r.line in
    let joined = length before in
    let os = before ++ line in
    let oo : Octets os = octets_append before line ob o in
    let head : take joined os ≡ before = take_at before line joined refl in
    let tail : drop joined os ≡ line = drop_at before line joined refl in
    let agree : drop s (after f (take joined os) (drop joined os)) ≡ drop s (g (drop joined os))
    = rw (head, tail) (settles all r.line before [] line ob tt o) in
    let long : joined + i < length os = rw length-append (omega arith) in
    let here : get_or (f os) (joined + i) 0 ≡ flag = sym (get_or-drop joined (f os) i 0) ∙ is-flag in
    let same = agree_behind f g (rules all) (rules r.line) s joined os oo agree σ good e (ear passes r.ear) (joined + i) (omega arith) long here in
    let zero : joined + 0 ≡ joined = omega arith in
    ap (λ l. entries (behind i l)) is
    ∙ sym (all_moved σ good joined i (ear passes r.ear) 0 (g line))
    ∙ ap₂ (λ p l. entries (behind (joined + i) (reports_from σ good (ear passes r.ear) p (g l)))) zero (sym tail)
    ∙ ap entries (sym same)
