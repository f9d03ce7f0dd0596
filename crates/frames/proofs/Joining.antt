-- A late joiner: two rules that agree from some octet on, and the first flag behind it.
use Rattle.std.proofs.Common.{◌≡◌, ℕ, suc, ◌+◌, ◌-◌, ◌<◌, ◌≤◌, Bool, ltb, List, [], ◌∷◌, ◌++◌, length, get_or, take, drop, Some, None, Option, sym, refl, ap, ◌∙◌, arith, length-drop}
use Rattle.std.proofs.lemmas.List.{take-append-drop, length-take-le, take_more, get_or-drop, drop-drop}
use Rattle.std.proofs.lemmas.List.Elements.{filter-append}
use Rattle.std.proofs.ByRecursion.{All-take, All-drop}
use Rattle.std.proofs.lemmas.Bool.{lt-ltb, le-ltb}
use Rattle.octets.specs.Octets.{Octets}
use Rattle.codes.specs.Rules.{Rule, after, Settles}
use Rattle.codes.specs.Remainders.{answer_drop}
use Rattle.frames.specs.Terms.{Terms}
use Rattle.frames.specs.Layout.{flag}
use Rattle.frames.specs.Calls.{Entry}
use Rattle.frames.specs.Receiving.{Ear, begun, moved, raised, ear_after}
use Rattle.frames.specs.Hearing.{placed, reports_from, behind}
use Rattle.frames.specs.Promise.{JoinerAgrees}
use Rattle.frames.proofs.Feeds.{ear_append, reports_append}
use Rattle.frames.proofs.Cutting.{hears_all}

module _ (σ : Terms) (good : List ℕ → Bool) where
  early_one : (i p : ℕ) (v : Option Entry) → p ≤ i → behind i (placed p v) ≡ []
  early_one i p None h = refl
  early_one i p (Some e) h = rw (le-ltb i p h)

  late_one : (i p : ℕ) (v : Option Entry) → i < p → behind i (placed p v) ≡ placed p v
  late_one i p None h = refl
  late_one i p (Some e) h = rw (lt-ltb i p h)

  early : (i : ℕ) (e : Ear) (p : ℕ) (os : List ℕ) → p + length os ≤ i + 1 → behind i (reports_from σ good e p os) ≡ []
  unfolding reports_from
  early i e p [] h = refl
  early i e p (o ∷ os) h =
      let a : p ≤ i = omega arith in
      rw (filter-append (λ x. ltb i x.place) (placed p (raised σ σ.longest e o)), early_one i p (raised σ σ.longest e o) a)
      (early i (moved σ good e o) (suc p) os (omega arith))

  late : (i : ℕ) (e : Ear) (p : ℕ) (os : List ℕ) → i < p → behind i (reports_from σ good e p os) ≡ reports_from σ good e p os
  unfolding reports_from
  late i e p [] h = refl
  late i e p (o ∷ os) h =
      rw (filter-append (λ x. ltb i x.place) (placed p (raised σ σ.longest e o)), late_one i p (raised σ σ.longest e o) h, late i (moved σ good e o) (suc p) os (omega arith))

  -- a flag begins a frame, whatever came before
  flag_begins : (e : Ear) (os : List ℕ) → ear_after σ good e (os ++ flag ∷ []) ≡ begun good
  unfolding ear_after
  flag_begins e os = ear_append σ good e os (flag ∷ [])

  -- so behind a flag at place p + k the reports do not depend on what came before it
  behind_flag : (e : Ear) (p k : ℕ) (os : List ℕ) → k < length os → get_or os k 0 ≡ flag
      → behind (p + k) (reports_from σ good e p os) ≡ reports_from σ good (begun good) (p + k + 1) (drop (k + 1) os)
  behind_flag e p k os h f =
      let n : k + 1 ≤ length os = omega arith in
      let front : take (k + 1) os ≡ take k os ++ flag ∷ [] = take_more os k 0 h ∙ ap (λ x. take k os ++ x ∷ []) f in
      let begins : ear_after σ good e (take (k + 1) os) ≡ begun good = ap (ear_after σ good e) front ∙ flag_begins e (take k os) in
      let place : p + length (take (k + 1) os) ≡ p + k + 1 = omega (arith, length-take-le (k + 1) os n) in
      let parts : reports_from σ good e p os ≡ reports_from σ good e p (take (k + 1) os) ++ reports_from σ good (begun good) (p + k + 1) (drop (k + 1) os)
      = ap (reports_from σ good e p) (sym (take-append-drop (k + 1) os)) ∙ reports_append σ good e p (take (k + 1) os) (drop (k + 1) os) ∙ rw (begins, place) in
      ap (behind (p + k)) parts
      ∙ filter-append (λ x. ltb (p + k) x.place) (reports_from σ good e p (take (k + 1) os)) _
      ∙ rw (early (p + k) e p (take (k + 1) os) (omega (arith, place)), late (p + k) (begun good) (p + k + 1) (drop (k + 1) os) (omega arith))

-- two rules that agree from octet s + 1 on past a joining
module _ (f g : List ℕ → List ℕ) (rule : Rule f) (rule' : Rule g) (s joined : ℕ) (os : List ℕ) (o : Octets os)
    (agree : drop s (after f (take joined os) (drop joined os)) ≡ drop s (g (drop joined os))) where
  same_rest : (i : ℕ) → joined + s ≤ i → drop i (f os) ≡ drop (i - joined) (g (drop joined os))
  same_rest i h =
      let a : i ≡ joined + (i - joined) = omega arith in
      let b : i - joined ≡ s + (i - joined - s) = omega arith in
      let c : drop i (f os) ≡ drop (i - joined) (drop joined (f os)) = ap (λ k. drop k (f os)) a ∙ sym (drop-drop (i - joined) joined (f os)) in
      c ∙ ap (drop (i - joined)) (answer_drop f rule joined os o) ∙ rw b (sym (drop-drop (i - joined - s) s _) ∙ ap (drop (i - joined - s)) agree ∙ drop-drop (i - joined - s) s _)

  -- hence behind a flag that lies s octets or more past the joining the two hear the same
  pub agree_behind : (σ : Terms) (good : List ℕ → Bool) (e e' : Ear) (i : ℕ) → joined + s ≤ i → i < length os → get_or (f os) i 0 ≡ flag
      → behind i (reports_from σ good e 0 (f os)) ≡ behind i (reports_from σ good e' joined (g (drop joined os)))
  agree_behind σ good e e' i past inside is-flag =
      let k : ℕ = i - joined in
      let a : 0 + i ≡ i = omega arith in
      let b : joined + k ≡ i = omega arith in
      let long : i < length (f os) = omega (arith, rule.long os o) in
      let long' : k < length (g (drop joined os)) = omega (arith, rule'.long (drop joined os) (All-drop (λ x. x < 256) joined os o), length-drop joined os) in
      let here : get_or (g (drop joined os)) k 0 ≡ flag = sym (at_front k (g (drop joined os))) ∙ ap (λ l. get_or l 0 0) (sym (same_rest i past)) ∙ at_front i (f os) ∙ is-flag in
      let rest : drop (i + 1) (f os) ≡ drop (k + 1) (g (drop joined os)) = same_rest (i + 1) (omega arith) ∙ ap (λ n. drop n (g (drop joined os))) (more k) in
      let one = behind_flag σ good e 0 i (f os) long is-flag in
      let two = behind_flag σ good e' joined k (g (drop joined os)) long' here in
      let one' : behind i (reports_from σ good e 0 (f os)) ≡ reports_from σ good (begun good) (i + 1) (drop (i + 1) (f os)) = rw a at one in
      let two' : behind i (reports_from σ good e' joined (g (drop joined os))) ≡ reports_from σ good (begun good) (i + 1) (drop (k + 1) (g (drop joined os))) = rw b at two in
      one' ∙ ap (reports_from σ good (begun good) (i + 1)) rest ∙ sym two'
    where
      at_front : (n : ℕ) (l : List ℕ) → get_or (drop n l) 0 0 ≡ get_or l n 0
      at_front n l = let z : n + 0 ≡ n = omega arith in get_or-drop n l 0 0 ∙ ap (λ m. get_or l m 0) z

      more : (n : ℕ) → i + 1 - joined ≡ (i - joined) + 1
      more n = omega arith

pub joiner_agrees : {D : Type 0} (s : ℕ) (back : D → List ℕ → List ℕ) (good : List ℕ → Bool)
    → ((d : D) → Rule (back d)) → Settles s back → JoinerAgrees s back good
joiner_agrees s back good rules settles σ all late e e' w w' os o joined i past inside is-flag φs φs' m m' none none' =
    let h = hears_all σ good φs (record { back = back all; ear = e }) 0 os (rules all) w o m none in
    let h' = hears_all σ good φs' (record { back = back late; ear = e' }) joined (drop joined os) (rules late) w' (All-drop (λ x. x < 256) joined os o) m' none' in
    let agree = settles all late (take joined os) [] (drop joined os) (All-take (λ x. x < 256) joined os o) tt (All-drop (λ x. x < 256) joined os o) in
    ap (behind i) h.reports
    ∙ agree_behind (back all) (back late) (rules all) (rules late) s joined os o agree σ good e e' i past inside is-flag
    ∙ ap (behind i) (sym h'.reports)
