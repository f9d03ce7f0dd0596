-- One feed after another: whatever the stretches are, the reports are those of the octets.
use Rattle.std.proofs.Common.{◌≡◌, ℕ, suc, ◌+◌, ◌-◌, ◌<◌, ◌≤◌, Bool, List, [], ◌∷◌, ◌++◌, length, take, Some, None, Option, sym, refl, append_assoc, arith}
use Rattle.frames.specs.Terms.{Terms}
use Rattle.frames.specs.Calls.{Entry}
use Rattle.frames.specs.Receiving.{Ear, moved, raised, used, reported, ear_after}
use Rattle.frames.specs.Hearing.{placed, reports_from, Within}
use Rattle.frames.proofs.Rooms.{within_moved, raised_room}

module _ (σ : Terms) (good : List ℕ → Bool) where
  pub ear_append : (e : Ear) (xs ys : List ℕ) → ear_after σ good e (xs ++ ys) ≡ ear_after σ good (ear_after σ good e xs) ys
  unfolding ear_after
  ear_append e [] ys = refl
  ear_append e (o ∷ xs) ys = ear_append (moved σ good e o) xs ys

  pub reports_append : (e : Ear) (p : ℕ) (xs ys : List ℕ) → reports_from σ good e p (xs ++ ys) ≡ reports_from σ good e p xs ++ reports_from σ good (ear_after σ good e xs) (p + length xs) ys
  unfolding ear_after reports_from
  reports_append e p [] ys = let z : p + 0 ≡ p = omega arith in rw z
  reports_append e p (o ∷ xs) ys =
      let z : p + suc (length xs) ≡ suc p + length xs = omega arith in
      rw (reports_append (moved σ good e o) (suc p) xs ys, z)
      (sym (append_assoc (placed p (raised σ σ.longest e o)) _ _))

  pub within_after : (e : Ear) (xs : List ℕ) → Within σ e → Within σ (ear_after σ good e xs)
  unfolding ear_after
  within_after e [] h = h
  within_after e (o ∷ xs) h = within_after (moved σ good e o) xs (within_moved σ good e o h)

  module _ (room : ℕ) where
    pub used_le : (e : Ear) (os : List ℕ) → used σ good room e os ≤ length os
    unfolding used
    used_le e [] = omega arith
    used_le e (o ∷ os) = go (used_le (moved σ good e o) os) (raised σ room e o)
      where
        go : used σ good room (moved σ good e o) os ≤ length os → (v : Option Entry)
            → (elim v [ None ↦ suc (used σ good room (moved σ good e o) os) | Some r ↦ 1 ]) ≤ suc (length os)
        go h None = omega arith
        go h (Some r) = omega arith

    -- a feed of some octets uses one at least
    pub used_some : (e : Ear) (os : List ℕ) → 0 < length os → 0 < used σ good room e os
    unfolding used
    used_some e [] h = omega arith
    used_some e (o ∷ os) h = go (raised σ room e o)
      where
        go : (v : Option Entry) → 0 < (elim v [ None ↦ suc (used σ good room (moved σ good e o) os) | Some r ↦ 1 ])
        go None = omega arith
        go (Some r) = omega arith

    -- what one feed reports is what the octets that it used say
    pub one_feed : σ.longest ≤ room → (e : Ear) (p : ℕ) (os : List ℕ) → Within σ e
        → reports_from σ good e p (take (used σ good room e os) os) ≡ placed (p + used σ good room e os - 1) (reported σ good room e os)
    unfolding used reported reports_from
    one_feed enough e p [] h = refl
    one_feed enough e p (o ∷ os) h =
        go (one_feed enough (moved σ good e o) (suc p) os (within_moved σ good e o h)) (raised σ room e o) (sym (raised_room σ room enough e o h))
      where
        e' : Ear
        e' = moved σ good e o

        U : Option Entry → ℕ
        U v = elim v [ None ↦ suc (used σ good room e' os) | Some r ↦ 1 ]

        R : Option Entry → Option Entry
        R v = elim v [ None ↦ reported σ good room e' os | Some r ↦ Some r ]

        go : reports_from σ good e' (suc p) (take (used σ good room e' os) os) ≡ placed (suc p + used σ good room e' os - 1) (reported σ good room e' os)
            → (v : Option Entry) → raised σ σ.longest e o ≡ v
            → reports_from σ good e p (take (U v) (o ∷ os)) ≡ placed (p + U v - 1) (R v)
        go ih None t =
            let a : p + suc (used σ good room e' os) ≡ suc p + used σ good room e' os = omega arith in
            rw (t, a) ih
        go ih (Some r) t =
            let a : p + 1 - 1 ≡ p = omega arith in
            rw (t, a)
