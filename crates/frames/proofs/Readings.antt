-- How a receiver gathers what a piece of line reads as.
use Rattle.std.proofs.Common.{◌≡◌, ℕ, zero, suc, ◌+◌, ◌<◌, ◌≤◌, Bool, true, false, eqb, List, [], ◌∷◌, ◌++◌, length, refl, ◌∙◌, ⊎_elim, append_assoc, arith, length-append}
use Rattle.std.proofs.lemmas.List.{append-nil}
use Rattle.std.proofs.lemmas.Bool.{lt-ltb, ne_eqb, eqb-true, eqb-false, cases_Bool}
use Rattle.frames.specs.declared.standing.Standing.TheVariants.{AfterEscape}
use Rattle.frames.specs.Terms.{Terms, limit}
use Rattle.frames.specs.Layout.{flag, escape, stuffed, stuff, adaptations}
use Rattle.frames.specs.Receiving.{Ear, stand, gather, on_octet, ear_after}
use Rattle.frames.specs.Pieces.{NoFlag, Reads, empty, plain, an_escape, a_flag, adapted}
use Rattle.frames.specs.Following.{holding}
use Rattle.frames.specs.Hearing.{reports_from}

pub reads_no_flag : {u g : List ℕ} → Reads u g → NoFlag u
reads_no_flag empty = tt
reads_no_flag (plain x f e r) = (f, reads_no_flag r)
reads_no_flag (an_escape r) = (omega arith, (omega arith, reads_no_flag r))
reads_no_flag (a_flag r) = (omega arith, (omega arith, reads_no_flag r))
reads_no_flag (adapted r) = (omega arith, (omega arith, reads_no_flag r))

-- stuffed octets read as themselves, and rate adaptation as nothing
pub reads_stuffed : (xs : List ℕ) → Reads (stuff xs) xs
reads_stuffed [] = empty
reads_stuffed (x ∷ xs) = go (reads_stuffed xs)
  where
    go : Reads (stuff xs) xs → Reads (stuffed x ++ stuff xs) (x ∷ xs)
    go r = ⊎_elim at_flag (λ f. ⊎_elim (at_escape f) (at_other f) (cases_Bool (eqb x escape))) (cases_Bool (eqb x flag))
      where
        at_flag : eqb x flag ≡ true → Reads (stuffed x ++ stuff xs) (x ∷ xs)
        at_flag t = rw t (rw (eqb-true x flag t) (a_flag r))

        at_escape : eqb x flag ≡ false → eqb x escape ≡ true → Reads (stuffed x ++ stuff xs) (x ∷ xs)
        at_escape f t = rw (f, t) (rw (eqb-true x escape t) (an_escape r))

        at_other : eqb x flag ≡ false → eqb x escape ≡ false → Reads (stuffed x ++ stuff xs) (x ∷ xs)
        at_other f t = rw (f, t) (plain x (eqb-false x flag f) (eqb-false x escape t) r)

pub reads_adaptations : (k : ℕ) → Reads (adaptations k) []
unfolding adaptations
reads_adaptations zero = empty
reads_adaptations (suc k) = adapted (reads_adaptations k)

module _ (σ : Terms) (good : List ℕ → Bool) where
  gather_one : (e : Ear) (g : List ℕ) (x : ℕ) → e.gathered ≡ g → e.good_with ≡ (λ os. good (g ++ os)) → length g < limit σ
      → gather σ e x ≡ holding good (g ++ x ∷ [])
  gather_one e g x eg ew h = rw (eg, ew, lt-ltb (length g) (limit σ) h) (simp append_assoc)

  -- a pair that stands for x is gathered as x
  pair_one : (g₀ g u : List ℕ) (x : ℕ) → length g₀ + suc (length g) ≤ limit σ
      → ((g₁ : List ℕ) → length g₁ + length g ≤ limit σ → ear_after σ good (holding good g₁) u ≡ holding good (g₁ ++ g))
      → ear_after σ good (gather σ (stand AfterEscape (holding good g₀)) x) u ≡ holding good (g₀ ++ x ∷ g)
  pair_one g₀ g u x h more =
      let a : length g₀ < limit σ = omega arith in
      let b : length (g₀ ++ x ∷ []) + length g ≤ limit σ = rw length-append (omega arith) in
      rw (gather_one (stand AfterEscape (holding good g₀)) g₀ x refl refl a) (more (g₀ ++ x ∷ []) b ∙ simp append_assoc)

  -- what reads as g is gathered as g
  pub gathers : {u g : List ℕ} → Reads u g → (g₀ : List ℕ) → length g₀ + length g ≤ limit σ
      → ear_after σ good (holding good g₀) u ≡ holding good (g₀ ++ g)
  unfolding ear_after
  gathers empty g₀ h = rw append-nil
  gathers (plain {u} {g} x f e r) g₀ h =
      let a : length g₀ < limit σ = omega arith in
      let b : length (g₀ ++ x ∷ []) + length g ≤ limit σ = rw length-append (omega arith) in
      rw (ne_eqb x flag f, ne_eqb x escape e, gather_one (holding good g₀) g₀ x refl refl a)
      (gathers r (g₀ ++ x ∷ []) b ∙ simp append_assoc)
  gathers (an_escape {u} {g} r) g₀ h = pair_one g₀ g u escape h (gathers r)
  gathers (a_flag {u} {g} r) g₀ h = pair_one g₀ g u flag h (gathers r)
  gathers (adapted r) g₀ h = gathers r g₀ h

  -- octets without a flag raise no report
  pub silent : (u : List ℕ) → NoFlag u → (e : Ear) (p : ℕ) → reports_from σ good e p u ≡ []
  unfolding reports_from
  silent [] n e p = refl
  silent (o ∷ u) n e p = rw (ne_eqb o flag n.0) (silent u n.1 (on_octet σ e e.standing o) (suc p))
