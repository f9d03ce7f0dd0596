-- A receiver that was made and has heard anything: its check stands at the octets gathered, so that standing and gathered
-- octets are all that it has in hand.
use Rattle.std.proofs.Common.{◌≡◌, ℕ, Bool, eqb, ltb, List, [], ◌∷◌, ◌++◌, length, sym, refl, ap, ◌∙◌, append_assoc}
use Rattle.std.proofs.lemmas.Bool.{cond_both}
use Rattle.frames.specs.declared.standing.Standing.{Standing}
use Rattle.frames.specs.declared.standing.Standing.TheVariants.{Hunting, Gathering, AfterEscape, Skipping}
use Rattle.frames.specs.Terms.{Terms, limit}
use Rattle.frames.specs.Layout.{flag, escape}
use Rattle.frames.specs.Receiving.{Ear, hunting, gather, after_escape, Reading, stands_for, adaptation, nothing_known, read_escape, on_octet, moved, ear_after}

module _ (σ : Terms) (good : List ℕ → Bool) where
  Sound : Ear → Type 0
  Sound e = (os : List ℕ) → e.good_with os ≡ good (e.gathered ++ os)

  sound_gather : (e : Ear) (x : ℕ) → Sound e → Sound (gather σ e x)
  unfolding Sound
  sound_gather e x h =
      cond_both (ltb (length e.gathered) (limit σ)) _ _ Sound
      (λ t os. h (x ∷ os) ∙ ap good (sym (append_assoc e.gathered (x ∷ []) os)))
      (λ t. h)

  sound_after_escape : (e : Ear) (r : Reading) → Sound e → Sound (after_escape σ e r)
  unfolding Sound
  sound_after_escape e (stands_for x) h = sound_gather e x h
  sound_after_escape e adaptation h = h
  sound_after_escape e nothing_known h = h

  sound_on_octet : (e : Ear) (s : Standing) (o : ℕ) → Sound e → Sound (on_octet σ e s o)
  unfolding Sound
  sound_on_octet e Hunting o h = h
  sound_on_octet e (Skipping c) o h = h
  sound_on_octet e Gathering o h = cond_both (eqb o escape) _ _ Sound (λ t. h) (λ t. sound_gather e o h)
  sound_on_octet e AfterEscape o h = sound_after_escape e (read_escape o) h

  sound_moved : (e : Ear) (o : ℕ) → Sound e → Sound (moved σ good e o)
  unfolding Sound
  sound_moved e o h = cond_both (eqb o flag) _ _ Sound (λ t os. refl) (λ t. sound_on_octet e e.standing o h)

  sound_after : (os : List ℕ) (e : Ear) → Sound e → Sound (ear_after σ good e os)
  unfolding ear_after
  sound_after [] e h = h
  sound_after (o ∷ os) e h = sound_after os (moved σ good e o) (sound_moved e o h)

  sound_new : Sound (hunting good)
  unfolding Sound
  sound_new os = refl

  pub reached_same : (past past' : List ℕ) → (ear_after σ good (hunting good) past).standing ≡ (ear_after σ good (hunting good) past').standing
      → (ear_after σ good (hunting good) past).gathered ≡ (ear_after σ good (hunting good) past').gathered
      → ear_after σ good (hunting good) past ≡ ear_after σ good (hunting good) past'
  unfolding Sound
  reached_same past past' s g =
      let one = sound_after past (hunting good) sound_new in
      let two = sound_after past' (hunting good) sound_new in
      λ i. record { standing = s i; gathered = g i; good_with = λ os. (one os ∙ ap (λ x. good (x ++ os)) g ∙ sym (two os)) i }
