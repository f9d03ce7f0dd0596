-- A feed, octet by octet: what is left of the stretch gives the same.
use Rattle.std.proofs.Common.{◌≡◌, ℕ, suc, ◌+◌, ◌<◌, ◌≤◌, Bool, List, [], ◌∷◌, ◌++◌, length, get_or, take, drop, Some, None, Option, sym, refl, ap, ◌∙◌, ap₂, arith}
use Rattle.std.proofs.lemmas.List.{take_more, drop_more, drop_all, nil_from_length}
use Rattle.std.proofs.ByRecursion.{All-get_or, All-take, All-drop}
use Rattle.octets.specs.Octets.{Octets}
use Rattle.codes.specs.Rules.{Rule, Steps, Alike, after}
use Rattle.codes.specs.Remainders.{answer_append, answer_nil, after_rule, after_after}
use Rattle.frames.specs.Terms.{Terms}
use Rattle.frames.specs.Calls.{Entry}
use Rattle.frames.specs.Receiving.{Ear, Report, moved, raised, used, reported, ear_after, report_of, delivered}
use Rattle.frames.proofs.Feeds.{ear_append}
use Rattle.frames.specs.Of.{terms}
use Rattle.std.specs.Option.{option_map}
use Rattle.receiver.specs.declared.receiver.Receiver.{Receiver}
use Rattle.receiver.specs.Models.{ear, Heard, First, first_of}
use Rattle.receiver.proofs.Ears.{same_ear, alike_ears}

-- after i octets of a stretch and no report
pub record Going (σ : Terms) (good : List ℕ → Bool) (room : ℕ) (f₀ : List ℕ → List ℕ) (e₀ : Ear) (xs : List ℕ) (f : List ℕ → List ℕ) (e : Ear) (i : ℕ) : Type 0 where
  pub back : Alike f (after f₀ (take i xs))
  pub ear : e ≡ ear_after σ good e₀ (f₀ (take i xs))
  pub used_so : used σ good room e₀ (f₀ xs) ≡ i + used σ good room e (f (drop i xs))
  pub reported_so : reported σ good room e₀ (f₀ xs) ≡ reported σ good room e (f (drop i xs))

module _ (σ : Terms) (good : List ℕ → Bool) (room : ℕ) (f₀ : List ℕ → List ℕ) (law : Rule f₀) (e₀ : Ear) (xs : List ℕ) (o : Octets xs) where
  pub going_none : Going σ good room f₀ e₀ xs f₀ e₀ 0
  unfolding ear_after
  going_none = record {
    back = λ ys oy. refl;
    ear = sym (ap (ear_after σ good e₀) (answer_nil f₀ law));
    used_so = omega arith;
    reported_so = refl;
  }

  module _ (f f' : List ℕ → List ℕ) (e : Ear) (i y : ℕ) (inside : i < length xs) (step : Steps f (get_or xs i 0) y f') (g : Going σ good room f₀ e₀ xs f e i) where
    rest : Octets (drop (i + 1) xs)
    rest = All-drop (λ x. x < 256) (i + 1) xs o

    here : Octets (get_or xs i 0 ∷ [])
    here = (All-get_or (λ x. x < 256) xs i 0 inside o, tt)

    heard : Octets (take i xs)
    heard = All-take (λ x. x < 256) i xs o

    answer : f (drop i xs) ≡ y ∷ f' (drop (i + 1) xs)
    answer = ap f (drop_more xs i 0 inside) ∙ step (drop (i + 1) xs) rest

    last : f' [] ≡ []
    last =
        let one = (after_rule f₀ law (take i xs) heard).long (get_or xs i 0 ∷ []) here in
        let all : length (y ∷ f' []) ≡ 1 = ap length (sym (step [] tt) ∙ g.back (get_or xs i 0 ∷ []) here) ∙ one in
        nil_from_length (f' []) (omega arith)

    -- the octet that comes back is the rule's next
    next : f₀ (take (i + 1) xs) ≡ f₀ (take i xs) ++ y ∷ []
    next =
        ap f₀ (take_more xs i 0 inside)
        ∙ answer_append f₀ law (take i xs) (get_or xs i 0 ∷ []) heard here
        ∙ ap (λ l. f₀ (take i xs) ++ l) (sym (g.back (get_or xs i 0 ∷ []) here) ∙ step [] tt ∙ ap (λ l. y ∷ l) last)

    pub next_back : Alike f' (after f₀ (take (i + 1) xs))
    next_back ys oy =
        ap (drop 1) (sym (step ys oy) ∙ g.back (get_or xs i 0 ∷ ys) (here.0, oy))
        ∙ after_after f₀ (take i xs) (get_or xs i 0 ∷ []) ys
        ∙ ap (λ l. after f₀ l ys) (sym (take_more xs i 0 inside))

    pub next_ear : moved σ good e y ≡ ear_after σ good e₀ (f₀ (take (i + 1) xs))
    unfolding ear_after
    next_ear = ap (λ x. moved σ good x y) g.ear ∙ sym (ap (ear_after σ good e₀) next ∙ ear_append σ good e₀ (f₀ (take i xs)) (y ∷ []))

    pub going_more : (e' : Ear) → e' ≡ moved σ good e y → raised σ room e y ≡ None → Going σ good room f₀ e₀ xs f' e' (i + 1)
    unfolding used reported
    going_more e' m r =
        let u : used σ good room e (y ∷ f' (drop (i + 1) xs)) ≡ suc (used σ good room (moved σ good e y) (f' (drop (i + 1) xs)))
        = ap (λ v. elim v [ None ↦ suc (used σ good room (moved σ good e y) (f' (drop (i + 1) xs))) | Some r ↦ 1 ]) r in
        let v : reported σ good room e (y ∷ f' (drop (i + 1) xs)) ≡ reported σ good room (moved σ good e y) (f' (drop (i + 1) xs))
        = ap (λ v. elim v [ None ↦ reported σ good room (moved σ good e y) (f' (drop (i + 1) xs)) | Some r ↦ Some r ]) r in
        let n : i + suc (used σ good room (moved σ good e y) (f' (drop (i + 1) xs))) ≡ i + 1 + used σ good room (moved σ good e y) (f' (drop (i + 1) xs)) = omega arith in
        record {
          back = next_back;
          ear = m ∙ next_ear;
          used_so = g.used_so ∙ ap (λ l. i + used σ good room e l) answer ∙ ap (λ k. i + k) u ∙ n ∙ ap (λ x. i + 1 + used σ good room x (f' (drop (i + 1) xs))) (sym m);
          reported_so = g.reported_so ∙ ap (reported σ good room e) answer ∙ v ∙ ap (λ x. reported σ good room x (f' (drop (i + 1) xs))) (sym m);
        }

    pub going_stops : (v : Entry) → raised σ room e y ≡ Some v → (used σ good room e₀ (f₀ xs) ≡ i + 1) × (reported σ good room e₀ (f₀ xs) ≡ Some v)
    unfolding used reported
    going_stops v r = (
      g.used_so ∙ ap (λ l. i + used σ good room e l) answer ∙ ap (λ k. i + k) (ap (λ v. elim v [ None ↦ suc (used σ good room (moved σ good e y) (f' (drop (i + 1) xs))) | Some r ↦ 1 ]) r),
      g.reported_so ∙ ap (reported σ good room e) answer ∙ ap (λ v. elim v [ None ↦ reported σ good room (moved σ good e y) (f' (drop (i + 1) xs)) | Some r ↦ Some r ]) r,
    )

  pub going_all : (f : List ℕ → List ℕ) (e : Ear) (i : ℕ) → Rule f → length xs ≤ i → Going σ good room f₀ e₀ xs f e i → (used σ good room e₀ (f₀ xs) ≡ i) × (reported σ good room e₀ (f₀ xs) ≡ None)
  unfolding used reported
  going_all f e i lawf past g =
      let none : f (drop i xs) ≡ [] = ap f (drop_all i xs past) ∙ answer_nil f lawf in
      let n : i + 0 ≡ i = omega arith in
      (g.used_so ∙ ap (λ l. i + used σ good room e l) none ∙ n, g.reported_so ∙ ap (reported σ good room e) none)

some≢none : {X : Type 0} {x : X} → Some x ≡ None → ⊥
some≢none h = let z : ◌≡◌ {A = ℕ} 0 1 = cc in omega arith

unreported : (v : Option Entry) → None ≡ option_map report_of v → v ≡ None
unreported None h = refl
unreported (Some e) h = absurd (some≢none (sym h))

reported_as : (v : Option Entry) (r : Report) → Some r ≡ option_map report_of v → (e : Entry) × (v ≡ Some e) × (r ≡ report_of e)
reported_as None r h = absurd (some≢none h)
reported_as (Some e) r h = (e, refl, cc)

module _ {L K : Type 0} (back : L → List ℕ → List ℕ) (passes : K → List ℕ → Bool) (good : List ℕ → Bool) (laws : (l : L) → Rule (back l)) where
  -- the loop of a feed: i octets heard, none of which raised a report
  pub record Run (r₀ : Receiver L K) (xs buffer : List ℕ) (r : Receiver L K) (buffer' : List ℕ) (i : ℕ) : Type 0 where
    pub going : Going (terms r₀.settings) good (length buffer) (back r₀.line) (ear passes r₀.ear) xs (back r.line) (ear passes r.ear) i
    pub untouched : buffer' ≡ buffer
    pub settings : r.settings ≡ r₀.settings

  module _ (r₀ : Receiver L K) (xs buffer : List ℕ) (o : Octets xs) where
    pub run_none : Run r₀ xs buffer r₀ buffer 0
    run_none = record { going = going_none (terms r₀.settings) good (length buffer) (back r₀.line) (laws r₀.line) (ear passes r₀.ear) xs o; untouched = refl; settings = refl }

    module _ (r : Receiver L K) (buffer' : List ℕ) (i : ℕ) (run : Run r₀ xs buffer r buffer' i) where
      pub run_all : length xs ≤ i → i ≤ length xs → First back passes good r₀ xs buffer r buffer' None
      run_all past inside =
          let end = going_all (terms r₀.settings) good (length buffer) (back r₀.line) (laws r₀.line) (ear passes r₀.ear) xs o (back r.line) (ear passes r.ear) i (laws r.line) past run.going in
          let all : i ≡ length xs = omega arith in
          record {
            found_is = sym (ap₂ first_of end.0 end.1);
            else_all = λ _. end.0 ∙ all;
            delivers = run.untouched ∙ sym (ap (λ v. delivered v buffer) end.1);
            leaves = rw end.0 (record { ears = alike_ears run.going.ear; backs = run.going.back; settings = run.settings });
          }

      module _ (inside : i < length xs) (r' : Receiver L K) (buffer'' : List ℕ) (report : Option Report)
          (h : Heard back passes good r (get_or xs i 0) buffer' r' buffer'' report) where
        same_raised : raised (terms r₀.settings) (length buffer) (ear passes r.ear) h.answer ≡ raised (terms r.settings) (length buffer') (ear passes r.ear) h.answer
        same_raised = ap₂ (λ s b. raised (terms s) (length b) (ear passes r.ear) h.answer) (sym run.settings) (sym run.untouched)

        moves_on : ear passes r'.ear ≡ moved (terms r₀.settings) good (ear passes r.ear) h.answer
        moves_on = same_ear _ _ h.moves ∙ ap (λ s. moved (terms s) good (ear passes r.ear) h.answer) run.settings

        pub run_more : report ≡ None → Run r₀ xs buffer r' buffer'' (i + 1)
        run_more none =
            let quiet = unreported (raised (terms r.settings) (length buffer') (ear passes r.ear) h.answer) (sym none ∙ h.reports) in
            record {
              going = going_more (terms r₀.settings) good (length buffer) (back r₀.line) (laws r₀.line) (ear passes r₀.ear) xs o (back r.line) (back r'.line) (ear passes r.ear) i h.answer inside h.steps run.going (ear passes r'.ear) moves_on (same_raised ∙ quiet);
              untouched = h.delivers ∙ ap (λ v. delivered v buffer') quiet ∙ run.untouched;
              settings = h.settings ∙ run.settings;
            }

        pub run_stops : (x : Report) → report ≡ Some x → First back passes good r₀ xs buffer r' buffer'' (Some (i + 1, x))
        run_stops x some =
            let seen = reported_as (raised (terms r.settings) (length buffer') (ear passes r.ear) h.answer) x (sym some ∙ h.reports) in
            let stops = going_stops (terms r₀.settings) good (length buffer) (back r₀.line) (laws r₀.line) (ear passes r₀.ear) xs o (back r.line) (back r'.line) (ear passes r.ear) i h.answer inside h.steps run.going seen.0 (same_raised ∙ seen.1) in
            let on = next_ear (terms r₀.settings) good (length buffer) (back r₀.line) (laws r₀.line) (ear passes r₀.ear) xs o (back r.line) (back r'.line) (ear passes r.ear) i h.answer inside h.steps run.going in
            let along = next_back (terms r₀.settings) good (length buffer) (back r₀.line) (laws r₀.line) (ear passes r₀.ear) xs o (back r.line) (back r'.line) (ear passes r.ear) i h.answer inside h.steps run.going in
            record {
              found_is = ap (λ z. Some (i + 1, z)) seen.2 ∙ sym (ap₂ first_of stops.0 stops.1);
              else_all = λ e. absurd (some≢none e);
              delivers = h.delivers ∙ ap (λ w. delivered w buffer') seen.1 ∙ ap (delivered (Some seen.0)) run.untouched ∙ sym (ap (λ w. delivered w buffer) stops.1);
              leaves = rw stops.0 (record { ears = alike_ears (moves_on ∙ on); backs = along; settings = h.settings ∙ run.settings });
            }
