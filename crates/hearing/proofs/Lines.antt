-- Feeds of a line, one after the other: what has been reported so far is what the octets heard so far say.
use Rattle.std.proofs.Common.{◌≡◌, ℕ, ◌+◌, ◌-◌, ◌<◌, ◌≤◌, min, Bool, List, [], ◌∷◌, ◌++◌, map, length, take, drop, Some, None, Option, sym, refl, ap, ◌∙◌, subst, ap₂, ⊎_elim, arith, append_assoc, length-drop, length-take}
use Rattle.std.proofs.Math.Seq.{take-append-add}
use Rattle.std.proofs.lemmas.List.{append-nil, nil_from_length, take-append-drop, length-append, take-take, take_at, drop_at, take_all, map-append}
use Rattle.std.proofs.ByRecursion.{All-take, All-drop}
use Rattle.std.proofs.lemmas.Bool.{cases_lt}
use Rattle.std.specs.Option.{option_map}
use Rattle.std.specs.Prelude.{OnSome}
use Rattle.octets.specs.Octets.{Octets}
use Rattle.octets.proofs.Joined.{octets_append}
use Rattle.codes.specs.Rules.{Rule, after}
use Rattle.codes.specs.Remainders.{answer_append, answer_nil, answer_take, after_after}
use Rattle.frames.specs.Terms.{Terms}
use Rattle.frames.specs.Of.{terms}
use Rattle.frames.specs.Calls.{Entry, handed_over, faulty}
use Rattle.frames.specs.Receiving.{Ear, Report, used, reported, ear_after, report_of, delivered}
use Rattle.frames.specs.Hearing.{Placed, placed, reports_from, Within}
use Rattle.frames.proofs.Feeds.{ear_append, reports_append, used_le, used_some, one_feed}
use Rattle.receiver.specs.declared.receiver.Receiver.{Receiver}
use Rattle.receiver.specs.Models.{ear, AlikeEars, Fed, HasHeard}
use Rattle.receiver.proofs.Ears.{same_ear}
use Rattle.hearing.specs.declared.heard.Heard.{Heard}
use Rattle.hearing.specs.Hears.{outcome_entry, placed_of, report_entry, noted, reports_of}

-- a report and the delivery buffer tell the entry
entry_told : (e : Entry) (buffer : List ℕ) → report_entry (report_of e) (delivered (Some e) buffer) ≡ e
entry_told (handed_over s i) buffer = ap (handed_over s) (take_at i (drop (length i) buffer) (length i) refl)
entry_told (faulty f n) buffer = refl

note_told : (q : ℕ) (v : Option Entry) (report : Option Report) (buffer buffer' : List ℕ) → report ≡ option_map report_of v → buffer' ≡ delivered v buffer
    → noted q report buffer' ≡ placed q v
note_told q None report buffer buffer' r d = ap (λ x. noted q x buffer') r
note_told q (Some e) report buffer buffer' r d =
    ap₂ (noted q) r d ∙ ap (λ x. record { place = q; entry = x } ∷ []) (entry_told e buffer)

-- a report put behind those before
pub noted_behind : (before after : List Heard) (h : Heard) (report : Option Report) (r : Report) (delivery : List ℕ)
    → after ≡ before ++ h ∷ [] → report ≡ Some r → outcome_entry h.outcome ≡ report_entry r delivery
    → map placed_of after ≡ map placed_of before ++ noted h.place report delivery
noted_behind before after h report r delivery pushed is told =
    let one : placed_of h ∷ [] ≡ noted h.place (Some r) delivery = ap (λ e. record { place = h.place; entry = e } ∷ []) told in
    ap (map placed_of) pushed ∙ map-append placed_of before (h ∷ []) ∙ ap (λ l. map placed_of before ++ l) (one ∙ ap (λ v. noted h.place v delivery) (sym is))

take_both : (n m : ℕ) (xs : List ℕ) → take n (take m xs) ≡ take (min n m) xs
take_both n m xs =
    ⊎_elim
    (λ h. let e : min n m ≡ n = omega arith in take-take n m xs (omega arith) ∙ ap (λ k. take k xs) (sym e))
    (λ h. let e : min n m ≡ m = omega arith in take_all n (take m xs) (omega (arith, length-take m xs)) ∙ ap (λ k. take k xs) (sym e))
    (cases_lt n m)

-- what raises a report was used
raised_used : (σ : Terms) (good : List ℕ → Bool) (room : ℕ) (e : Ear) (os : List ℕ) (x : Entry) → reported σ good room e os ≡ Some x → 0 < used σ good room e os
unfolding reported
raised_used σ good room e [] x h = let z : ◌≡◌ {A = ℕ} 0 1 = cc in omega arith
raised_used σ good room e (o ∷ os) x h = used_some σ good room e (o ∷ os) (omega arith)

-- a part of the line has been heard, and the rest is ahead
pub record Ahead {L K : Type 0} (back : L → List ℕ → List ℕ) (passes : K → List ℕ → Bool) (good : List ℕ → Bool) (line : List ℕ) (r₀ : Receiver L K) (ahead : List ℕ) (r : Receiver L K) (out : List Placed) : Type 0 where
  pub past : List ℕ
  pub parts : line ≡ past ++ ahead
  pub reports : out ≡ reports_of back passes good r₀ past
  pub leaves : HasHeard back passes good r₀ past r

module _ {L K : Type 0} (back : L → List ℕ → List ℕ) (passes : K → List ℕ → Bool) (good : List ℕ → Bool) (rules : (l : L) → Rule (back l)) where
  -- what a feed uses
  module _ (r r' : Receiver L K) (stretch buffer buffer' : List ℕ) (n : ℕ) (report : Option Report) (o : Octets stretch)
      (fed : Fed back passes good r stretch buffer r' buffer' n report) where
    pub fed_within : n ≤ length stretch
    fed_within =
        omega (arith, fed.count, (rules r.line).long stretch o, used_le (terms r.settings) good (length buffer) (ear passes r.ear) (back r.line stretch))

    pub fed_some : 0 < length stretch → 0 < n
    fed_some h =
        omega (arith, fed.count, used_some (terms r.settings) good (length buffer) (ear passes r.ear) (back r.line stretch) (omega (arith, (rules r.line).long stretch o)))

    pub fed_raised : OnSome report (0 < n)
    fed_raised = told (reported (terms r.settings) good (length buffer) (ear passes r.ear) (back r.line stretch)) refl
      where
        told : (v : Option Entry) → reported (terms r.settings) good (length buffer) (ear passes r.ear) (back r.line stretch) ≡ v → OnSome report (0 < n)
        told None e = subst (λ o. OnSome o (0 < n)) (sym (fed.report_is ∙ ap (option_map report_of) e)) tt
        told (Some y) e =
            subst (λ o. OnSome o (0 < n)) (sym (fed.report_is ∙ ap (option_map report_of) e))
            (omega (arith, fed.count, raised_used (terms r.settings) good (length buffer) (ear passes r.ear) (back r.line stretch) y e))

  -- a receiver hears on where it stopped
  pub heard_append : (r r' r'' : Receiver L K) (xs ys : List ℕ) → Octets xs → Octets ys
      → HasHeard back passes good r xs r' → HasHeard back passes good r' ys r'' → HasHeard back passes good r (xs ++ ys) r''
  heard_append r r' r'' xs ys ox oy one two =
      let σ = terms r.settings in
      let f = back r.line in
      let e = ear passes r.ear in
      let answer : f (xs ++ ys) ≡ f xs ++ back r'.line ys = answer_append f (rules r.line) xs ys ox oy ∙ ap (λ z. f xs ++ z) (sym (one.backs ys oy)) in
      let ears : ear passes r''.ear ≡ ear_after σ good e (f (xs ++ ys))
      = same_ear _ _ two.ears
      ∙ ap₂ (λ s x. ear_after s good x (back r'.line ys)) (ap terms one.settings) (same_ear _ _ one.ears)
      ∙ sym (ear_append σ good e (f xs) (back r'.line ys))
      ∙ ap (ear_after σ good e) (sym answer) in
      record {
        ears = subst (λ x. AlikeEars (ear passes r''.ear) x) ears (record { standing = refl; gathered = refl; good_with = λ os. refl });
        backs = λ zs oz. two.backs zs oz ∙ ap (drop (length ys)) (one.backs (ys ++ zs) (octets_append ys zs oy oz)) ∙ after_after f xs ys zs;
        settings = two.settings ∙ one.settings;
      }

  module _ (line : List ℕ) (o : Octets line) (r₀ : Receiver L K) where
    abbrev σ : Terms
    σ = terms r₀.settings

    abbrev e₀ : Ear
    e₀ = ear passes r₀.ear

    pub ahead_none : (out : List Placed) → out ≡ [] → Ahead back passes good line r₀ line r₀ out
    unfolding reports_from ear_after
    ahead_none out empty =
        let none : back r₀.line [] ≡ [] = answer_nil (back r₀.line) (rules r₀.line) in
        let reports : [] ≡ reports_of back passes good r₀ [] = rw none refl in
        record {
          past = [];
          parts = refl;
          reports = empty ∙ reports;
          leaves = record {
            ears = rw none (record { standing = refl; gathered = refl; good_with = λ os. refl });
            backs = λ xs ox. refl;
            settings = refl;
          };
        }

    pub ahead_all : (ahead : List ℕ) (r : Receiver L K) (out : List Placed) → length ahead ≡ 0 → Ahead back passes good line r₀ ahead r out
        → (out ≡ reports_of back passes good r₀ line) × HasHeard back passes good r₀ line r
    ahead_all ahead r out none a =
        let whole : a.past ≡ line = sym (a.parts ∙ ap (λ l. a.past ++ l) (nil_from_length ahead none) ∙ append-nil a.past) in
        (a.reports ∙ ap (reports_of back passes good r₀) whole, subst (λ x. HasHeard back passes good r₀ x r) whole a.leaves)

    module _ (ahead : List ℕ) (r : Receiver L K) (out : List Placed) (a : Ahead back passes good line r₀ ahead r out) where
      octets : Octets (a.past ++ ahead)
      octets = subst Octets a.parts o

      o_past : Octets a.past
      o_past = subst Octets (take_at a.past ahead (length a.past) refl) (All-take (λ x. x < 256) (length a.past) (a.past ++ ahead) octets)

      o_ahead : Octets ahead
      o_ahead = subst Octets (drop_at a.past ahead (length a.past) refl) (All-drop (λ x. x < 256) (length a.past) (a.past ++ ahead) octets)

      -- the octets ahead by which a receiver goes on
      on : (k : ℕ) (r' : Receiver L K) → HasHeard back passes good r (take k ahead) r' → HasHeard back passes good r₀ (a.past ++ take k ahead) r'
      on k r' h = heard_append r₀ r r' a.past (take k ahead) o_past (All-take (λ x. x < 256) k ahead o_ahead) a.leaves h

      -- wherever memory is wanting, a beginning of the line has been heard
      pub ahead_part : (cut n : ℕ) (r' : Receiver L K) → HasHeard back passes good r (take n (take cut ahead)) r' → (m : ℕ) × HasHeard back passes good r₀ (take m line) r'
      ahead_part cut n r' h =
          let k = min n cut in
          let front : take (length a.past + k) line ≡ a.past ++ take k ahead = ap (take (length a.past + k)) a.parts ∙ take-append-add a.past ahead k in
          (length a.past + k, subst (λ x. HasHeard back passes good r₀ x r') (sym front) (on k r' (subst (λ x. HasHeard back passes good r x r') (take_both n cut ahead) h)))

      -- one feed more, of at most `cut` octets, and its report behind those before
      module _ (ahead' : List ℕ) (cut n : ℕ) (r' : Receiver L K) (buffer buffer' : List ℕ) (out' : List Placed) (report : Option Report)
          (enough : σ.longest ≤ length buffer) (fed : Fed back passes good r (take cut ahead) buffer r' buffer' n report)
          (within : n ≤ length ahead) (is : ahead' ≡ drop n ahead)
          (told : out' ≡ out ++ noted (length line - length ahead' - 1) report buffer') where
        abbrev place : ℕ
        place = length a.past

        abbrev stretch : List ℕ
        stretch = take cut ahead

        abbrev f : List ℕ → List ℕ
        f = back r.line

        abbrev f₀ : List ℕ → List ℕ
        f₀ = back r₀.line

        abbrev e : Ear
        e = ear passes r.ear

        o_stretch : Octets stretch
        o_stretch = All-take (λ x. x < 256) cut ahead o_ahead

        o_used : Octets (take n ahead)
        o_used = All-take (λ x. x < 256) n ahead o_ahead

        settings : terms r.settings ≡ σ
        settings = ap terms a.leaves.settings

        front : take n stretch ≡ take n ahead
        front = take-take n cut ahead (omega (arith, fed_within r r' stretch buffer buffer' n report o_stretch fed, length-take cut ahead))

        -- the answer to the octets heard by now
        answer : f₀ (a.past ++ take n ahead) ≡ f₀ a.past ++ f (take n ahead)
        answer = answer_append f₀ (rules r₀.line) a.past (take n ahead) o_past o_used ∙ ap (λ z. f₀ a.past ++ z) (sym (a.leaves.backs (take n ahead) o_used))

        before : ear_after σ good e₀ (f₀ a.past) ≡ e
        before = sym (same_ear _ _ a.leaves.ears)

        here : 0 + length (f₀ a.past) ≡ place
        here = omega (arith, (rules r₀.line).long a.past o_past)

        next : length line - length ahead' ≡ place + n
        next = omega (arith, ap length a.parts, length-append a.past ahead, ap length is, length-drop n ahead, within)

        abbrev v : Option Entry
        v = reported (terms r.settings) good (length buffer) e (f stretch)

        -- what this feed reports
        first : reports_from σ good e place (f (take n ahead)) ≡ placed (place + n - 1) v
        first =
            let w : Within (terms r.settings) e = r.within in
            let room : (terms r.settings).longest ≤ length buffer = subst (λ s. s.longest ≤ length buffer) (sym settings) enough in
            let one = one_feed (terms r.settings) good (length buffer) room e place (f stretch) w in
            let used_front : take n (f stretch) ≡ f (take n ahead) = answer_take f (rules r.line) n stretch o_stretch ∙ ap f front in
            let two : reports_from (terms r.settings) good e place (f (take n ahead)) ≡ placed (place + n - 1) v = rw (← fed.count, used_front) at one in
            ap (λ s. reports_from s good e place (f (take n ahead))) (sym settings) ∙ two

        more : out' ≡ reports_of back passes good r₀ (a.past ++ take n ahead)
        more =
            told
            ∙ ap₂ ◌++◌ a.reports
            (ap (λ k. noted (k - 1) report buffer') next ∙ note_told (place + n - 1) v report buffer buffer' fed.report_is fed.delivers ∙ sym first)
            ∙ ap (λ l. reports_from σ good e₀ 0 (f₀ a.past) ++ l) (ap₂ (λ x p. reports_from σ good x p (f (take n ahead))) (sym before) (sym here))
            ∙ sym (reports_append σ good e₀ 0 (f₀ a.past) (f (take n ahead)))
            ∙ ap (reports_from σ good e₀ 0) (sym answer)

        parts : line ≡ (a.past ++ take n ahead) ++ ahead'
        parts = a.parts ∙ ap (λ l. a.past ++ l) (sym (take-append-drop n ahead)) ∙ sym (append_assoc a.past (take n ahead) (drop n ahead)) ∙ ap (λ l. (a.past ++ take n ahead) ++ l) (sym is)

        pub ahead_more : Ahead back passes good line r₀ ahead' r' out'
        ahead_more = record { past = a.past ++ take n ahead; parts = parts; reports = more; leaves = on n r' (subst (λ x. HasHeard back passes good r x r') front fed.leaves) }
