-- Hearing by any feeds comes to hearing the octets one by one.
use Rattle.std.proofs.Common.{◌≡◌, ℕ, ◌+◌, ◌-◌, ◌<◌, ◌≤◌, Bool, List, [], ◌∷◌, ◌++◌, length, take, drop, sym, refl, ap, ◌∙◌, ap₂, arith, length-take}
use Rattle.std.proofs.lemmas.List.{take-append-drop, length-take-le, take-take}
use Rattle.std.proofs.ByRecursion.{All-take, All-drop}
use Rattle.octets.specs.Octets.{Octets}
use Rattle.codes.specs.Rules.{Rule, after, Alike}
use Rattle.octets.proofs.Joined.{octets_append}
use Rattle.codes.specs.Remainders.{answer_append, answer_nil, answer_take, after_rule, after_after}
use Rattle.frames.specs.Terms.{Terms}
use Rattle.frames.specs.Receiving.{hunting, ear_after}
use Rattle.frames.specs.Hearing.{placed, reports_from, Within, Feed, Roomy, Receiver, Hearing, hear, heard, feed_used, feed_reported}
use Rattle.frames.specs.Promise.{CuttingIsFree}
use Rattle.frames.proofs.Reached.{reached_same}
use Rattle.frames.proofs.Feeds.{ear_append, reports_append, within_after, used_le, one_feed}

module _ (σ : Terms) (good : List ℕ → Bool) where
  -- what a hearing that used all its octets comes to
  pub record Whole (r : Receiver) (p : ℕ) (os : List ℕ) (h : Hearing) : Type 0 where
    pub reports : h.reports ≡ reports_from σ good r.ear p (r.back os)
    pub ear : h.receiver.ear ≡ ear_after σ good r.ear (r.back os)
    pub back : Alike h.receiver.back (after r.back os)

  module _ (r : Receiver) (rule : Rule r.back) (φ : Feed) (os : List ℕ) (o : Octets os) where
    abbrev n : ℕ
    n = feed_used σ good r φ os

    used_in : n ≤ length (take φ.stretch os)
    used_in =
        let a = used_le σ good φ.room r.ear (r.back (take φ.stretch os)) in
        omega (arith, rule.long (take φ.stretch os) (All-take (λ x. x < 256) φ.stretch os o))

    used_all : n ≤ length os
    used_all = omega (arith, used_in, length-take φ.stretch os)

    used_front : take n (r.back (take φ.stretch os)) ≡ r.back (take n os)
    used_front =
        let a : n ≤ φ.stretch = omega (arith, used_in, length-take φ.stretch os) in
        answer_take r.back rule n (take φ.stretch os) (All-take (λ x. x < 256) φ.stretch os o) ∙ ap r.back (take-take n φ.stretch os a)

    -- the answer to the octets ahead: that to those used, then the remainder's
    split : r.back os ≡ r.back (take n os) ++ after r.back (take n os) (drop n os)
    split =
        ap r.back (sym (take-append-drop n os))
        ∙ answer_append r.back rule (take n os) (drop n os) (All-take (λ x. x < 256) n os o) (All-drop (λ x. x < 256) n os o)

    answered : length (r.back (take n os)) ≡ n
    answered = rule.long (take n os) (All-take (λ x. x < 256) n os o) ∙ length-take-le n os used_all

    step_reports : (p : ℕ) → σ.longest ≤ φ.room → Within σ r.ear
        → reports_from σ good r.ear p (r.back os)
        ≡ placed (p + n - 1) (feed_reported σ good r φ os) ++ reports_from σ good (ear_after σ good r.ear (r.back (take n os))) (p + n) (after r.back (take n os) (drop n os))
    step_reports p enough h =
        let first = one_feed σ good φ.room enough r.ear p (r.back (take φ.stretch os)) h in
        ap (reports_from σ good r.ear p) split
        ∙ reports_append σ good r.ear p (r.back (take n os)) _
        ∙ rw (answered, ← used_front, first)

    step_ear : ear_after σ good r.ear (r.back os) ≡ ear_after σ good (ear_after σ good r.ear (r.back (take n os))) (after r.back (take n os) (drop n os))
    step_ear = ap (ear_after σ good r.ear) split ∙ ear_append σ good r.ear (r.back (take n os)) _

    step_back : Alike (after (after r.back (take n os)) (drop n os)) (after r.back os)
    step_back xs ox = after_after r.back (take n os) (drop n os) xs ∙ rw (take-append-drop n os)

  -- the octets, however they are cut
  pub hears_all : (φs : List Feed) (r : Receiver) (p : ℕ) (os : List ℕ) → Rule r.back → Within σ r.ear → Octets os → Roomy σ φs
      → (hear σ good r p os φs).over ≡ [] → Whole r p os (hear σ good r p os φs)
  unfolding hear reports_from ear_after
  hears_all [] r p os rule w o m e = record { reports = sym (none (reports_from σ good r.ear p) refl); ear = sym (none (ear_after σ good r.ear) refl); back = λ xs ox. rw e }
    where
      none : {X : Type 0} {x : X} (F : List ℕ → X) → F [] ≡ x → F (r.back os) ≡ x
      none F z = rw (e, answer_nil r.back rule) z
  hears_all (φ ∷ φs) r p os rule w o m e =
      let k = feed_used σ good r φ os in
      let ih = hears_all φs (heard σ good r (take k os)) (p + k) (drop k os) (after_rule r.back rule (take k os) (All-take (λ x. x < 256) k os o))
      (within_after σ good r.ear (r.back (take k os)) w) (All-drop (λ x. x < 256) k os o) m.1 e in
      record {
        reports = ap (λ l. placed (p + k - 1) (feed_reported σ good r φ os) ++ l) ih.reports ∙ sym (step_reports r rule φ os o p m.0 w);
        ear = ih.ear ∙ sym (step_ear r rule φ os o);
        back = λ xs ox. ih.back xs ox ∙ step_back r rule φ os o xs ox;
      }

-- over any octets, two receivers in equal state end in equal state with equal reports
pub cutting_is_free : {C D : Type 0} (back : C → List ℕ → List ℕ) (back' : D → List ℕ → List ℕ) (good : List ℕ → Bool)
    → ((c : C) → Rule (back c)) → ((d : D) → Rule (back' d)) → CuttingIsFree back back' good
cutting_is_free back back' good rules rules' σ c d past past' alike standing gathered p os o φs φs' m m' none none' =
    let e = ear_after σ good (hunting good) past in
    let e' = ear_after σ good (hunting good) past' in
    let same : e ≡ e' = reached_same σ good past past' standing gathered in
    let w = within_after σ good (hunting good) past (omega arith) in
    let w' = within_after σ good (hunting good) past' (omega arith) in
    let h = hears_all σ good φs (record { back = back c; ear = e }) p os (rules c) w o m none in
    let h' = hears_all σ good φs' (record { back = back' d; ear = e' }) p os (rules' d) w' o m' none' in
    let both : reports_from σ good e p (back c os) ≡ reports_from σ good e' p (back' d os) = ap₂ (λ x l. reports_from σ good x p l) same (alike os o) in
    let ears : ear_after σ good e (back c os) ≡ ear_after σ good e' (back' d os) = ap₂ (ear_after σ good) same (alike os o) in (
      h.reports ∙ both ∙ sym h'.reports,
      record {
        back = λ xs ox. h.back xs ox ∙ ap (drop (length os)) (alike (os ++ xs) (octets_append os xs o ox)) ∙ sym (h'.back xs ox);
        ear = h.ear ∙ ears ∙ sym h'.ear;
      },
    )
