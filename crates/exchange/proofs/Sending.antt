-- A sender through a list of calls: from what each call drives it to.
use Rattle.std.proofs.Common.{◌≡◌, ℕ, Bool, true, false, cond, List, [], ◌∷◌, ◌++◌, length, take, drop, Some, None, Err, Option, sym, refl, ap, ◌∙◌, subst, ap₂}
use Rattle.std.proofs.lemmas.List.{take_at, append-nil, append_assoc}
use Rattle.std.specs.List.{AllByRecursion}
use Rattle.octets.specs.Octets.{Octets}
use Rattle.octets.proofs.Joined.{octets_append}
use Rattle.codes.specs.Rules.{Rule, after}
use Rattle.codes.specs.Remainders.{answer_append, answer_nil, after_rule, after_after}
use Rattle.frames.specs.declared.answers.Refusal.{Refusal}
use Rattle.frames.specs.Terms.{Terms}
use Rattle.frames.specs.Calls.{Frame, allows, octets, next, refused, if_taken, Lent, frame_after, written, line, Typed, Known}
use Rattle.frames.proofs.Lines.{call_octets, next_known, line_octets}
use Rattle.exchange.proofs.Allowed.{allowed_typed}
use Rattle.link.specs.declared.answer.TurnedDown.TheVariants.{Refused, NotAllowed}
use Rattle.link.specs.Answering.{Answer}
use Rattle.link.specs.declared.calling.Sender.{Sender}
use Rattle.link.specs.Driving.{Stands, Driven, IfAllowed, CallsOn}
use Rattle.exchange.specs.Sending.{allowed, written_front, answered, answer_at, frame_at, written_at, answers, SendsOne, SendsAll}

module _ {L K : Type 0} (onward : L → List ℕ → List ℕ) (owes : K → List ℕ → List ℕ) (owed : List ℕ → List ℕ) (fits : (m : List ℕ) → Octets m → Octets (owed m)) where
  -- nothing more is sent
  none_more : (start : List ℕ → List ℕ) → Rule start → (sent : List ℕ) → Octets sent → after start sent [] ≡ []
  none_more start rule sent o = answer_nil (after start sent) (after_rule start rule sent o)

  module _ (κ : Lent) (t : Typed κ.call) (s s' : Sender L K) (stretch stretch' text text' : List ℕ) (past past' : List Answer) (room : length stretch ≡ κ.room) (a : Answer)
      (called : CallsOn onward owes owed κ.call s stretch s' stretch' a) (kept : text' ≡ text ++ written_front a stretch') (pushed : past' ≡ past ++ a ∷ []) where
    pub sends_one : SendsOne onward owes owed κ s text past s' text' past'
    sends_one start rule σ φ sent o known stands =
        let so = go (allows φ κ.call) (called start σ φ sent known stands) in
        (pushed ∙ ap (λ b. past ++ b ∷ []) so.0, so.1, so.2)
      where
        os : List ℕ
        os = octets owed φ κ.call

        Goal : Answer → Frame → List ℕ → Type 0
        Goal b ψ more = (a ≡ b) × (text' ≡ text ++ after start sent more) × Stands onward owes owed start σ ψ (sent ++ more) s'

        -- nothing was written
        same : (b : Answer) → a ≡ b → written_front b stretch' ≡ [] → s' ≡ s → Goal b φ []
        same b e f h = (
          e,
          kept ∙ ap (λ l. text ++ l) (ap (λ x. written_front x stretch') e ∙ f ∙ sym (none_more start rule sent o)),
          subst (λ l. Stands onward owes owed start σ φ l s') (sym (append-nil sent)) (subst (Stands onward owes owed start σ φ sent) (sym h) stands),
        )

        taken : (v : Option Refusal) → Driven onward owes owed start σ φ sent κ.call v s stretch s' stretch' a
            → Goal (answered v os) (if_taken v (next φ κ.call) φ) (if_taken v os [])
        taken None d =
            let long : length (after start sent os) ≡ length os = (after_rule start rule sent o).long os (call_octets owed fits φ κ.call known t) in
            let wrote : written_front a stretch' ≡ after start sent os
            = ap (λ x. written_front x stretch') d.0 ∙ ap (take (length os)) d.1 ∙ take_at (after start sent os) (drop (length os) stretch) (length os) long in
            (d.0, kept ∙ ap (λ l. text ++ l) wrote, d.2)
        taken (Some r) d = same (Err (Refused r)) d.0 refl d.2

        go : (b : Bool) → IfAllowed onward owes owed b start σ φ sent κ.call s stretch s' stretch' a
            → Goal (cond b (answered (refused σ owed φ κ.call κ.room) os) (Err NotAllowed)) (cond b (frame_after σ owed φ κ) φ) (cond b (written σ owed φ κ) [])
        go true d = subst (λ n. Goal (answered (refused σ owed φ κ.call n) os) (if_taken (refused σ owed φ κ.call n) (next φ κ.call) φ) (if_taken (refused σ owed φ κ.call n) os [])) room (taken (refused σ owed φ κ.call (length stretch)) d)
        go false d = same (Err NotAllowed) d.0 refl d.2

  -- the octets that a call writes at a frame, and the frame behind it
  module _ (σ : Terms) where
    at_octets : (φ : Frame) (κ : Lent) → Known φ → Typed κ.call → Octets (written_at σ owed φ κ)
    at_octets φ κ k t = go (allows φ κ.call) (refused σ owed φ κ.call κ.room)
      where
        go : (b : Bool) (v : Option Refusal) → Octets (cond b (if_taken v (octets owed φ κ.call) []) [])
        go true None = call_octets owed fits φ κ.call k t
        go true (Some r) = tt
        go false v = tt

    at_known : (φ : Frame) (κ : Lent) → Known φ → Typed κ.call → Known (frame_at σ owed φ κ)
    at_known φ κ k t = go (allows φ κ.call) (refused σ owed φ κ.call κ.room)
      where
        go : (b : Bool) (v : Option Refusal) → Known (cond b (if_taken v (next φ κ.call) φ) φ)
        go true None = next_known owed fits φ κ.call k t
        go true (Some r) = k
        go false v = k

  module _ (start : List ℕ → List ℕ) (rule : Rule start) (σ : Terms) where
    -- what stands on the line, call by call
    unfoldable pub coded : Frame → List ℕ → List Lent → List ℕ
    coded φ sent [] = []
    coded φ sent (κ ∷ κs) = after start sent (written_at σ owed φ κ) ++ coded (frame_at σ owed φ κ) (sent ++ written_at σ owed φ κ) κs

    -- it is the line code on what the calls write that are allowed
    coded_line : (κs : List Lent) (φ : Frame) (sent : List ℕ) → Octets sent → Known φ → AllByRecursion (λ κ. Typed κ.call) κs
        → coded φ sent κs ≡ after start sent (line σ owed φ (allowed σ owed φ κs))
    unfolding coded line allowed
    coded_line [] φ sent o k t = sym (none_more start rule sent o)
    coded_line (κ ∷ κs) φ sent o k t = go (allows φ κ.call) (at_octets σ φ κ k t.0) (at_known σ φ κ k t.0) (λ ψ more ok kn. coded_line κs ψ more ok kn t.1)
      where
        go : (b : Bool) → Octets (cond b (written σ owed φ κ) []) → Known (cond b (frame_after σ owed φ κ) φ)
            → ((ψ : Frame) (more : List ℕ) → Octets more → Known ψ → coded ψ more κs ≡ after start more (line σ owed ψ (allowed σ owed ψ κs)))
            → after start sent (cond b (written σ owed φ κ) []) ++ coded (cond b (frame_after σ owed φ κ) φ) (sent ++ cond b (written σ owed φ κ) []) κs
            ≡ after start sent (line σ owed φ (cond b (κ ∷ allowed σ owed (frame_after σ owed φ κ) κs) (allowed σ owed φ κs)))
        go true ow kn rest =
            let w = written σ owed φ κ in
            let ψ = frame_after σ owed φ κ in
            let more = line σ owed ψ (allowed σ owed ψ κs) in
            let om : Octets more = line_octets owed fits σ (allowed σ owed ψ κs) ψ kn (allowed_typed σ owed κs ψ t.1) in
            ap (λ l. after start sent w ++ l) (rest ψ (sent ++ w) (octets_append sent w o ow) kn ∙ sym (after_after start sent w more))
            ∙ sym (answer_append (after start sent) (after_rule start rule sent o) w more ow om)
        go false ow kn rest =
            ap₂ (λ l x. l ++ coded φ x κs) (none_more start rule sent o) (append-nil sent) ∙ rest φ sent o kn

  -- the loop over the calls: what is left of them gives the same
  module _ (κs₀ : List Lent) (s₀ : Sender L K) (text₀ : List ℕ) (past₀ : List Answer) where
    abbrev pub Progress : List Lent → Sender L K → List ℕ → List Answer → Type 0
    Progress κs s text past =
        (AllByRecursion (λ κ. Typed κ.call) κs → AllByRecursion (λ κ. Typed κ.call) κs₀)
        × ((start : List ℕ → List ℕ) (rule : Rule start) (σ : Terms) (φ₀ : Frame) (sent₀ : List ℕ) → Octets sent₀ → Known φ₀ → Stands onward owes owed start σ φ₀ sent₀ s₀
        → (φ : Frame) × (sent : List ℕ) × Octets sent × Known φ × Stands onward owes owed start σ φ sent s
        × (past₀ ++ answers σ owed φ₀ κs₀ ≡ past ++ answers σ owed φ κs)
        × (text₀ ++ coded start rule σ φ₀ sent₀ κs₀ ≡ text ++ coded start rule σ φ sent κs))

    pub progress_none : Progress κs₀ s₀ text₀ past₀
    progress_none = (λ t. t, λ start rule σ φ sent o k st. (φ, sent, o, k, st, refl, refl))

    pub progress_more : (κ : Lent) (κs : List Lent) (s s' : Sender L K) (text text' : List ℕ) (past past' : List Answer)
        → Typed κ.call → SendsOne onward owes owed κ s text past s' text' past'
        → Progress (κ ∷ κs) s text past → Progress κs s' text' past'
    unfolding coded answers
    progress_more κ κs s s' text text' past past' t one p = (
      λ ts. p.0 (t, ts),
      λ start rule σ φ₀ sent₀ o₀ k₀ st₀.
          let so = p.1 start rule σ φ₀ sent₀ o₀ k₀ st₀ in
          let φ = so.0 in
          let sent = so.1 in
          let x = one start rule σ φ sent so.2 so.3 so.4 in
          let w = written_at σ owed φ κ in (
            frame_at σ owed φ κ,
            sent ++ w,
            octets_append sent w so.2 (at_octets σ φ κ so.3 t),
            at_known σ φ κ so.3 t,
            x.2,
            so.5
                ∙ sym (append_assoc past (answer_at σ owed φ κ ∷ []) (answers σ owed (frame_at σ owed φ κ) κs))
                ∙ ap (λ l. l ++ answers σ owed (frame_at σ owed φ κ) κs) (sym x.0),
            so.6
                ∙ sym (append_assoc text (after start sent w) (coded start rule σ (frame_at σ owed φ κ) (sent ++ w) κs))
                ∙ ap (λ l. l ++ coded start rule σ (frame_at σ owed φ κ) (sent ++ w) κs) (sym x.1),
          ),
    )

    pub progress_all : (s : Sender L K) (text : List ℕ) (past : List Answer) → Progress [] s text past → SendsAll onward owes owed κs₀ s₀ text₀ past₀ text past
    unfolding coded answers
    progress_all s text past p =
        let t : AllByRecursion (λ κ. Typed κ.call) κs₀ = p.0 tt in (
          t,
          λ start rule σ φ sent o k st.
              let so = p.1 start rule σ φ sent o k st in (
                sym (so.5 ∙ append-nil past),
                sym (so.6 ∙ append-nil text) ∙ ap (λ l. text₀ ++ l) (coded_line start rule σ κs₀ φ sent o k t),
              ),
        )
