-- A sender driven by one call: from what the call itself ensures.
use Rattle.std.proofs.Common.{◌≡◌, ℕ, ◌+◌, ◌<◌, true, List, [], ◌++◌, length, drop, Some, Ok, Err, Result, sym, refl, ap, ◌∙◌, subst, append_assoc, length-append}
use Rattle.std.proofs.lemmas.List.{append-nil}
use Rattle.octets.specs.Octets.{Octets}
use Rattle.octets.proofs.Joined.{octets_append}
use Rattle.codes.specs.Rules.{Alike, after}
use Rattle.codes.specs.Remainders.{after_after}
use Rattle.frames.specs.declared.answers.Refusal.{Refusal}
use Rattle.frames.specs.Terms.{Terms}
use Rattle.frames.specs.Of.{terms}
use Rattle.frames.specs.Layout.{header, opening_octets, adding_octets}
use Rattle.frames.specs.Calls.{Call, opening, adding, adapting, filling, Frame, idle, opened, allows, octets, next, refused, stretch_refusal, Typed, Known}
use Rattle.frames.proofs.Lines.{call_octets}
use Rattle.sender.specs.declared.idle.Idle.{Idle}
use Rattle.sender.specs.declared.open.Open.{Open}
use Rattle.frames.specs.declared.answers.Refused.{Refused as TurnedBack}
use Rattle.sender.specs.Outcomes.{Taken, opening_refusal, adding_refusal, Opening, Filling, Adding, Adapting, Ending}
use Rattle.link.specs.declared.answer.TurnedDown.TheVariants.{Refused}
use Rattle.link.specs.declared.calling.Sender.{Sender}
use Rattle.link.specs.declared.calling.Sender.TheVariants as sender
use Rattle.link.specs.declared.answer.TurnedDown.TheVariants as turned
use Rattle.link.specs.declared.calling.Called.{Called}
use Rattle.link.specs.Answering.{answered_as, Crosses}
use Rattle.link.specs.Driving.{Stands, Driven, IfAllowed, CallsOn}

-- a sender that crossed its states, as one value
abbrev pub opened_as : {L K : Type 0} → Result (Open L K × ℕ) (TurnedBack (Idle L K)) → Called L K
opened_as (Ok (s, written)) = record { sender = sender.Open s; answer = Ok written }
opened_as (Err e) = record { sender = sender.Idle e.given; answer = Err (turned.Refused e.refusal) }

abbrev pub ended_as : {L K : Type 0} → Result (Idle L K × ℕ) (TurnedBack (Open L K)) → Called L K
ended_as (Ok (s, written)) = record { sender = sender.Idle s; answer = Ok written }
ended_as (Err e) = record { sender = sender.Open e.given; answer = Err (turned.Refused e.refusal) }

pub opened_is : {L K : Type 0} (r : Result (Open L K × ℕ) (TurnedBack (Idle L K))) (c : Called L K)
    → Crosses (λ a s. s ≡ sender.Open a) (λ b s. s ≡ sender.Idle b) r c → c ≡ opened_as r
opened_is (Ok (s, written)) c h = λ i. record { sender = h.0 i; answer = h.1 i }
opened_is (Err e) c h = λ i. record { sender = h.0 i; answer = h.1 i }

pub ended_is : {L K : Type 0} (r : Result (Idle L K × ℕ) (TurnedBack (Open L K))) (c : Called L K)
    → Crosses (λ a s. s ≡ sender.Idle a) (λ b s. s ≡ sender.Open b) r c → c ≡ ended_as r
ended_is (Ok (s, written)) c h = λ i. record { sender = h.0 i; answer = h.1 i }
ended_is (Err e) c h = λ i. record { sender = h.0 i; answer = h.1 i }

module _ {L K : Type 0} (onward : L → List ℕ → List ℕ) (owes : K → List ℕ → List ℕ) (owed : List ℕ → List ℕ) (fits : (m : List ℕ) → Octets m → Octets (owed m)) (before left : List ℕ) where
  module _ (start : List ℕ → List ℕ) (σ : Terms) (φ : Frame) (sent : List ℕ) (κ : Call) (allowed : allows φ κ ≡ true) (s s' : Sender L K) where
    -- a call that was taken: the line code has sent its octets too
    taken : Known φ → Typed κ → (f f' : List ℕ → List ℕ) (n : ℕ) → Alike f (after start sent)
        → Taken (refused σ owed φ κ (length before)) f f' (octets owed φ κ) before left n
        → (Alike f' (after start (sent ++ octets owed φ κ)) → Stands onward owes owed start σ (next φ κ) (sent ++ octets owed φ κ) s')
        → IfAllowed onward owes owed (allows φ κ) start σ φ sent κ s before s' left (Ok n)
    taken k t f f' n a h stands =
        let os : List ℕ = octets owed φ κ in
        let o : Octets os = call_octets owed fits φ κ k t in
        subst (λ b. IfAllowed onward owes owed b start σ φ sent κ s before s' left (Ok n)) (sym allowed)
        (subst (λ v. Driven onward owes owed start σ φ sent κ v s before s' left (Ok n)) (sym h.unrefused) (
          ap Ok h.counted,
          h.stretch ∙ ap (λ l. l ++ drop (length os) before) (a os o),
          stands (λ xs ox. h.line xs ox ∙ ap (drop (length os)) (a (os ++ xs) (octets_append os xs o ox)) ∙ after_after start sent os xs),
        ))

    turned_down : (r : Refusal) → refused σ owed φ κ (length before) ≡ Some r → left ≡ before → s' ≡ s
        → IfAllowed onward owes owed (allows φ κ) start σ φ sent κ s before s' left (Err (Refused r))
    turned_down r g e same =
        subst (λ b. IfAllowed onward owes owed b start σ φ sent κ s before s' left (Err (Refused r))) (sym allowed)
        (subst (λ v. Driven onward owes owed start σ φ sent κ v s before s' left (Err (Refused r))) (sym g) (refl, e, same))

  pub opens : (s : Idle L K) (sapi : ℕ) (r : Result (Open L K × ℕ) (TurnedBack (Idle L K))) → sapi < 65536 → Opening onward owed owes sapi s before left r
      → CallsOn onward owes owed (opening sapi) (sender.Idle s) before (opened_as r).sender left (opened_as r).answer
  opens s sapi (Ok (s', n)) t h start σ idle sent k at =
      taken start σ idle sent (opening sapi) refl (sender.Idle s) (sender.Open s') k t (onward s.line) (onward s'.line) n at.1
      (subst (λ τ. Taken (opening_refusal τ sapi (length before)) (onward s.line) (onward s'.line) (opening_octets sapi) before left n) at.0 h.0)
      (λ a. (ap terms h.1 ∙ at.0, a, h.2, h.3))
  opens s sapi (Err e) t h start σ idle sent k at =
      turned_down start σ idle sent (opening sapi) refl (sender.Idle s) (sender.Idle e.given) e.refusal
      (ap (λ τ. opening_refusal τ sapi (length before)) (sym at.0) ∙ h.refused) h.stretch (ap sender.Idle h.same)
  opens s sapi r t h start σ (opened a i) sent k at = absurd at

  pub fills : (s s' : Idle L K) (n : ℕ) (r : Result ℕ Refusal) → Filling onward n s s' before left r
      → CallsOn onward owes owed (filling n) (sender.Idle s) before (sender.Idle s') left (answered_as r)
  fills s s' n (Ok m) h start σ idle sent k at =
      taken start σ idle sent (filling n) refl (sender.Idle s) (sender.Idle s') k tt (onward s.line) (onward s'.line) m at.1 h.0
      (λ a. (ap terms h.1 ∙ at.0, a))
  fills s s' n (Err r) h start σ idle sent k at =
      turned_down start σ idle sent (filling n) refl (sender.Idle s) (sender.Idle s') r h.refused h.stretch (ap sender.Idle h.same)
  fills s s' n r h start σ (opened a i) sent k at = absurd at

  pub adds : (s s' : Open L K) (j : List ℕ) (r : Result ℕ Refusal) → Octets j → Adding onward owes j s s' before left r
      → CallsOn onward owes owed (adding j) (sender.Open s) before (sender.Open s') left (answered_as r)
  adds s s' j (Ok n) t h start σ (opened a i) sent k at =
      taken start σ (opened a i) sent (adding j) refl (sender.Open s) (sender.Open s') k t (onward s.line) (onward s'.line) n at.1
      (subst (λ τ. Taken (adding_refusal τ (length i) j (length before)) (onward s.line) (onward s'.line) (adding_octets j) before left n) at.0
      (subst (λ m. Taken (adding_refusal (terms s.settings) m j (length before)) (onward s.line) (onward s'.line) (adding_octets j) before left n) at.2 h.0))
      (λ l. (
        ap terms h.1 ∙ at.0,
        l,
        h.2 ∙ ap (λ m. m + length j) at.2 ∙ sym (length-append i j),
        λ further. h.3 further ∙ at.3 (j ++ further) ∙ ap (λ l. owed (header a ++ l)) (sym (append_assoc i j further)),
      ))
  adds s s' j (Err r) t h start σ (opened a i) sent k at =
      turned_down start σ (opened a i) sent (adding j) refl (sender.Open s) (sender.Open s') r
      (ap (λ τ. adding_refusal τ (length i) j (length before)) (sym at.0) ∙ ap (λ m. adding_refusal (terms s.settings) m j (length before)) (sym at.2) ∙ h.refused)
      h.stretch (ap sender.Open h.same)
  adds s s' j r t h start σ idle sent k at = absurd at

  pub adapts : (s s' : Open L K) (n : ℕ) (r : Result ℕ Refusal) → Adapting onward n s s' before left r
      → CallsOn onward owes owed (adapting n) (sender.Open s) before (sender.Open s') left (answered_as r)
  adapts s s' n (Ok m) h start σ (opened a i) sent k at =
      taken start σ (opened a i) sent (adapting n) refl (sender.Open s) (sender.Open s') k tt (onward s.line) (onward s'.line) m at.1 h.0
      (λ l. (ap terms h.1 ∙ at.0, l, h.2 ∙ at.2, λ further. ap (λ c. owes c further) h.3 ∙ at.3 further))
  adapts s s' n (Err r) h start σ (opened a i) sent k at =
      turned_down start σ (opened a i) sent (adapting n) refl (sender.Open s) (sender.Open s') r h.refused h.stretch (ap sender.Open h.same)
  adapts s s' n r h start σ idle sent k at = absurd at

  -- the three endings, by what they write of the check octets that the frame owes
  module _ (write : List ℕ → List ℕ) (κ : Call) (typed : Typed κ)
      (is : (a : ℕ) (i : List ℕ) → (allows (opened a i) κ ≡ true) × (octets owed (opened a i) κ ≡ write (owed (header a ++ i)))
      × (next (opened a i) κ ≡ idle) × ((σ : Terms) (room : ℕ) → refused σ owed (opened a i) κ room ≡ stretch_refusal (octets owed (opened a i) κ) room))
      (s : Open L K) where
    writes : (a : ℕ) (i : List ℕ) → ((further : List ℕ) → owes s.check further ≡ owed ((header a ++ i) ++ further))
        → write (owes s.check []) ≡ octets owed (opened a i) κ
    writes a i h = ap write (h [] ∙ ap owed (append-nil (header a ++ i))) ∙ sym (is a i).1

    pub ends : (r : Result (Idle L K × ℕ) (TurnedBack (Open L K))) → Ending onward (write (owes s.check [])) s before left r
        → CallsOn onward owes owed κ (sender.Open s) before (ended_as r).sender left (ended_as r).answer
    ends (Ok (s', n)) h start σ (opened a i) sent k at =
        taken start σ (opened a i) sent κ (is a i).0 (sender.Open s) (sender.Idle s') k typed (onward s.line) (onward s'.line) n at.1
        (subst (λ v. Taken v (onward s.line) (onward s'.line) (octets owed (opened a i) κ) before left n) (sym ((is a i).3 σ (length before)))
        (subst (λ os. Taken (stretch_refusal os (length before)) (onward s.line) (onward s'.line) os before left n) (writes a i at.3) h.0))
        (λ l. subst (λ φ. Stands onward owes owed start σ φ (sent ++ octets owed (opened a i) κ) (sender.Idle s')) (sym (is a i).2) (ap terms h.1 ∙ at.0, l))
    ends (Err e) h start σ (opened a i) sent k at =
        turned_down start σ (opened a i) sent κ (is a i).0 (sender.Open s) (sender.Open e.given) e.refusal
        ((is a i).3 σ (length before) ∙ ap (λ os. stretch_refusal os (length before)) (sym (writes a i at.3)) ∙ h.refused) h.stretch (ap sender.Open h.same)
    ends r h start σ idle sent k at = absurd at
