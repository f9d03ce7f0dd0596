-- What a call's row says, from what the call over the link promises.
use Rattle.std.proofs.Common.{◌≡◌, ℕ, ◌≤◌, Bool, true, false, List, [], ◌∷◌, ◌++◌, length, take, drop, Some, None, Option, sym, refl, ap, ◌∙◌, subst, ap₂}
use Rattle.std.proofs.lemmas.List.{take_at, append-nil, append_assoc}
use Rattle.octets.specs.Octets.{Octets}
use Rattle.octets.proofs.Joined.{octets_append}
use Rattle.codes.specs.Rules.{after}
use Rattle.codes.specs.Remainders.{after_rule}
use Rattle.checks.specs.Law.{Owes}
use Rattle.frames.specs.declared.answers.Refusal.{Refusal}
use Rattle.frames.specs.Receiving.{Report}
use Rattle.frames.specs.Terms.{Terms}
use Rattle.frames.specs.Calls.{Call, Frame, allows, octets, next, refused, if_taken, Typed}
use Rattle.frames.proofs.Lines.{call_octets}
use Rattle.receiver.specs.Models.{ear}
use Rattle.link.specs.Answering.{Answer}
use Rattle.link.specs.declared.link.Link.{Link}
use Rattle.link.specs.Linked.{Exchanged, IfPermitted, Exchanges}
use Rattle.link.proofs.Linking.{followed_known}
use Rattle.script.specs.Rows.{letter_of, report_row}
use Rattle.listing.specs.Listing.{call_row, allowed_row, allowed_frame, allowed_sent, line_row, line_frame, line_sent, rows}
use Rattle.listing.specs.Steps.{answered_row, At, Lists, ListsAll}

module _ {L D K : Type 0} (onward : L → List ℕ → List ℕ) (back : D → List ℕ → List ℕ) (owes : K → List ℕ → List ℕ) (passes : K → List ℕ → Bool) (owed : List ℕ → List ℕ) (good : List ℕ → Bool) (width : ℕ)
    (owing : Owes width owed) (κ : Call) (t : Typed κ) (l : Link L D K) (stretch buffer : List ℕ) (l' : Link L D K) (stretch' buffer' : List ℕ) where
  -- what the row and the link left say, where the frame allows the call or not
  abbrev Noted : Bool → (start start' : List ℕ → List ℕ) → Terms → Frame → List ℕ → List ℕ → Type 0
  Noted b start start' σ φ sent text =
      (text ≡ allowed_row σ start owed (length stretch) b φ sent κ)
      × At onward back owes passes owed good width start start' σ (allowed_frame σ start owed (length stretch) b φ κ) (allowed_sent σ start owed (length stretch) b φ sent κ) l'

  module _ (start start' : List ℕ → List ℕ) (σ : Terms) (φ : Frame) (sent : List ℕ) (at : At onward back owes passes owed good width start start' σ φ sent l) where
    same_link : l' ≡ l → At onward back owes passes owed good width start start' σ φ sent l'
    same_link e = subst (At onward back owes passes owed good width start start' σ φ sent) (sym e) at

    -- the octets sent stay octets
    more_octets : Octets (octets owed φ κ)
    more_octets = call_octets owed owing.octets φ κ (followed_known σ good φ (ear passes l.receiver.ear) at.linked.follows) t

    module _ (a : Answer) (report : Option Report) where
      noted : (b : Bool) → IfPermitted onward back owes passes owed good width b start start' σ φ sent κ l stretch buffer l' stretch' buffer' a report
          → Noted b start start' σ φ sent (answered_row (letter_of κ) a stretch' report)
      noted true d = go (refused σ owed φ κ (length stretch)) d
        where
          go : (v : Option Refusal) → Exchanged onward back owes passes owed good width start start' σ φ sent κ v l stretch buffer l' stretch' buffer' a report
              → (answered_row (letter_of κ) a stretch' report ≡ call_row σ start owed (length stretch) φ sent κ v)
              × At onward back owes passes owed good width start start' σ (if_taken v (next φ κ) φ) (if_taken v (sent ++ octets owed φ κ) sent) l'
          go None x =
              let os = octets owed φ κ in
              let line = after start sent os in
              let long : length line ≡ length os = (after_rule start at.code.sends sent at.octets).long os more_octets in
              let is : take (length os) stretch' ≡ line = ap (take (length os)) x.1 ∙ take_at line (drop (length os) stretch) (length os) long in (
                ap (λ z. answered_row (letter_of κ) z stretch' report) x.0 ∙ ap₂ (report_row (letter_of κ) 0) is x.2,
                record { code = at.code; octets = octets_append sent os at.octets more_octets; linked = x.4 },
              )
          go (Some y) x = (ap (λ z. answered_row (letter_of κ) z stretch' report) x.0, same_link x.4)
      noted false d = (ap (λ z. answered_row (letter_of κ) z stretch' report) d.0, same_link d.4)

  pub lists_answered : (out out' : List ℕ) (a : Answer) (report : Option Report)
      → Exchanges onward back owes passes owed good width κ l stretch buffer l' stretch' buffer' a report
      → out' ≡ out ++ answered_row (letter_of κ) a stretch' report
      → Lists onward back owes passes owed good width (Some κ) (length stretch) (length buffer) l out l' out'
  lists_answered out out' a report x e start start' σ φ sent shelf at =
      let w = noted start start' σ φ sent at a report (allows φ κ) (x start start' at.code σ φ sent at.octets shelf at.linked) in
      (e ∙ ap (λ z. out ++ z) w.0, w.1)

-- the loop over the lines: what is left of the script gives the same
module _ {L D K : Type 0} (onward : L → List ℕ → List ℕ) (back : D → List ℕ → List ℕ) (owes : K → List ℕ → List ℕ) (passes : K → List ℕ → Bool) (owed : List ℕ → List ℕ) (good : List ℕ → Bool) (width : ℕ)
    (room shelf : ℕ) (κs₀ : List (Option Call)) (l₀ : Link L D K) (out₀ : List ℕ) where
  abbrev pub Progress : List (Option Call) → Link L D K → List ℕ → Type 0
  Progress κs l out =
      (start start' : List ℕ → List ℕ) (σ : Terms) (φ₀ : Frame) (sent₀ : List ℕ) → σ.longest ≤ shelf → At onward back owes passes owed good width start start' σ φ₀ sent₀ l₀
      → (φ : Frame) × (sent : List ℕ) × At onward back owes passes owed good width start start' σ φ sent l
      × (out₀ ++ rows σ start owed room φ₀ sent₀ κs₀ ≡ out ++ rows σ start owed room φ sent κs)

  pub progress_none : Progress κs₀ l₀ out₀
  progress_none start start' σ φ sent fits at = (φ, sent, at, refl)

  pub progress_more : (κ : Option Call) (κs : List (Option Call)) (l : Link L D K) (out : List ℕ) (l' : Link L D K) (out' : List ℕ)
      → Progress (κ ∷ κs) l out → Lists onward back owes passes owed good width κ room shelf l out l' out' → Progress κs l' out'
  unfolding rows
  progress_more κ κs l out l' out' p step start start' σ φ₀ sent₀ fits at =
      let so = p start start' σ φ₀ sent₀ fits at in
      let one = step start start' σ so.0 so.1 fits so.2 in (
        line_frame σ start owed room so.0 κ,
        line_sent σ start owed room so.0 so.1 κ,
        one.1,
        so.3 ∙ sym (append_assoc out (line_row σ start owed room so.0 so.1 κ) _) ∙ ap (λ z. z ++ rows σ start owed room (line_frame σ start owed room so.0 κ) (line_sent σ start owed room so.0 so.1 κ) κs) (sym one.0),
      )

  pub progress_all : (l : Link L D K) (out : List ℕ) → Progress [] l out → ListsAll onward back owes passes owed good width κs₀ room shelf l₀ out₀ out
  unfolding rows
  progress_all l out p start start' σ φ₀ sent₀ fits at = let so = p start start' σ φ₀ sent₀ fits at in sym (so.3 ∙ append-nil out)
