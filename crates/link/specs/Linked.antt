-- Both ends of a link: a sender, and a receiver that has heard all that the sender wrote.
use Rattle.std.specs.Prelude.{◌≡◌, ℕ, ◌≤◌, Bool, true, false, List, [], ◌∷◌, ◌++◌, length, take, drop, Some, None, Ok, Err, Option, Result, ◌≢◌}
use Rattle.octets.specs.Octets.{Octets}
use Rattle.codes.specs.Rules.{Rule, Alike, Undoes, after}
use Rattle.std.specs.Option.{option_map}
use Rattle.frames.specs.declared.answers.Refusal.{Refusal}
use Rattle.frames.specs.declared.answers.Refused.{Refused as TurnedBack}
use Rattle.frames.specs.Terms.{Terms}
use Rattle.frames.specs.Of.{terms}
use Rattle.frames.specs.Calls.{Call, Frame, idle, allows, octets, next, refused, Entry, entered}
use Rattle.frames.specs.Receiving.{Report, report_of, delivered}
use Rattle.frames.specs.Following.{Follows}
use Rattle.receiver.specs.declared.receiver.Receiver.{Receiver}
use Rattle.receiver.specs.Models.{ear, Fed}
use Rattle.link.specs.declared.answer.TurnedDown.TheVariants.{Refused, NotAllowed}
use Rattle.link.specs.Answering.{Answer}
use Rattle.frames.specs.declared.answers.Refusal.TheVariants as refusal
use Rattle.frames.specs.declared.settings.Settings.{Settings}
use Rattle.link.specs.declared.link.Link.{Link}
use Rattle.link.specs.Driving.{Stands}

-- the entry that a call enters, if any
abbrev pub first : List Entry → Option Entry
first [] = None
first (e ∷ es) = Some e

-- what a line code's rules are at the making of the ends: `onward` of the sender's, `back` of the receiver's
pub record Start (onward back : List ℕ → List ℕ) : Type 0 where
  pub sends : Rule onward
  pub receives : Rule back
  pub undoes : Undoes back onward

module _ {L D K : Type 0} (onward : L → List ℕ → List ℕ) (back : D → List ℕ → List ℕ) (owes : K → List ℕ → List ℕ) (passes : K → List ℕ → Bool) (owed : List ℕ → List ℕ) (good : List ℕ → Bool) (width : ℕ) where
  -- the sender stands at a frame and at octets sent, and the receiver has heard all of them and follows
  pub record Linked (start start' : List ℕ → List ℕ) (σ : Terms) (φ : Frame) (sent : List ℕ) (l : Link L D K) : Type 0 where
    pub stands : Stands onward owes owed start σ φ sent l.sender
    pub heard : Alike (back l.receiver.line) (after start' (start sent))
    pub follows : Follows σ good φ (ear passes l.receiver.ear)
    pub settings : terms l.receiver.settings ≡ σ
    pub check_width : σ.width ≡ width

  -- A call that is taken: its octets on the line, the ledger's entry as the report, its information delivered, and both
  -- ends at the next frame. One that is turned down or not allowed: nothing written, nothing altered, no report.
  abbrev pub Exchanged : (start start' : List ℕ → List ℕ) → Terms → Frame → List ℕ → Call → Option Refusal → Link L D K → List ℕ → List ℕ → Link L D K → List ℕ → List ℕ → Answer → Option Report → Type 0
  Exchanged start start' σ φ sent κ None l stretch buffer l' stretch' buffer' a r =
      (a ≡ Ok (length (octets owed φ κ)))
      × (stretch' ≡ after start sent (octets owed φ κ) ++ drop (length (octets owed φ κ)) stretch)
      × (r ≡ option_map report_of (first (entered σ φ κ)))
      × (buffer' ≡ delivered (first (entered σ φ κ)) buffer)
      × Linked start start' σ (next φ κ) (sent ++ octets owed φ κ) l'
  Exchanged start start' σ φ sent κ (Some x) l stretch buffer l' stretch' buffer' a r =
      (a ≡ Err (Refused x)) × (stretch' ≡ stretch) × (r ≡ None) × (buffer' ≡ buffer) × (l' ≡ l)

  abbrev pub IfPermitted : Bool → (start start' : List ℕ → List ℕ) → Terms → Frame → List ℕ → Call → Link L D K → List ℕ → List ℕ → Link L D K → List ℕ → List ℕ → Answer → Option Report → Type 0
  IfPermitted true start start' σ φ sent κ l stretch buffer l' stretch' buffer' a r =
      Exchanged start start' σ φ sent κ (refused σ owed φ κ (length stretch)) l stretch buffer l' stretch' buffer' a r
  IfPermitted false start start' σ φ sent κ l stretch buffer l' stretch' buffer' a r =
      (a ≡ Err NotAllowed) × (stretch' ≡ stretch) × (r ≡ None) × (buffer' ≡ buffer) × (l' ≡ l)

  -- wherever a link stands, with a delivery buffer that holds the longest information
  abbrev pub Exchanges : Call → Link L D K → List ℕ → List ℕ → Link L D K → List ℕ → List ℕ → Answer → Option Report → Type 0
  Exchanges κ l stretch buffer l' stretch' buffer' a r =
      (start start' : List ℕ → List ℕ) → Start start start' → (σ : Terms) (φ : Frame) (sent : List ℕ) → Octets sent
      → σ.longest ≤ length buffer → Linked start start' σ φ sent l
      → IfPermitted (allows φ κ) start start' σ φ sent κ l stretch buffer l' stretch' buffer' a r

  -- the making of a link: refused where the settings have another count of check octets than the check, and the line codes
  -- given back; else both ends stand between frames with nothing sent
  abbrev pub Joining : Settings → L → D → Result (Link L D K) (TurnedBack (L × D)) → Type 0
  Joining s a b (Ok l) = ((terms s).width ≡ width) × Linked (onward a) (back b) (terms s) idle [] l
  Joining s a b (Err e) = ((terms s).width ≢ width) × (e.given ≡ (a, b)) × (e.refusal ≡ refusal.Settings)

-- hearing the first octets of a stretch, where it has so many
abbrev pub HearsFront : {D K : Type 0} → (D → List ℕ → List ℕ) → (K → List ℕ → Bool) → (List ℕ → Bool) → Receiver D K → List ℕ → ℕ → List ℕ → Receiver D K → List ℕ → Option Report → Type 0
HearsFront back passes good r stretch count buffer r' buffer' report =
    count ≤ length stretch → (n : ℕ) × Fed back passes good r (take count stretch) buffer r' buffer' n report
