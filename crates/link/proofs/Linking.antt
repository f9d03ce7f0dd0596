-- One call over a link: what the receiver makes of the octets that the sender wrote.
use Rattle.std.proofs.Common.{◌≡◌, ℕ, ◌+◌, ◌≤◌, Bool, true, false, List, [], ◌++◌, length, take, drop, Some, None, Ok, Err, Option, sym, refl, ap, ◌∙◌, subst, ap₂, inl, arith, length-append}
use Rattle.std.proofs.lemmas.List.{take_at, take_all, drop_at}
use Rattle.std.specs.Option.{option_map, option_to_list}
use Rattle.octets.specs.Octets.{Octets}
use Rattle.octets.proofs.Joined.{octets_append}
use Rattle.codes.specs.Rules.{Rule, after}
use Rattle.codes.specs.Remainders.{answer_append, answer_nil, after_rule, after_after}
use Rattle.checks.specs.Law.{Width, Owes, Tells}
use Rattle.frames.specs.Terms.{Terms}
use Rattle.frames.specs.Of.{terms}
use Rattle.frames.specs.Calls.{Call, Frame, idle, opened, allows, octets, next, refused, Entry, entered, Typed, Known}
use Rattle.frames.specs.Receiving.{Ear, hunting, used, reported, ear_after, Report, report_of, delivered}
use Rattle.frames.specs.Following.{Follows}
use Rattle.frames.specs.Hearing.{Within}
use Rattle.frames.proofs.Lines.{call_octets}
use Rattle.frames.proofs.Once.{heard_call}
use Rattle.receiver.specs.declared.receiver.Receiver.{Receiver}
use Rattle.receiver.proofs.Ears.{same_ear}
use Rattle.receiver.specs.Models.{ear, AlikeEars, Fed, HasHeard}
use Rattle.frames.specs.declared.settings.Settings.{Settings}
use Rattle.sender.specs.declared.idle.Idle.{Idle}
use Rattle.link.specs.declared.calling.Sender.TheVariants as sender
use Rattle.link.specs.declared.link.Link.{Link}
use Rattle.link.specs.declared.calling.Sender.{Sender}
use Rattle.link.specs.Answering.{Answer}
use Rattle.link.specs.declared.answer.TurnedDown.{TurnedDown}
use Rattle.frames.specs.declared.answers.Refusal.{Refusal}
use Rattle.link.specs.Driving.{Stands, Driven, IfAllowed, CallsOn}
use Rattle.link.specs.Linked.{first, Start, Linked, Exchanged, IfPermitted, Exchanges, HearsFront}

pub written≢turned : {n : ℕ} {x : TurnedDown} → ◌≡◌ {A = Answer} (Ok n) (Err x) → ⊥
written≢turned h = let z : ◌≡◌ {A = ℕ} 0 1 = cc in omega arith

pub written_same : {n m : ℕ} → ◌≡◌ {A = Answer} (Ok n) (Ok m) → n ≡ m
written_same h = cc

first_of : (v : Option Entry) (es : List Entry) → option_to_list v ≡ es → v ≡ first es
first_of None es h = ap first h
first_of (Some e) es h = ap first h

-- a frame that a receiver follows is made of octets
pub followed_known : (σ : Terms) (good : List ℕ → Bool) (φ : Frame) (e : Ear) → Follows σ good φ e → Known φ
followed_known σ good idle e f = tt
followed_known σ good (opened s i) e f = (f.sapi, f.octets)

module _ {L D K : Type 0} (onward : L → List ℕ → List ℕ) (back : D → List ℕ → List ℕ) (owes : K → List ℕ → List ℕ) (passes : K → List ℕ → Bool) (owed : List ℕ → List ℕ) (good : List ℕ → Bool) (width : ℕ) where
  within : (r : Receiver D K) → Within (terms r.settings) (ear passes r.ear)
  within r = r.within

  module _ (start start' : List ℕ → List ℕ) (st : Start start start') (σ : Terms) (φ : Frame) (sent : List ℕ) (o : Octets sent)
      (l : Link L D K) (linked : Linked onward back owes passes owed good width start start' σ φ sent l)
      (owing' : Owes width owed) (tells' : Tells width owed good) (wide' : Width width)
      (κ : Call) (allowed : allows φ κ ≡ true) (t : Typed κ) (stretch : List ℕ) (taken : refused σ owed φ κ (length stretch) ≡ None) where
    owing : Owes σ.width owed
    owing = subst (λ w. Owes w owed) (sym linked.check_width) owing'

    tells : Tells σ.width owed good
    tells = subst (λ w. Tells w owed good) (sym linked.check_width) tells'

    wide : Width σ.width
    wide = subst Width (sym linked.check_width) wide'

    abbrev os : List ℕ
    os = octets owed φ κ

    -- what stands on the line
    abbrev ys : List ℕ
    ys = after start sent os

    os_octets : Octets os
    os_octets = call_octets owed owing.octets φ κ (followed_known σ good φ (ear passes l.receiver.ear) linked.follows) t

    ys_octets : Octets ys
    ys_octets = (after_rule start st.sends sent o).octets os os_octets

    ys_long : length ys ≡ length os
    ys_long = (after_rule start st.sends sent o).long os os_octets

    line_is : start (sent ++ os) ≡ start sent ++ ys
    line_is = answer_append start st.sends sent os o os_octets

    -- the receiver gets the call's octets back
    comes_back : back l.receiver.line ys ≡ os
    comes_back =
        linked.heard ys ys_octets
        ∙ ap (λ x. drop (length (start sent)) (start' x)) (sym line_is)
        ∙ ap (drop (length (start sent))) (st.undoes (sent ++ os) (octets_append sent os o os_octets))
        ∙ drop_at sent os (length (start sent)) (sym (st.sends.long sent o))

    module _ (buffer : List ℕ) (enough : σ.longest ≤ length buffer) (r' : Receiver D K) (buffer' : List ℕ) (n : ℕ) (report : Option Report)
        (fed : Fed back passes good l.receiver ys buffer r' buffer' n report) where
      whole : (u : used σ good (length buffer) (ear passes l.receiver.ear) os ≡ length os) × (option_to_list (reported σ good (length buffer) (ear passes l.receiver.ear) os) ≡ entered σ φ κ) × Follows σ good (next φ κ) (ear_after σ good (ear passes l.receiver.ear) os)
      whole =
          let w : Within σ (ear passes l.receiver.ear) = subst (λ s. Within s (ear passes l.receiver.ear)) linked.settings (within l.receiver) in
          let h = heard_call σ good (length buffer) enough owed owing tells wide φ κ (length stretch) (ear passes l.receiver.ear) w linked.follows allowed t taken in
          (h.all_used, h.report, h.follows)

      raised_is : reported (terms l.receiver.settings) good (length buffer) (ear passes l.receiver.ear) (back l.receiver.line ys) ≡ first (entered σ φ κ)
      raised_is = ap₂ (λ s x. reported s good (length buffer) (ear passes l.receiver.ear) x) linked.settings comes_back ∙ first_of _ _ whole.1

      pub report_is : report ≡ option_map report_of (first (entered σ φ κ))
      report_is = fed.report_is ∙ ap (option_map report_of) raised_is

      pub delivery_is : buffer' ≡ delivered (first (entered σ φ κ)) buffer
      delivery_is = fed.delivers ∙ ap (λ v. delivered v buffer) raised_is

      all_heard : take n ys ≡ ys
      all_heard =
          let count : n ≡ length os = fed.count ∙ ap₂ (λ s x. used s good (length buffer) (ear passes l.receiver.ear) x) linked.settings comes_back ∙ whole.0 in
          take_all n ys (omega (arith, ys_long))

      pub linked_on : (s' : Sender L K) → Stands onward owes owed start σ (next φ κ) (sent ++ os) s'
          → Linked onward back owes passes owed good width start start' σ (next φ κ) (sent ++ os) (record { sender = s'; receiver = r' })
      linked_on s' stands =
          let left : HasHeard back passes good l.receiver ys r' = subst (λ x. HasHeard back passes good l.receiver x r') all_heard fed.leaves in
          let ears : ear passes r'.ear ≡ ear_after σ good (ear passes l.receiver.ear) os
          = same_ear _ _ left.ears ∙ ap₂ (λ s x. ear_after s good (ear passes l.receiver.ear) x) linked.settings comes_back in
          record {
            stands = stands;
            heard = λ xs ox.
                left.backs xs ox
                ∙ ap (drop (length ys)) (linked.heard (ys ++ xs) (octets_append ys xs ys_octets ox))
                ∙ after_after start' (start sent) ys xs
                ∙ ap (λ x. after start' x xs) (sym line_is);
            follows = subst (Follows σ good (next φ κ)) (sym ears) whole.2;
            settings = ap terms left.settings ∙ linked.settings;
            check_width = linked.check_width;
          }

  -- a new sender and a new receiver stand between frames
  pub linked_new : ((a : L) → Rule (onward a)) → (s : Settings) (a : L) (b : D) (i : Idle L K) (r : Receiver D K)
      → (terms s).width ≡ width → i.settings ≡ s → i.line ≡ a → r.line ≡ b → r.settings ≡ s → AlikeEars (ear passes r.ear) (hunting good)
      → Linked onward back owes passes owed good width (onward a) (back b) (terms s) idle [] (record { sender = sender.Idle i; receiver = r })
  linked_new sends s a b i r w is il rl rs h = record {
    stands = (ap terms is, λ xs ox. ap (λ l. onward l xs) il);
    heard = λ xs ox. ap (λ l. back l xs) rl ∙ sym (ap (λ x. after (back b) x xs) (answer_nil (onward a) (sends a)));
    follows = inl (same_ear (ear passes r.ear) (hunting good) h);
    settings = ap terms rs;
    check_width = w;
  }

  -- The whole call, from what the sender's call and the feed promise.
  module _ (owing : Owes width owed) (tells : Tells width owed good) (wide : Width width) (κ : Call) (t : Typed κ)
      (l : Link L D K) (stretch : List ℕ) (s' : Sender L K) (stretch' : List ℕ) (buffer : List ℕ) where
    -- it wrote n octets, which the receiver heard
    pub written : (n : ℕ) → CallsOn onward owes owed κ l.sender stretch s' stretch' (Ok n)
        → (r' : Receiver D K) (buffer' : List ℕ) (report : Option Report) → HearsFront back passes good l.receiver stretch' n buffer r' buffer' report
        → Exchanges onward back owes passes owed good width κ l stretch buffer (record { sender = s'; receiver = r' }) stretch' buffer' (Ok n) report
    written n called r' buffer' report hears start start' st σ φ sent o enough linked =
        go (allows φ κ) refl (called start σ φ sent (followed_known σ good φ (ear passes l.receiver.ear) linked.follows) linked.stands)
      where
        Goal : Bool → Type 0
        Goal b = IfPermitted onward back owes passes owed good width b start start' σ φ sent κ l stretch buffer (record { sender = s'; receiver = r' }) stretch' buffer' (Ok n) report

        taken : allows φ κ ≡ true → (v : Option Refusal) → refused σ owed φ κ (length stretch) ≡ v
            → Driven onward owes owed start σ φ sent κ v l.sender stretch s' stretch' (Ok n)
            → Exchanged onward back owes passes owed good width start start' σ φ sent κ v l stretch buffer (record { sender = s'; receiver = r' }) stretch' buffer' (Ok n) report
        taken allowed None u d =
            let os = octets owed φ κ in
            let line = after start sent os in
            let same : n ≡ length os = written_same d.0 in
            let long : length line ≡ length os = ys_long start start' st σ φ sent o l linked owing tells wide κ allowed t stretch u in
            let front : take n stretch' ≡ line = ap₂ take same d.1 ∙ take_at line (drop (length os) stretch) (length os) long in
            let all : length stretch' ≡ length line + length (drop (length os) stretch) = ap length d.1 ∙ length-append line (drop (length os) stretch) in
            let heard = hears (omega arith) in
            let fed : Fed back passes good l.receiver line buffer r' buffer' heard.0 report = subst (λ x. Fed back passes good l.receiver x buffer r' buffer' heard.0 report) front heard.1 in (
              d.0,
              d.1,
              report_is start start' st σ φ sent o l linked owing tells wide κ allowed t stretch u buffer enough r' buffer' heard.0 report fed,
              delivery_is start start' st σ φ sent o l linked owing tells wide κ allowed t stretch u buffer enough r' buffer' heard.0 report fed,
              linked_on start start' st σ φ sent o l linked owing tells wide κ allowed t stretch u buffer enough r' buffer' heard.0 report fed s' d.2,
            )
        taken allowed (Some x) u d = absurd (written≢turned d.0)

        go : (b : Bool) → allows φ κ ≡ b → IfAllowed onward owes owed b start σ φ sent κ l.sender stretch s' stretch' (Ok n) → Goal b
        go true a d = taken a (refused σ owed φ κ (length stretch)) refl d
        go false a d = absurd (written≢turned d.0)

    -- it wrote nothing
    pub unwritten : (a : Answer) → ((n : ℕ) → a ≡ Ok n → ⊥) → CallsOn onward owes owed κ l.sender stretch s' stretch' a
        → Exchanges onward back owes passes owed good width κ l stretch buffer (record { sender = s'; receiver = l.receiver }) stretch' buffer a None
    unwritten a never called start start' st σ φ sent o enough linked =
        go (allows φ κ) (called start σ φ sent (followed_known σ good φ (ear passes l.receiver.ear) linked.follows) linked.stands)
      where
        same : s' ≡ l.sender → ◌≡◌ {A = Link L D K} (record { sender = s'; receiver = l.receiver }) l
        same h = ap (λ s. record { sender = s; receiver = l.receiver }) h

        turned : (v : Option Refusal) → Driven onward owes owed start σ φ sent κ v l.sender stretch s' stretch' a
            → Exchanged onward back owes passes owed good width start start' σ φ sent κ v l stretch buffer (record { sender = s'; receiver = l.receiver }) stretch' buffer a None
        turned None d = absurd (never _ d.0)
        turned (Some x) d = (d.0, d.1, refl, refl, same d.2)

        go : (b : Bool) → IfAllowed onward owes owed b start σ φ sent κ l.sender stretch s' stretch' a
            → IfPermitted onward back owes passes owed good width b start start' σ φ sent κ l stretch buffer (record { sender = s'; receiver = l.receiver }) stretch' buffer a None
        go true d = turned (refused σ owed φ κ (length stretch)) d
        go false d = (d.0, d.1, refl, refl, same d.2)
