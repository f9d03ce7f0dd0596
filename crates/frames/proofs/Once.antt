-- A call's octets raise a report at their last octet or not at all, so that one feed hears a whole call.
use Rattle.std.proofs.Common.{◌≡◌, ℕ, suc, ◌+◌, ◌-◌, ◌≤◌, Bool, true, List, [], ◌∷◌, ◌++◌, length, take, Some, None, Option, sym, refl, ap, ◌∙◌, arith, length-append}
use Rattle.std.proofs.lemmas.List.{append-nil, take_all}
use Rattle.std.proofs.lemmas.Bool.{true≢false}
use Rattle.std.specs.Option.{option_to_list}
use Rattle.checks.specs.Law.{Width, Owes, Tells}
use Rattle.frames.specs.Terms.{Terms}
use Rattle.checks.specs.Written.{complemented}
use Rattle.frames.specs.Layout.{flag, escape, stuff}
use Rattle.frames.specs.Calls.{Call, opening, adding, adapting, filling, closing, aborting, spoiling, Frame, idle, opened, allows, covered, octets, next, refused, Entry, entered, Typed}
use Rattle.frames.specs.Receiving.{Ear, moved, raised, used, reported, ear_after}
use Rattle.frames.specs.Following.{Follows}
use Rattle.frames.specs.Pieces.{NoFlag}
use Rattle.frames.specs.Hearing.{Placed, placed, reports_from, Within, entries}
use Rattle.frames.proofs.Rooms.{within_moved, raised_room}
use Rattle.frames.proofs.Feeds.{one_feed}
use Rattle.frames.proofs.Readings.{reads_no_flag, reads_stuffed, silent}
use Rattle.frames.proofs.Sent.{Followed, follow}

cons≢nil : {X : Type 0} {x : X} {xs : List X} → x ∷ xs ≡ [] → ⊥
cons≢nil h = let z : ◌≡◌ {A = ℕ} 0 1 = cc in omega arith

module _ (σ : Terms) (good : List ℕ → Bool) (room : ℕ) (enough : σ.longest ≤ room) where
  -- octets that raise nothing are all used
  quiet : (init : List ℕ) (e : Ear) (p : ℕ) (rest : List ℕ) → Within σ e → reports_from σ good e p init ≡ []
      → used σ good room e (init ++ rest) ≡ length init + used σ good room (ear_after σ good e init) rest
  unfolding reports_from used ear_after
  quiet [] e p rest w h = omega arith
  quiet (o ∷ init) e p rest w h = go (raised σ room e o) (sym (raised_room σ room enough e o w)) (quiet init (moved σ good e o) (suc p) rest (within_moved σ good e o w))
    where
      U : Option Entry → ℕ
      U v = elim v [ None ↦ suc (used σ good room (moved σ good e o) (init ++ rest)) | Some r ↦ 1 ]

      go : (v : Option Entry) → raised σ σ.longest e o ≡ v
          → (reports_from σ good (moved σ good e o) (suc p) init ≡ [] → used σ good room (moved σ good e o) (init ++ rest) ≡ length init + used σ good room (ear_after σ good (moved σ good e o) init) rest)
          → U v ≡ suc (length init) + used σ good room (ear_after σ good (moved σ good e o) init) rest
      go None r more =
          let tail : reports_from σ good (moved σ good e o) (suc p) init ≡ [] = ap (λ v. placed p v ++ reports_from σ good (moved σ good e o) (suc p) init) (sym r) ∙ h in
          omega (arith, more tail)
      go (Some x) r more = absurd (cons≢nil (ap (λ v. placed p v ++ reports_from σ good (moved σ good e o) (suc p) init) (sym r) ∙ h))

  unnoted : (l : List Placed) → entries l ≡ [] → l ≡ []
  unnoted [] h = refl
  unnoted (x ∷ l) h = absurd (cons≢nil h)

  -- none raised
  all_quiet : (os : List ℕ) (e : Ear) (p : ℕ) → Within σ e → entries (reports_from σ good e p os) ≡ [] → used σ good room e os ≡ length os
  unfolding used
  all_quiet os e p w h =
      let q = quiet os e p [] w (unnoted (reports_from σ good e p os) h) in
      ap (used σ good room e) (sym (append-nil os)) ∙ q ∙ zero (length os)
    where
      zero : (n : ℕ) → n + 0 ≡ n
      zero n = omega arith

  -- one raised by a last flag
  last_flag : (init : List ℕ) (e : Ear) (p : ℕ) → Within σ e → NoFlag init → used σ good room e (init ++ flag ∷ []) ≡ length (init ++ flag ∷ [])
  unfolding used
  last_flag init e p w n =
      let q = quiet init e p (flag ∷ []) w (silent σ good init n e p) in
      q ∙ ap (λ k. length init + k) (one (raised σ room (ear_after σ good e init) flag)) ∙ sym (length-append init (flag ∷ []))
    where
      one : (v : Option Entry) → ◌≡◌ {A = ℕ} (elim v [ None ↦ suc (used σ good room (moved σ good (ear_after σ good e init) flag) []) | Some r ↦ 1 ]) 1
      one None = refl
      one (Some r) = refl

  module _ (owed : List ℕ → List ℕ) where
    call_used : (φ : Frame) (κ : Call) (e : Ear) (p : ℕ) → Within σ e → allows φ κ ≡ true → Followed σ owed good φ κ e p → used σ good room e (octets owed φ κ) ≡ length (octets owed φ κ)
    call_used idle (opening s) e p w a f = all_quiet (octets owed idle (opening s)) e p w f.reports
    call_used idle (filling k) e p w a f = all_quiet (octets owed idle (filling k)) e p w f.reports
    call_used idle (adding j) e p w a f = absurd (true≢false (sym a))
    call_used idle (adapting k) e p w a f = absurd (true≢false (sym a))
    call_used idle closing e p w a f = absurd (true≢false (sym a))
    call_used idle aborting e p w a f = absurd (true≢false (sym a))
    call_used idle spoiling e p w a f = absurd (true≢false (sym a))
    call_used (opened s i) (opening s') e p w a f = absurd (true≢false (sym a))
    call_used (opened s i) (filling k) e p w a f = absurd (true≢false (sym a))
    call_used (opened s i) (adding j) e p w a f = all_quiet (octets owed (opened s i) (adding j)) e p w f.reports
    call_used (opened s i) (adapting k) e p w a f = all_quiet (octets owed (opened s i) (adapting k)) e p w f.reports
    call_used (opened s i) closing e p w a f = let t = owed (covered (opened s i)) in last_flag (stuff t) e p w (reads_no_flag (reads_stuffed t))
    call_used (opened s i) aborting e p w a f = last_flag (escape ∷ []) e p w (omega arith, tt)
    call_used (opened s i) spoiling e p w a f = let t = complemented (owed (covered (opened s i))) in last_flag (stuff t) e p w (reads_no_flag (reads_stuffed t))

    -- what one feed of a call's octets makes of them
    pub record HeardCall (φ : Frame) (κ : Call) (e : Ear) : Type 0 where
      pub all_used : used σ good room e (octets owed φ κ) ≡ length (octets owed φ κ)
      pub report : option_to_list (reported σ good room e (octets owed φ κ)) ≡ entered σ φ κ
      pub follows : Follows σ good (next φ κ) (ear_after σ good e (octets owed φ κ))

    pub heard_call : Owes σ.width owed → Tells σ.width owed good → Width σ.width → (φ : Frame) (κ : Call) (stretch : ℕ) (e : Ear) → Within σ e → Follows σ good φ e
        → allows φ κ ≡ true → Typed κ → refused σ owed φ κ stretch ≡ None → HeardCall φ κ e
    heard_call owes tells wide φ κ stretch e w f a t taken =
        let done = follow σ owed good owes tells wide φ κ stretch e 0 f a t taken in
        let os = octets owed φ κ in
        let whole = call_used φ κ e 0 w a done in
        let one = one_feed σ good room enough e 0 os w in
        let front : take (used σ good room e os) os ≡ os = ap (λ n. take n os) whole ∙ take_all (length os) os (omega arith) in
        record {
          all_used = whole;
          report = sym (noted 0 (reported σ good room e os)) ∙ ap entries (sym one ∙ ap (reports_from σ good e 0) front) ∙ done.reports;
          follows = done.follows;
        }
      where
        noted : (p : ℕ) (v : Option Entry) → entries (placed (p + used σ good room e (octets owed φ κ) - 1) v) ≡ option_to_list v
        noted p None = refl
        noted p (Some x) = refl
