-- What is reported is what the pieces of a history say.
use Rattle.std.proofs.Common.{◌≡◌, ℕ, suc, ◌+◌, ◌<◌, ◌≤◌, Bool, ◌≢◌, List, [], ◌∷◌, ◌++◌, length, Some, None, Option, sym, refl, ap, ◌∙◌, subst, ap₂, ⊎_elim, append_assoc, arith, length-append}
use Rattle.std.proofs.lemmas.List.{append-nil, map-append}
use Rattle.std.proofs.ByRecursion.{All-push}
use Rattle.std.proofs.lemmas.Bool.{le-ltb, ne_eqb, cases_lt, cases_eq}
use Rattle.std.specs.Option.{option_to_list}
use Rattle.frames.specs.declared.standing.Standing.TheVariants.{AfterEscape, Skipping}
use Rattle.frames.specs.declared.standing.Cause.{Cause}
use Rattle.frames.specs.declared.standing.Cause.TheVariants as cause
use Rattle.frames.specs.Terms.{Terms, limit}
use Rattle.frames.specs.Layout.{flag, escape}
use Rattle.frames.specs.Calls.{Entry}
use Rattle.frames.specs.Receiving.{Ear, begun, hunting, stand, on_octet, verdict, ear_after}
use Rattle.frames.specs.Hearing.{placed, reports_from, entries}
use Rattle.frames.specs.Pieces.{NoFlag, Reads, empty, plain, an_escape, a_flag, adapted, Says, read, aborted, misread, overlong, Tells, unfinished, ended, History, unheard, begun_at, ReportsAreSaid, ReportsGoOn}
use Rattle.frames.proofs.Feeds.{ear_append, reports_append}
use Rattle.frames.specs.Following.{holding}
use Rattle.frames.proofs.Readings.{reads_no_flag, gathers, silent}

reads_append : {u g u' g' : List ℕ} → Reads u g → Reads u' g' → Reads (u ++ u') (g ++ g')
reads_append empty s = s
reads_append (plain x f e r) s = plain x f e (reads_append r s)
reads_append (an_escape r) s = an_escape (reads_append r s)
reads_append (a_flag r) s = a_flag (reads_append r s)
reads_append (adapted r) s = adapted (reads_append r s)

flagless_rest : (xs ys : List ℕ) → NoFlag (xs ++ ys) → NoFlag ys
flagless_rest [] ys n = n
flagless_rest (x ∷ xs) ys n = flagless_rest xs ys n.1

module _ (σ : Terms) (good : List ℕ → Bool) where
  -- what no octet but a flag moves stays
  stays : (e : Ear) → ((o : ℕ) → on_octet σ e e.standing o ≡ e) → (u : List ℕ) → NoFlag u → ear_after σ good e u ≡ e
  unfolding ear_after
  stays e h [] n = refl
  stays e h (o ∷ u) n = rw (ne_eqb o flag n.0, h o) (stays e h u n.1)

  skipping : Cause → List ℕ → Ear
  skipping c g = stand (Skipping c) (holding good g)

  skips : (c : Cause) (g u : List ℕ) → NoFlag u → ear_after σ good (skipping c g) u ≡ skipping c g
  unfolding skipping
  skips c g = stays (skipping c g) (λ o. refl)

  -- behind what reads as g a receiver holds g
  behind_read : {p g : List ℕ} → Reads p g → length g ≤ limit σ → (t : List ℕ)
      → ear_after σ good (begun good) (p ++ t) ≡ ear_after σ good (holding good g) t
  behind_read {p} {g} r h t = ear_append σ good (begun good) p t ∙ ap (λ e. ear_after σ good e t) (gathers σ good r [] (omega arith))

  -- a receiver that holds g₀ and hears u has then gathered all that a good frame has, and passes over the rest
  abbrev Brims : List ℕ → List ℕ → Type 0
  Brims g₀ u = (g : List ℕ) × (length g ≡ limit σ) × (ear_after σ good (holding good g₀) u ≡ skipping cause.Overlong g)

  -- octets q that read as one octet x, before octets u that read as g
  brim_one : (q : List ℕ) (x : ℕ) → Reads q (x ∷ [])
      → ((g₀ : List ℕ) → limit σ ≤ length g₀ → ear_after σ good (holding good g₀) q ≡ skipping cause.Overlong g₀)
      → (u g : List ℕ) → NoFlag u → ((g₀ : List ℕ) → length g₀ ≤ limit σ → length g₀ + length g ≡ suc (limit σ) → Brims g₀ u)
      → (g₀ : List ℕ) → length g₀ ≤ limit σ → length g₀ + suc (length g) ≡ suc (limit σ) → Brims g₀ (q ++ u)
  brim_one q x s full u g n more g₀ h k = ⊎_elim below above (cases_lt (length g₀) (limit σ))
    where
      below : length g₀ < limit σ → Brims g₀ (q ++ u)
      below l =
          let b : length (g₀ ++ x ∷ []) ≤ limit σ = rw length-append (omega arith) in
          let c : length (g₀ ++ x ∷ []) + length g ≡ suc (limit σ) = rw length-append (omega arith) in
          let m = more (g₀ ++ x ∷ []) b c in
          (m.0, m.1, ear_append σ good (holding good g₀) q u ∙ ap (λ e. ear_after σ good e u) (gathers σ good s g₀ (omega arith)) ∙ m.2)

      above : limit σ ≤ length g₀ → Brims g₀ (q ++ u)
      above l =
          let b : length g₀ ≡ limit σ = omega arith in
          (g₀, b, ear_append σ good (holding good g₀) q u ∙ ap (λ e. ear_after σ good e u) (full g₀ l) ∙ skips cause.Overlong g₀ u n)

  brims : {u g : List ℕ} → Reads u g → (g₀ : List ℕ) → length g₀ ≤ limit σ → length g₀ + length g ≡ suc (limit σ) → Brims g₀ u
  unfolding ear_after skipping
  brims empty g₀ h k = absurd (omega arith)
  brims (plain {u} {g} x f e r) g₀ h k =
      brim_one (x ∷ []) x (plain x f e empty) (λ g₁ l. rw (ne_eqb x flag f, ne_eqb x escape e, le-ltb (length g₁) (limit σ) l)) u g (reads_no_flag r) (brims r) g₀ h k
  brims (an_escape {u} {g} r) g₀ h k =
      brim_one (escape ∷ 0x5d ∷ []) escape (an_escape empty) (λ g₁ l. rw (le-ltb (length g₁) (limit σ) l)) u g (reads_no_flag r) (brims r) g₀ h k
  brims (a_flag {u} {g} r) g₀ h k =
      brim_one (escape ∷ 0x5e ∷ []) flag (a_flag empty) (λ g₁ l. rw (le-ltb (length g₁) (limit σ) l)) u g (reads_no_flag r) (brims r) g₀ h k
  brims (adapted r) g₀ h k = brims r g₀ h k

  module _ (room : ℕ) where
    -- what a flag makes of a receiver's state
    abbrev judged : Ear → Option Entry
    judged e = verdict σ room e e.standing

    -- what a piece says is what a receiver makes of it
    said : {u : List ℕ} {v : Option Entry} → Says σ good room u v → NoFlag u → v ≡ judged (ear_after σ good (begun good) u)
    unfolding ear_after skipping
    said (read {u} g r h) n =
        let e : ear_after σ good (begun good) u ≡ holding good g = gathers σ good r [] (omega arith) in
        rw (e, append-nil g)
    said (aborted {u} p g r h c) n =
        let e : ear_after σ good (begun good) u ≡ stand AfterEscape (holding good g)
        = ap (ear_after σ good (begun good)) c ∙ behind_read r h (escape ∷ []) in
        rw e
    said (misread {u} p g t y r h w c) n =
        let m : NoFlag (escape ∷ y ∷ t) = flagless_rest p (escape ∷ y ∷ t) (subst NoFlag c n) in
        let s : ear_after σ good (holding good g) (escape ∷ y ∷ t) ≡ skipping cause.Escape g
        = rw (ne_eqb y flag w.no_flag, ne_eqb y 0x5d w.no_escape_pair, ne_eqb y 0x5e w.no_flag_pair, ne_eqb y 0xdd w.no_adaptation)
        (skips cause.Escape g t m.1.1) in
        let e : ear_after σ good (begun good) u ≡ skipping cause.Escape g
        = ap (ear_after σ good (begun good)) c ∙ behind_read r h (escape ∷ y ∷ t) ∙ s in
        rw e
    said (overlong {u} p g t r k c) n =
        let b = brims r [] (omega arith) (omega arith) in
        let e : ear_after σ good (begun good) u ≡ skipping cause.Overlong b.0
        = ap (ear_after σ good (begun good)) c ∙ ear_append σ good (begun good) p t ∙ ap (λ e. ear_after σ good e t) b.2
        ∙ skips cause.Overlong b.0 t (flagless_rest p t (subst NoFlag c n)) in
        rw (e, b.1)

    -- every piece says something; from the left, behind p that reads as g
    abbrev Something : List ℕ → Type 0
    Something u = (v : Option Entry) × Says σ good room u v

    something : {u : List ℕ} {v : Option Entry} → Says σ good room u v → Something u
    something {u} {v} s = (v, s)

    abbrev Onward : List ℕ → Type 0
    Onward u = (p g : List ℕ) → Reads p g → length g ≤ limit σ → Something (p ++ u)

    -- octets q that read as one octet x
    further : (q : List ℕ) (x : ℕ) → Reads q (x ∷ []) → (u : List ℕ) → Onward u → Onward (q ++ u)
    further q x s u more p g r h = ⊎_elim below above (cases_lt (length g) (limit σ))
      where
        one : Reads (p ++ q) (g ++ x ∷ [])
        one = reads_append r s

        below : length g < limit σ → Something (p ++ (q ++ u))
        below l =
            let b : length (g ++ x ∷ []) ≤ limit σ = rw length-append (omega arith) in
            subst Something (append_assoc p q u) (more (p ++ q) (g ++ x ∷ []) one b)

        above : limit σ ≤ length g → Something (p ++ (q ++ u))
        above l =
            let b : length (g ++ x ∷ []) ≡ suc (limit σ) = rw length-append (omega arith) in
            something (overlong (p ++ q) (g ++ x ∷ []) u one b (sym (append_assoc p q u)))

    adapted_further : (u : List ℕ) → Onward u → Onward (escape ∷ 0xdd ∷ u)
    adapted_further u more p g r h =
        let pair : List ℕ = escape ∷ 0xdd ∷ [] in
        subst Something (append_assoc p pair u) (more (p ++ pair) g (subst (Reads (p ++ pair)) (append-nil g) (reads_append r (adapted empty))) h)

    escaped : (y : ℕ) (u : List ℕ) → y ≢ flag → Onward u → Onward (escape ∷ y ∷ u)
    escaped y u f more = ⊎_elim at_5d (λ a. ⊎_elim at_5e (λ b. ⊎_elim at_dd (other a b) (cases_eq y 0xdd)) (cases_eq y 0x5e)) (cases_eq y 0x5d)
      where
        this : (z : ℕ) → y ≡ z → Onward (escape ∷ z ∷ u) → Onward (escape ∷ y ∷ u)
        this z e = subst (λ o. Onward (escape ∷ o ∷ u)) (sym e)

        at_5d : y ≡ 0x5d → Onward (escape ∷ y ∷ u)
        at_5d e = this 0x5d e (further (escape ∷ 0x5d ∷ []) escape (an_escape empty) u more)

        at_5e : y ≡ 0x5e → Onward (escape ∷ y ∷ u)
        at_5e e = this 0x5e e (further (escape ∷ 0x5e ∷ []) flag (a_flag empty) u more)

        at_dd : y ≡ 0xdd → Onward (escape ∷ y ∷ u)
        at_dd e = this 0xdd e (adapted_further u more)

        other : y ≢ 0x5d → y ≢ 0x5e → y ≢ 0xdd → Onward (escape ∷ y ∷ u)
        other a b c p g r h =
            something (misread p g u y r h (record { no_flag = f; no_escape_pair = a; no_flag_pair = b; no_adaptation = c }) refl)

    plain_further : (x : ℕ) (u : List ℕ) → x ≢ flag → x ≢ escape → Onward u → Onward (x ∷ u)
    plain_further x u f e = further (x ∷ []) x (plain x f e empty) u

    says : (u : List ℕ) → NoFlag u → Onward u
    says [] n p g r h = something (read g (rw (append-nil p) r) h)
    says (x ∷ []) n p g r h = go (says [] tt) p g r h
      where
        go : Onward [] → Onward (x ∷ [])
        go more = ⊎_elim (λ e p' g' r' h'. something (aborted p' g' r' h' (ap (λ o. p' ++ o ∷ []) e))) (λ e. plain_further x [] n.0 e more) (cases_eq x escape)
    says (x ∷ y ∷ u) n p g r h = go (says (y ∷ u) n.1) (says u n.1.1) p g r h
      where
        go : Onward (y ∷ u) → Onward u → Onward (x ∷ y ∷ u)
        go more behind = ⊎_elim (λ e. subst (λ o. Onward (o ∷ y ∷ u)) (sym e) (escaped y u n.1.0 behind)) (λ e. plain_further x (y ∷ u) n.0 e more) (cases_eq x escape)

  entry_of : (p : ℕ) (v : Option Entry) → entries (placed p v) ≡ option_to_list v
  entry_of p None = refl
  entry_of p (Some e) = refl

  -- the reports of a piece, its flag and what follows
  piece : (e : Ear) (p : ℕ) (u rest : List ℕ) → NoFlag u
      → entries (reports_from σ good e p (u ++ flag ∷ rest))
      ≡ option_to_list (judged σ.longest (ear_after σ good e u)) ++ entries (reports_from σ good (begun good) (suc (p + length u)) rest)
  unfolding reports_from
  piece e p u rest n =
      let v = judged σ.longest (ear_after σ good e u) in
      let more = reports_from σ good (begun good) (suc (p + length u)) rest in
      let parts : reports_from σ good e p (u ++ flag ∷ rest) ≡ placed (p + length u) v ++ more
      = reports_append σ good e p u (flag ∷ rest) ∙ rw (silent σ good u n e p) in
      ap entries parts ∙ map-append (λ x. x.entry) (placed (p + length u) v) more ∙ ap (λ es. es ++ entries more) (entry_of (p + length u) v)

  told_once : {l : List ℕ} {es : List Entry} → Tells σ good σ.longest l es → (p : ℕ) → es ≡ entries (reports_from σ good (begun good) p l)
  told_once (unfinished {u} n) p = sym (ap entries (silent σ good u n (begun good) p))
  told_once (ended u rest v n s more c) p =
      ap₂ (λ w es. option_to_list w ++ es) (said σ.longest s n) (told_once more (suc (p + length u)))
      ∙ sym (piece (begun good) p u rest n)
      ∙ ap (λ os. entries (reports_from σ good (begun good) p os)) (sym c)

  heard_once : {l : List ℕ} {es : List Entry} → History σ good σ.longest l es → es ≡ entries (reports_from σ good (hunting good) 0 l)
  heard_once (unheard {u} n) = sym (ap entries (silent σ good u n (hunting good) 0))
  heard_once (begun_at u rest n t c) =
      let e : ear_after σ good (hunting good) u ≡ hunting good = stays (hunting good) (λ o. refl) u n in
      told_once t (suc (0 + length u))
      ∙ sym (piece (hunting good) 0 u rest n ∙ ap (λ x. option_to_list (judged σ.longest x) ++ entries (reports_from σ good (begun good) (suc (0 + length u)) rest)) e)
      ∙ ap (λ os. entries (reports_from σ good (hunting good) 0 os)) (sym c)

  -- every list of octets falls into pieces
  abbrev Told : List ℕ → Type 0
  Told l = (es : List Entry) × Tells σ good σ.longest l es

  tells : (l u : List ℕ) → NoFlag u → Told (u ++ l)
  tells [] u n = ([], unfinished (rw (append-nil u) n))
  tells (o ∷ l) u n = ⊎_elim (at_flag (tells l [] tt)) (λ f. other f (tells l (u ++ o ∷ []) (All-push (λ x. x ≢ flag) u o n f))) (cases_eq o flag)
    where
      at_flag : Told l → o ≡ flag → Told (u ++ o ∷ l)
      at_flag more e =
          let s = says σ.longest u n [] [] empty (omega arith) in
          (option_to_list s.0 ++ more.0, ended u l s.0 n s.1 more.1 (ap (λ x. u ++ x ∷ l) e))

      other : o ≢ flag → Told ((u ++ o ∷ []) ++ l) → Told (u ++ o ∷ l)
      other f = subst Told (append_assoc u (o ∷ []) l)

  -- and is a history, in which the first piece says nothing
  hears : {l : List ℕ} {es : List Entry} → Tells σ good σ.longest l es → (es : List Entry) × History σ good σ.longest l es
  hears (unfinished n) = ([], unheard n)
  hears (ended {es = es} u rest v n s more c) = (es, begun_at u rest n more c)

pub reports_are_said : ReportsAreSaid
reports_are_said σ good os =
    let h = hears σ good (tells σ good os [] tt).1 in
    (subst (History σ good σ.longest os) (heard_once σ good h.1) h.1, λ es s. heard_once σ good s)

pub reports_go_on : ReportsGoOn
reports_go_on σ good before os es s =
    let whole = (reports_are_said σ good (before ++ os)).0 in
    let parts : entries (reports_from σ good (hunting good) 0 (before ++ os)) ≡ es ++ entries (reports_from σ good (ear_after σ good (hunting good) before) (length before) os)
    = ap entries (reports_append σ good (hunting good) 0 before os) ∙ map-append (λ x. x.entry) (reports_from σ good (hunting good) 0 before) _
    ∙ ap₂ (λ a n. a ++ entries (reports_from σ good (ear_after σ good (hunting good) before) n os)) (sym (heard_once σ good s)) (zero_plus (length before)) in
    subst (History σ good σ.longest (before ++ os)) parts whole
  where
    zero_plus : (n : ℕ) → 0 + n ≡ n
    zero_plus n = omega arith
