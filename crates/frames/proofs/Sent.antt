-- What was sent is what is reported: a receiver follows a sender call by call.
use Rattle.std.proofs.Common.{◌≡◌, ℕ, zero, suc, ◌+◌, ◌-◌, ◌*◌, ◌/◌, ◌%◌, ◌<◌, ◌≤◌, Bool, true, false, cond, eqb, ltb, List, [], ◌∷◌, ◌++◌, length, take, replicate, Some, None, Option, sym, refl, ap, ◌∙◌, subst, ap₂, inl, inr, ⊎_elim, arith, length-append}
use lib.ListN.{length-map}
use Rattle.std.proofs.lemmas.List.{append-nil, take_at, map-append}
use Rattle.std.proofs.ByRecursion.{All-append}
use Rattle.std.proofs.lemmas.Bool.{le-ltb, ltb-false, ne_eqb, cases_Bool, true≢false}
use Rattle.octets.specs.Octets.{Octets}
use Rattle.codes.specs.Rules.{Rule, Undoes}
use Rattle.checks.specs.Law.{Width, Owes, Tells}
use Rattle.std.specs.List.{AllByRecursion}
use Rattle.frames.specs.declared.answers.Fault.TheVariants as fault
use Rattle.frames.specs.declared.answers.Refusal.{Refusal}
use Rattle.frames.specs.Terms.{Terms, serves, limit}
use Rattle.checks.specs.Written.{complemented}
use Rattle.frames.specs.Layout.{flag, header, stuff, closing_octets}
use Rattle.frames.specs.Calls.{Call, opening, adding, adapting, filling, closing, aborting, spoiling, Frame, idle, opened, allows, octets, next, refused, handed_over, faulty, entered, Lent, if_taken, frame_after, written, noted, Permitted, line, ledger, Typed}
use Rattle.frames.specs.Receiving.{Ear, begun, hunting, ear_after, judgement}
use Rattle.frames.specs.Pieces.{Reads}
use Rattle.frames.specs.Hearing.{reports_from, entries}
use Rattle.frames.specs.Following.{holding, InFrame, Follows}
use Rattle.frames.specs.Promise.{SentIsReported}
use Rattle.frames.proofs.Lines.{covered_octets, complemented_octets, line_octets}
use Rattle.frames.proofs.Cutting.{hears_all}
use Rattle.frames.proofs.Feeds.{ear_append, reports_append}
use Rattle.frames.proofs.Readings.{reads_no_flag, reads_stuffed, reads_adaptations, gathers, silent}

module _ (σ : Terms) (owed : List ℕ → List ℕ) (good : List ℕ → Bool) where
  -- what a call does to a receiver that follows
  pub record Followed (φ : Frame) (κ : Call) (e : Ear) (p : ℕ) : Type 0 where
    pub reports : entries (reports_from σ good e p (octets owed φ κ)) ≡ entered σ φ κ
    pub follows : Follows σ good (next φ κ) (ear_after σ good e (octets owed φ κ))

  fills : (k : ℕ) (e : Ear) (p : ℕ) → Follows σ good idle e → (entries (reports_from σ good e p (replicate k flag)) ≡ []) × Follows σ good idle (ear_after σ good e (replicate k flag))
  unfolding reports_from ear_after
  fills zero e p f = (refl, f)
  fills (suc k) e p (inl h) = rw h (fills k (begun good) (suc p) (inr refl))
  fills (suc k) e p (inr h) = rw h (fills k (begun good) (suc p) (inr refl))

  -- octets that read as g, while a receiver holds c
  passes : {u g : List ℕ} → Reads u g → (c : List ℕ) (e : Ear) (p : ℕ) → e ≡ holding good c → length c + length g ≤ limit σ
      → (reports_from σ good e p u ≡ []) × (ear_after σ good e u ≡ holding good (c ++ g))
  passes {u} r c e p h n = (silent σ good u (reads_no_flag r) e p, ap (λ x. ear_after σ good x u) h ∙ gathers σ good r c n)

  opens : (s : ℕ) (e : Ear) (p : ℕ) → Follows σ good idle e → Typed (opening s) → serves σ.served s ≡ true → Followed idle (opening s) e p
  unfolding reports_from ear_after
  opens s e p f t v = go f
    where
      read : (reports_from σ good (begun good) (suc p) (stuff (header s)) ≡ []) × (ear_after σ good (begun good) (stuff (header s)) ≡ holding good (header s))
      read = passes (reads_stuffed (header s)) [] (begun good) (suc p) refl (omega arith)

      inside : InFrame σ good s [] (ear_after σ good (begun good) (stuff (header s)))
      inside = record { holds = read.1; short = omega arith; served = v; sapi = t; octets = tt }

      go : Follows σ good idle e → Followed idle (opening s) e p
      go (inl h) = record { reports = rw h (ap entries read.0); follows = rw h inside }
      go (inr h) = record { reports = rw h (ap entries read.0); follows = rw h inside }

  adds : (s : ℕ) (i j : List ℕ) (e : Ear) (p : ℕ) → InFrame σ good s i e → Octets j → length i + length j ≤ σ.longest → Followed (opened s i) (adding j) e p
  adds s i j e p f o h =
      let read = passes (reads_stuffed j) (header s ++ i) e p f.holds (omega arith) in
      record {
        reports = ap entries read.0;
        follows = record {
          holds = read.1;
          short = rw length-append h;
          served = f.served;
          sapi = f.sapi;
          octets = All-append (λ x. x < 256) i j f.octets o;
        };
      }

  adapts : (s : ℕ) (i : List ℕ) (k : ℕ) (e : Ear) (p : ℕ) → InFrame σ good s i e → Followed (opened s i) (adapting k) e p
  adapts s i k e p f =
      let read = passes (reads_adaptations k) (header s ++ i) e p f.holds (omega (arith, f.short)) in
      record {
        reports = ap entries read.0;
        follows = record { holds = read.1 ∙ ap (holding good) (append-nil (header s ++ i)); short = f.short; served = f.served; sapi = f.sapi; octets = f.octets };
      }

  four : (n : ℕ) → suc (suc (suc (suc n))) ≡ 4 + n
  four n = omega arith

  aborts : (s : ℕ) (i : List ℕ) (e : Ear) (p : ℕ) → InFrame σ good s i e → Followed (opened s i) aborting e p
  unfolding reports_from ear_after
  aborts s i e p f = record { reports = rw f.holds (ap (λ n. faulty fault.Abort n ∷ []) (four (length i))); follows = inr refl }

  -- a frame ended by w octets t behind what the check covers, and a flag
  module _ (s : ℕ) (i t : List ℕ) (e : Ear) (p : ℕ) (f : InFrame σ good s i e) (long : length t ≡ σ.width) where
    ended_length : length ((header s ++ i) ++ t) ≡ 4 + length i + σ.width
    ended_length = rw length-append (omega arith)

    ended_reads : (reports_from σ good e p (stuff t) ≡ []) × (ear_after σ good e (stuff t) ≡ holding good ((header s ++ i) ++ t))
    ended_reads = passes (reads_stuffed t) (header s ++ i) e p f.holds (omega (arith, f.short))

    ends : (entries (reports_from σ good e p (closing_octets t)) ≡ judgement σ σ.longest (good ((header s ++ i) ++ t)) ((header s ++ i) ++ t) ∷ [])
        × (ear_after σ good e (closing_octets t) ≡ begun good)
    unfolding reports_from ear_after
    ends =
        let g = (header s ++ i) ++ t in
        let some : eqb (length g) 0 ≡ false = ne_eqb (length g) 0 (omega arith) in
        let flagged : reports_from σ good (holding good g) (p + length (stuff t)) (flag ∷ []) ≡ record { place = p + length (stuff t); entry = judgement σ σ.longest (good g) g } ∷ []
        = rw (append-nil g, some) refl in
        let whole : reports_from σ good e p (closing_octets t) ≡ record { place = p + length (stuff t); entry = judgement σ σ.longest (good g) g } ∷ []
        = reports_append σ good e p (stuff t) (flag ∷ []) ∙ rw (ended_reads.0, ended_reads.1) flagged in
        (ap entries whole, ear_append σ good e (stuff t) (flag ∷ []))

    enough : ltb (length ((header s ++ i) ++ t)) (4 + σ.width) ≡ false
    enough = le-ltb (length ((header s ++ i) ++ t)) (4 + σ.width) (omega (arith, ended_length))

    -- the judgement of such a frame, but for the check
    judged_as : (good? : Bool) → judgement σ σ.longest good? ((header s ++ i) ++ t) ≡ cond good? (handed_over s i) (faulty fault.Check (4 + length i + σ.width))
    judged_as true =
        let sapi : s / 256 * 256 + s % 256 ≡ s = omega arith in
        let size : length ((header s ++ i) ++ t) - 4 - σ.width ≡ length i = omega (arith, ended_length) in
        let info : take (length ((header s ++ i) ++ t) - 4 - σ.width) (i ++ t) ≡ i = ap (λ k. take k (i ++ t)) size ∙ take_at i t (length i) refl in
        let room : ltb σ.longest (length i) ≡ false = le-ltb σ.longest (length i) f.short in
        rw (enough, sapi, f.served, info, room) (rw (sapi, info))
    judged_as false = rw (enough, ended_length)

  -- no octet is its own complement
  differs : (t : List ℕ) → 0 < length t → Octets t → complemented t ≡ t → ⊥
  differs [] n o h = omega arith
  differs (x ∷ t) n o h =
      let same : 255 - x ≡ x = cc in
      omega (arith, o.0)

  some≢none : {x : Refusal} → None ≡ Some x → ⊥
  some≢none {x} h = let z : ◌≡◌ {A = ℕ} 0 1 = cc in omega arith

  module _ (owes : Owes σ.width owed) (tells : Tells σ.width owed good) (wide : Width σ.width) where
    module _ (s : ℕ) (i : List ℕ) (e : Ear) (p : ℕ) (f : InFrame σ good s i e) where
      fits : Octets (header s ++ i)
      fits = covered_octets (opened s i) (f.sapi, f.octets)

      closes : Followed (opened s i) closing e p
      closes =
          let t = owed (header s ++ i) in
          let long = owes.long (header s ++ i) fits in
          let owed-fits = owes.octets (header s ++ i) fits in
          let good! : good ((header s ++ i) ++ t) ≡ true = (tells (header s ++ i) t fits owed-fits long).1 refl in
          let end = ends s i t e p f long in
          record { reports = end.0 ∙ ap (λ x. x ∷ []) (judged_as s i t e p f long _ ∙ rw good!); follows = inr end.1 }

      spoils : Followed (opened s i) spoiling e p
      spoils =
          let c = header s ++ i in
          let t = owed c in
          let long : length (complemented t) ≡ σ.width = length-map t (λ o. 255 - o) ∙ owes.long c fits in
          let owed-fits = complemented_octets t in
          let some : 0 < length t = omega (arith, owes.long c fits, wide) in
          let bad : good (c ++ complemented t) ≡ false = ⊎_elim (λ g. absurd (differs t some (owes.octets c fits) ((tells c (complemented t) fits owed-fits long).0 g))) (λ b. b) (cases_Bool (good (c ++ complemented t))) in
          let end = ends s i (complemented t) e p f long in
          record { reports = end.0 ∙ ap (λ x. x ∷ []) (judged_as s i (complemented t) e p f long _ ∙ rw bad); follows = inr end.1 }

    -- each call that is taken is followed
    pub follow : (φ : Frame) (κ : Call) (room : ℕ) (e : Ear) (p : ℕ) → Follows σ good φ e → allows φ κ ≡ true → Typed κ → refused σ owed φ κ room ≡ None → Followed φ κ e p
    follow idle (opening s) room e p f a t r =
        let v : serves σ.served s ≡ true = ⊎_elim (λ y. y) (λ n. absurd (some≢none (sym (rw n at r)))) (cases_Bool (serves σ.served s)) in
        opens s e p f t v
    follow idle (filling k) room e p f a t r = let h = fills k e p f in record { reports = h.0; follows = h.1 }
    follow idle (adding j) room e p f a t r = absurd (true≢false (sym a))
    follow idle (adapting k) room e p f a t r = absurd (true≢false (sym a))
    follow idle closing room e p f a t r = absurd (true≢false (sym a))
    follow idle aborting room e p f a t r = absurd (true≢false (sym a))
    follow idle spoiling room e p f a t r = absurd (true≢false (sym a))
    follow (opened s i) (opening s') room e p f a t r = absurd (true≢false (sym a))
    follow (opened s i) (filling k) room e p f a t r = absurd (true≢false (sym a))
    follow (opened s i) (adding j) room e p f a t r =
        let n = ltb σ.longest (length i + length j) in
        let h : n ≡ false = ⊎_elim (λ y. absurd (some≢none (sym (rw y at r)))) (λ b. b) (cases_Bool n) in
        adds s i j e p f t (ltb-false σ.longest (length i + length j) h)
    follow (opened s i) (adapting k) room e p f a t r = adapts s i k e p f
    follow (opened s i) closing room e p f a t r = closes s i e p f
    follow (opened s i) aborting room e p f a t r = aborts s i e p f
    follow (opened s i) spoiling room e p f a t r = spoils s i e p f

    -- and so is any list of calls
    pub sent : (κs : List Lent) (φ : Frame) (e : Ear) (p : ℕ) → Follows σ good φ e → AllByRecursion (λ κ. Typed κ.call) κs → Permitted σ owed φ κs
        → entries (reports_from σ good e p (line σ owed φ κs)) ≡ ledger σ owed φ κs
    unfolding Permitted line ledger reports_from
    sent [] φ e p f t a = refl
    sent (κ ∷ κs) φ e p f t a = go (refused σ owed φ κ.call κ.room) refl (sent κs)
      where
        Rest : Type 0
        Rest = (φ : Frame) (e : Ear) (p : ℕ) → Follows σ good φ e → AllByRecursion (λ κ. Typed κ.call) κs → Permitted σ owed φ κs → entries (reports_from σ good e p (line σ owed φ κs)) ≡ ledger σ owed φ κs

        go : (v : Option Refusal) → refused σ owed φ κ.call κ.room ≡ v → Rest
            → entries (reports_from σ good e p (line σ owed φ (κ ∷ κs))) ≡ ledger σ owed φ (κ ∷ κs)
        go None r rest =
            let one = follow φ κ.call κ.room e p f a.0 t.0 r in
            let os = octets owed φ κ.call in
            let frame : frame_after σ owed φ κ ≡ next φ κ.call = ap (λ v. if_taken v (next φ κ.call) φ) r in
            let write : written σ owed φ κ ≡ os = ap (λ v. if_taken v os []) r in
            let note : noted σ owed φ κ ≡ entered σ φ κ.call = ap (λ v. if_taken v (entered σ φ κ.call) []) r in
            let more = rest (next φ κ.call) (ear_after σ good e os) (p + length os) one.follows t.1 (subst (λ ψ. Permitted σ owed ψ κs) frame a.1) in
            ap₂ (λ os ψ. entries (reports_from σ good e p (os ++ line σ owed ψ κs))) write frame
            ∙ ap entries (reports_append σ good e p os (line σ owed (next φ κ.call) κs))
            ∙ map-append (λ x. x.entry) (reports_from σ good e p os) _
            ∙ ap₂ ◌++◌ one.reports more
            ∙ sym (ap₂ (λ es ψ. es ++ ledger σ owed ψ κs) note frame)
        go (Some x) r rest =
            let frame : frame_after σ owed φ κ ≡ φ = ap (λ v. if_taken v (next φ κ.call) φ) r in
            let write : written σ owed φ κ ≡ [] = ap (λ v. if_taken v (octets owed φ κ.call) []) r in
            let note : noted σ owed φ κ ≡ [] = ap (λ v. if_taken v (entered σ φ κ.call) []) r in
            ap₂ (λ os ψ. entries (reports_from σ good e p (os ++ line σ owed ψ κs))) write frame
            ∙ rest φ e p f t.1 (subst (λ ψ. Permitted σ owed ψ κs) frame a.1)
            ∙ sym (ap₂ (λ es ψ. es ++ ledger σ owed ψ κs) note frame)

-- over any two codes that mean the same
pub sent_is_reported : {C D : Type 0} (onward back : C → List ℕ → List ℕ) (onward' back' : D → List ℕ → List ℕ)
    (width : ℕ) (owed : List ℕ → List ℕ) (good : List ℕ → Bool)
    → ((c : C) → Rule (onward c)) → ((c : C) → Undoes (back c) (onward c)) → ((d : D) → Rule (back' d))
    → Width width → Owes width owed → Tells width owed good
    → SentIsReported onward back onward' back' width owed good
sent_is_reported onward back onward' back' width owed good sends undoes receives wide owes tells σ valid w c d same same' κs t a φs m none =
    let os = line σ owed idle κs in
    let fits = line_octets owed owes.octets σ κs idle tt t in
    let wide' : Width σ.width = subst Width (sym w) wide in
    let owes' : Owes σ.width owed = subst (λ k. Owes k owed) (sym w) owes in
    let tells' : Tells σ.width owed good = subst (λ k. Tells k owed good) (sym w) tells in
    let back-again : back' d (onward c os) ≡ os = sym (same' (onward c os) ((sends c).octets os fits)) ∙ undoes c os fits in
    let h = hears_all σ good φs (record { back = back' d; ear = hunting good }) 0 (onward c os) (receives d) (omega arith) ((sends c).octets os fits) m none in
    ap entries (h.reports ∙ ap (reports_from σ good (hunting good) 0) back-again)
    ∙ sent σ owed good owes' tells' wide' κs idle (hunting good) 0 (inl refl) t a
