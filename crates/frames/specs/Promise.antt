-- The three statements about two ends of a link, for any line codes and any check that keep their laws.
use Rattle.std.specs.Prelude.{◌≡◌, ℕ, ◌+◌, ◌<◌, ◌≤◌, Bool, List, [], length, drop, slice_index}
use Rattle.octets.specs.Octets.{Octets}
use Rattle.codes.specs.Rules.{Rule, Alike}
use Rattle.std.specs.List.{AllByRecursion}
use Rattle.frames.specs.Terms.{Terms, Valid}
use Rattle.frames.specs.Layout.{flag}
use Rattle.frames.specs.Calls.{Lent, Permitted, Typed, idle, line, ledger}
use Rattle.frames.specs.Receiving.{Ear, hunting, used, ear_after}
use Rattle.frames.specs.Hearing.{Feed, Roomy, Receiver, hear, Equal, Within, entries, behind}

-- What was sent is what is reported: whatever two codes mean the same at the making of the ends, for any list of calls
-- that the states permit, a new receiver that hears by any feeds all that was written reports the ledger's entries,
-- in order, information included, and nothing else.
abbrev pub SentIsReported : {C D : Type 0} → (C → List ℕ → List ℕ) → (C → List ℕ → List ℕ) → (D → List ℕ → List ℕ) → (D → List ℕ → List ℕ) → ℕ → (List ℕ → List ℕ) → (List ℕ → Bool) → Type 0
SentIsReported {C} {D} onward back onward' back' width owed good =
    (σ : Terms) → Valid σ → σ.width ≡ width
    → (c : C) (d : D) → Alike (onward c) (onward' d) → Alike (back c) (back' d)
    → (κs : List Lent) → AllByRecursion (λ κ. Typed κ.call) κs → Permitted σ owed idle κs
    → (φs : List Feed) → Roomy σ φs
    → let h = hear σ good (record { back = back' d; ear = hunting good }) 0 (onward c (line σ owed idle κs)) φs in
    h.over ≡ [] → entries h.reports ≡ ledger σ owed idle κs

-- A late joiner agrees after a flag: whatever two receivers over a code that settles in s have in hand, and wherever the
-- one joins the line that the other hears from its start, behind any flag that lies s octets or more past the joining
-- they give the same reports. A flag is one as the hearer of all gets it back.
abbrev pub JoinerAgrees : {D : Type 0} → ℕ → (D → List ℕ → List ℕ) → (List ℕ → Bool) → Type 0
JoinerAgrees {D} s back good =
    (σ : Terms) (all late : D) (e e' : Ear) → Within σ e → Within σ e'
    → (os : List ℕ) → Octets os
    → (joined i : ℕ) → joined + s ≤ i → i < length os → slice_index (back all os) i ≡ flag
    → (φs φs' : List Feed) → Roomy σ φs → Roomy σ φs'
    → let h = hear σ good (record { back = back all; ear = e }) 0 os φs in
    let h' = hear σ good (record { back = back late; ear = e' }) joined (drop joined os) φs' in
    h.over ≡ [] → h'.over ≡ [] → behind i h.reports ≡ behind i h'.reports

-- Cutting does not matter: over any octets, two receivers in equal state, fed in any two ways, give equal reports and
-- end in equal state. Each has been made and has got any octets back since; equal state is equal terms, one kind of check,
-- back rules that answer alike, and equal standing and gathered octets.
abbrev pub CuttingIsFree : {C D : Type 0} → (C → List ℕ → List ℕ) → (D → List ℕ → List ℕ) → (List ℕ → Bool) → Type 0
CuttingIsFree {C} {D} back back' good =
    (σ : Terms) (c : C) (d : D) (past past' : List ℕ)
    → let e = ear_after σ good (hunting good) past in
    let e' = ear_after σ good (hunting good) past' in
    Alike (back c) (back' d) → e.standing ≡ e'.standing → e.gathered ≡ e'.gathered
    → (p : ℕ) (os : List ℕ) → Octets os → (φs φs' : List Feed) → Roomy σ φs → Roomy σ φs'
    → let h = hear σ good (record { back = back c; ear = e }) p os φs in
    let h' = hear σ good (record { back = back' d; ear = e' }) p os φs' in
    h.over ≡ [] → h'.over ≡ [] → (h.reports ≡ h'.reports) × Equal h.receiver h'.receiver

-- The statements speak of something: a feed of some octets uses one at least, so that any octets are all used by some
-- feeds, each with a delivery buffer that holds the longest information.
pub record HearingEnds (good : List ℕ → Bool) : Type 0 where
  pub uses_one : (σ : Terms) (room : ℕ) (e : Ear) (os : List ℕ) → 0 < length os → 0 < used σ good room e os
  pub all_used : (σ : Terms) (r : Receiver) → Rule r.back → (p : ℕ) (os : List ℕ) → Octets os
      → (φs : List Feed) × Roomy σ φs × ((hear σ good r p os φs).over ≡ [])
