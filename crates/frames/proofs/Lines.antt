-- All that a sender writes before line coding are octets.
use Rattle.std.proofs.Common.{ℕ, zero, suc, ◌<◌, eqb, List, [], ◌∷◌, replicate, Some, None, Option, arith}
use Rattle.std.proofs.lemmas.Bool.{cond_both}
use Rattle.std.specs.List.{AllByRecursion}
use Rattle.octets.specs.Octets.{Octets}
use Rattle.octets.proofs.Joined.{octets_append}
use Rattle.frames.specs.declared.answers.Refusal.{Refusal}
use Rattle.frames.specs.Terms.{Terms}
use Rattle.checks.specs.Written.{complemented}
use Rattle.frames.specs.Layout.{flag, escape, header, stuffed, stuff, adaptations}
use Rattle.frames.specs.Calls.{Call, opening, adding, adapting, filling, closing, aborting, spoiling, Frame, idle, opened, covered, octets, next, refused, Lent, if_taken, frame_after, written, line, Typed, Known}

pub stuffed_octets : (x : ℕ) → x < 256 → Octets (stuffed x)
stuffed_octets x h =
    cond_both (eqb x flag) _ _ Octets (λ t. (omega arith, (omega arith, tt)))
    (λ t. cond_both (eqb x escape) _ _ Octets (λ t'. (omega arith, (omega arith, tt))) (λ t'. (h, tt)))

pub stuff_octets : (xs : List ℕ) → Octets xs → Octets (stuff xs)
stuff_octets [] o = tt
stuff_octets (x ∷ xs) o = octets_append (stuffed x) (stuff xs) (stuffed_octets x o.0) (stuff_octets xs o.1)

pub adaptations_octets : (k : ℕ) → Octets (adaptations k)
unfolding adaptations
adaptations_octets zero = tt
adaptations_octets (suc k) = (omega arith, (omega arith, adaptations_octets k))

pub flags_octets : (k : ℕ) → Octets (replicate k flag)
flags_octets zero = tt
flags_octets (suc k) = (omega arith, flags_octets k)

pub complemented_octets : (t : List ℕ) → Octets (complemented t)
complemented_octets [] = tt
complemented_octets (x ∷ t) = (omega arith, complemented_octets t)

pub header_octets : (s : ℕ) → s < 65536 → Octets (header s)
header_octets s h = (omega arith, (omega arith, (omega arith, (omega arith, tt))))

pub covered_octets : (φ : Frame) → Known φ → Octets (covered φ)
covered_octets idle k = tt
covered_octets (opened s i) k = octets_append (header s) i (header_octets s k.0) k.1

module _ (owed : List ℕ → List ℕ) (fits : (m : List ℕ) → Octets m → Octets (owed m)) where
  pub call_octets : (φ : Frame) (κ : Call) → Known φ → Typed κ → Octets (octets owed φ κ)
  call_octets φ (opening s) k t = (omega arith, stuff_octets (header s) (header_octets s t))
  call_octets φ (adding j) k t = stuff_octets j t
  call_octets φ (adapting n) k t = adaptations_octets n
  call_octets φ (filling n) k t = flags_octets n
  call_octets φ closing k t = octets_append (stuff (owed (covered φ))) (flag ∷ []) (stuff_octets (owed (covered φ)) (fits (covered φ) (covered_octets φ k))) (omega arith, tt)
  call_octets φ aborting k t = (omega arith, (omega arith, tt))
  call_octets φ spoiling k t = octets_append (stuff (complemented (owed (covered φ)))) (flag ∷ []) (stuff_octets (complemented (owed (covered φ))) (complemented_octets (owed (covered φ)))) (omega arith, tt)

  pub next_known : (φ : Frame) (κ : Call) → Known φ → Typed κ → Known (next φ κ)
  next_known φ (opening s) k t = (t, tt)
  next_known idle (adding j) k t = k
  next_known (opened s i) (adding j) k t = (k.0, octets_append i j k.1 t)
  next_known φ (adapting n) k t = k
  next_known φ (filling n) k t = k
  next_known φ closing k t = tt
  next_known φ aborting k t = tt
  next_known φ spoiling k t = tt

  either_way : {X : Type 0} (P : X → Type 0) (v : Option Refusal) (x y : X) → P x → P y → P (if_taken v x y)
  either_way P None x y p q = p
  either_way P (Some r) x y p q = q

  pub line_octets : (σ : Terms) (κs : List Lent) (φ : Frame) → Known φ → AllByRecursion (λ κ. Typed κ.call) κs → Octets (line σ owed φ κs)
  unfolding line
  line_octets σ [] φ k t = tt
  line_octets σ (κ ∷ κs) φ k t =
      octets_append (written σ owed φ κ) (line σ owed (frame_after σ owed φ κ) κs)
      (either_way Octets (refused σ owed φ κ.call κ.room) _ _ (call_octets φ κ.call k t.0) tt)
      (line_octets σ κs (frame_after σ owed φ κ) (either_way Known (refused σ owed φ κ.call κ.room) _ _ (next_known φ κ.call k t.0) k) t.1)
