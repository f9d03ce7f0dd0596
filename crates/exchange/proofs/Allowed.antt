-- The calls that are allowed where they stand make a permitted list.
use Rattle.std.proofs.Common.{◌≡◌, ℕ, Bool, true, false, cond, List, [], ◌∷◌, refl}
use Rattle.std.specs.List.{AllByRecursion}
use Rattle.frames.specs.Terms.{Terms}
use Rattle.frames.specs.Calls.{Frame, allows, Lent, frame_after, Permitted, Typed}
use Rattle.exchange.specs.Sending.{allowed}

module _ (σ : Terms) (owed : List ℕ → List ℕ) where
  pub allowed_permitted : (κs : List Lent) (φ : Frame) → Permitted σ owed φ (allowed σ owed φ κs)
  unfolding Permitted allowed
  allowed_permitted [] φ = tt
  allowed_permitted (κ ∷ κs) φ = go (allows φ κ.call) refl (allowed_permitted κs)
    where
      go : (b : Bool) → allows φ κ.call ≡ b → ((ψ : Frame) → Permitted σ owed ψ (allowed σ owed ψ κs))
          → Permitted σ owed φ (cond b (κ ∷ allowed σ owed (frame_after σ owed φ κ) κs) (allowed σ owed φ κs))
      go true e rest = (e, rest (frame_after σ owed φ κ))
      go false e rest = rest φ

  pub allowed_typed : (κs : List Lent) (φ : Frame) → AllByRecursion (λ κ. Typed κ.call) κs → AllByRecursion (λ κ. Typed κ.call) (allowed σ owed φ κs)
  unfolding allowed
  allowed_typed [] φ t = tt
  allowed_typed (κ ∷ κs) φ t = go (allows φ κ.call) (λ ψ. allowed_typed κs ψ t.1)
    where
      go : (b : Bool) → ((ψ : Frame) → AllByRecursion (λ κ. Typed κ.call) (allowed σ owed ψ κs))
          → AllByRecursion (λ κ. Typed κ.call) (cond b (κ ∷ allowed σ owed (frame_after σ owed φ κ) κs) (allowed σ owed φ κs))
      go true rest = (t.0, rest (frame_after σ owed φ κ))
      go false rest = rest φ
