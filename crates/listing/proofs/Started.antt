-- The ends of a run at their making.
use Rattle.std.proofs.Common.{◌≡◌, ℕ, ◌≤◌, Bool, List, [], ◌++◌, Option, subst}
use Rattle.codes.specs.Bitline.{scrambled, descrambled}
use Rattle.codes.specs.Registers.{scrambled_rule, descrambled_rule, descrambles}
use Rattle.frames.specs.Terms.{Terms}
use Rattle.frames.specs.Calls.{Call, idle}
use Rattle.link.specs.declared.link.Link.{Link}
use Rattle.link.specs.Linked.{Linked}
use Rattle.listing.specs.Listing.{rows}
use Rattle.listing.specs.Steps.{ListsAll}

module _ {L D K : Type 0} (onward : L → List ℕ → List ℕ) (back : D → List ℕ → List ℕ) (owes : K → List ℕ → List ℕ) (passes : K → List ℕ → Bool) (owed : List ℕ → List ℕ) (good : List ℕ → Bool) (width : ℕ) where
  -- two scramblers from the same register, nothing sent
  pub run_from : (κs : List (Option Call)) (room shelf : ℕ) (l : Link L D K) (out out' : List ℕ) (a b : ℕ) (σ τ : Terms)
      → ListsAll onward back owes passes owed good width κs room shelf l out out'
      → a ≡ 0 → b ≡ 0 → σ ≡ τ → τ.longest ≤ shelf → Linked onward back owes passes owed good width (scrambled a) (descrambled b) σ idle [] l
      → out' ≡ out ++ rows τ (scrambled 0) owed room idle [] κs
  run_from κs room shelf l out out' a b σ τ all ea eb es fits linked =
      let one = subst (λ z. Linked onward back owes passes owed good width (scrambled z) (descrambled b) σ idle [] l) ea linked in
      let two = subst (λ z. Linked onward back owes passes owed good width (scrambled 0) (descrambled z) σ idle [] l) eb one in
      let three = subst (λ s. Linked onward back owes passes owed good width (scrambled 0) (descrambled 0) s idle [] l) es two in
      all (scrambled 0) (descrambled 0) τ idle [] fits
      (record { code = record { sends = scrambled_rule 0; receives = descrambled_rule 0; undoes = descrambles 0 }; octets = tt; linked = three })
