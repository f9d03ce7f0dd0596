-- Machines that answer octet by octet out of a state: each is a rule, its remainder is the machine from the state it
-- has come to, and it settles where its states come together.
use Rattle.std.specs.Prelude.{◌≡◌, ℕ, suc, ◌<◌, ◌≤◌, List, [], ◌∷◌, ◌++◌, length, take, drop}
use Rattle.std.proofs.Math.Path.{refl, ap, ap₂}
use Rattle.std.proofs.Common.{sym, ◌∙◌, inl, inr, arith}
use Rattle.std.proofs.lemmas.List.{take_at, drop_at, drop_all, take-append-drop, length-take-le}
use Rattle.std.proofs.ByRecursion.{All-take}
use Rattle.std.proofs.lemmas.Bool.{cases_lt}
use Rattle.octets.specs.Octets.{Octets}
use Rattle.octets.proofs.Joined.{octets_append}
use Rattle.codes.specs.Rules.{Rule, Alike, after}

-- what answers as a rule answers is a rule
pub rule_alike : (f g : List ℕ → List ℕ) → Alike f g → Rule g → Rule f
rule_alike f g e r = record {
  long = λ xs o. ap length (e xs o) ∙ r.long xs o;
  octets = λ xs o. rw (e xs o) (r.octets xs o);
  beginning = λ xs ys o p. ap (take (length xs)) (e (xs ++ ys) (octets_append xs ys o p)) ∙ r.beginning xs ys o p ∙ sym (e xs o);
}

unfoldable pub run : {S : Type 0} → (S → ℕ → ℕ) → (S → ℕ → S) → S → List ℕ → List ℕ
run out next s [] = []
run out next s (x ∷ xs) = out s x ∷ run out next (next s x) xs

unfoldable pub state : {S : Type 0} → (S → ℕ → S) → S → List ℕ → S
state next s [] = s
state next s (x ∷ xs) = state next (next s x) xs

module _ {S : Type 0} (out : S → ℕ → ℕ) (next : S → ℕ → S) where
  run_length : (s : S) (xs : List ℕ) → length (run out next s xs) ≡ length xs
  unfolding run
  run_length s [] = refl
  run_length s (x ∷ xs) = ap suc (run_length (next s x) xs)

  run_append : (s : S) (xs ys : List ℕ) → run out next s (xs ++ ys) ≡ run out next s xs ++ run out next (state next s xs) ys
  unfolding run state
  run_append s [] ys = refl
  run_append s (x ∷ xs) ys = ap (λ zs. out s x ∷ zs) (run_append (next s x) xs ys)

  run_octets : ((s : S) (x : ℕ) → x < 256 → out s x < 256) → (s : S) (xs : List ℕ) → Octets xs → Octets (run out next s xs)
  unfolding run
  run_octets fits s [] o = tt
  run_octets fits s (x ∷ xs) o = (fits s x o.0, run_octets fits (next s x) xs o.1)

  pub run_rule : ((s : S) (x : ℕ) → x < 256 → out s x < 256) → (s : S) → Rule (run out next s)
  run_rule fits s = record {
    long = λ xs o. run_length s xs;
    octets = run_octets fits s;
    beginning = λ xs ys o p. ap (take (length xs)) (run_append s xs ys) ∙ take_at (run out next s xs) (run out next (state next s xs) ys) (length xs) (run_length s xs);
  }

  run_after : (s : S) (heard further : List ℕ) → after (run out next s) heard further ≡ run out next (state next s heard) further
  run_after s heard further =
      ap (drop (length heard)) (run_append s heard further)
      ∙ drop_at (run out next s heard) (run out next (state next s heard) further) (length heard) (run_length s heard)

  -- what comes after the first n octets
  run_drop : (n : ℕ) (s : S) (xs : List ℕ) → n ≤ length xs → drop n (run out next s xs) ≡ run out next (state next s (take n xs)) (drop n xs)
  run_drop n s xs h =
      let whole : run out next s (take n xs ++ drop n xs) ≡ run out next s xs = ap (run out next s) (take-append-drop n xs) in
      ap (drop n) (sym whole ∙ run_append s (take n xs) (drop n xs))
      ∙ drop_at (run out next s (take n xs)) (run out next (state next s (take n xs)) (drop n xs)) n (run_length s (take n xs) ∙ length-take-le n xs h)

  run_settles : (n : ℕ) → ((s t : S) (xs : List ℕ) → Octets xs → length xs ≡ n → state next s xs ≡ state next t xs) → (s t : S) (xs : List ℕ) → Octets xs → drop n (run out next s xs) ≡ drop n (run out next t xs)
  run_settles n meet s t xs o =
      elim (cases_lt (length xs) n) [
        | inl h ↦ drop_all n (run out next s xs) (omega (arith, run_length s xs)) ∙ sym (drop_all n (run out next t xs) (omega (arith, run_length t xs)))
        | inr h ↦ run_drop n s xs h ∙ ap (λ u. run out next u (drop n xs)) (meet s t (take n xs) (All-take (λ x. x < 256) n xs o) (length-take-le n xs h)) ∙ sym (run_drop n t xs h)
      ]

  pub settles : (n : ℕ) → ((s t : S) (xs : List ℕ) → Octets xs → length xs ≡ n → state next s xs ≡ state next t xs) → (s t : S) (heard heard' further : List ℕ) → Octets further → drop n (after (run out next s) heard further) ≡ drop n (after (run out next t) heard' further)
  settles n meet s t heard heard' further o =
      ap (drop n) (run_after s heard further) ∙ run_settles n meet (state next s heard) (state next t heard') further o ∙ sym (ap (drop n) (run_after t heard' further))

  -- a second machine over the same states undoes the first if each step does and leads to the same state
  pub run_undoes : (out' : S → ℕ → ℕ) (next' : S → ℕ → S) → ((s : S) (x : ℕ) → out' s (out s x) ≡ x) → ((s : S) (x : ℕ) → next' s (out s x) ≡ next s x) → (s : S) (xs : List ℕ) → run out' next' s (run out next s xs) ≡ xs
  unfolding run
  run_undoes out' next' same keep s [] = refl
  run_undoes out' next' same keep s (x ∷ xs) =
      ap₂ (λ y ys. y ∷ ys) (same s x) (ap (λ t. run out' next' t (run out next (next s x) xs)) (keep s x) ∙ run_undoes out' next' same keep (next s x) xs)
