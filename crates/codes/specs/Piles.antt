-- One rule behind another: again a rule, and what settles behind what settles.
use Rattle.std.specs.Prelude.{◌≡◌, ℕ, ◌+◌, ◌<◌, ◌≤◌, List, [], ◌++◌, length, take, drop}
use Rattle.std.proofs.Common.{sym, ap, ◌∙◌, inl, inr, add_comm, arith}
use Rattle.std.proofs.lemmas.List.{length-take-le, take-append-drop, drop_all, drop-drop}
use Rattle.std.proofs.ByRecursion.{All-drop, All-take}
use Rattle.std.proofs.lemmas.Bool.{cases_lt}
use Rattle.octets.specs.Octets.{Octets}
use Rattle.codes.specs.Rules.{Rule, after}
use Rattle.octets.proofs.Joined.{octets_append}
use Rattle.codes.specs.Remainders.{answer_append, after_rule, after_after}

module _ (f g : List ℕ → List ℕ) (rf : Rule f) (rg : Rule g) where
  pub pile_rule : Rule (λ xs. g (f xs))
  pile_rule = record {
    long = λ xs o. rg.long (f xs) (rf.octets xs o) ∙ rf.long xs o;
    octets = λ xs o. rg.octets (f xs) (rf.octets xs o);
    beginning = λ xs ys o p.
        ap (λ zs. take (length xs) (g zs)) (answer_append f rf xs ys o p)
        ∙ ap (λ n. take n (g (f xs ++ after f xs ys))) (sym (rf.long xs o))
        ∙ rg.beginning (f xs) (after f xs ys) (rf.octets xs o) ((after_rule f rf xs o).octets ys p);
  }

  pile_after : (xs ys : List ℕ) → Octets xs → Octets ys → after (λ zs. g (f zs)) xs ys ≡ after g (f xs) (after f xs ys)
  pile_after xs ys o p =
      ap (λ zs. drop (length xs) (g zs)) (answer_append f rf xs ys o p) ∙ ap (λ n. drop n (g (f xs ++ after f xs ys))) (sym (rf.long xs o))

  -- past the first m octets, which the first rule may still be settling on
  pile_drop : (m n : ℕ) (xs ys : List ℕ) → Octets xs → Octets ys → m ≤ length ys →
      drop (n + m) (after (λ zs. g (f zs)) xs ys) ≡ drop n (after g (f xs ++ take m (after f xs ys)) (drop m (after f xs ys)))
  pile_drop m n xs ys o p h =
      let inner = after f xs ys in
      let long : length (take m inner) ≡ m = length-take-le m inner (omega (arith, (after_rule f rf xs o).long ys p)) in
      ap (drop (n + m)) (pile_after xs ys o p)
      ∙ ap (λ k. drop k (after g (f xs) inner)) (add_comm n m)
      ∙ sym (drop-drop n m (after g (f xs) inner))
      ∙ ap (λ zs. drop n (drop m (after g (f xs) zs))) (sym (take-append-drop m inner))
      ∙ ap (λ k. drop n (drop k (after g (f xs) (take m inner ++ drop m inner)))) (sym long)
      ∙ ap (drop n) (after_after g (f xs) (take m inner) (drop m inner))

  -- nothing is left past as many octets as were given
  pile_none : (k : ℕ) (xs ys : List ℕ) → Octets xs → Octets ys → length ys ≤ k → drop k (after (λ zs. g (f zs)) xs ys) ≡ []
  pile_none k xs ys o p h = drop_all k (after (λ zs. g (f zs)) xs ys) (omega (arith, (after_rule (λ zs. g (f zs)) pile_rule xs o).long ys p))

-- whatever two rules have heard, they come to answer alike
abbrev Meet : ℕ → (List ℕ → List ℕ) → (List ℕ → List ℕ) → Type 0
Meet n f f' = (heard heard' further : List ℕ) → Octets heard → Octets heard' → Octets further → drop n (after f heard further) ≡ drop n (after f' heard' further)

-- the first rules settle, and have heard what they have heard; from there on the second ones hear the same, each after what it
-- has heard itself
pub pile_settles : (f g f' g' : List ℕ → List ℕ) → Rule f → Rule g → Rule f' → Rule g' → (m n : ℕ) → Meet m f f' → Meet n g g' → Meet (n + m) (λ xs. g (f xs)) (λ xs. g' (f' xs))
pile_settles f g f' g' rf rg rf' rg' m n mf mg xs xs' ys o o' p =
    elim (cases_lt (length ys) m) [
      | inl h ↦ pile_none f g rf rg (n + m) xs ys o p (omega arith) ∙ sym (pile_none f' g' rf' rg' (n + m) xs' ys o' p (omega arith))
      | inr h ↦
          pile_drop f g rf rg m n xs ys o p h
          ∙ mg (f xs ++ take m (after f xs ys)) (f' xs' ++ take m (after f' xs' ys)) (drop m (after f xs ys)) (heard f rf xs o) (heard f' rf' xs' o') (All-drop (λ x. x < 256) m (after f xs ys) ((after_rule f rf xs o).octets ys p))
          ∙ ap (λ zs. drop n (after g' (f' xs' ++ take m (after f' xs' ys)) zs)) (mf xs xs' ys o o' p)
          ∙ sym (pile_drop f' g' rf' rg' m n xs' ys o' p h)
    ]
  where
    heard : (e : List ℕ → List ℕ) → Rule e → (zs : List ℕ) → Octets zs → Octets (e zs ++ take m (after e zs ys))
    heard e re zs q = octets_append (e zs) (take m (after e zs ys)) (re.octets zs q) (All-take (λ x. x < 256) m (after e zs ys) ((after_rule e re zs q).octets ys p))
