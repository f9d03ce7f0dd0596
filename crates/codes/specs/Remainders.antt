-- Rules and their remainders.
use Rattle.std.specs.Prelude.{◌≡◌, ℕ, ◌+◌, ◌<◌, ◌≤◌, List, [], ◌++◌, length, take, drop}
use Rattle.std.proofs.Common.{append_assoc, ⊎_elim, sym, ap, ◌∙◌, arith, length-drop, length-append}
use Rattle.std.proofs.lemmas.List.{take-append-drop, take_all, drop_all, drop-drop, drop-take, length-take-le, nil_from_length}
use Rattle.std.proofs.lemmas.Bool.{cases_lt}
use Rattle.std.proofs.ByRecursion.{All-take, All-drop}
use Rattle.octets.specs.Octets.{Octets}
use Rattle.octets.proofs.Joined.{octets_append}
use Rattle.codes.specs.Rules.{Rule, after}

-- the remainder's remainder
pub after_after : (f : List ℕ → List ℕ) (xs ys zs : List ℕ) → after (after f xs) ys zs ≡ after f (xs ++ ys) zs
after_after f xs ys zs = drop-drop (length ys) (length xs) (f (xs ++ (ys ++ zs))) ∙ rw (length-append xs ys, append_assoc xs ys zs)

module _ (f : List ℕ → List ℕ) (rule : Rule f) where
  -- the answer to a list is the answer to its beginning and then the remainder's
  pub answer_append : (xs ys : List ℕ) → Octets xs → Octets ys → f (xs ++ ys) ≡ f xs ++ after f xs ys
  answer_append xs ys ox oy =
      sym (take-append-drop (length xs) (f (xs ++ ys))) ∙ ap (λ l. l ++ after f xs ys) (rule.beginning xs ys ox oy)

  pub answer_nil : f [] ≡ []
  answer_nil = nil_from_length (f []) (rule.long [] tt)

  -- the answer's beginning is the beginning's answer
  pub answer_take : (n : ℕ) (xs : List ℕ) → Octets xs → take n (f xs) ≡ f (take n xs)
  answer_take n xs o = ⊎_elim inside past (cases_lt (length xs) n)
    where
      inside : length xs < n → take n (f xs) ≡ f (take n xs)
      inside h =
          let a : length (f xs) ≤ n = omega (arith, rule.long xs o) in
          let b : length xs ≤ n = omega arith in
          take_all n (f xs) a ∙ ap f (sym (take_all n xs b))

      past : n ≤ length xs → take n (f xs) ≡ f (take n xs)
      past h =
          let front = rule.beginning (take n xs) (drop n xs) (All-take (λ x. x < 256) n xs o) (All-drop (λ x. x < 256) n xs o) in
          rw (take-append-drop n xs, length-take-le n xs h) at front

  pub answer_drop : (n : ℕ) (xs : List ℕ) → Octets xs → drop n (f xs) ≡ after f (take n xs) (drop n xs)
  answer_drop n xs o = ⊎_elim inside past (cases_lt (length xs) n)
    where
      inside : length xs < n → drop n (f xs) ≡ after f (take n xs) (drop n xs)
      inside h =
          let a : length (f xs) ≤ n = omega (arith, rule.long xs o) in
          let b : length xs ≤ n = omega arith in
          let c : length (f xs) ≤ length xs = omega (arith, rule.long xs o) in
          rw (take-append-drop n xs, take_all n xs b) (drop_all n (f xs) a ∙ sym (drop_all (length xs) (f xs) c))

      past : n ≤ length xs → drop n (f xs) ≡ after f (take n xs) (drop n xs)
      past h = rw (take-append-drop n xs, length-take-le n xs h)

  pub after_rule : (heard : List ℕ) → Octets heard → Rule (after f heard)
  after_rule h oh = record { long = long; octets = octets; beginning = beginning }
    where
      long : (xs : List ℕ) → Octets xs → length (after f h xs) ≡ length xs
      long xs o = rw (length-drop, rule.long (h ++ xs) (octets_append h xs oh o), length-append) (omega arith)

      octets : (xs : List ℕ) → Octets xs → Octets (after f h xs)
      octets xs o = All-drop (λ x. x < 256) (length h) (f (h ++ xs)) (rule.octets (h ++ xs) (octets_append h xs oh o))

      beginning : (xs ys : List ℕ) → Octets xs → Octets ys → take (length xs) (after f h (xs ++ ys)) ≡ after f h xs
      beginning xs ys ox oy =
          let front = rule.beginning (h ++ xs) ys (octets_append h xs oh ox) oy in
          let a : take (length h + length xs) (f (h ++ (xs ++ ys))) ≡ f (h ++ xs) = rw (append_assoc h xs ys, length-append h xs) at front in
          sym (drop-take (length h) (length xs) (f (h ++ (xs ++ ys)))) ∙ ap (drop (length h)) a
