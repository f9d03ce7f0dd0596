-- Octets put through a line code at the front of a stretch.
use Rattle.std.proofs.Common.{◌≡◌, ◌==◌, ℕ, zero, suc, ◌+◌, ◌*◌, ◌<◌, ◌≤◌, Option, Bool, true, false, cond, Some, None, List, [], ◌∷◌, ◌++◌, length, drop, take, replicate, slice_set, is_some, sym, refl, ap, ◌∙◌, append_assoc, arith, length-append, length-drop}
use Rattle.std.specs.Iterator.{AlwaysYields, Yields}
use Rattle.std.specs.List.{count_by, flat_map}
use Rattle.std.proofs.lemmas.List.{map-id, take_at, take_all, drop_at, drop-drop, set_split, length_push, flat_map_more, replicate_more}
use Rattle.std.proofs.lemmas.List.Sums.{sum_by-cons}
use Rattle.std.proofs.lemmas.Iterator.Consumers.{YieldsList-so_far, YieldsList-end}
use Rattle.octets.specs.Octets.{Octets}
use Rattle.codes.specs.Rules.{Rule, Steps}
use Rattle.codes.specs.Remainders.{answer_append, answer_nil, after_after}
use Rattle.frames.specs.Layout.{flag, escape, stuffed, stuff, adaptations, adapting_octets, filling_octets}
use Rattle.sender.specs.Stuffing.{escaped}
use Rattle.sender.specs.Writing.{Put, repeated}

-- none
pub put_none : (f : List ℕ → List ℕ) → Rule f → (before : List ℕ) → Put f f [] before before
put_none f rule before = record { stretch = rw (answer_nil f rule) refl; line = λ xs o. refl }

-- one octet more
pub put_more : (f f' f'' : List ℕ → List ℕ) → Rule f → Rule f'' → (os : List ℕ) (x y : ℕ) (before mid : List ℕ)
    → Octets os → x < 256 → length os < length before → Put f f' os before mid → Steps f' x y f''
    → Put f f'' (os ++ x ∷ []) before (slice_set mid (length os) y)
put_more f f' f'' rule rule'' os x y before mid o ox room p step =
    record {
      stretch = set_split mid (length os) y inside ∙ rw (front, back, answer) (simp append_assoc);
      line = λ xs oxs. sym (ap (drop 1) (step xs oxs)) ∙ ap (drop 1) (p.line (x ∷ xs) (ox, oxs)) ∙ after_after f os (x ∷ []) xs;
    }
  where
    inside : length os < length mid
    inside = omega (arith, ap length p.stretch, length-append (f os) (drop (length os) before), rule.long os o, length-drop (length os) before)

    front : take (length os) mid ≡ f os
    front = ap (take (length os)) p.stretch ∙ take_at (f os) (drop (length os) before) (length os) (rule.long os o)

    back : drop (suc (length os)) mid ≡ drop (length (os ++ x ∷ [])) before
    back =
        let a : suc (length os) ≡ length os + 1 = omega arith in
        let b : length os + 1 ≡ length (os ++ x ∷ []) = omega (arith, length_push os x) in
        ap (λ k. drop k mid) a
        ∙ sym (drop-drop 1 (length os) mid)
        ∙ ap (drop 1) (ap (drop (length os)) p.stretch ∙ drop_at (f os) (drop (length os) before) (length os) (rule.long os o))
        ∙ drop-drop 1 (length os) before
        ∙ ap (λ k. drop k before) b

    answer : f (os ++ x ∷ []) ≡ f os ++ y ∷ []
    answer =
        answer_append f rule os (x ∷ []) o (ox, tt)
        ∙ ap (λ l. f os ++ l) (sym (p.line (x ∷ []) (ox, tt)) ∙ step [] tt ∙ ap (λ l. y ∷ l) (answer_nil f'' rule''))

-- what was yielded is all, where it is as long
pub yielded_all : {S : Type 0} (steps : S → Option ℕ → S → Type 0) (s : S) (os xs : List ℕ) (t : S)
    → AlwaysYields steps (λ o. o) s os → Yields steps s xs t → length os ≤ length xs → xs ≡ os
yielded_all steps s os xs t all y h =
    sym (map-id xs) ∙ YieldsList-so_far {steps = steps} {s = s} (record { runs = all }) xs t y ∙ take_all (length xs) os h

-- and where nothing follows
pub yielded_at_end : {S : Type 0} (steps : S → Option ℕ → S → Type 0) (s : S) (os xs : List ℕ) (t u : S)
    → AlwaysYields steps (λ o. o) s os → Yields steps s xs t → steps t None u → xs ≡ os
yielded_at_end steps s os xs t u all y n =
    sym (map-id xs) ∙ (YieldsList-end {steps = steps} {s = s} (record { runs = all }) xs t y None u refl n).0

-- a stuffed octet is one octet, or two where an escape goes out
stuffed_long : (o : ℕ) → length (stuffed o) ≡ cond (is_some {T = ℕ} (escaped o)) 1 0 + 1
stuffed_long o = by (o == flag) (o == escape)
  where
    by : (b c : Bool) → length (cond b (escape ∷ 0x5e ∷ []) (cond c (escape ∷ 0x5d ∷ []) (o ∷ []))) ≡ cond (is_some {T = ℕ} (cond b (Some 0x5e) (cond c (Some 0x5d) None))) 1 0 + 1
    by true c = refl
    by false true = refl
    by false false = refl

pub stuff_long : (os : List ℕ) → length (stuff os) ≡ length os + count_by (λ o. is_some (escaped o)) os
stuff_long [] = refl
stuff_long (o ∷ os) =
    omega (arith, length-append (stuffed o) (stuff os), stuffed_long o, stuff_long os, sum_by-cons (λ x. cond (is_some {T = ℕ} (escaped x)) 1 0) o os)

-- fillings and adaptations are turns
pub repeated_long : (turn : List ℕ) (k : ℕ) → length (repeated turn k) ≡ length turn * k
repeated_long turn zero = omega arith
repeated_long turn (suc k) = omega (arith, length-append turn (repeated turn k), repeated_long turn k)

pub filling_repeated : (k : ℕ) → repeated (flag ∷ []) k ≡ filling_octets k
filling_repeated zero = refl
filling_repeated (suc k) = ap (λ l. flag ∷ l) (filling_repeated k)

pub adapting_repeated : (k : ℕ) → repeated (escape ∷ 0xdd ∷ []) k ≡ adapting_octets k
unfolding adaptations
adapting_repeated zero = refl
adapting_repeated (suc k) = ap (λ l. escape ∷ 0xdd ∷ l) (adapting_repeated k)

pub repeated_more : (turn : List ℕ) (k : ℕ) → repeated turn k ++ turn ≡ repeated turn (k + 1)
repeated_more turn k = flat_map_more (λ os. os) [] (replicate k turn) turn ∙ ap (flat_map (λ os. os)) (replicate_more k turn)

-- where a turn is still to come, there is room for it
pub turns_within : (n k m : ℕ) → k < m → n * k + n ≤ n * m
turns_within n k zero h = absurd (omega arith)
turns_within n zero (suc m) h = omega arith
turns_within n (suc k) (suc m) h = let w = turns_within n k m (omega (arith, h)) in omega (arith, w)
