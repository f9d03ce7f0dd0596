-- The loop over a slice: octets are answered in their places, one after the other.
use Rattle.std.proofs.Common.{◌≡◌, ℕ, ◌+◌, ◌<◌, ◌≤◌, List, [], ◌∷◌, ◌++◌, length, get_or, take, drop, set, sym, ap, ◌∙◌, add-zero, arith}
use Rattle.std.proofs.lemmas.List.{append_assoc, append-nil, drop-drop, drop-set-lt, get_or-drop, nil_from_length, take_all, take_more, take_more_set}
use Rattle.codes.specs.Rules.{Rule, Runs, Steps}

-- what is yet to be answered stands as it stood
abbrev pub Untouched : ℕ → List ℕ → List ℕ → Type 0
Untouched i new old = drop i new ≡ drop i old

pub untouched_more : (old new : List ℕ) (i y : ℕ) → Untouched i new old → Untouched (i + 1) (set new i y) old
untouched_more old new i y e = drop-set-lt (i + 1) new i y (omega arith) ∙ sym (drop-drop 1 i new) ∙ ap (drop 1) e ∙ drop-drop 1 i old

pub untouched_at : (old new : List ℕ) (i : ℕ) → Untouched i new old → get_or old i 0 ≡ get_or new i 0
untouched_at old new i e =
    let at : (xs : List ℕ) → get_or (drop i xs) 0 0 ≡ get_or xs i 0 = λ xs. get_or-drop i xs 0 0 ∙ ap (λ k. get_or xs k 0) (add-zero i) in
    sym (at old) ∙ ap (λ xs. get_or xs 0 0) (sym e) ∙ at new

-- one octet more
pub runs_more : (f h h' : List ℕ → List ℕ) (old new : List ℕ) (i y : ℕ) → i < length old → i < length new → Untouched i new old → get_or new i 0 < 256 →
    Runs f (take i old) (take i new) h → Steps h (get_or new i 0) y h' → Runs f (take (i + 1) old) (take (i + 1) (set new i y)) h'
runs_more f h h' old new i y lo ln same fits so_far step xs o =
    let read : get_or new i 0 ≡ get_or old i 0 = sym (untouched_at old new i same) in
    let given : take (i + 1) old ++ xs ≡ take i old ++ (get_or new i 0 ∷ xs) =
    ap (λ zs. zs ++ xs) (take_more old i 0 lo) ∙ append_assoc (take i old) (get_or old i 0 ∷ []) xs ∙ ap (λ z. take i old ++ (z ∷ xs)) (sym read) in
    let answers : take (i + 1) (set new i y) ++ h' xs ≡ take i new ++ (y ∷ h' xs) =
    ap (λ zs. zs ++ h' xs) (take_more_set new i y ln) ∙ append_assoc (take i new) (y ∷ []) (h' xs) in
    ap f given ∙ so_far (get_or new i 0 ∷ xs) (fits, o) ∙ ap (λ zs. take i new ++ zs) (step xs o) ∙ sym answers

-- all of them
pub runs_all : (f h : List ℕ → List ℕ) (old new : List ℕ) (i : ℕ) → length old ≤ i → length new ≤ i → Runs f (take i old) (take i new) h → Runs f old new h
runs_all f h old new i lo ln so_far xs o =
    ap (λ zs. f (zs ++ xs)) (sym (take_all i old lo)) ∙ so_far xs o ∙ ap (λ zs. zs ++ h xs) (take_all i new ln)

pub runs_whole : (f h : List ℕ → List ℕ) (old new : List ℕ) → Rule h → Runs f old new h → new ≡ f old
runs_whole f h old new r all =
    sym (ap f (sym (append-nil old)) ∙ all [] tt ∙ ap (λ zs. new ++ zs) (nil_from_length (h []) (r.long [] tt)) ∙ append-nil new)
