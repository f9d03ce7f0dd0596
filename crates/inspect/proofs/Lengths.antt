-- A line of more than 8202 characters is no request.
use Rattle.std.proofs.Common.{◌≡◌, ℕ, suc, ◌+◌, ◌*◌, ◌<◌, ◌≤◌, Bool, true, false, cond, leb, List, [], ◌∷◌, ◌++◌, length, take, drop, Some, None, codes, Option, sym, refl, ap, ◌∙◌, ⊎_elim, arith, length-append, length-drop, le-leb}
use borrow.Author.Tests.{lt-leb}
use Rattle.std.specs.Str.{bytes_eq}
use Rattle.std.proofs.lemmas.List.{take_all, take-append-le, length-take-le}
use Rattle.std.proofs.lemmas.Bool.{cases_lt}
use Rattle.text.specs.Hex.{digit_value, both, behind, unhex}
use Rattle.inspect.specs.declared.code.Code.{Code}
use Rattle.inspect.specs.declared.code.Code.TheVariants.{Straight, Mirrored, Scrambler, Pile}
use Rattle.inspect.specs.Listing.{name, row, refused, beyond, spaced, asked, or_else, request, answer, answered, answer_line}
use Rattle.inspect.specs.Keeping.{kept, keeping, Enough}

-- two digits for each octet
behind_length : (p : Option ℕ) (q : Option (List ℕ)) (os : List ℕ) → behind p q ≡ Some os → (rest : List ℕ) × (q ≡ Some rest) × (length os ≡ suc (length rest))
behind_length (Some o) (Some rest) os e = let same : os ≡ o ∷ rest = cc in (rest, refl, ap length same)
behind_length (Some o) None os e = let z : ◌≡◌ {A = ℕ} 0 1 = cc in absurd (omega arith)
behind_length None q os e = let z : ◌≡◌ {A = ℕ} 0 1 = cc in absurd (omega arith)

unhex_length : (cs os : List ℕ) → unhex cs ≡ Some os → length cs ≡ 2 * length os
unfolding unhex
unhex_length [] os e = let same : os ≡ [] = cc in rw same refl
unhex_length (a ∷ []) os e = let z : ◌≡◌ {A = ℕ} 0 1 = cc in absurd (omega arith)
unhex_length (a ∷ b ∷ cs) os e =
    let rest = behind_length (both (digit_value a) (digit_value b)) (unhex cs) os e in
    let long = unhex_length cs rest.0 rest.1 in
    omega (arith, rest.2, long)

answer_long : (c : Code) (cs : List ℕ) (o : Option (List ℕ)) → unhex cs ≡ o → 8192 < length cs → answer c o ≡ refused
answer_long c cs None e h = refl
answer_long c cs (Some os) e h =
    let long = unhex_length cs os e in
    let past : leb (length os) 4096 ≡ false = lt-leb (length os) 4096 (omega arith) in
    ap (λ (b : Bool). cond b (row c os) refused) past

-- what stands beyond a front is as much shorter
beyond_length : (front text rest : List ℕ) (b : Bool) → cond b (Some (drop (length front) text)) None ≡ Some rest → length text ≤ length rest + length front
beyond_length front text rest true e = let same : rest ≡ drop (length front) text = cc in rw same (simp length-drop (omega arith))
beyond_length front text rest false e = let z : ◌≡◌ {A = ℕ} 0 1 = cc in absurd (omega arith)

spaced_length : (front line digits : List ℕ) (o : Option (List ℕ)) → beyond front line ≡ o → spaced o ≡ Some digits → length line ≤ length digits + 1 + length front
unfolding beyond
spaced_length front line digits (Some rest) e s =
    let near = beyond_length front line rest (bytes_eq (take (length front) line) front) e in
    let far = beyond_length (codes " ") rest digits (bytes_eq (take 1 rest) (codes " ")) s in
    omega (arith, near, far)
spaced_length front line digits None e s = let z : ◌≡◌ {A = ℕ} 0 1 = cc in absurd (omega arith)

short_name : (c : Code) → length (name c) ≤ 9
short_name Straight = omega arith
short_name Mirrored = omega arith
short_name Scrambler = omega arith
short_name Pile = omega arith

picked : (c : Code) (line : List ℕ) (o : Option (List ℕ)) (other : Option (Code × List ℕ)) → asked c line ≡ o → 8202 < length line → answered other ≡ refused → answered (or_else c o other) ≡ refused
picked c line (Some digits) other e h r =
    let long = spaced_length (name c) line digits (beyond (name c) line) refl e in
    answer_long c digits (unhex digits) refl (omega (arith, long, short_name c))
picked c line None other e h r = r

long_refused : (line : List ℕ) → 8202 < length line → answer_line line ≡ refused
unfolding request
long_refused line h =
    picked Straight line (asked Straight line) _ refl h
    (picked Mirrored line (asked Mirrored line) _ refl h
    (picked Scrambler line (asked Scrambler line) _ refl h (picked Pile line (asked Pile line) None refl h refl)))

kept_answers : (line : List ℕ) → answer_line (kept line) ≡ answer_line line
kept_answers line =
    ⊎_elim
    (λ (h : 8203 < length line). let long : 8202 < length (kept line) = omega (arith, length-take-le 8203 line (omega arith)) in
    let past : 8202 < length line = omega arith in
    long_refused (kept line) long ∙ sym (long_refused line past))
    (λ h. ap answer_line (take_all 8203 line h))
    (cases_lt 8203 (length line))

keeps : (held : List ℕ) (c : ℕ) (b : Bool) → leb (length held) 8202 ≡ b → keeping held c ≡ cond b (held ++ c ∷ []) held
keeps held c b e = ap (λ (t : Bool). cond t (held ++ c ∷ []) held) e

kept_more : (line : List ℕ) (c : ℕ) → keeping (kept line) c ≡ kept (line ++ c ∷ [])
kept_more line c =
    ⊎_elim
    (λ (h : 8202 < length line). let full : length (kept line) ≡ 8203 = length-take-le 8203 line (omega arith) in
    keeps (kept line) c false (lt-leb (length (kept line)) 8202 (omega arith)) ∙ sym (take-append-le 8203 line (c ∷ []) (omega arith)))
    (λ (h : length line ≤ 8202). let all : kept line ≡ line = take_all 8203 line (omega arith) in
    let fits : length (line ++ c ∷ []) ≤ 8203 = simp length-append (omega arith) in
    ap (λ held. keeping held c) all ∙ keeps line c true (le-leb (length line) 8202 h) ∙ sym (take_all 8203 (line ++ c ∷ []) fits))
    (cases_lt 8202 (length line))

pub enough : Enough
enough = record { none = refl; more = kept_more; answers = kept_answers }
