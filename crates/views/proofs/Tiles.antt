-- The parts of a view tile its information.
use Rattle.std.proofs.Common.{◌≡◌, ℕ, ◌+◌, ◌-◌, ◌≤◌, Bool, true, false, cond, eqb, ltb, List, [], ◌∷◌, ◌++◌, length, take, drop, Result, Err, sym, refl, ap, ◌∙◌, subst, arith}
use Rattle.std.proofs.lemmas.List.{length-take-le, length-drop, take-append-drop, drop-drop, drop_all}
use Rattle.std.proofs.lemmas.Bool.{cond_both, ltb-false, or_parts}
use Rattle.views.specs.declared.parts.Refusal.{Refusal}
use Rattle.views.specs.Views.{Piece, piece, parts, joined, Placed, Tiled, unless, held, Viewed, mac, ipv4, ipv6, viewed, mac_parts, mac_tests, mac_viewed, ipv4_parts, ipv4_tests, ipv4_viewed, header_length, total_length, ipv6_parts, ipv6_tests, ipv6_viewed, payload_length}

-- the parts between places that rise to the end
cuts : List ℕ → ℕ → List ℕ → List Piece
cuts info a [] = []
cuts info a (b ∷ bs) = piece info a b ∷ cuts info b bs

Rising : ℕ → List ℕ → ℕ → Type 0
Rising a [] n = a ≡ n
Rising a (b ∷ bs) n = (a ≤ b) × (b ≤ n) × Rising b bs n

piece_length : (info : List ℕ) (a b : ℕ) → a ≤ b → b ≤ length info → length (take (b - a) (drop a info)) ≡ b - a
piece_length info a b h k = length-take-le (b - a) (drop a info) (simp length-drop (omega arith))

cuts_joined : (info : List ℕ) (a : ℕ) (bs : List ℕ) → Rising a bs (length info) → joined (cuts info a bs) ≡ drop a info
unfolding cuts Rising
cuts_joined info a [] e = sym (drop_all a info (omega arith))
cuts_joined info a (b ∷ bs) r =
    let e : a + (b - a) ≡ b = omega (arith, r.0) in
    let d : drop b info ≡ drop (b - a) (drop a info) = sym (drop-drop (b - a) a info ∙ ap (λ n. drop n info) e) in
    ap (λ xs. take (b - a) (drop a info) ++ xs) (cuts_joined info b bs r.2 ∙ d) ∙ take-append-drop (b - a) (drop a info)

cuts_placed : (info : List ℕ) (a : ℕ) (bs : List ℕ) → Rising a bs (length info) → Placed info a (cuts info a bs)
unfolding cuts Rising
cuts_placed info a [] e = tt
cuts_placed info a (b ∷ bs) r =
    let l : length (take (b - a) (drop a info)) ≡ b - a = piece_length info a b r.0 r.1 in
    let e : b ≡ a + length (take (b - a) (drop a info)) = omega (arith, r.0) in
    (refl, ap (λ n. take n (drop a info)) (sym l), subst (λ n. Placed info n (cuts info b bs)) e (cuts_placed info b bs r.2))

tiled : (info : List ℕ) (bs : List ℕ) → Rising 0 bs (length info) → Placed info 0 (cuts info 0 bs) × (joined (cuts info 0 bs) ≡ info)
tiled info bs r = (cuts_placed info 0 bs r, cuts_joined info 0 bs r)

-- what is given was not refused
NoneApply : List (Bool × Refusal) → Type 0
NoneApply [] = Unit {0}
NoneApply (t ∷ ts) = (t.0 ≡ false) × NoneApply ts

unless_tiled : {X : Type 0} (info : List ℕ) (kind : X → Viewed) (ts : List (Bool × Refusal)) (x : X) →
    (NoneApply ts → Placed info 0 (parts (kind x)) × (joined (parts (kind x)) ≡ info)) → Tiled info (held kind (unless ts x))
unfolding NoneApply
unless_tiled info kind [] x h = h tt
unless_tiled info kind (t ∷ ts) x h =
    elim t.0 as (λ b. ((b ≡ false) × NoneApply ts → Placed info 0 (parts (kind x)) × (joined (parts (kind x)) ≡ info)) → Tiled info (held kind (cond b (Err t.1) (unless ts x))))
    [ true ↦ λ k. tt | false ↦ λ k. unless_tiled info kind ts x (λ n. k (refl, n)) ] h

mac_tiled : (info : List ℕ) → Tiled info (held mac (mac_viewed info))
unfolding NoneApply cuts Rising
mac_tiled info =
    unless_tiled info mac (mac_tests info) (mac_parts info)
    (λ n. let long : 64 ≤ length info = ltb-false (length info) 64 (or_parts (ltb (length info) 64) (ltb 1518 (length info)) n.0).0 in
    tiled info (6 ∷ 12 ∷ 14 ∷ (length info - 4) ∷ length info ∷ [])
    (omega arith, omega arith, (omega arith, omega arith, (omega arith, omega arith, (omega arith, omega arith, (omega arith, omega arith, refl))))))

ipv4_tiled : (info : List ℕ) → Tiled info (held ipv4 (ipv4_viewed info))
unfolding NoneApply cuts Rising
ipv4_tiled info =
    unless_tiled info ipv4 (ipv4_tests info) (ipv4_parts info)
    (λ n. let h = header_length info in
    let t = total_length info in
    let header = or_parts (ltb h 20) (ltb (length info) h) n.1.1.0 in
    let total = or_parts (ltb t h) (ltb (length info) t) n.1.1.1.0 in
    let a : 20 ≤ h = ltb-false h 20 header.0 in
    let b : h ≤ length info = ltb-false (length info) h header.1 in
    let c : h ≤ t = ltb-false t h total.0 in
    let d : t ≤ length info = ltb-false (length info) t total.1 in
    tiled info (20 ∷ h ∷ t ∷ length info ∷ []) (omega arith, omega arith, (a, b, (c, d, (d, omega arith, refl)))))

ipv6_tiled : (info : List ℕ) → Tiled info (held ipv6 (ipv6_viewed info))
unfolding NoneApply cuts Rising
ipv6_tiled info =
    unless_tiled info ipv6 (ipv6_tests info) (ipv6_parts info)
    (λ n. let p = payload_length info in
    let a : 40 ≤ length info = ltb-false (length info) 40 n.0 in
    let b : p ≤ length info - 40 = ltb-false (length info - 40) p n.1.1.0 in
    tiled info (40 ∷ (40 + p) ∷ length info ∷ []) (omega arith, omega arith, (omega arith, omega arith, (omega arith, omega arith, refl))))

all_tiled : (sapi : ℕ) (info : List ℕ) → Tiled info (viewed sapi info)
all_tiled sapi info =
    cond_both (eqb sapi 0xfe01) _ _ (Tiled info) (λ _. mac_tiled info)
    (λ _. cond_both (eqb sapi 0x0021) _ _ (Tiled info) (λ _. ipv4_tiled info)
    (λ _. cond_both (eqb sapi 0x0057) _ _ (Tiled info) (λ _. ipv6_tiled info) (λ _. tt)))

pub viewed_tiled : (sapi : ℕ) (info : List ℕ) (r : Result Viewed Refusal) → r ≡ viewed sapi info → Tiled info r
viewed_tiled sapi info r e = subst (Tiled info) (sym e) (all_tiled sapi info)
