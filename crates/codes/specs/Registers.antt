-- The scrambler's register: a step of eight bits is a step of one octet.
use Rattle.std.specs.Prelude.{◌≡◌, ℕ, zero, suc, ◌+◌, ◌*◌, ◌/◌, ◌%◌, ◌^◌, ◌<◌, Bool, true, false, List, [], ◌∷◌, ◌++◌, length, take, drop, slice_index, slice_index_or, refl}
use Rattle.std.proofs.Common.{sym, ap, ap₂, ◌∙◌, suc-add, zero-add, div-one, not-suc-le-zero, le_of_suc-le-suc, add-one, one-add, arith, shr-shr, lit<}
use Rattle.std.proofs.Math.Nat.{mod-one}
use Rattle.std.specs.Int.Bits.{bit_xor, block_half, block_odd}
use Rattle.std.proofs.lemmas.Nat.{xor_shr, xor_mod, xor_lt, mod-pow-add}
use Rattle.std.proofs.Math.Pow.{field, high, low, mod-mod-pow}
use Rattle.std.proofs.lemmas.List.{get_or-take, take-take}
use Rattle.octets.specs.Bits.{bit, high_first, low_first}
use Rattle.octets.specs.Octets.{Octets}
use Rattle.octets.proofs.Xor.{xor_twice}
use Rattle.codes.specs.Bitline.{scrambled_bits, descrambled_bits, bits_of, octet, octets_of, low_bits, scrambled, descrambled}
use Rattle.codes.specs.Rules.{Rule, Alike, Undoes, Steps, after}
use Rattle.octets.proofs.Joined.{octets_append}
use Rattle.codes.specs.Machine.{run, state, rule_alike, run_rule, run_undoes, settles}

octet_of_bits : (y : ℕ) → y < 256 → octet (bit y 7) (bit y 6) (bit y 5) (bit y 4) (bit y 3) (bit y 2) (bit y 1) (bit y 0) ≡ y
octet_of_bits y h = omega arith

bit_of_xor : (x y k : ℕ) → bit_xor (bit x k) (bit y k) ≡ bit (bit_xor x y) k
bit_of_xor x y k = sym (ap (λ n. n % 2) (xor_shr x y k) ∙ xor_mod (x / 2 ^ k) (y / 2 ^ k) 1)

-- ---- bits of a register

-- a number whose low i bits are b and whose others are a
low_bits_block : (i k a b : ℕ) → b < 2 ^ i → low_bits (i + k) (a * 2 ^ i + b) ≡ low_bits i b ++ low_bits k a
unfolding low_bits
low_bits_block zero k a b h =
    let e : a * 1 + b ≡ a = omega arith in ap (λ n. low_bits n (a * 1 + b)) (zero-add k) ∙ ap (low_bits k) e
low_bits_block (suc i) k a b h =
    rw suc-add (ap₂ (λ x xs. x ∷ xs) (block_odd a i b) (ap (low_bits (i + k)) (block_half a i b) ∙ low_bits_block i k a (b / 2) (omega arith)))

low_bits_mod : (k n : ℕ) → low_bits k (n % 2 ^ k) ≡ low_bits k n
unfolding low_bits
low_bits_mod zero n = refl
low_bits_mod (suc k) n =
    let same : n % 2 ^ suc k ≡ n % 2 ^ (k + 1) = ap (λ m. n % 2 ^ m) (sym (add-one k)) in
    ap₂ (λ x xs. x ∷ xs) (ap (λ m. m % 2) same ∙ mod-mod-pow n k 1) (ap (λ m. low_bits k (m / 2)) same ∙ ap (low_bits k) (field n k 1) ∙ low_bits_mod k (n / 2))

low_bits_at : (n r k : ℕ) → k < n → slice_index (low_bits n r) k ≡ bit r k
unfolding low_bits
low_bits_at zero r k h = absurd (not-suc-le-zero h)
low_bits_at (suc n) r zero h = ap (λ m. m % 2) (sym (div-one r))
low_bits_at (suc n) r (suc k) h = low_bits_at n (r / 2) k (le_of_suc-le-suc h) ∙ ap (λ m. m % 2) (shr-shr r 1 k ∙ ap (λ m. r / 2 ^ m) (one-add k))

-- ---- the two directions at once: which bit the line keeps

-- what enters the register: of sending the line octet or bit, of receiving the given one
abbrev fed : Bool → ℕ → ℕ → ℕ
fed true given answer = answer
fed false given answer = given

unfoldable coded_bits : Bool → List ℕ → List ℕ → List ℕ
coded_bits d past [] = []
coded_bits d past (b ∷ bs) = bit_xor b (slice_index past 42) ∷ coded_bits d (fed d b (bit_xor b (slice_index past 42)) ∷ past) bs

scrambled_bits_is : (past bs : List ℕ) → scrambled_bits past bs ≡ coded_bits true past bs
unfolding scrambled_bits coded_bits
scrambled_bits_is past [] = refl
scrambled_bits_is past (b ∷ bs) = ap (λ xs. bit_xor b (slice_index past 42) ∷ xs) (scrambled_bits_is (bit_xor b (slice_index past 42) ∷ past) bs)

descrambled_bits_is : (past bs : List ℕ) → descrambled_bits past bs ≡ coded_bits false past bs
unfolding descrambled_bits coded_bits
descrambled_bits_is past [] = refl
descrambled_bits_is past (b ∷ bs) = ap (λ xs. bit_xor b (slice_index past 42) ∷ xs) (descrambled_bits_is (b ∷ past) bs)

-- only the last 43 bits of the line matter
recent : (d : Bool) (past past' bs : List ℕ) → take 43 past ≡ take 43 past' → coded_bits d past bs ≡ coded_bits d past' bs
unfolding coded_bits
recent d past past' [] e = refl
recent d past past' (b ∷ bs) e =
    let same : slice_index_or past 42 0 ≡ slice_index_or past' 42 0 = sym (get_or-take 43 past 42 0 (omega arith)) ∙ ap (λ xs. slice_index xs 42) e ∙ get_or-take 43 past' 42 0 (omega arith) in
    let shorter : take 42 past ≡ take 42 past' = sym (take-take 42 43 past (omega arith)) ∙ ap (take 42) e ∙ take-take 42 43 past' (omega arith) in
    rw same (ap (λ xs. bit_xor b (slice_index past' 42) ∷ xs) (recent d (fed d b (bit_xor b (slice_index past' 42)) ∷ past) (fed d b (bit_xor b (slice_index past' 42)) ∷ past') bs (ap (λ xs. fed d b (bit_xor b (slice_index past' 42)) ∷ xs) shorter)))

-- ---- a step of eight bits

abbrev pub tap : ℕ → ℕ
tap r = r / 2 ^ 35 % 2 ^ 8

-- the register once an octet has entered
abbrev pub entered : ℕ → ℕ → ℕ
entered r y = r % 2 ^ 35 * 2 ^ 8 + y

-- the line's bits once an octet whose bits are b .. i has entered
eight : (d : Bool) (past bs : List ℕ) (a b c e f g h i : ℕ) →
    octets_of (coded_bits d past (a ∷ b ∷ c ∷ e ∷ f ∷ g ∷ h ∷ i ∷ bs)) ≡
    octet (bit_xor a (slice_index past 42)) (bit_xor b (slice_index past 41)) (bit_xor c (slice_index past 40)) (bit_xor e (slice_index past 39)) (bit_xor f (slice_index past 38)) (bit_xor g (slice_index past 37)) (bit_xor h (slice_index past 36)) (bit_xor i (slice_index past 35))
    ∷ octets_of (coded_bits d (fed d i (bit_xor i (slice_index past 35)) ∷ fed d h (bit_xor h (slice_index past 36)) ∷ fed d g (bit_xor g (slice_index past 37)) ∷ fed d f (bit_xor f (slice_index past 38)) ∷ fed d e (bit_xor e (slice_index past 39)) ∷ fed d c (bit_xor c (slice_index past 40)) ∷ fed d b (bit_xor b (slice_index past 41)) ∷ fed d a (bit_xor a (slice_index past 42)) ∷ past) bs)
unfolding coded_bits octets_of
eight d past bs a b c e f g h i = refl

-- the eight bits that leave the register answer as one octet, and what enters it is one octet's bits, the lowest latest
octet_step : (d : Bool) (past bs : List ℕ) (o t : ℕ) → o < 256 → t < 256 → ((i : ℕ) → i < 8 → slice_index past (35 + i) ≡ bit t i) →
    octets_of (coded_bits d past (high_first o ++ bs)) ≡ bit_xor o t ∷ octets_of (coded_bits d (low_first (fed d o (bit_xor o t)) ++ past) bs)
octet_step d past bs o t ho ht taps =
    eight d past bs (bit o 7) (bit o 6) (bit o 5) (bit o 4) (bit o 3) (bit o 2) (bit o 1) (bit o 0)
    ∙ ap₂ (λ x xs. x ∷ xs) same_octet (ap (λ p. octets_of (coded_bits d p bs)) same_past)
  where
    answered : (i : ℕ) → i < 8 → bit_xor (bit o i) (slice_index past (35 + i)) ≡ bit (bit_xor o t) i
    answered i h = ap (bit_xor (bit o i)) (taps i h) ∙ bit_of_xor o t i

    kept : (d : Bool) (i : ℕ) → i < 8 → fed d (bit o i) (bit_xor (bit o i) (slice_index past (35 + i))) ≡ bit (fed d o (bit_xor o t)) i
    kept true i h = answered i h
    kept false i h = refl

    same_octet : octet (bit_xor (bit o 7) (slice_index past 42)) (bit_xor (bit o 6) (slice_index past 41)) (bit_xor (bit o 5) (slice_index past 40)) (bit_xor (bit o 4) (slice_index past 39)) (bit_xor (bit o 3) (slice_index past 38)) (bit_xor (bit o 2) (slice_index past 37)) (bit_xor (bit o 1) (slice_index past 36)) (bit_xor (bit o 0) (slice_index past 35)) ≡ bit_xor o t
    same_octet =
        rw (answered 0 (lit< tt), answered 1 (lit< tt), answered 2 (lit< tt), answered 3 (lit< tt), answered 4 (lit< tt), answered 5 (lit< tt), answered 6 (lit< tt), answered 7 (lit< tt))
        (octet_of_bits (bit_xor o t) (xor_lt 8 o t ho ht))

    same_past : ◌≡◌ {A = List ℕ} (fed d (bit o 0) (bit_xor (bit o 0) (slice_index past 35)) ∷ fed d (bit o 1) (bit_xor (bit o 1) (slice_index past 36)) ∷ fed d (bit o 2) (bit_xor (bit o 2) (slice_index past 37)) ∷ fed d (bit o 3) (bit_xor (bit o 3) (slice_index past 38)) ∷ fed d (bit o 4) (bit_xor (bit o 4) (slice_index past 39)) ∷ fed d (bit o 5) (bit_xor (bit o 5) (slice_index past 40)) ∷ fed d (bit o 6) (bit_xor (bit o 6) (slice_index past 41)) ∷ fed d (bit o 7) (bit_xor (bit o 7) (slice_index past 42)) ∷ past) (low_first (fed d o (bit_xor o t)) ++ past)
    same_past = rw (kept d 0 (lit< tt), kept d 1 (lit< tt), kept d 2 (lit< tt), kept d 3 (lit< tt), kept d 4 (lit< tt), kept d 5 (lit< tt), kept d 6 (lit< tt), kept d 7 (lit< tt))

-- the bits that leave the register are those of its tap
tap_bits : (r i : ℕ) → i < 8 → slice_index (low_bits 43 r) (35 + i) ≡ bit (tap r) i
tap_bits r i h =
    low_bits_at 43 r (35 + i) (omega arith) ∙ ap (λ m. m % 2) (sym (shr-shr r 35 i))
    ∙ sym (low_bits_at 8 (r / 2 ^ 35) i h) ∙ ap (λ xs. slice_index xs i) (sym (low_bits_mod 8 (r / 2 ^ 35))) ∙ low_bits_at 8 (tap r) i h

low_first_is : (y : ℕ) → low_bits 8 y ≡ low_first y
unfolding low_bits
low_first_is y =
    cc (low_bits_at 8 y 0 (lit< tt), low_bits_at 8 y 1 (lit< tt), low_bits_at 8 y 2 (lit< tt), low_bits_at 8 y 3 (lit< tt), low_bits_at 8 y 4 (lit< tt), low_bits_at 8 y 5 (lit< tt), low_bits_at 8 y 6 (lit< tt), low_bits_at 8 y 7 (lit< tt))

-- the register's bits, once an octet has entered
entered_bits : (r y : ℕ) → y < 256 → low_bits 43 (entered r y) ≡ low_first y ++ low_bits 35 r
entered_bits r y h =
    low_bits_block 8 35 (r % 2 ^ 35) y h ∙ ap₂ (λ xs ys. xs ++ ys) (low_first_is y) (low_bits_mod 35 r)

recent_bits : (r y : ℕ) → y < 256 → take 43 (low_first y ++ low_bits 43 r) ≡ take 43 (low_bits 43 (entered r y))
unfolding low_bits
recent_bits r y h = ap (take 43) (sym (entered_bits r y h))

fed_octet : (d : Bool) (o x : ℕ) → o < 256 → x < 256 → fed d o x < 256
fed_octet true o x ho hx = hx
fed_octet false o x ho hx = ho

tap_octet : (r : ℕ) → tap r < 256
tap_octet r = omega arith

register_step : (d : Bool) (r : ℕ) (bs : List ℕ) (o : ℕ) → o < 256 →
    octets_of (coded_bits d (low_bits 43 r) (high_first o ++ bs)) ≡ bit_xor o (tap r) ∷ octets_of (coded_bits d (low_bits 43 (entered r (fed d o (bit_xor o (tap r))))) bs)
register_step d r bs o h =
    let x : bit_xor o (tap r) < 256 = xor_lt 8 o (tap r) h (tap_octet r) in
    let y : fed d o (bit_xor o (tap r)) < 256 = fed_octet d o (bit_xor o (tap r)) h x in
    octet_step d (low_bits 43 r) bs o (tap r) h (tap_octet r) (tap_bits r)
    ∙ ap (λ xs. bit_xor o (tap r) ∷ octets_of xs) (recent d (low_first (fed d o (bit_xor o (tap r))) ++ low_bits 43 r) (low_bits 43 (entered r (fed d o (bit_xor o (tap r))))) bs (recent_bits r (fed d o (bit_xor o (tap r))) y))

-- ---- on octets

abbrev pub answer : ℕ → ℕ → ℕ
answer r o = bit_xor o (tap r)

abbrev sent : ℕ → ℕ → ℕ
sent r o = entered r (answer r o)

coded_run : (d : Bool) (r : ℕ) (os : List ℕ) → Octets os → octets_of (coded_bits d (low_bits 43 r) (bits_of os)) ≡ run answer (λ r o. entered r (fed d o (answer r o))) r os
unfolding bits_of octets_of coded_bits run
coded_run d r [] h = refl
coded_run d r (o ∷ os) h =
    register_step d r (bits_of os) o h.0 ∙ ap (λ xs. answer r o ∷ xs) (coded_run d (entered r (fed d o (answer r o))) os h.1)

scrambled_run : (r : ℕ) → Alike (scrambled r) (run answer sent r)
unfolding scrambled
scrambled_run r os h = ap octets_of (scrambled_bits_is (low_bits 43 r) (bits_of os)) ∙ coded_run true r os h

descrambled_run : (r : ℕ) → Alike (descrambled r) (run answer entered r)
unfolding descrambled
descrambled_run r os h = ap octets_of (descrambled_bits_is (low_bits 43 r) (bits_of os)) ∙ coded_run false r os h

answer_octet : (r x : ℕ) → x < 256 → answer r x < 256
answer_octet r x h = xor_lt 8 x (tap r) h (tap_octet r)

pub scrambled_rule : (r : ℕ) → Rule (scrambled r)
scrambled_rule r = rule_alike (scrambled r) (run answer sent r) (scrambled_run r) (run_rule answer sent answer_octet r)

pub descrambled_rule : (r : ℕ) → Rule (descrambled r)
descrambled_rule r = rule_alike (descrambled r) (run answer entered r) (descrambled_run r) (run_rule answer entered answer_octet r)

pub scrambled_step : (r o : ℕ) → o < 256 → Steps (scrambled r) o (answer r o) (scrambled (entered r (answer r o)))
unfolding run
scrambled_step r o h xs hs = scrambled_run r (o ∷ xs) (h, hs) ∙ ap (λ ys. answer r o ∷ ys) (sym (scrambled_run (entered r (answer r o)) xs hs))

pub descrambled_step : (r o : ℕ) → o < 256 → Steps (descrambled r) o (answer r o) (descrambled (entered r o))
unfolding run
descrambled_step r o h xs hs = descrambled_run r (o ∷ xs) (h, hs) ∙ ap (λ ys. answer r o ∷ ys) (sym (descrambled_run (entered r o) xs hs))

pub descrambles : (r : ℕ) → Undoes (descrambled r) (scrambled r)
descrambles r xs h =
    ap (descrambled r) (scrambled_run r xs h)
    ∙ descrambled_run r (run answer sent r xs) ((run_rule answer sent answer_octet r).octets xs h)
    ∙ run_undoes answer sent answer entered (λ s x. xor_twice x (tap s)) (λ s x. refl) r xs

-- ---- settling: each octet makes eight more bits of any two registers agree

entered_low : (j k a y : ℕ) → y < 2 ^ 8 → (a % 2 ^ (j + k) * 2 ^ 8 + y) % 2 ^ (k + 8) ≡ a % 2 ^ k * 2 ^ 8 + y
entered_low j k a y h =
    mod-pow-add (a % 2 ^ (j + k) * 2 ^ 8 + y) k 8
    ∙ ap₂ (λ u v. u % 2 ^ k * 2 ^ 8 + v) (high (a % 2 ^ (j + k)) 8 h) (low (a % 2 ^ (j + k)) 8 h)
    ∙ ap (λ u. u * 2 ^ 8 + y) (mod-mod-pow a j k)

closer : (j k a b y : ℕ) → y < 2 ^ 8 → a % 2 ^ k ≡ b % 2 ^ k → (a % 2 ^ (j + k) * 2 ^ 8 + y) % 2 ^ (k + 8) ≡ (b % 2 ^ (j + k) * 2 ^ 8 + y) % 2 ^ (k + 8)
closer j k a b y h e = entered_low j k a y h ∙ ap (λ u. u * 2 ^ 8 + y) e ∙ sym (entered_low j k b y h)

same_register : (a b : ℕ) (xs : List ℕ) → Octets xs → length xs ≡ 6 → state entered a xs ≡ state entered b xs
unfolding state
same_register a b [] h e = omega arith
same_register a b (u ∷ []) h e = omega arith
same_register a b (u ∷ v ∷ []) h e = omega arith
same_register a b (u ∷ v ∷ w ∷ []) h e = omega arith
same_register a b (u ∷ v ∷ w ∷ x ∷ []) h e = omega arith
same_register a b (u ∷ v ∷ w ∷ x ∷ y ∷ []) h e = omega arith
same_register a b (u ∷ v ∷ w ∷ x ∷ y ∷ z ∷ []) h e =
    let a1 = entered a u in
    let b1 = entered b u in
    let a2 = entered a1 v in
    let b2 = entered b1 v in
    let a3 = entered a2 w in
    let b3 = entered b2 w in
    let a4 = entered a3 x in
    let b4 = entered b3 x in
    let e1 = closer 35 0 a b u h.0 (mod-one a ∙ sym (mod-one b)) in
    let e2 = closer 27 8 a1 b1 v h.1.0 e1 in
    let e3 = closer 19 16 a2 b2 w h.1.1.0 e2 in
    let e4 = closer 11 24 a3 b3 x h.1.1.1.0 e3 in
    let e5 = closer 3 32 a4 b4 y h.1.1.1.1.0 e4 in
    ap (λ m. m * 2 ^ 8 + z) (sym (mod-mod-pow (entered a4 y) 5 35) ∙ ap (λ m. m % 2 ^ 35) e5 ∙ mod-mod-pow (entered b4 y) 5 35)
same_register a b (u ∷ v ∷ w ∷ x ∷ y ∷ z ∷ q ∷ qs) h e = omega arith

pub descrambled_settles : (a b : ℕ) (heard heard' further : List ℕ) → Octets heard → Octets heard' → Octets further → drop 6 (after (descrambled a) heard further) ≡ drop 6 (after (descrambled b) heard' further)
descrambled_settles a b heard heard' further h h' f =
    ap (λ xs. drop 6 (drop (length heard) xs)) (descrambled_run a (heard ++ further) (octets_append heard further h f))
    ∙ settles answer entered 6 same_register a b heard heard' further f
    ∙ sym (ap (λ xs. drop 6 (drop (length heard') xs)) (descrambled_run b (heard' ++ further) (octets_append heard' further h' f)))
