-- Octets taken into a register, bit by bit and at once.
use Rattle.std.specs.Prelude.{◌≡◌, ℕ, zero, suc, ◌+◌, ◌*◌, ◌/◌, ◌%◌, ◌^◌, ◌<◌, ◌≤◌, List, [], ◌∷◌, ◌++◌, length, bit_xor, refl}
use Rattle.std.proofs.Common.{lt_of_lt_of_le, pow-suc, mul_assoc, div-one, div-add-mod', mod-lt, one-mul, ap₂, ◌∙◌, subst, lit<, pow_mono, pow_pos}
use Rattle.std.proofs.Math.Nat.{div-div-eq-div-mul, div-eq_of_lt}
use native.Mathlib.Omega.{arith}
use Rattle.std.proofs.Math.Path.{sym, ap}
use Rattle.std.proofs.lemmas.Nat.{xor_lt, xor_shr}
use Rattle.std.specs.Int.Bits.{xor_zero_r}
use Rattle.octets.specs.Bits.{low_first}
use Rattle.octets.specs.Octets.{Octets}
use Rattle.octets.proofs.Halves.{half_of_xor, parity_of_xor, lowest_first, low_bits_first}
use Rattle.octets.proofs.Xor.{xor_cancel, xor_right_comm}
use Rattle.checks.specs.Fcs.{shifted, bits_taken, octets_taken}

-- a register that moves n places with nothing taken in
abbrev pub shifts : ℕ → ℕ → ℕ → ℕ
shifts constant zero register = register
shifts constant (suc n) register = shifts constant n (shifted constant register)

-- and n octets' places
abbrev pub octet_shifts : ℕ → ℕ → ℕ → ℕ
octet_shifts constant zero register = register
octet_shifts constant (suc n) register = octet_shifts constant n (shifts constant 8 register)

-- octets as a number, the least first
abbrev pub value : List ℕ → ℕ
value [] = 0
value (o ∷ os) = value os * 256 + o

-- the n lowest bits of a number, the lowest first
low_bits : ℕ → ℕ → List ℕ
low_bits zero o = []
low_bits (suc n) o = o % 2 ∷ low_bits n (o / 2)

low_first_bits : (o : ℕ) → low_first o ≡ low_bits 8 o
unfolding low_bits
low_first_bits o = simp (div-one, div-div-eq-div-mul)

module _ (c : ℕ) where
  -- what lies above the lowest place moves along
  shifted_xor : (m y : ℕ) → shifted c (bit_xor m (y * 2)) ≡ bit_xor (shifted c m) y
  shifted_xor m y =
      ap₂ (λ a b. bit_xor a (b * c)) (half_of_xor m y) (parity_of_xor m y) ∙ xor_right_comm (m / 2) y (m % 2 * c)

  shifts_xor : (n m y : ℕ) → shifts c n (bit_xor m (y * 2 ^ n)) ≡ bit_xor (shifts c n m) y
  shifts_xor zero m y = let e : y * 1 ≡ y = omega arith in ap (λ x. bit_xor m x) e
  shifts_xor (suc n) m y =
      ap (λ x. shifts c n (shifted c (bit_xor m x))) (ap (λ x. y * x) (pow-suc 2 n) ∙ sym (mul_assoc y (2 ^ n) 2))
      ∙ ap (shifts c n) (shifted_xor m (y * 2 ^ n))
      ∙ shifts_xor n (shifted c m) y

  bits_at_once : (n r o : ℕ) → o < 2 ^ n → bits_taken c r (low_bits n o) ≡ shifts c n (bit_xor r o)
  unfolding low_bits
  bits_at_once zero r o h = let e : o ≡ 0 = omega arith in sym (ap (λ x. bit_xor r x) e ∙ xor_zero_r r)
  bits_at_once (suc n) r o h =
      let below : o / 2 < 2 ^ n = omega arith in
      bits_at_once n (shifted c (bit_xor r (o % 2))) (o / 2) below
      ∙ ap (shifts c n) (sym (shifted_xor (bit_xor r (o % 2)) (o / 2)) ∙ ap (shifted c) (sym (lowest_first r o)))

  -- an octet's bits, taken in one by one, are the octet taken in at once
  pub octet_at_once : (r o : ℕ) → o < 256 → bits_taken c r (low_first o) ≡ shifts c 8 (bit_xor r o)
  octet_at_once r o h = ap (bits_taken c r) (low_first_bits o) ∙ bits_at_once 8 r o h

  pub octets_at_once : (r : ℕ) (os : List ℕ) → Octets os → octets_taken c r os ≡ octet_shifts c (length os) (bit_xor r (value os))
  octets_at_once r [] h = sym (xor_zero_r r)
  octets_at_once r (o ∷ os) h =
      ap (λ x. octets_taken c x os) (octet_at_once r o h.0)
      ∙ octets_at_once (shifts c 8 (bit_xor r o)) os h.1
      ∙ ap (octet_shifts c (length os))
      (sym (shifts_xor 8 (bit_xor r o) (value os)) ∙ ap (shifts c 8) (low_bits_first r 8 o (value os) h.0))

  pub octets_after : (r : ℕ) (m t : List ℕ) → octets_taken c r (m ++ t) ≡ octets_taken c (octets_taken c r m) t
  octets_after r [] t = refl
  octets_after r (o ∷ m) t = octets_after (bits_taken c r (low_first o)) m t

-- a bit times a number is the number or nothing
pub bit_times : (b c n : ℕ) → b < 2 → c < n → b * c < n
bit_times zero c n h l = omega arith
bit_times (suc zero) c n h l = omega arith
bit_times (suc (suc b)) c n h l = omega arith

-- a register keeps the width of its constant
module _ (c k : ℕ) (below : c < 2 ^ k) where
  pub shifted_below : (m : ℕ) → m < 2 ^ k → shifted c m < 2 ^ k
  shifted_below m h = xor_lt k (m / 2) (m % 2 * c) (omega arith) (bit_times (m % 2) c (2 ^ k) (mod-lt m (lit< tt)) below)

  pub shifts_below : (n m : ℕ) → m < 2 ^ k → shifts c n m < 2 ^ k
  shifts_below zero m h = h
  shifts_below (suc n) m h = shifts_below n (shifted c m) (shifted_below m h)

  pub octets_below : 8 ≤ k → (r : ℕ) (os : List ℕ) → Octets os → r < 2 ^ k → octets_taken c r os < 2 ^ k
  octets_below w r [] o h = h
  octets_below w r (x ∷ os) o h =
      octets_below w (bits_taken c r (low_first x)) os o.1
      (subst (λ m. m < 2 ^ k) (sym (octet_at_once c r x o.0))
      (shifts_below 8 (bit_xor r x) (xor_lt k r x h (lt_of_lt_of_le o.0 (pow_mono w)))))

-- a constant of suc k bits, the highest of them 1
module _ (c k : ℕ) (below : c < 2 ^ suc k) (top : c / 2 ^ k ≡ 1) where
  some_top : (b : ℕ) → b < 2 → b * c / 2 ^ k ≡ b
  some_top zero h = let l : 0 * c < 2 ^ k = omega (arith, pow_pos k) in div-eq_of_lt l
  some_top (suc zero) h = ap (λ x. x / 2 ^ k) (one-mul c) ∙ top
  some_top (suc (suc b)) h = omega arith

  -- the highest bit of a register that has moved is the bit that fell out
  fell_out : (m : ℕ) → m < 2 ^ suc k → shifted c m / 2 ^ k ≡ m % 2
  fell_out m h =
      xor_shr (m / 2) (m % 2 * c) k
      ∙ ap₂ bit_xor (div-eq_of_lt (let l : m / 2 < 2 ^ k = omega arith in l)) (some_top (m % 2) (mod-lt m (lit< tt)))

  -- so no two registers move to the same one
  shifted_one : (m n : ℕ) → m < 2 ^ suc k → n < 2 ^ suc k → shifted c m ≡ shifted c n → m ≡ n
  shifted_one m n hm hn e =
      sym (div-add-mod' m 2) ∙ ap₂ (λ x y. x * 2 + y) halves parity ∙ div-add-mod' n 2
    where
      parity : m % 2 ≡ n % 2
      parity = sym (fell_out m hm) ∙ ap (λ x. x / 2 ^ k) e ∙ fell_out n hn

      halves : m / 2 ≡ n / 2
      halves = xor_cancel (m / 2) (n / 2) (m % 2 * c) (e ∙ ap (λ x. bit_xor (n / 2) (x * c)) (sym parity))

  shifts_one : (p m n : ℕ) → m < 2 ^ suc k → n < 2 ^ suc k → shifts c p m ≡ shifts c p n → m ≡ n
  shifts_one zero m n hm hn e = e
  shifts_one (suc p) m n hm hn e =
      shifted_one m n hm hn (shifts_one p (shifted c m) (shifted c n) (shifted_below c (suc k) below m hm) (shifted_below c (suc k) below n hn) e)

  pub octet_shifts_one : (w m n : ℕ) → m < 2 ^ suc k → n < 2 ^ suc k → octet_shifts c w m ≡ octet_shifts c w n → m ≡ n
  octet_shifts_one zero m n hm hn e = e
  octet_shifts_one (suc w) m n hm hn e =
      shifts_one 8 m n hm hn (octet_shifts_one w (shifts c 8 m) (shifts c 8 n) (shifts_below c (suc k) below 8 m hm) (shifts_below c (suc k) below 8 n hn) e)
