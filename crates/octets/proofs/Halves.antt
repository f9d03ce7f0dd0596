-- Exclusive-or and the lowest bit: what a register's move to the right keeps, and the complement of a number of k bits.
use Rattle.std.proofs.Common.{◌≡◌, ℕ, zero, suc, ◌+◌, ◌-◌, ◌*◌, ◌/◌, ◌%◌, ◌^◌, ◌<◌, sym, refl, ap, ◌∙◌, ap₂, mod-lt, div-add-mod', arith, lit<}
use lib.Bits.{bit_xor, differ, xor_assoc, xor_comm, xor_shr, xor_mod, xor_step, xor_shifted, xor_zero_r}
use Rattle.octets.proofs.Xor.{xor_twice}

-- what is twice a number has no lowest bit, and halves to it
pub half_of_xor : (m y : ℕ) → bit_xor m (y * 2) / 2 ≡ bit_xor (m / 2) y
half_of_xor m y = xor_shr m (y * 2) 1 ∙ ap (λ x. bit_xor (m / 2) x) (let e : y * 2 / 2 ≡ y = omega arith in e)

pub parity_of_xor : (m y : ℕ) → bit_xor m (y * 2) % 2 ≡ m % 2
parity_of_xor m y =
    xor_mod m (y * 2) 1
    ∙ ap (λ x. bit_xor (m % 2) x) (let e : y * 2 % 2 ≡ 0 = omega arith in e)
    ∙ xor_zero_r (m % 2)

-- an operand, its lowest bit first and then the rest
pub lowest_first : (r n : ℕ) → bit_xor r n ≡ bit_xor (bit_xor r (n % 2)) (n / 2 * 2)
lowest_first r n =
    ap (λ x. bit_xor r x)
    (sym (div-add-mod' n 2) ∙ sym (xor_shifted (n / 2) 1 (n % 2) (mod-lt n (lit< tt))) ∙ xor_comm (n / 2 * 2) (n % 2))
    ∙ sym (xor_assoc r (n % 2) (n / 2 * 2))

-- an operand's k lowest bits first, and then those above
pub low_bits_first : (r k a b : ℕ) → a < 2 ^ k → bit_xor (bit_xor r a) (b * 2 ^ k) ≡ bit_xor r (b * 2 ^ k + a)
low_bits_first r k a b h =
    xor_assoc r a (b * 2 ^ k)
    ∙ ap (λ x. bit_xor r x) (xor_comm a (b * 2 ^ k) ∙ xor_shifted b k a h)

differ_rest : (x : ℕ) → x < 2 → differ x (1 - x) ≡ 1
differ_rest zero h = refl
differ_rest (suc zero) h = refl
differ_rest (suc (suc x)) h = omega arith

-- a number and its complement are ones all through
pub xor_complement : (k r : ℕ) → r < 2 ^ k → bit_xor r (2 ^ k - 1 - r) ≡ 2 ^ k - 1
xor_complement zero r h = let e : r ≡ 0 = omega arith in ap (λ x. bit_xor x (2 ^ 0 - 1 - x)) e
xor_complement (suc k) r h =
    xor_step r (2 ^ suc k - 1 - r)
    ∙ ap₂ (λ x y. bit_xor (r / 2) x * 2 + differ (r % 2) y) halves parity
    ∙ ap₂ (λ x y. x * 2 + y) (xor_complement k (r / 2) below) (differ_rest (r % 2) (mod-lt r (lit< tt)))
    ∙ ends
  where
    below : r / 2 < 2 ^ k
    below = omega arith

    halves : (2 ^ suc k - 1 - r) / 2 ≡ 2 ^ k - 1 - r / 2
    halves = omega arith

    parity : (2 ^ suc k - 1 - r) % 2 ≡ 1 - r % 2
    parity = omega arith

    ends : (2 ^ k - 1) * 2 + 1 ≡ 2 ^ suc k - 1
    ends = omega arith

-- so a number makes ones with r exactly when it is r's complement
pub complement_of : (k r n : ℕ) → r < 2 ^ k → bit_xor r n ≡ 2 ^ k - 1 → n ≡ 2 ^ k - 1 - r
complement_of k r n h e =
    sym (xor_twice n r)
    ∙ ap (λ x. bit_xor x r) (xor_comm n r ∙ e ∙ sym (xor_complement k r h) ∙ xor_comm r (2 ^ k - 1 - r))
    ∙ xor_twice (2 ^ k - 1 - r) r
