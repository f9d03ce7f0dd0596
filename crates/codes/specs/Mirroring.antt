-- What holds of all 256 octets by one test that antt computes, and the mirrored octet by it.
use Rattle.std.specs.Prelude.{◌≡◌, ℕ, zero, suc, ◌<◌, Bool, true, ◌&&◌, ◌==◌, nat_eq, refl}
use Rattle.std.proofs.Common.{arith}
use Rattle.std.proofs.lemmas.Bool.Decides.{Decides-below_and, Decides-eqb}
use Rattle.std.specs.Int.{w8, reverse_bits, reverse_bits_onto}
use Rattle.codes.specs.Mirror.{mirrored, swapped}

unfoldable alike_below : (ℕ → ℕ) → (ℕ → ℕ) → ℕ → Bool
alike_below f g zero = true
alike_below f g (suc n) = f n == g n && alike_below f g n

on_octets : (f g : ℕ → ℕ) → alike_below f g 256 ≡ true → (x : ℕ) → x < 256 → f x ≡ g x
unfolding alike_below
on_octets f g t =
    (Decides-below_and (λ k. nat_eq (f k) (g k)) (λ k. f k ≡ g k) (alike_below f g) (λ k. Decides-eqb (f k) (g k)) refl (λ n. refl) 256).0 t

pub mirrored_octet : (x : ℕ) → x < 256 → mirrored x < 256
mirrored_octet x h = omega arith

pub mirrored_twice : (x : ℕ) → x < 256 → mirrored (mirrored x) ≡ x
unfolding alike_below
mirrored_twice = on_octets (λ x. mirrored (mirrored x)) (λ x. x) refl

-- the library's octet with its bits reversed
pub reversed : (x : ℕ) → x < 256 → reverse_bits w8 x ≡ mirrored x
unfolding alike_below reverse_bits_onto
reversed = on_octets (reverse_bits w8) mirrored refl

pub three_swaps : (x : ℕ) → x < 256 → swapped (swapped (swapped x 0x0f 4) 0x33 2) 0x55 1 ≡ mirrored x
unfolding alike_below swapped
three_swaps = on_octets (λ x. swapped (swapped (swapped x 0x0f 4) 0x33 2) 0x55 1) mirrored refl
