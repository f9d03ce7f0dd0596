-- The law of a frame check sequence, once for both: what they have in common is `Sound`.
use Rattle.std.specs.Prelude.{◌≡◌, ℕ, zero, suc, ◌+◌, ◌-◌, ◌*◌, ◌/◌, ◌%◌, ◌^◌, ◌<◌, ◌≤◌, true, List, [], ◌∷◌, ◌++◌, length, bit_xor, refl}
use Rattle.std.proofs.Common.{mod-lt, pow-suc, arith, ◌∙◌, lit<, lit≤}
use Rattle.std.proofs.Math.Path.{sym, ap, ap₂, subst}
use borrow.Author.Tests.{eqb-true, eq-eqb}
use Rattle.std.proofs.lemmas.Nat.{xor_lt}
use Rattle.std.proofs.Math.Pow.{ones_lt, ones_sub-lt}
use Rattle.octets.specs.Octets.{Octets}
use Rattle.octets.proofs.Halves.{xor_complement, complement_of}
use Rattle.checks.specs.declared.sequence.Sequence.{Sequence}
use Rattle.checks.specs.Fcs.{fcs16, fcs32, ones, octets_taken, least_first, owed, good}
use Rattle.checks.specs.Law.{Owes, Tells}
use Rattle.checks.specs.Shifts.{octet_shifts, value, octets_at_once, octets_after, octets_below, octet_shifts_one}

-- a constant as wide as the register, whose highest bit is 1, and the residue that check octets leave
pub record Sound (s : Sequence) : Type 0 where
  pub k : ℕ
  pub wide : 8 ≤ suc k
  pub places : 2 ^ (8 * s.width) ≡ 2 ^ suc k
  pub octets : 256 ^ s.width ≡ 2 ^ suc k
  pub below : s.constant < 2 ^ suc k
  pub top : s.constant / 2 ^ k ≡ 1
  pub left : octet_shifts s.constant s.width (ones s) ≡ s.residue

-- ---- octets to a number and back

least_length : (w n : ℕ) → length (least_first w n) ≡ w
least_length zero n = refl
least_length (suc w) n = ap suc (least_length w (n / 256))

least_octets : (w n : ℕ) → Octets (least_first w n)
least_octets zero n = tt
least_octets (suc w) n = (mod-lt n (lit< tt), least_octets w (n / 256))

value_below : (t : List ℕ) → Octets t → value t < 256 ^ length t
value_below [] o = lit< tt
value_below (x ∷ t) o = let h = value_below t o.1 in let l = o.0 in omega (arith, pow-suc 256 (length t))

least_value : (t : List ℕ) → Octets t → least_first (length t) (value t) ≡ t
least_value [] o = refl
least_value (x ∷ t) o =
    let l = o.0 in
    let low : (value t * 256 + x) % 256 ≡ x = omega arith in
    let high : (value t * 256 + x) / 256 ≡ value t = omega arith in
    ap₂ {C = List ℕ} (λ a b. a ∷ least_first (length t) b) low high ∙ ap {B = List ℕ} (λ r. x ∷ r) (least_value t o.1)

value_least : (w n : ℕ) → n < 256 ^ w → value (least_first w n) ≡ n
value_least zero n h = let e : 0 ≡ n = omega arith in e
value_least (suc w) n h =
    let l : n / 256 < 256 ^ w = omega arith in
    let e = value_least w (n / 256) l in omega arith

-- ---- the laws

pub sound_owes : (s : Sequence) → Owes s.width (owed s)
sound_owes s =
    record {
      long = λ m o. least_length s.width (ones s - octets_taken s.constant (ones s) m);
      octets = λ m o. least_octets s.width (ones s - octets_taken s.constant (ones s) m);
    }

module _ (s : Sequence) (v : Sound s) where
  module _ (m t : List ℕ) (om : Octets m) (ot : Octets t) (lt : length t ≡ s.width) where
    register : ℕ
    register = octets_taken s.constant (ones s) m

    all_ones : ones s ≡ 2 ^ suc v.k - 1
    all_ones = ap (λ x. x - 1) v.places

    ones_below : ones s < 2 ^ suc v.k
    ones_below = subst (λ x. x < 2 ^ suc v.k) (sym all_ones) (ones_lt (suc v.k))

    register_below : register < 2 ^ suc v.k
    unfolding register
    register_below = octets_below s.constant (suc v.k) v.below v.wide (ones s) m om ones_below

    tail_below : value t < 2 ^ suc v.k
    tail_below = subst (λ x. value t < x) (ap (λ n. 256 ^ n) lt ∙ v.octets) (value_below t ot)

    -- the register after the whole list
    whole : octets_taken s.constant (ones s) (m ++ t) ≡ octet_shifts s.constant s.width (bit_xor register (value t))
    unfolding register
    whole =
        octets_after s.constant (ones s) m t
        ∙ octets_at_once s.constant register t ot
        ∙ ap (λ n. octet_shifts s.constant n (bit_xor register (value t))) lt

    told : good s (m ++ t) ≡ true → t ≡ owed s m
    unfolding register
    told g = sym (least_value t ot) ∙ ap₂ least_first lt tail
      where
        left : octet_shifts s.constant s.width (bit_xor register (value t)) ≡ octet_shifts s.constant s.width (ones s)
        left = sym whole ∙ eqb-true (octets_taken s.constant (ones s) (m ++ t)) s.residue g ∙ sym v.left

        full : bit_xor register (value t) ≡ ones s
        full =
            octet_shifts_one s.constant v.k v.below v.top s.width (bit_xor register (value t)) (ones s)
            (xor_lt (suc v.k) register (value t) register_below tail_below) ones_below left

        tail : value t ≡ ones s - register
        tail =
            complement_of (suc v.k) register (value t) register_below (full ∙ all_ones)
            ∙ ap (λ x. x - register) (sym all_ones)

    tells : t ≡ owed s m → good s (m ++ t) ≡ true
    unfolding register
    tells e =
        eq-eqb (octets_taken s.constant (ones s) (m ++ t)) s.residue
        (whole ∙ ap (octet_shifts s.constant s.width) full ∙ v.left)
      where
        rest_below : ones s - register < 256 ^ s.width
        rest_below =
            subst (λ x. ones s - register < x) (sym v.octets)
            (subst (λ x. x - register < 2 ^ suc v.k) (sym all_ones) (ones_sub-lt (suc v.k) register))

        tail : value t ≡ 2 ^ suc v.k - 1 - register
        tail = ap value e ∙ value_least s.width (ones s - register) rest_below ∙ ap (λ x. x - register) all_ones

        full : bit_xor register (value t) ≡ ones s
        full = ap (bit_xor register) tail ∙ xor_complement (suc v.k) register register_below ∙ sym all_ones

  pub sound_tells : Tells s.width (owed s) (good s)
  sound_tells m t om ot lt = (told m t om ot lt, tells m t om ot lt)

-- both are sound
pub sound16 : Sound fcs16
sound16 = record { k = 15; wide = lit≤ tt; places = refl; octets = refl; below = lit< tt; top = refl; left = refl }

pub sound32 : Sound fcs32
sound32 = record { k = 31; wide = lit≤ tt; places = refl; octets = refl; below = lit< tt; top = refl; left = refl }

pub tells16 : Tells fcs16.width (owed fcs16) (good fcs16)
tells16 = sound_tells fcs16 sound16

pub tells32 : Tells fcs32.width (owed fcs32) (good fcs32)
tells32 = sound_tells fcs32 sound32
