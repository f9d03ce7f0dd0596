-- When a folded sum is 0xffff.
use Rattle.std.proofs.Common.{◌≡◌, ℕ, ◌-◌, ◌%◌, ◌^◌, ◌<◌, List, get_or, take, Fits, w8, arith}
use Rattle.std.proofs.lemmas.List.{length-take}
use Rattle.std.proofs.lemmas.List.Elements.{All-take}
use Rattle.views.proofs.Sum.{all_octets, sum_bounded}
use Rattle.views.specs.Sum.{folded_sum}
use Rattle.views.specs.Views.{header_length, header_words, SumLaw}

only : (s : ℕ) → s < 2 ^ 32 → folded_sum s ≡ 0xffff → (0 < s) × (s % 0xffff ≡ 0)
only s h e = (omega arith, omega arith)

when : (s : ℕ) → s < 2 ^ 32 → 0 < s → s % 0xffff ≡ 0 → folded_sum s ≡ 0xffff
when s h p e = omega arith

pub sum_law : (info : List ℕ) → ((i : ℕ) → Fits w8 (get_or info i 0)) → SumLaw info
sum_law info fits =
    let n : ℕ = header_length info - 0 in
    let b = sum_bounded (take n info) (All-take (λ x. x < 256) n info (all_octets info fits)) in
    let small : header_words info < 2 ^ 32 = omega (arith, b, length-take n info) in
    (only (header_words info) small, λ p. when (header_words info) small p.0 p.1)
