-- What `{n}` writes is `decimal`.
use Rattle.std.proofs.Common.{◌≡◌, ℕ, zero, suc, ◌+◌, ◌^◌, ◌<◌, Bool, cond, [], ◌∷◌, map, sym, ap, ◌∙◌, arith, ne_eqb}
use Rattle.std.specs.Int.Digits.{digits_of}
use Rattle.std.specs.Fmt as written
use Rattle.std.proofs.lemmas.Fmt.{decimal_digit, decimal-digits_of}
use Rattle.text.specs.Decimal.{decimal}

pub written_decimal : (n : ℕ) → n < 2 ^ 64 → written.decimal n ≡ decimal n
unfolding decimal
written_decimal zero h = decimal_digit 0 (omega arith)
written_decimal (suc n) h =
    let digits = map (λ d. 48 + d) (digits_of 10 (suc n)) in
    decimal-digits_of (suc n) (omega arith) h ∙ sym (ap (λ (b : Bool). cond b (48 ∷ []) digits) (ne_eqb (suc n) 0 (omega arith)))
