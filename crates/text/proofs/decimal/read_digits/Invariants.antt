use Rattle.std.proofs.Common.{◌≡◌, drop, Some}
use Rattle.text.specs.Decimal.{read_on}
use Rattle.text.proofs.decimal.read_digits.Given as goal

-- what is left gives the same
abbrev pub invariant-loop-code : goal.invariant-loop-code
invariant-loop-code l = read_on (Some l.number) (drop l.code-index l.text) ≡ read_on (Some 0) l.text
