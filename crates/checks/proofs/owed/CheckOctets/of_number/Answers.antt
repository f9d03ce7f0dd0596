use Rattle.std.proofs.Common.{◌≡◌, ℕ, zero, suc, ◌≤◌, min, take, w32, refl, arith, rules}
use Rattle.std.specs.Int.{to_le_bytes}
use Rattle.checks.specs.Fcs.{least_first}
use Rattle.checks.proofs.owed.CheckOctets.of_number.Goals as goal

least_of : (width n : ℕ) → width ≤ 4 → take width (to_le_bytes w32 n) ≡ least_first width n
least_of zero n h = refl
least_of (suc zero) n h = search rules
least_of (suc (suc zero)) n h = search rules
least_of (suc (suc (suc zero))) n h = search rules
least_of (suc (suc (suc (suc zero)))) n h = search rules
least_of (suc (suc (suc (suc (suc width))))) n h = absurd (omega arith)

pub returns : goal.returns
returns c = cc (least_of (min c.args.width 4) c.args.number (omega arith))
