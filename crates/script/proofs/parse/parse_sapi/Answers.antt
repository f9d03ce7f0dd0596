use Rattle.std.proofs.Common.{Some, ap, ◌∙◌, rules}
use Rattle.script.proofs.Readings.{of_two, octet_at, four_digits, other_count}
use Rattle.script.proofs.parse.parse_sapi.Goals as goal

pub returns-in_default : goal.returns-in_default
returns-in_default c = other_count c.args.value.now (λ e. search rules)

pub returns-in_default-2 : goal.returns-in_default-2
returns-in_default-2 c = other_count c.args.value.now (λ e. search rules)

pub returns-in_err-high : goal.returns-in_err-high
returns-in_err-high c =
    c.from_residual.ensures
    ∙ ap (λ h. of_two h (octet_at 2 c.args.value.now)) c.in_err-high.ensures
    ∙ four_digits c.args.value.now (search rules)

pub returns-in_err-low : goal.returns-in_err-low
returns-in_err-low c =
    c.from_residual-in_err-low.ensures
    ∙ ap (of_two (Some c.in_ok-high.high)) c.in_err-low.ensures
    ∙ ap (λ h. of_two h (octet_at 2 c.args.value.now)) c.in_ok-high.ensures
    ∙ four_digits c.args.value.now (search rules)

pub returns : goal.returns
returns c =
    ap Some c.from_be_bytes.ensures
    ∙ ap (of_two (Some c.in_ok-high.high)) c.in_ok-low.ensures
    ∙ ap (λ h. of_two h (octet_at 2 c.args.value.now)) c.in_ok-high.ensures
    ∙ four_digits c.args.value.now (search rules)
