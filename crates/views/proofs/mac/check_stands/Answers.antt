use Rattle.std.proofs.Common.{ap, ◌∙◌, ap₂}
use Rattle.std.specs.Str.{bytes_eq}
use Rattle.checks.specs.Fcs.{fcs32, owed}
use Rattle.views.proofs.mac.check_stands.Goals as goal

pub returns : goal.returns
returns c =
    c.eq.ensures
    ∙ ap₂ bytes_eq (c.as_slice.ensures.octets ∙ c.check_octets_of.ensures ∙ ap (owed fcs32) c.split_at.ensures.front) c.split_at.ensures.back
