use Rattle.std.proofs.Common.{◌<◌, [], get_or, take, false, sym, ap, ◌∙◌, rules}
use Rattle.std.specs.List.{flat_map}
use Rattle.std.proofs.Output.{has_written_append, has_written_of_eq}
use Rattle.std.proofs.lemmas.List.{take_more, flat_map_more}
use Rattle.std.proofs.lemmas.Fmt.{hex_byte}
use Rattle.text.specs.Hex.{octet_digits}
use Rattle.text.proofs.shown.HexDisplay.fmt.Goals as goal

pub loop-octet-preserved : goal.loop-octet-preserved
loop-octet-preserved g c plain =
    let octets = c.args.self.now.0.now in
    let i = c.loop-octet.octet-index in
    let octet = get_or octets i 0 in
    let small : octet < 256 = search rules in
    let more = flat_map_more octet_digits [] (take i octets) octet ∙ ap (flat_map octet_digits) (sym (take_more octets i 0 c.loop-octet-test.true)) in
    has_written_of_eq _ _ _ _ _ more (has_written_append _ _ _ _ _ _ (c.loop-octet.invariant plain) (has_written_of_eq _ _ _ _ _ (hex_byte false octet small) (search rules)))
