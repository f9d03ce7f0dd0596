use Rattle.std.proofs.Common.{vec_items, sym, ap, ◌∙◌, rules}
use Rattle.std.specs.Option.{option_map}
use Rattle.text.proofs.Pairs.{no_octet, one_octet, at_end}
use Rattle.text.proofs.hex.parse_hex.Goals as goal

pub returns-in_default-octet_value : goal.returns-in_default-octet_value
returns-in_default-octet_value c =
    no_octet (vec_items c.loop-rest.octets) c.loop-rest.rest.now (search rules) c.in_default-octet_value.ensures ∙ sym c.loop-rest.invariant

pub loop-rest-preserved : goal.loop-rest-preserved
loop-rest-preserved c =
    c.loop-rest.invariant
    ∙ one_octet (vec_items c.loop-rest.octets) (vec_items c.push.new.self) c.loop-rest.rest.now c.in-Some.octet (search rules) c.in-Some.ensures c.in_ok-push.ensures.items

pub returns : goal.returns
returns c =
    ap (option_map vec_items) c.then_some.ensures
    ∙ at_end vec_items c.loop-rest.octets c.loop-rest.rest.now c.is_empty.result (search rules) c.is_empty.ensures
    ∙ sym c.loop-rest.invariant
