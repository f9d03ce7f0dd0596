use Rattle.std.proofs.Common.{◌<◌, length, refl, rules}
use Rattle.std.proofs.lemmas.List.{nil_from_length}
use Rattle.script.specs.Script.{lines}
use Rattle.script.proofs.lines.next_line.Goals as goal

pub returns-in-None : goal.returns-in-None
returns-in-None c = nil_from_length c.args.text.now (search rules)

pub returns-in-None-2 : goal.returns-in-None-2
unfolding lines
returns-in-None-2 c =
    let some : 0 < length c.args.text.now = search rules in
    record { is_first = c.in-None-2.ensures some; parts = refl; shorter = some }
