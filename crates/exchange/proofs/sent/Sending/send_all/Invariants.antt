use Rattle.std.proofs.Common.{map, drop, vec_items}
use Rattle.exchange.specs.Sending.{lent_of}
use Rattle.exchange.proofs.Sending.{Progress}
use Rattle.exchange.proofs.sent.Sending.send_all.Given as goal

abbrev pub invariant-loop-lent : goal.invariant-loop-lent
invariant-loop-lent g l =
    Progress g.L.LineCode.onward g.K.Check.owes g.K.Check.owed g.met.K.Check.long.octets (map lent_of l.calls) l.initial.sending.sender (vec_items l.initial.sending.line) (vec_items l.initial.sending.answers)
    (map lent_of (drop l.lent-index l.calls)) l.sending.sender (vec_items l.sending.line) (vec_items l.sending.answers)
