use Rattle.std.proofs.Common.{◌<◌, length, get_or, refl, arith, of_calls}
use Rattle.std.proofs.lemmas.Fn.{Called-on}
use Rattle.codes.proofs.Places.{untouched_at, untouched_more, runs_more}
use Rattle.codes.proofs.slices.answer_all.Goals as goal

pub loop-octet-preserved : goal.loop-octet-preserved
loop-octet-preserved g c =
    let l = c.loop-octet in
    let old = c.args.octets.now in
    let within : l.octet-index < length l.octets = omega arith in
    let fits : get_or l.octets l.octet-index 0 < 256 = rw (← (untouched_at old l.octets l.octet-index l.invariant.1)) (l.invariant.3 l.octet-index) in (
      search of_calls,
      untouched_more old l.octets l.octet-index c.answer.result l.invariant.1,
      λ rule each.
          runs_more (rule c.args.line.now) (rule l.line) (rule c.answer.new.arg2) old l.octets l.octet-index c.answer.result c.loop-octet-test.true within l.invariant.1 fits (l.invariant.2 rule each)
          (each l.answer c.answer.new.self l.line c.answer.new.arg2 (get_or l.octets l.octet-index 0) c.answer.result fits (Called-on g.F.FnMut c.answer.ensures refl)),
      l.invariant.3,
    )
