use Rattle.std.proofs.Common.{◌≤◌, length, Some, arith, rules}
use Rattle.std.proofs.lemmas.Iterator.Adapters.{YieldsList-from_once}
use Rattle.std.proofs.lemmas.Iterator.Consumers.{YieldsList-at, YieldsList-from_chain}
use Rattle.frames.specs.Layout.{flag, escape, aborting_octets}
use Rattle.sender.proofs.open.Open.abort.Goals as goal

pub returns : goal.returns
returns g c =
    let room : 2 ≤ length c.args.stretch.now = omega arith in
    let road =
    YieldsList-from_chain {s = c.chain.result} (YieldsList-at c.chain.ensures.first (YieldsList-from_once (Some escape) c.once.ensures.item))
    (YieldsList-at c.chain.ensures.second (YieldsList-from_once (Some flag) c.once-2.ensures.item)) c.chain.ensures.first_done c.chain.ensures.second_done in
    let p = c.put.ensures aborting_octets road.runs room in
    search rules
