use Rattle.std.proofs.Common.{◌≡◌, ◌≤◌, length, Some, ap, ◌∙◌, arith, rules}
use Rattle.std.proofs.lemmas.Iterator.Adapters.{YieldsList-from_once}
use Rattle.std.proofs.lemmas.Iterator.Consumers.{YieldsList-at, YieldsList-from_chain, YieldsList-from_first}
use Rattle.frames.specs.Layout.{flag, header, stuff, opening_octets}
use Rattle.sender.specs.Stuffing.{outgoing}
use Rattle.sender.proofs.idle.Idle.open.Goals as goal

pub returns : goal.returns
returns g c =
    let head : stuff c.header_octets-header.result ≡ stuff (header c.args.sapi) = ap stuff c.header_octets-header.ensures in
    let room : length (opening_octets c.args.sapi) ≤ length c.args.stretch.now = omega (arith, ap length head) in
    let road =
    YieldsList-from_chain {s = c.chain.result} (YieldsList-at c.chain.ensures.first (YieldsList-from_once (Some flag) c.once.ensures.item))
    (YieldsList-at c.chain.ensures.second (YieldsList-from_first (λ o. o) outgoing {s = c.new.result} (stuff (header c.args.sapi)) (c.new.ensures ∙ head))) c.chain.ensures.first_done c.chain.ensures.second_done in
    let p = c.put.ensures (opening_octets c.args.sapi) road.runs room in
    search rules
