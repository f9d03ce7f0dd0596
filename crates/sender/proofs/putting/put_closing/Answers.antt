use Rattle.std.proofs.Common.{Some}
use Rattle.std.proofs.lemmas.Iterator.Adapters.{YieldsList-from_once}
use Rattle.std.proofs.lemmas.Iterator.Consumers.{YieldsList-at, YieldsList-from_chain, YieldsList-from_first}
use Rattle.frames.specs.Layout.{flag, stuff, closing_octets}
use Rattle.sender.specs.Stuffing.{outgoing}
use Rattle.sender.proofs.putting.put_closing.Goals as goal

pub returns : goal.returns
returns g c =
    let road =
    YieldsList-from_chain {s = c.chain.result} (YieldsList-at c.chain.ensures.first (YieldsList-from_first (λ o. o) outgoing {s = c.new.result} (stuff c.args.owed.now) c.new.ensures))
    (YieldsList-at c.chain.ensures.second (YieldsList-from_once (Some flag) c.once.ensures.item)) c.chain.ensures.first_done c.chain.ensures.second_done in
    c.put.ensures (closing_octets c.args.owed.now) road.runs c.requires
