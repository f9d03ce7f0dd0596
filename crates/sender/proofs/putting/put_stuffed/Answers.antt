use Rattle.std.proofs.lemmas.Iterator.Consumers.{YieldsList-from_first}
use Rattle.frames.specs.Layout.{stuff}
use Rattle.sender.specs.Stuffing.{outgoing}
use Rattle.sender.proofs.putting.put_stuffed.Goals as goal

pub returns : goal.returns
returns g c =
    let os = stuff c.args.octets.now in
    c.put.ensures os (YieldsList-from_first (λ o. o) outgoing os c.new.ensures).runs c.requires
