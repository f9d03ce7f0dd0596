use Rattle.std.proofs.Common.{arith}
use Rattle.listing.proofs.Started.{run_from}
use Rattle.listing.proofs.ends.list_text.Goals as goal

pub returns : goal.returns
returns c =
    run_from _ _ _ _ _ _ _ _ _ _ c.in-Ok-new.link _ _ _ _ _ _ c.in_ok-list_lines.ensures c.new-2.ensures c.new-3.ensures c.in-Ok.ensures.1 (omega arith) c.in-Ok-new.ensures.made.1
