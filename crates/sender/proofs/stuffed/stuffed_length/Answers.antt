use Rattle.std.proofs.Common.{◌≡◌, ◌+◌, ◌∙◌, sym, ap, length, is_some, rules}
use Rattle.std.specs.List.{count_by}
use Rattle.sender.specs.Stuffing.{escaped}
use Rattle.sender.proofs.Puts.{stuff_long}
use Rattle.sender.proofs.stuffed.stuffed_length.Goals as goal

pub returns-clause-count : goal.returns-clause-count
returns-clause-count c =
    let n : c.count.result ≡ count_by (λ o. is_some (escaped o)) c.args.octets.now = search rules in
    ap (λ k. length c.args.octets.now + k) n ∙ sym (stuff_long c.args.octets.now)
