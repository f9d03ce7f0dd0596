use Rattle.std.proofs.Common.{◌≡◌, length, ap, ◌∙◌, rules}
use Rattle.std.proofs.lemmas.List.Elements.{same_from_all_zip}
use Rattle.std.proofs.lemmas.List.{take_at}
use Rattle.octets.proofs.Typed.{typed}
use Rattle.inspect.proofs.carried.through.Goals as goal

-- the receiver's rule undoes what was sent
pub returns-clause-back : goal.returns-clause-back
returns-clause-back g c =
    let octets = c.args.octets.now in
    let lent : length c.send_all.new.octets ≡ c.in_ok-line.line.len = search rules in
    let lent_back : length c.receive_all.new.octets ≡ c.in_ok-back.back.len = search rules in
    let heard = c.as_mut_slice-2.ensures.value ∙ same_from_all_zip _ _ _ c.in_ok-back.ensures.cases.0 (λ x y e. e) ∙ take_at _ _ _ lent in
    let sent = c.send_all.ensures.sent ∙ ap (g.L.LineCode.onward c.args.sender) (c.as_mut_slice.ensures.value ∙ c.in_ok-line.ensures.items) in
    λ same.
    take_at _ _ _ lent_back
    ∙ c.receive_all.ensures.received
    ∙ ap (g.L.LineCode.back c.args.receiver) (heard ∙ sent)
    ∙ ap (λ back. back (g.L.LineCode.onward c.args.sender octets)) same
    ∙ g.met.L.LineCode.undoes c.args.sender octets (typed octets c.type_inv.octets)
