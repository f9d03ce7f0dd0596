use Rattle.std.proofs.Common.{◌≡◌, ◌+◌, [], ◌∷◌, map, get_or, drop, vec_items, ap, subst}
use Rattle.std.proofs.lemmas.List.{drop_more, drop_all}
use Rattle.frames.specs.declared.request.Request.TheVariants as request
use Rattle.exchange.specs.declared.lent.Lent.{Lent as Given}
use Rattle.exchange.specs.Sending.{lent_of}
use Rattle.exchange.proofs.Sending.{Progress, progress_more, progress_all}
use Rattle.exchange.proofs.sent.Sending.send_all.Goals as goal

pub loop-lent-preserved : goal.loop-lent-preserved
loop-lent-preserved g c =
    let calls = c.args.calls.now in
    let i = c.loop-lent.lent-index in
    let one = c.in_ok-sending.ensures in
    let before = c.loop-lent.sending in
    let behind = c.in_ok-sending.sending in
    let given : Given = get_or calls i (record { request = request.Open 0; room = 0 }) in
    let first : map lent_of (drop i calls) ≡ lent_of given ∷ map lent_of (drop (i + 1) calls) = ap (map lent_of) (drop_more calls i (record { request = request.Open 0; room = 0 }) c.loop-lent-test.true) in
    progress_more g.L.LineCode.onward g.K.Check.owes g.K.Check.owed g.met.K.Check.long.octets (map lent_of calls) c.args.self.sender (vec_items c.args.self.line) (vec_items c.args.self.answers)
    (lent_of given) (map lent_of (drop (i + 1) calls)) before.sender behind.sender (vec_items before.line) (vec_items behind.line)
    (vec_items before.answers) (vec_items behind.answers) one.typed one.sends
    (subst (λ κs. Progress g.L.LineCode.onward g.K.Check.owes g.K.Check.owed g.met.K.Check.long.octets (map lent_of calls) c.args.self.sender (vec_items c.args.self.line) (vec_items c.args.self.answers)
    κs before.sender (vec_items before.line) (vec_items before.answers)) first c.loop-lent.invariant)

pub returns : goal.returns
returns g c =
    let calls = c.args.calls.now in
    let s = c.loop-lent.sending in
    let none : map lent_of (drop c.loop-lent.lent-index calls) ≡ [] = ap (map lent_of) (drop_all c.loop-lent.lent-index calls c.loop-lent-test.false) in
    progress_all g.L.LineCode.onward g.K.Check.owes g.K.Check.owed g.met.K.Check.long.octets (map lent_of calls) c.args.self.sender (vec_items c.args.self.line) (vec_items c.args.self.answers)
    s.sender (vec_items s.line) (vec_items s.answers)
    (subst (λ κs. Progress g.L.LineCode.onward g.K.Check.owes g.K.Check.owed g.met.K.Check.long.octets (map lent_of calls) c.args.self.sender (vec_items c.args.self.line) (vec_items c.args.self.answers)
    κs s.sender (vec_items s.line) (vec_items s.answers)) none c.loop-lent.invariant)
