use Rattle.std.proofs.Common.{[], ◌∷◌, ◌++◌, length, vec_items, refl}
use Rattle.frames.specs.Of.{lent_call}
use Rattle.exchange.proofs.Sending.{sends_one}
use Rattle.exchange.proofs.sent.Sending.send_into.Goals as goal

pub returns : goal.returns
returns g c = record {
  sends = sends_one g.L.LineCode.onward g.K.Check.owes g.K.Check.owed g.met.K.Check.long.octets (record { call = lent_call c.args.request; room = length c.args.stretch.now }) c.call-sender.ensures.typed
      c.args.self.sender c.call-sender.result.sender c.args.stretch.now c.call-sender.new.stretch (vec_items c.args.self.line) (vec_items c.keep_written.new.line)
      (vec_items c.args.self.answers) (vec_items c.args.self.answers ++ c.call-sender.result.answer ∷ []) refl c.call-sender.result.answer c.call-sender.ensures.calls c.in_ok-keep_written.ensures refl;
  typed = c.call-sender.ensures.typed;
}
