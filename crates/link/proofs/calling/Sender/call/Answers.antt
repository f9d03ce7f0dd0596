use Rattle.std.proofs.Common.{refl, subst}
use Rattle.frames.specs.Of.{lent_call}
use Rattle.frames.specs.Calls.{Typed, closing, aborting, spoiling}
use Rattle.frames.specs.Layout.{closing_octets, aborting_octets, spoiling_octets}
use Rattle.link.proofs.Driven.{opened_is, ended_is, opens, fills, adds, adapts, ends}
use Rattle.link.proofs.calling.Sender.call.Goals as goal

pub returns-in-Idle-Open : goal.returns-in-Idle-Open
returns-in-Idle-Open g c = record {
  calls = simp (c.in-Idle-Open.is-0, c.in-Idle-Open.is-1, opened_is c.open.result c.crossed.result c.crossed.ensures)
      (opens g.L.LineCode.onward g.K.Check.owes g.K.Check.owed g.met.K.Check.long.octets c.args.stretch.now c.open.new.stretch c.in-Idle-Open.idle c.in-Idle-Open.sapi c.open.result
      (subst (λ r. Typed (lent_call r)) c.in-Idle-Open.is-1 c.well_typed.ensures) c.open.ensures);
  typed = c.well_typed.ensures;
}

pub returns-in-Idle-Fill : goal.returns-in-Idle-Fill
returns-in-Idle-Fill g c = record {
  calls = simp (c.in-Idle-Fill.is-0, c.in-Idle-Fill.is-1, c.stayed.ensures)
      (fills g.L.LineCode.onward g.K.Check.owes g.K.Check.owed g.met.K.Check.long.octets c.args.stretch.now c.fill-outcome.new.stretch c.in-Idle-Fill.idle c.fill-outcome.new.self c.in-Idle-Fill.flags c.fill-outcome.result c.fill-outcome.ensures);
  typed = c.well_typed.ensures;
}

pub returns-in-Open-Add : goal.returns-in-Open-Add
returns-in-Open-Add g c = record {
  calls = simp (c.in-Open-Add.is-0, c.in-Open-Add.is-1, c.stayed-in-Open-Add.ensures)
      (adds g.L.LineCode.onward g.K.Check.owes g.K.Check.owed g.met.K.Check.long.octets c.args.stretch.now c.add-outcome.new.stretch c.in-Open-Add.open c.add-outcome.new.self c.in-Open-Add.information.now c.add-outcome.result
      (subst (λ r. Typed (lent_call r)) c.in-Open-Add.is-1 c.well_typed.ensures) c.add-outcome.ensures);
  typed = c.well_typed.ensures;
}

pub returns-in-Open-Adapt : goal.returns-in-Open-Adapt
returns-in-Open-Adapt g c = record {
  calls = simp (c.in-Open-Adapt.is-0, c.in-Open-Adapt.is-1, c.stayed-in-Open-Adapt.ensures)
      (adapts g.L.LineCode.onward g.K.Check.owes g.K.Check.owed g.met.K.Check.long.octets c.args.stretch.now c.adapt-outcome.new.stretch c.in-Open-Adapt.open c.adapt-outcome.new.self c.in-Open-Adapt.pairs c.adapt-outcome.result c.adapt-outcome.ensures);
  typed = c.well_typed.ensures;
}

pub returns-in-Open-Close : goal.returns-in-Open-Close
returns-in-Open-Close g c = record {
  calls = simp (c.in-Open-Close.is-0, c.in-Open-Close.is-1, ended_is c.close.result c.crossed-in-Open-Close.result c.crossed-in-Open-Close.ensures)
      (ends g.L.LineCode.onward g.K.Check.owes g.K.Check.owed g.met.K.Check.long.octets c.args.stretch.now c.close.new.stretch closing_octets closing tt (λ a i. (refl, refl, refl, λ σ room. refl)) c.in-Open-Close.open c.close.result c.close.ensures);
  typed = c.well_typed.ensures;
}

pub returns-in-Open-Abort : goal.returns-in-Open-Abort
returns-in-Open-Abort g c = record {
  calls = simp (c.in-Open-Abort.is-0, c.in-Open-Abort.is-1, ended_is c.abort.result c.crossed-in-Open-Abort.result c.crossed-in-Open-Abort.ensures)
      (ends g.L.LineCode.onward g.K.Check.owes g.K.Check.owed g.met.K.Check.long.octets c.args.stretch.now c.abort.new.stretch (λ _. aborting_octets) aborting tt (λ a i. (refl, refl, refl, λ σ room. refl)) c.in-Open-Abort.open c.abort.result c.abort.ensures);
  typed = c.well_typed.ensures;
}

pub returns-in-Open-Spoil : goal.returns-in-Open-Spoil
returns-in-Open-Spoil g c = record {
  calls = simp (c.in-Open-Spoil.is-0, c.in-Open-Spoil.is-1, ended_is c.spoil.result c.crossed-in-Open-Spoil.result c.crossed-in-Open-Spoil.ensures)
      (ends g.L.LineCode.onward g.K.Check.owes g.K.Check.owed g.met.K.Check.long.octets c.args.stretch.now c.spoil.new.stretch spoiling_octets spoiling tt (λ a i. (refl, refl, refl, λ σ room. refl)) c.in-Open-Spoil.open c.spoil.result c.spoil.ensures);
  typed = c.well_typed.ensures;
}
