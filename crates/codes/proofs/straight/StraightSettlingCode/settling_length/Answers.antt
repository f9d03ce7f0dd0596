use Rattle.codes.specs.contracts.straight.StraightSettlingCode.TheImpl.Laws.{settled-law}
use Rattle.codes.proofs.straight.StraightSettlingCode.settling_length.Goals as goal

pub returns-clause-settles : goal.returns-clause-settles
returns-clause-settles c = settled-law
