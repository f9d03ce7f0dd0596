use Rattle.codes.specs.contracts.scrambler.ScramblerSettlingCode.TheImpl.Laws.{settled-law}
use Rattle.codes.proofs.scrambler.ScramblerSettlingCode.settling_length.Goals as goal

pub returns-clause-settles : goal.returns-clause-settles
returns-clause-settles c = settled-law
