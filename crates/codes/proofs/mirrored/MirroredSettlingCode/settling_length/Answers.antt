use Rattle.codes.specs.contracts.mirrored.MirroredSettlingCode.TheImpl.Laws.{settled-law}
use Rattle.codes.proofs.mirrored.MirroredSettlingCode.settling_length.Goals as goal

pub returns-clause-settles : goal.returns-clause-settles
returns-clause-settles c = settled-law
