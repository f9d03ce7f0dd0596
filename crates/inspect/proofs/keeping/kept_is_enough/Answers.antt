use Rattle.inspect.proofs.Lengths.{enough}
use Rattle.inspect.proofs.keeping.kept_is_enough.Goals as goal

pub returns : goal.returns
returns c = enough
