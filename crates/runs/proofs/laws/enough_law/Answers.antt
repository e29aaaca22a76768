use Rattle.runs.proofs.Enough.{enough}
use Rattle.runs.proofs.laws.enough_law.Goals as goal

pub returns : goal.returns
returns c = enough
