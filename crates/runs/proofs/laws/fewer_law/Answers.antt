use Rattle.runs.proofs.Fewer.{fewer}
use Rattle.runs.proofs.laws.fewer_law.Goals as goal

pub returns : goal.returns
returns c = fewer
