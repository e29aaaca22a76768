use Rattle.runs.proofs.Alike.{alike}
use Rattle.runs.proofs.laws.alike_law.Goals as goal

pub returns : goal.returns
returns c = alike
