use Rattle.runs.proofs.Rightly.{right}
use Rattle.runs.proofs.laws.right_law.Goals as goal

pub returns : goal.returns
returns c = right
