use Rattle.cases.proofs.Table.{cases}
use Rattle.cases.proofs.cases_law.Goals as goal

pub returns : goal.returns
returns c = cases
