use Rattle.files.proofs.CoinLaws.{passed_over}
use Rattle.files.proofs.laws.passed_over_law.Goals as goal

pub returns : goal.returns
returns c = passed_over
