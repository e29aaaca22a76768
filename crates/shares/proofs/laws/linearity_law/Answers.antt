use Rattle.shares.proofs.Linear.{linearity}
use Rattle.shares.proofs.laws.linearity_law.Goals as goal

pub returns : goal.returns
returns c = linearity
