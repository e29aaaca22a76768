use Rattle.shares.proofs.Recombined.{shared}
use Rattle.shares.proofs.laws.shared_law.Goals as goal

pub returns : goal.returns
returns c = shared
