use Rattle.shares.proofs.Recombined.{recombine}
use Rattle.shares.proofs.laws.recombine_law.Goals as goal

pub returns : goal.returns
returns c = recombine
