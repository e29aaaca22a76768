use Rattle.pairing.proofs.Judged.{judged}
use Rattle.pairing.proofs.laws.judged_law.Goals as goal

pub returns : goal.returns
returns c = judged
