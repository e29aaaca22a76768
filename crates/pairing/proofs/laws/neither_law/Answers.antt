use Rattle.pairing.proofs.Judged.{neither}
use Rattle.pairing.proofs.laws.neither_law.Goals as goal

pub returns : goal.returns
returns c = neither
