use Rattle.sheets.proofs.RoundTrips.{rewritten}
use Rattle.sheets.proofs.laws.rewritten_law.Goals as goal

pub returns : goal.returns
returns c = rewritten
