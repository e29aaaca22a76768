use Rattle.sheets.proofs.RoundTrips.{reread}
use Rattle.sheets.proofs.laws.reread_law.Goals as goal

pub returns : goal.returns
returns c = reread
