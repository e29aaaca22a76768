use Rattle.files.proofs.RoundTrips.{undo}
use Rattle.files.proofs.laws.undo_law.Goals as goal

pub returns : goal.returns
returns c = undo
