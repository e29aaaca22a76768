use Rattle.std.proofs.Common.{length}
use Rattle.shares.proofs.dealing.+values.Given as goal

abbrev pub decreases-values : goal.decreases-values
decreases-values l = length l.coefficients.now
