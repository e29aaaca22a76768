use Rattle.std.proofs.Common.{length}
use Rattle.shares.proofs.dealing.+value.Given as goal

abbrev pub decreases-value : goal.decreases-value
decreases-value l = length l.coefficients.now
