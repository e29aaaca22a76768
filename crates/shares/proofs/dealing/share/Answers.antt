use Rattle.std.proofs.Common.{rules}
use Rattle.shares.specs.Polynomial.{value}
use Rattle.shares.proofs.dealing.share.Goals as goal

pub returns : goal.returns
unfolding value
returns c = search rules
