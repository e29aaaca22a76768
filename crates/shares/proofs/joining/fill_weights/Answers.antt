use Rattle.std.proofs.Common.{length, rules}
use Rattle.shares.specs.Circle.{members}
use Rattle.shares.specs.Weights.{weight_among}
use Rattle.shares.proofs.Values.{filled}
use Rattle.shares.proofs.joining.fill_weights.Goals as goal

pub returns : goal.returns
returns c = filled (weight_among (members (length c.args.weights.now))) c.loop-i.weights (length c.args.weights.now) (search rules) (search rules)
