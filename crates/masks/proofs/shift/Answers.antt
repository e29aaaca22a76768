use Rattle.std.proofs.Common.{rules}
use Rattle.field.proofs.Below.{below_set}
use Rattle.masks.proofs.shift.Goals as goal

pub loop-i-preserved : goal.loop-i-preserved
loop-i-preserved c = (search rules, below_set c.loop-i.draw c.loop-i.i c.sum.result c.sum.ensures.1 c.loop-i.invariant.1, search rules)
