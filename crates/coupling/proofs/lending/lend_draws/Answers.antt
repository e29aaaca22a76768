use Rattle.std.proofs.Common.{arith, rules}
use Rattle.coupling.proofs.Draws.{lent_more}
use Rattle.coupling.proofs.lending.lend_draws.Goals as goal

pub loop-i-preserved : goal.loop-i-preserved
loop-i-preserved c = (search rules, lent_more _ _ _ _ _ _ (search rules) (search rules) c.loop-i.invariant.1)

pub returns : goal.returns
returns c = λ k lt. c.loop-i.invariant.1 k (omega arith)
