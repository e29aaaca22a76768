use Rattle.shares.proofs.WeightSteps.{Left}
use Rattle.shares.proofs.joining.weight.Given as goal

abbrev pub invariant-loop-k : goal.invariant-loop-k
invariant-loop-k l = Left l.w l.k l.m l.i
