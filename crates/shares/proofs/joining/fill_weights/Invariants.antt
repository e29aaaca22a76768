use Rattle.std.proofs.Common.{◌≡◌, ℕ, ◌+◌, ◌<◌, get_or}
use Rattle.shares.specs.Circle.{members}
use Rattle.shares.specs.Weights.{weight_among}
use Rattle.shares.proofs.joining.fill_weights.Given as goal

abbrev pub invariant-loop-i : goal.invariant-loop-i
invariant-loop-i l = (k : ℕ) → k < l.i → get_or l.weights k 0 ≡ weight_among (members l.m) (k + 1)
