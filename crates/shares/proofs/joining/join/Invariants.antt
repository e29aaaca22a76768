use Rattle.std.proofs.Common.{◌≡◌, ◌<◌}
use Rattle.field.specs.Field.{p, ◌⊕◌}
use Rattle.shares.specs.Weights.{dot}
use Rattle.shares.proofs.joining.join.Given as goal

-- the sum so far, and what is left of it, is the whole
abbrev pub invariant-loop-weight : goal.invariant-loop-weight
invariant-loop-weight l =
    (l.joined < p)
    × (l.joined ⊕ dot l.weight-iterator.a.rest.now l.weight-iterator.b.rest.now ≡ dot l.weights l.shares)
