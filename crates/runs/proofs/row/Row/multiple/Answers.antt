use Rattle.std.proofs.Common.{T, sym, subst, arith}
use Rattle.field.specs.Field.{below}
use Rattle.runs.proofs.RowSteps.{scaled_from, scaled-below}
use Rattle.runs.proofs.row.Row.multiple.Goals as goal

pub invariant_of-result : goal.invariant_of-result
invariant_of-result c =
    subst (λ xs. T (below xs))
    (sym (scaled_from c.args.factor c.self.inside.shares c.loop-share.share-items (omega (arith, c.self.told, c.loop-share-test.array_long))
    (λ k lt. c.loop-share.invariant.0 k (omega (arith, c.self.told, c.loop-share-test.false)))))
    (scaled-below c.args.factor c.self.inside.shares)
