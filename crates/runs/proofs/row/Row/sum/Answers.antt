use Rattle.std.proofs.Common.{T, sym, subst, ap₂, ◌∙◌, arith}
use Rattle.field.specs.Field.{below}
use Rattle.shares.specs.Polynomial.{added}
use Rattle.runs.proofs.RowSteps.{added_from, added-below}
use Rattle.runs.proofs.row.Row.sum.Goals as goal

pub invariant_of-result : goal.invariant_of-result
invariant_of-result c =
    subst (λ xs. T (below xs))
    (sym (added_from c.self.inside.shares c.other.inside.shares c.loop-k.share-items (omega (arith, c.self.told, c.other.told)) (omega (arith, c.self.told, c.loop-k-test.array_long))
    (λ k lt. c.loop-k.invariant.0 k (omega (arith, c.self.told, c.loop-k-test.false)))))
    (added-below c.self.inside.shares c.other.inside.shares)

pub returns : goal.returns
returns c =
    added_from c.self.inside.shares c.other.inside.shares c.loop-k.share-items (omega (arith, c.self.told, c.other.told)) (omega (arith, c.self.told, c.loop-k-test.array_long))
    (λ k lt. c.loop-k.invariant.0 k (omega (arith, c.self.told, c.loop-k-test.false)))
    ∙ ap₂ added c.self.view_is c.other.view_is
