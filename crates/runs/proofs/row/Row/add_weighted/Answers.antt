use Rattle.std.proofs.Common.{ℕ, List, T, sym, subst, ap₂, ◌∙◌, arith}
use Rattle.field.specs.Field.{below}
use Rattle.shares.specs.Polynomial.{added, scaled}
use Rattle.runs.proofs.RowSteps.{weighted_from, added-below}
use Rattle.runs.proofs.row.Row.add_weighted.Goals as goal

pub invariant_of-self : goal.invariant_of-self
invariant_of-self c =
    subst (λ xs. T (below xs))
    (sym (weighted_from c.args.weight c.self.inside.shares c.row.inside.shares c.loop-k.share-items (omega (arith, c.self.told, c.row.told)) (omega (arith, c.self.told, c.loop-k-test.array_long))
    (λ k lt. c.loop-k.invariant.0 k (omega (arith, c.self.told, c.loop-k-test.false)))))
    (added-below c.self.inside.shares (scaled c.args.weight c.row.inside.shares))

pub returns : goal.returns
returns c =
    weighted_from c.args.weight c.self.inside.shares c.row.inside.shares c.loop-k.share-items (omega (arith, c.self.told, c.row.told)) (omega (arith, c.self.told, c.loop-k-test.array_long))
    (λ k lt. c.loop-k.invariant.0 k (omega (arith, c.self.told, c.loop-k-test.false)))
    ∙ ap₂ (λ (xs ys : List ℕ). added xs (scaled c.args.weight ys)) c.self.view_is c.row.view_is
