use Rattle.std.proofs.Common.{T, subst, sym}
use Rattle.field.specs.Field.{below}
use Rattle.runs.proofs.RowSteps.{dealt-below}
use Rattle.runs.proofs.row.Row.deal.Goals as goal

pub invariant_of-result : goal.invariant_of-result
invariant_of-result c = subst (λ xs. T (below xs)) (sym c.deal.ensures) (dealt-below 15 c.args.secret c.args.coins.now)
