use Rattle.std.proofs.Common.{ℕ, ◌+◌, sym, ap, ◌∙◌, subst, rules}
use Rattle.field.specs.Field.{◌⊗◌}
use Rattle.shares.proofs.WeightSteps.{Left, left_none, left_skip, left_more, left_all}
use Rattle.shares.proofs.joining.weight.Goals as goal
use Rattle.shares.proofs.joining.weight.Goals.{then-k-i, else-k-i}

pub loop-k-init : goal.loop-k-init
loop-k-init c = left_none c.args.m c.args.i

pub loop-k-preserved : goal.loop-k-preserved
loop-k-preserved c =
    elim c.if-k-i.branch [
      | then-k-i w ↦ left_more c.loop-k.w c.if-k-i.w c.loop-k.k c.args.m c.args.i (search rules) (search rules)
          (w.w-is ∙ (w.product-w.ensures.0 ∙ ap (λ (x : ℕ). c.loop-k.w ⊗ x) w.ratio.ensures)) c.loop-k.invariant
      | else-k-i w ↦ subst (λ (x : ℕ). Left x (c.loop-k.k + 1) c.args.m c.args.i) (sym w.w-is)
          (left_skip c.loop-k.w c.loop-k.k c.args.m c.args.i (search rules) (search rules) c.loop-k.invariant)
    ]

pub returns : goal.returns
returns c = search (rules, left_all)
