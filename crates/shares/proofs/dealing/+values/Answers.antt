use Rattle.std.proofs.Common.{length, ◌∙◌, rules}
use Rattle.shares.proofs.Values.{values-nil, values_first_rest}
use Rattle.shares.proofs.dealing.+values.Goals as goal

pub returns-in-empty : goal.returns-in-empty
returns-in-empty t c =
    c.fill.ensures.after (λ y e. e)
    ∙ values-nil c.args.coefficients.now 1 (length c.args.row.now) (search rules)

pub returns-in-len1-up : goal.returns-in-len1-up
returns-in-len1-up t c =
    values_first_rest (length c.args.row.now) c.args.coefficients.now c.values.new.row c.raise.new.row
    (search rules) c.values.ensures (search rules) c.raise.ensures
