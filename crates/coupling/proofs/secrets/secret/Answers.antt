use Rattle.std.proofs.Common.{◌-◌, [], List, length, get_or, vec_items, ◌∙◌, ap₂}
use Rattle.std.proofs.lemmas.List.{get_or_read}
use Rattle.field.specs.Field.{◌⊗◌}
use Rattle.runs.proofs.Stepped.{good_product}
use Rattle.sheets.specs.Numbers.{numbers}
use Rattle.coupling.proofs.Draws.{secret_product}
use Rattle.coupling.proofs.secrets.secret.Goals as goal

pub returns-in-Product-clause-value : goal.returns-in-Product-clause-value
returns-in-Product-clause-value c s h =
    let held = vec_items c.args.run.now.held in
    let there = good_product c.requires.0.0 (length held) c.args.line c.requires.0.1 c.in-Product.a c.in-Product.b c.in-Product.is in
    secret_product c.args.line c.in-Product.a c.in-Product.b c.args.member c.product.result s held (numbers c.args.run.now.figures) c.in-Product.is there c.requires.1 c.requires.2
    (c.product.ensures.0
    ∙ ap₂ (λ (x y : List _). get_or x (c.args.member - 1) 0 ⊗ get_or y (c.args.member - 1) 0)
    (c.shares.ensures ∙ get_or_read held c.in-Product.a c.index.result.now there.0 c.index.ensures [])
    (c.shares-in-Product.ensures ∙ get_or_read held c.in-Product.b c.index-in-Product.result.now there.1 c.index-in-Product.ensures []))
    h
