use Rattle.std.proofs.Common.{List, sym, ap, ◌∙◌}
use Rattle.std.proofs.lemmas.Result.{err_from_is_err_and}
use Rattle.sheets.specs.Sheets.{circle_of}
use Rattle.sheets.specs.declared.line.Line.{Line}
use Rattle.sheets.specs.declared.line.Line.TheVariants.{Input}
use Rattle.pairing.proofs.Taking.{missing_in, left_short, left_more, left_none}
use Rattle.pairing.proofs.lacking.Left.take_all.Goals as goal

pub returns-in_err-take : goal.returns-in_err-take
returns-in_err-take c =
    let p = err_from_is_err_and c.from_residual.result c.from_residual.ensures.1 in
    let z = circle_of c.args.sheet.now in
    rw (p.1, p.2)
    (ap (λ (ls : List Line). missing_in z ls c.args.self.now) (sym c.lines-line-items.ensures)
    ∙ left_short z c.lines-line-items.result.now c.args.self.now c.loop-line.line-index (Input 0) c.loop-line.self c.loop-line-test.true c.loop-line.invariant c.in_err-take.field-0.0 c.in_err-take.ensures)

pub loop-line-preserved : goal.loop-line-preserved
loop-line-preserved c =
    left_more (circle_of c.args.sheet.now) c.lines-line-items.result.now c.args.self.now c.loop-line.line-index (Input 0) c.loop-line.self c.loop-line-test.true c.loop-line.invariant c.take.new.self c.in_ok-take.ensures

pub returns : goal.returns
returns c =
    let z = circle_of c.args.sheet.now in
    ap (λ (ls : List Line). missing_in z ls c.args.self.now) (sym c.lines-line-items.ensures)
    ∙ left_none z c.lines-line-items.result.now c.args.self.now c.loop-line.line-index c.loop-line.self c.loop-line-test.false c.loop-line.invariant
