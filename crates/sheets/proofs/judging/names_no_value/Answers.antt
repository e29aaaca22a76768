use Rattle.std.proofs.Common.{sym, ◌∙◌}
use Rattle.sheets.proofs.Judged.{undefined_hit, undefined_more, undefined_all, made_within}
use Rattle.sheets.proofs.judging.names_no_value.Goals as goal

pub returns-then-is_undefined : goal.returns-then-is_undefined
returns-then-is_undefined c =
    undefined_hit c.loop-line.made c.args.lines.now c.loop-line.line-index _ c.loop-line-test.true c.if-is_undefined.ensures
    ∙ sym c.loop-line.invariant.0

pub loop-line-preserved : goal.loop-line-preserved
loop-line-preserved c = (
  c.loop-line.invariant.0
      ∙ undefined_more c.loop-line.made c.values_after-made.result c.args.lines.now c.loop-line.line-index _ c.loop-line-test.true
      c.if-is_undefined.ensures c.values_after-made.ensures,
  made_within _ c.loop-line.made c.values_after-made.result c.loop-line.line-index c.values_after-made.ensures c.loop-line.invariant.1,
)

pub returns : goal.returns
returns c =
    undefined_all c.loop-line.made c.args.lines.now c.loop-line.line-index c.loop-line-test.false
    ∙ sym c.loop-line.invariant.0
