use Rattle.std.proofs.Common.{vec_items}
use Rattle.sheets.specs.Numbers.{numbers}
use Rattle.runs.specs.Setups.{circle_in}
use Rattle.runs.specs.Watching.{watches}
use Rattle.runs.proofs.Going.{Going}
use Rattle.runs.proofs.running.run_lines.Given as goal

abbrev pub invariant-loop-line : goal.invariant-loop-line
invariant-loop-line l =
    Going (circle_in l.setup) (watches l.setup.watched) l.lines (numbers l.fn.figures) (numbers l.initial.coins)
    l.line-index (vec_items l.progress.held) (numbers l.progress.figures) (numbers l.coins) (vec_items l.progress.opened) (vec_items l.progress.seen)
