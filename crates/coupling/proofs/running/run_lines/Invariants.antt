use Rattle.std.proofs.Common.{length, drop, vec_items}
use Rattle.sheets.specs.Numbers.{lists_in, numbers}
use Rattle.runs.specs.Setups.{circle_in}
use Rattle.coupling.specs.Growing.{lists}
use Rattle.coupling.specs.Sides.{higher}
use Rattle.coupling.proofs.Beside.{Beside}
use Rattle.coupling.proofs.running.run_lines.Given as goal

abbrev pub invariant-loop-line : goal.invariant-loop-line
invariant-loop-line l =
    Beside (circle_in l.shifter.setup) (higher (circle_in l.shifter.setup) l.shifter.mask) l.lines (numbers l.fn.figures) (numbers l.fn.other_figures) (numbers l.initial.coins) (length (lists_in l.initial.coins))
    (drop l.line-index l.lines) (numbers l.coins) (numbers l.first.figures) (vec_items l.first.held) (vec_items l.first.opened)
    (numbers l.second.figures) (vec_items l.second.held) (vec_items l.second.opened) (lists l.paired)
