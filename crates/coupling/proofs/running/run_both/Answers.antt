use Rattle.std.proofs.Common.{◌≡◌, ◌≤◌, length, arith, rules}
use Rattle.sheets.specs.Families.{family}
use Rattle.sheets.specs.Numbers.{lists_in as numbers_in}
use Rattle.sheets.specs.Sheets.{circle_of, lines_in}
use Rattle.sheets.proofs.Checked.{below-from-reduced}
use Rattle.runs.specs.Setups.{circle_in}
use Rattle.runs.specs.Watching.{watches}
use Rattle.coupling.proofs.Whole.{coupled}
use Rattle.coupling.proofs.running.run_both.Goals as goal

pub known-requires : goal.known-requires
known-requires c = below-from-reduced (family c.args.coins.now) c.requires.enough.reduced

pub known-requires-2 : goal.known-requires-2
known-requires-2 c = below-from-reduced (family c.args.figures.now) c.requires.figs.reduced

pub known-requires-3 : goal.known-requires-3
known-requires-3 c = below-from-reduced (family c.args.other_figures.now) c.requires.figs'.reduced

pub returns : goal.returns
returns c =
    let sheet = c.args.sheet.now in
    let few : sheet.t ≤ 7 = omega (arith, sheet.enough, sheet.few) in
    let eight : length c.mask-mask.result ≡ 8 = search rules in
    coupled (circle_of sheet) (sheet.enough, sheet.few) (watches c.args.watched.now) (lines_in sheet) (family c.args.coins.now) (family c.args.figures.now) (family c.args.other_figures.now) c.requires
    (circle_in c.new-setup.result) c.lines.result.now (numbers_in c.in_ok-coins.coins) (numbers_in c.in_ok-figures.figures) (numbers_in c.in_ok-other_figures.other_figures)
    c.new-setup.ensures.0 c.lines.ensures c.in_ok-coins.ensures.lists c.in_ok-figures.ensures.lists c.in_ok-other_figures.ensures.lists
    c.mask-mask.result c.run_lines.result eight few c.mask-mask.ensures c.run_lines.ensures
