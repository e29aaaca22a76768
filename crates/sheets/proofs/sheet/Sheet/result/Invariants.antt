use Rattle.std.proofs.Common.{drop}
use Rattle.sheets.specs.Families.{family}
use Rattle.sheets.specs.Numbers.{lists_in}
use Rattle.sheets.proofs.Plainly.{At}
use Rattle.sheets.proofs.sheet.Sheet.result.Given as goal

abbrev pub invariant-loop-line : goal.invariant-loop-line
invariant-loop-line l =
    At l.fn.self.n l.fn.self.lines.items (family l.fn.figures) (drop l.line-index l.line-items) (lists_in l.plain.figures) l.plain.values.items l.plain.opened.items
