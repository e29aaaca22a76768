use Rattle.std.proofs.Common.{◌≡◌, ◌≤◌, drop}
use Rattle.sheets.specs.Reading.{any_undefined}
use Rattle.sheets.proofs.judging.names_no_value.Given as goal

abbrev pub invariant-loop-line : goal.invariant-loop-line
invariant-loop-line l =
    (any_undefined 0 l.lines ≡ any_undefined l.made (drop l.line-index l.lines)) × (l.made ≤ l.line-index)
