use Rattle.std.proofs.Common.{◌≡◌, false, map, take, vec_items}
use Rattle.std.specs.List.{list_any}
use Rattle.sheets.specs.Reading.{malformed, line_of}
use Rattle.sheets.proofs.reading.lines_of.Given as goal

abbrev pub invariant-loop-nine : goal.invariant-loop-nine
invariant-loop-nine l =
    (list_any malformed (take l.nine-index l.parts) ≡ false) × (vec_items l.lines ≡ map line_of (take l.nine-index l.parts))
