-- A sheet's circle and its lines.
use Rattle.std.specs.Prelude.{List, vec_items}
use Rattle.shares.specs.Circle.{Circle}
use Rattle.sheets.specs.declared.line.Line.{Line}
use Rattle.sheets.specs.declared.sheet.Sheet.{Sheet}

abbrev pub circle_of : Sheet → Circle
circle_of s = record { n = s.n; t = s.t }

abbrev pub lines_in : Sheet → List Line
lines_in s = vec_items s.lines
