use Rattle.std.proofs.Common.{◌≡◌, drop}
use Rattle.sheets.specs.Sheets.{circle_of}
use Rattle.pairing.proofs.Taking.{missing_in}
use Rattle.pairing.proofs.lacking.Left.take_all.Given as goal

abbrev pub invariant-loop-line : goal.invariant-loop-line
invariant-loop-line l = missing_in (circle_of l.sheet) (drop l.line-index l.line-items) l.self ≡ missing_in (circle_of l.sheet) l.line-items l.initial.self
