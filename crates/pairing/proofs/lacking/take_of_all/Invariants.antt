use Rattle.std.proofs.Common.{◌-◌}
use Rattle.sheets.specs.Numbers.{numbers}
use Rattle.sheets.specs.Sheets.{circle_of}
use Rattle.pairing.proofs.Taking.{Dealt}
use Rattle.pairing.proofs.lacking.take_of_all.Given as goal

abbrev pub invariant-loop-member : goal.invariant-loop-member
invariant-loop-member l = Dealt (circle_of l.sheet) (numbers l.initial.coins) (l.member - 1) (numbers l.coins)
