use Rattle.std.proofs.Common.{◌-◌, vec_items}
use Rattle.sheets.specs.Families.{family, of}
use Rattle.runs.specs.Setups.{circle_in}
use Rattle.runs.specs.Watching.{watches}
use Rattle.runs.proofs.Coins.{Noted}
use Rattle.runs.proofs.setup.Setup.note_all_coins.Given as goal

abbrev pub invariant-loop-member : goal.invariant-loop-member
invariant-loop-member l =
    Noted (circle_in l.self) (watches l.self.watched) (of (family l.coins)) (vec_items l.initial.seen) (l.member - 1) (vec_items l.seen)
