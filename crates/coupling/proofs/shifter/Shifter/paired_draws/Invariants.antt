use Rattle.std.proofs.Common.{◌≡◌, ℕ, ◌<◌, T, [], length, get_or, vec_items}
use Rattle.field.specs.Field.{all_below}
use Rattle.coupling.specs.Sides.{Side}
use Rattle.runs.specs.Run.{State}
use Rattle.sheets.specs.Numbers.{numbers}
use Rattle.runs.specs.Setups.{circle_in}
use Rattle.coupling.proofs.Draws.{Draw}
use Rattle.coupling.proofs.shifter.Shifter.paired_draws.Given as goal

abbrev pub invariant-loop-i : goal.invariant-loop-i
invariant-loop-i l =
    (length l.draw-items ≡ 15)
    × T (all_below l.draw-items)
    × ((s s' : State) → numbers l.coins ≡ s.coins → Side s (vec_items l.first.held) (numbers l.first.figures) → Side s' (vec_items l.second.held) (numbers l.second.figures) →
    (k : ℕ) → k < l.i → Draw (circle_in l.self.setup) l.self.mask l.line s s' k (get_or l.draw-items k []))
