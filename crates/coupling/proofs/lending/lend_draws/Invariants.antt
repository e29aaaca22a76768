use Rattle.std.proofs.Common.{◌≡◌, ℕ, ◌+◌, ◌<◌, cond, [], length, get_or, take}
use Rattle.sheets.specs.Families.{family}
use Rattle.sheets.specs.Lines.{deals}
use Rattle.runs.specs.Setups.{circle_in}
use Rattle.coupling.proofs.lending.lend_draws.Given as goal

abbrev pub invariant-loop-i : goal.invariant-loop-i
invariant-loop-i l =
    (length l.list-items ≡ 15)
    × ((k : ℕ) → k < l.i → get_or (family l.list-items) k [] ≡ take (cond (deals (circle_in l.setup) l.line (k + 1)) l.setup.t 0) (get_or l.draws k []))
