use Rattle.std.proofs.Common.{◌≡◌, ℕ, ◌<◌, length, get_or}
use Rattle.field.specs.Field.{◌⊕◌, ◌⊗◌}
use Rattle.masks.specs.Coefficients.{coefficient}
use Rattle.masks.proofs.times_linear.Given as goal

abbrev pub invariant-loop-i : goal.invariant-loop-i
invariant-loop-i l =
    (length l.product ≡ 8)
    × ((j : ℕ) → j < l.i → get_or l.product j 0 ≡ get_or l.coefficients j 0 ⊕ l.k ⊗ coefficient l.coefficients j)
