use Rattle.std.proofs.Common.{◌≡◌, ℕ, ◌+◌, ◌<◌, T, length, get_or}
use Rattle.field.specs.Field.{◌⊕◌, ◌⊗◌, below}
use Rattle.masks.proofs.shift.Given as goal

abbrev pub invariant-loop-i : goal.invariant-loop-i
invariant-loop-i l =
    (length l.draw ≡ 7)
    × T (below l.draw)
    × ((k : ℕ) → k < l.i → get_or l.draw k 0 ≡ get_or l.coins k 0 ⊕ l.d ⊗ get_or l.mask (k + 1) 0)
