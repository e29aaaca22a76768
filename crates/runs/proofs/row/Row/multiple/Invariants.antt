use Rattle.std.proofs.Common.{◌≡◌, ℕ, ◌<◌, ◌≤◌, get_or}
use Rattle.field.specs.Field.{◌⊗◌}
use Rattle.runs.proofs.row.Row.multiple.Given as goal

abbrev pub invariant-loop-share : goal.invariant-loop-share
invariant-loop-share l =
    ((i : ℕ) → i < l.share-index → get_or l.share-items i 0 ≡ l.factor ⊗ get_or l.initial.share-items i 0)
    × ((i : ℕ) → l.share-index ≤ i → get_or l.share-items i 0 ≡ get_or l.initial.share-items i 0)
