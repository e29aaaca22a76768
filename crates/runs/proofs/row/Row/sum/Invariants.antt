use Rattle.std.proofs.Common.{◌≡◌, ℕ, ◌<◌, ◌≤◌, get_or}
use Rattle.field.specs.Field.{◌⊕◌}
use Rattle.runs.proofs.row.Row.sum.Given as goal

abbrev pub invariant-loop-k : goal.invariant-loop-k
invariant-loop-k l =
    ((i : ℕ) → i < l.k → get_or l.share-items i 0 ≡ get_or l.initial.share-items i 0 ⊕ get_or l.other-inside.shares i 0)
    × ((i : ℕ) → l.k ≤ i → get_or l.share-items i 0 ≡ get_or l.initial.share-items i 0)
