use Rattle.std.proofs.Common.{◌≡◌, ℕ, ◌≤◌, [], length, get_or, vec_len, vec_capacity}
use Rattle.coupling.specs.Growing.{lists as lists_in}
use Rattle.coupling.proofs.appending.empty_lists.Given as goal

abbrev pub invariant-loop-list : goal.invariant-loop-list
invariant-loop-list l =
    (vec_len l.empty ≡ l.list-index)
    × (length l.lists ≤ vec_capacity l.empty)
    × ((k : ℕ) → get_or (lists_in l.empty) k [] ≡ [])
