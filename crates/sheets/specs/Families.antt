-- One list for each member: member i's is at place i - 1.
use Rattle.std.specs.Prelude.{ℕ, zero, suc, List, [], map, slice_index_or}
use Rattle.std.specs.Borrow.{Bor}

-- what some lent slices hold
abbrev pub family : List (Bor (List ℕ)) → List (List ℕ)
family slices = map (λ r. r.now) slices

abbrev pub of : List (List ℕ) → ℕ → List ℕ
of lists zero = []
of lists (suc k) = slice_index_or lists k []
