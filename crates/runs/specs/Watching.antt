-- Who is watched, as flags: member i's is at place i - 1.
use Rattle.std.specs.Prelude.{ℕ, zero, suc, Bool, false, List, slice_index_or}

abbrev pub watches : List Bool → ℕ → Bool
watches flags zero = false
watches flags (suc k) = slice_index_or flags k false
