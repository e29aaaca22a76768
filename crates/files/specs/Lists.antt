-- What some vectors hold, each a list.
use Rattle.std.specs.Prelude.{ℕ, List, map, vec_items, Vec}

abbrev pub lists : {Z Y : Type 0} → Vec (Vec ℕ Z) Y → List (List ℕ)
lists vectors = map vec_items (vec_items vectors)
