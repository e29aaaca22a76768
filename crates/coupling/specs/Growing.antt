-- Lists that grow, one for each member.
use Rattle.std.specs.Prelude.{◌≡◌, ℕ, ◌<◌, List, [], ◌++◌, map, length, Ok, Err, vec_items, Result, Vec, slice_index_or}
use Rattle.std.specs.declared.alloc.Global.{Global}
use Rattle.sheets.specs.declared.refusal.Refusal.{Refusal}
use Rattle.sheets.specs.declared.refusal.Refusal.TheVariants.{NoMemory}

abbrev pub lists : Vec (Vec ℕ Global) Global → List (List ℕ)
lists v = map vec_items (vec_items v)

-- so many empty lists
abbrev pub EmptyAs : ℕ → Result (Vec (Vec ℕ Global) Global) Refusal → Type 0
EmptyAs count (Ok v) = (length (lists v) ≡ count) × ((k : ℕ) → slice_index_or (lists v) k [] ≡ [])
EmptyAs count (Err e) = e ≡ NoMemory

-- as many lists as before, each with what stands at its place appended
pub record Grown (before more after : List (List ℕ)) : Type 0 where
  pub as_many : length after ≡ length before
  pub longer : (k : ℕ) → k < length before → slice_index_or after k [] ≡ slice_index_or before k [] ++ slice_index_or more k []

abbrev pub GrownAs : List (List ℕ) → List (List ℕ) → List (List ℕ) → Result (Unit {0}) Refusal → Type 0
GrownAs before more after (Ok u) = Grown before more after
GrownAs before more after (Err e) = e ≡ NoMemory
