-- Lists of numbers below p.
use Rattle.std.specs.Prelude.{◌≡◌, ℕ, true, false, ◌⊎◌, List, Ok, Err, Result, vec_items}
use Rattle.field.specs.Field.{all_below}
use Rattle.sheets.specs.Families.{family, of}
use Rattle.sheets.specs.declared.lists.Lists.{Lists}
use Rattle.sheets.specs.declared.refusal.Refusal.{Refusal}
use Rattle.sheets.specs.declared.refusal.Refusal.TheVariants.{NoMemory, OutOfRange}

abbrev pub lists_in : Lists → List (List ℕ)
lists_in l = family (vec_items l.lists)

-- each member's list
abbrev pub numbers : Lists → ℕ → List ℕ
numbers l = of (lists_in l)

-- the lists as they are, all below p, or one has a number that is p or above
abbrev pub ListsAs : List (List ℕ) → Result Lists Refusal → Type 0
ListsAs lists (Ok l) = (lists_in l ≡ lists) × (all_below lists ≡ true)
ListsAs lists (Err e) = (e ≡ NoMemory) ⊎ ((e ≡ OutOfRange) × (all_below lists ≡ false))
