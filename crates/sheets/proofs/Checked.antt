-- Lists are below p if and only if each member's is.
use Rattle.std.proofs.Common.{ℕ, zero, suc, T, List, [], ◌∷◌, get_or}
use Rattle.field.specs.Field.{below, all_below}
use Rattle.field.proofs.Below.{both_parts, both_from}
use Rattle.sheets.specs.Families.{of}

at_list : (lists : List (List ℕ)) (k : ℕ) → T (all_below lists) → T (below (get_or lists k []))
at_list [] k t = tt
at_list (xs ∷ lists) zero t = (both_parts (below xs) (all_below lists) t).0
at_list (xs ∷ lists) (suc k) t = at_list lists k (both_parts (below xs) (all_below lists) t).1

pub reduced-from : (lists : List (List ℕ)) → T (all_below lists) → (i : ℕ) → T (below (of lists i))
reduced-from lists t zero = tt
reduced-from lists t (suc k) = at_list lists k t

all_from_lists : (lists : List (List ℕ)) → ((k : ℕ) → T (below (get_or lists k []))) → T (all_below lists)
all_from_lists [] h = tt
all_from_lists (xs ∷ lists) h = both_from (below xs) (all_below lists) (h 0) (all_from_lists lists (λ k. h (suc k)))

pub below-from-reduced : (lists : List (List ℕ)) → ((i : ℕ) → T (below (of lists i))) → T (all_below lists)
below-from-reduced lists h = all_from_lists lists (λ k. h (suc k))
