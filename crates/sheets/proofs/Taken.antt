-- What is drawn from lists below p, and what is left, is below p.
use Rattle.std.proofs.Common.{ℕ, Bool, true, false, cond, T, List, drop, Some, None, Option, ◌==◌, IfSome, sym, subst, Bor}
use Rattle.field.specs.Field.{below, all_below}
use Rattle.field.proofs.Below.{below-take, below-drop}
use Rattle.sheets.specs.Drawing.{DrawnFrom}
use Rattle.sheets.specs.Families.{of}
use Rattle.sheets.proofs.Checked.{reduced-from, below-from-reduced}

below_rest : (b : Bool) (count : ℕ) (xs : List ℕ) → T (below xs) → T (below (cond b (drop count xs) xs))
below_rest true count xs t = below-drop count xs t
below_rest false count xs t = t

pub left_small : (w count : ℕ) (before left : List (List ℕ)) (r : Option (Bor (List ℕ))) → T (all_below before) → DrawnFrom w count before left r → T (all_below left)
left_small w count before left None t h = subst (λ (xs : List (List ℕ)). T (all_below xs)) (sym h.1) t
left_small w count before left (Some r) t h =
    below-from-reduced left λ i.
    subst (λ (f : ℕ → List ℕ). T (below (f i))) (sym h.2) (below_rest (i == w) count (of before i) (reduced-from before t i))

pub drawn_small : (w count : ℕ) (before left : List (List ℕ)) (r : Option (Bor (List ℕ))) → T (all_below before) → DrawnFrom w count before left r → IfSome r (λ x. T (below x.now))
drawn_small w count before left None t h = tt
drawn_small w count before left (Some r) t h = subst (λ (xs : List ℕ). T (below xs)) (sym h.1) (below-take count (of before w) (reduced-from before t w))
