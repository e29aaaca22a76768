-- Lists of numbers below p.
use Rattle.std.proofs.Common.{ℕ, ◌<◌, Bool, true, false, ◌&&◌, T, ltb, List, [], ◌∷◌, ◌++◌, length, get_or, take, drop, set, ltb→lt, lt→ltb}
use Rattle.std.specs.List.{AllByRecursion as All}
use Rattle.std.proofs.ByRecursion.{All-get_or, All-append, All-take, All-drop, All-set}
use Rattle.field.specs.Field.{p, below}

pub both_parts : (a b : Bool) → T (a && b) → T a × T b
both_parts true b t = (tt, t)
both_parts false b t = absurd t

pub both_from : (a b : Bool) → T a → T b → T (a && b)
both_from true b s t = t
both_from false b s t = absurd s

pub all_from_below : (xs : List ℕ) → T (below xs) → All (λ x. x < p) xs
all_from_below [] t = tt
all_from_below (x ∷ xs) t =
    let h = both_parts (ltb x p) (below xs) t in (ltb→lt x p h.0, all_from_below xs h.1)

pub below-from_all : (xs : List ℕ) → All (λ x. x < p) xs → T (below xs)
below-from_all [] h = tt
below-from_all (x ∷ xs) h = both_from (ltb x p) (below xs) (lt→ltb x p h.0) (below-from_all xs h.1)

pub below-get_or : (xs : List ℕ) (i : ℕ) → i < length xs → T (below xs) → get_or xs i 0 < p
below-get_or xs i lt t = All-get_or (λ x. x < p) xs i 0 lt (all_from_below xs t)

pub below-append : (xs ys : List ℕ) → T (below xs) → T (below ys) → T (below (xs ++ ys))
below-append xs ys s t =
    below-from_all (xs ++ ys) (All-append (λ x. x < p) xs ys (all_from_below xs s) (all_from_below ys t))

pub below-take : (n : ℕ) (xs : List ℕ) → T (below xs) → T (below (take n xs))
below-take n xs t = below-from_all (take n xs) (All-take (λ x. x < p) n xs (all_from_below xs t))

pub below-drop : (n : ℕ) (xs : List ℕ) → T (below xs) → T (below (drop n xs))
below-drop n xs t = below-from_all (drop n xs) (All-drop (λ x. x < p) n xs (all_from_below xs t))

pub below_set : (xs : List ℕ) (i x : ℕ) → x < p → T (below xs) → T (below (set xs i x))
below_set xs i x lt t = below-from_all (set xs i x) (All-set (λ y. y < p) xs i x lt (all_from_below xs t))
