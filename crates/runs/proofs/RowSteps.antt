-- Rows worked on share by share.
use Rattle.std.proofs.Common.{◌≡◌, ℕ, zero, suc, ◌<◌, T, List, [], ◌∷◌, map, length, get_or, sym, refl, ap, ◌∙◌, arith}
use Rattle.std.proofs.lemmas.List.{ext_get_or, length-map}
use Rattle.field.specs.Field.{◌⊕◌, ◌⊗◌, below}
use Rattle.field.proofs.Below.{both_from}
use Rattle.field.proofs.Ring.{⊕-below, ⊗-below}
use Rattle.std.proofs.lemmas.Bool.{lt-ltb}
use Rattle.shares.specs.Circle.{members}
use Rattle.shares.specs.Polynomial.{share_of, dealt, added, scaled}
use Rattle.shares.proofs.Values.{value-below}

length-added : (xs ys : List ℕ) → length ys ≡ length xs → length (added xs ys) ≡ length xs
unfolding added
length-added [] ys e = refl
length-added (x ∷ xs) [] e = absurd (omega arith)
length-added (x ∷ xs) (y ∷ ys) e = ap suc (length-added xs ys (omega arith))

get_or-added : (xs ys : List ℕ) (k : ℕ) → length ys ≡ length xs → k < length xs → get_or (added xs ys) k 0 ≡ get_or xs k 0 ⊕ get_or ys k 0
unfolding added
get_or-added [] ys k e lt = absurd (omega arith)
get_or-added (x ∷ xs) [] k e lt = absurd (omega arith)
get_or-added (x ∷ xs) (y ∷ ys) zero e lt = refl
get_or-added (x ∷ xs) (y ∷ ys) (suc k) e lt = get_or-added xs ys k (omega arith) (omega arith)

pub added_from : (xs ys zs : List ℕ) → length ys ≡ length xs → length zs ≡ length xs → ((k : ℕ) → k < length xs → get_or zs k 0 ≡ get_or xs k 0 ⊕ get_or ys k 0) → zs ≡ added xs ys
added_from xs ys zs ey ez each =
    ext_get_or 0 zs (added xs ys) (ez ∙ sym (length-added xs ys ey)) (λ k lt. each k (omega (arith, ez)) ∙ sym (get_or-added xs ys k ey (omega (arith, ez))))

pub added-below : (xs ys : List ℕ) → T (below (added xs ys))
unfolding added
added-below [] ys = tt
added-below (x ∷ xs) [] = tt
added-below (x ∷ xs) (y ∷ ys) = both_from _ (below (added xs ys)) (rw (lt-ltb (x ⊕ y) _ (⊕-below x y)) tt) (added-below xs ys)

get_or-scaled : (f : ℕ) (xs : List ℕ) (k : ℕ) → k < length xs → get_or (scaled f xs) k 0 ≡ f ⊗ get_or xs k 0
get_or-scaled f [] k lt = absurd (omega arith)
get_or-scaled f (x ∷ xs) zero lt = refl
get_or-scaled f (x ∷ xs) (suc k) lt = get_or-scaled f xs k (omega arith)

pub scaled_from : (f : ℕ) (xs zs : List ℕ) → length zs ≡ length xs → ((k : ℕ) → k < length xs → get_or zs k 0 ≡ f ⊗ get_or xs k 0) → zs ≡ scaled f xs
scaled_from f xs zs ez each =
    ext_get_or 0 zs (scaled f xs) (ez ∙ sym (length-map xs (λ x. f ⊗ x))) (λ k lt. each k (omega (arith, ez)) ∙ sym (get_or-scaled f xs k (omega (arith, ez))))

pub scaled-below : (f : ℕ) (xs : List ℕ) → T (below (scaled f xs))
scaled-below f [] = tt
scaled-below f (x ∷ xs) = both_from _ (below (scaled f xs)) (rw (lt-ltb (f ⊗ x) _ (⊗-below f x)) tt) (scaled-below f xs)

pub weighted_from : (w : ℕ) (xs ys zs : List ℕ) → length ys ≡ length xs → length zs ≡ length xs → ((k : ℕ) → k < length xs → get_or zs k 0 ≡ get_or xs k 0 ⊕ w ⊗ get_or ys k 0) → zs ≡ added xs (scaled w ys)
weighted_from w xs ys zs ey ez each =
    added_from xs (scaled w ys) zs (length-map ys (λ x. w ⊗ x) ∙ ey) ez
    (λ k lt. each k lt ∙ ap (λ (y : ℕ). get_or xs k 0 ⊕ y) (sym (get_or-scaled w ys k (omega (arith, ey)))))

pub length-weighted : (w : ℕ) (xs ys : List ℕ) → length ys ≡ length xs → length (added xs (scaled w ys)) ≡ length xs
length-weighted w xs ys e = length-added xs (scaled w ys) (length-map ys (λ x. w ⊗ x) ∙ e)

pub get_or-weighted : (w : ℕ) (xs ys : List ℕ) (k : ℕ) → length ys ≡ length xs → k < length xs → get_or (added xs (scaled w ys)) k 0 ≡ get_or xs k 0 ⊕ w ⊗ get_or ys k 0
get_or-weighted w xs ys k e lt =
    get_or-added xs (scaled w ys) k (length-map ys (λ x. w ⊗ x) ∙ e) lt ∙ ap (λ (y : ℕ). get_or xs k 0 ⊕ y) (get_or-scaled w ys k (omega (arith, e)))

values_below : (v : ℕ) (coins js : List ℕ) → T (below (map (share_of v coins) js))
values_below v coins [] = tt
values_below v coins (j ∷ js) = both_from _ (below (map (share_of v coins) js)) (rw (lt-ltb (share_of v coins j) _ (value-below (v ∷ coins) j)) tt) (values_below v coins js)

pub dealt-below : (n v : ℕ) (coins : List ℕ) → T (below (dealt n v coins))
dealt-below n v coins = values_below v coins (members n)
