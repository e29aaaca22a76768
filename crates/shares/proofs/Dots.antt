-- Sums of products: their steps in a loop, and that they are linear.
use Rattle.std.proofs.Common.{◌≡◌, ℕ, ◌<◌, List, [], ◌∷◌, map, length, take, refl, ap, ◌∙◌, ◌⊎◌, inl, inr, arith, lit<}
use Rattle.field.specs.Field.{p, ◌⊕◌, ◌⊗◌}
use Rattle.field.proofs.Ring.{ring, ⊕-below, ⊕-0, 0-⊕, reduced, ⊕_assoc}
use Rattle.shares.specs.Weights.{dot}

pub dot-below : (xs ys : List ℕ) → dot xs ys < p
unfolding dot
dot-below [] ys = lit< tt
dot-below (x ∷ xs) [] = lit< tt
dot-below (x ∷ xs) (y ∷ ys) = ⊕-below (x ⊗ y) (dot xs ys)

-- only as many numbers count as there are weights
pub dot-take : (xs ys : List ℕ) → dot xs (take (length xs) ys) ≡ dot xs ys
unfolding dot
dot-take [] ys = refl
dot-take (x ∷ xs) [] = refl
dot-take (x ∷ xs) (y ∷ ys) = ap (λ (d : ℕ). x ⊗ y ⊕ d) (dot-take xs ys)

pub dot_none : (xs ys : List ℕ) → 0 ⊕ dot xs ys ≡ dot xs ys
dot_none xs ys = 0-⊕ (dot xs ys) ∙ reduced (dot-below xs ys)

dot-cons : (x y : ℕ) (xs ys : List ℕ) → dot (x ∷ xs) (y ∷ ys) ≡ x ⊗ y ⊕ dot xs ys
unfolding dot
dot-cons x y xs ys = refl

pub dot_more : (a w x : ℕ) (ws ws' xs xs' : List ℕ) → ws ≡ w ∷ ws' → xs ≡ x ∷ xs' → a ⊕ w ⊗ x ⊕ dot ws' xs' ≡ a ⊕ dot ws xs
dot_more a w x ws ws' xs xs' ew ex = rw (ew, ex, dot-cons w x ws' xs') (⊕_assoc a (w ⊗ x) (dot ws' xs'))

pub dot_done : (a : ℕ) (ws xs : List ℕ) → a < p → (length ws ≡ 0) ⊎ (length xs ≡ 0) → a ⊕ dot ws xs ≡ a
unfolding dot
dot_done a [] xs lt e = ⊕-0 a ∙ reduced lt
dot_done a (w ∷ ws) [] lt e = ⊕-0 a ∙ reduced lt
dot_done a (w ∷ ws) (x ∷ xs) lt (inl e) = absurd (omega (arith, e))
dot_done a (w ∷ ws) (x ∷ xs) lt (inr e) = absurd (omega (arith, e))

pub dot_zeros : (ws xs : List ℕ) → dot ws (map (λ x. 0) xs) ≡ 0
unfolding dot
dot_zeros [] xs = refl
dot_zeros (w ∷ ws) [] = refl
dot_zeros (w ∷ ws) (x ∷ xs) = ap (λ (d : ℕ). w ⊗ 0 ⊕ d) (dot_zeros ws xs) ∙ omega arith

regrouped : (w c f g d e : ℕ) → w ⊗ (c ⊗ f ⊕ g) ⊕ (c ⊗ d ⊕ e) ≡ c ⊗ (w ⊗ f ⊕ d) ⊕ (w ⊗ g ⊕ e)
regrouped w c f g d e = simp ring

pub dot_linear : (c : ℕ) (f g : ℕ → ℕ) (ws xs : List ℕ) → dot ws (map (λ x. c ⊗ f x ⊕ g x) xs) ≡ c ⊗ dot ws (map f xs) ⊕ dot ws (map g xs)
unfolding dot
dot_linear c f g [] xs = omega arith
dot_linear c f g (w ∷ ws) [] = omega arith
dot_linear c f g (w ∷ ws) (x ∷ xs) =
    ap (λ (d : ℕ). w ⊗ (c ⊗ f x ⊕ g x) ⊕ d) (dot_linear c f g ws xs)
    ∙ regrouped w c (f x) (g x) (dot ws (map f xs)) (dot ws (map g xs))
