-- Values of sums and multiples of polynomials, and so of shares.
use Rattle.std.proofs.Common.{◌≡◌, ℕ, suc, List, [], ◌∷◌, map, length, sym, refl, ap, ◌∙◌, arith}
use mathlib.Core.List.{map-map}
use mathlib.Core.Path.{fun_ext}
use Rattle.field.specs.Field.{◌⊕◌, ◌⊗◌}
use Rattle.field.proofs.Ring.{ring, ⊗-0}
use Rattle.shares.specs.Circle.{members}
use Rattle.shares.specs.Laws.{Linearity}
use Rattle.shares.specs.Polynomial.{value, added, scaled}

sum_step : (c d x v w : ℕ) → c ⊕ d ⊕ x ⊗ (v ⊕ w) ≡ c ⊕ x ⊗ v ⊕ (d ⊕ x ⊗ w)
sum_step c d x v w = simp ring

multiple_step : (k c x v : ℕ) → k ⊗ c ⊕ x ⊗ (k ⊗ v) ≡ k ⊗ (c ⊕ x ⊗ v)
multiple_step k c x v = simp ring

pub value-added : (f g : List ℕ) (x : ℕ) → length g ≡ length f → value (added f g) x ≡ value f x ⊕ value g x
unfolding value added
value-added [] [] x e = refl
value-added [] (d ∷ g) x e = absurd (omega arith)
value-added (c ∷ f) [] x e = absurd (omega arith)
value-added (c ∷ f) (d ∷ g) x e =
    ap (λ (v : ℕ). c ⊕ d ⊕ x ⊗ v) (value-added f g x (omega arith)) ∙ sum_step c d x (value f x) (value g x)

pub value-scaled : (k : ℕ) (f : List ℕ) (x : ℕ) → value (scaled k f) x ≡ k ⊗ value f x
unfolding value
value-scaled k [] x = sym (⊗-0 k)
value-scaled k (c ∷ f) x = ap (λ (v : ℕ). k ⊗ c ⊕ x ⊗ v) (value-scaled k f x) ∙ multiple_step k c x (value f x)

pub added-map : (f g : ℕ → ℕ) (xs : List ℕ) → added (map f xs) (map g xs) ≡ map (λ x. f x ⊕ g x) xs
unfolding added
added-map f g [] = refl
added-map f g (x ∷ xs) = ap (λ (l : List ℕ). (f x ⊕ g x) ∷ l) (added-map f g xs)

added-cons : (x y : ℕ) (xs ys : List ℕ) → added (x ∷ xs) (y ∷ ys) ≡ (x ⊕ y) ∷ added xs ys
unfolding added
added-cons x y xs ys = refl

pub linearity : Linearity
linearity n v cs = record {
  sums = λ w ds e.
      ap (λ (h : ℕ → ℕ). map h (members n)) (fun_ext (λ (x : ℕ).
      ap (λ (f : List ℕ). value f x) (sym (added-cons v w cs ds)) ∙ value-added (v ∷ cs) (w ∷ ds) x (ap suc e)))
      ∙ sym (added-map (value (v ∷ cs)) (value (w ∷ ds)) (members n));
  multiples = λ k.
      ap (λ (h : ℕ → ℕ). map h (members n)) (fun_ext (value-scaled k (v ∷ cs)))
      ∙ sym (map-map (λ (x : ℕ). k ⊗ x) (value (v ∷ cs)) (members n));
}
