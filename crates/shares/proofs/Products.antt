-- Products of two polynomials at the same points join to the product of the constants.
use Rattle.std.proofs.Common.{◌≡◌, ℕ, ◌+◌, ◌≤◌, List, [], ◌∷◌, map, length, sym, ap, ◌∙◌, ap₂, arith}
use mathlib.Core.Path.{fun_ext}
use Rattle.field.specs.Field.{◌⊕◌, ◌⊗◌}
use Rattle.field.proofs.Ring.{ring, 0-⊕, 0-⊗, ⊗_mod}
use Rattle.shares.specs.Circle.{members}
use Rattle.shares.specs.Polynomial.{value}
use Rattle.shares.specs.Weights.{weights, dot}
use Rattle.shares.proofs.Dots.{dot_zeros, dot_linear}
use Rattle.shares.proofs.Recombined.{recombine}
use Rattle.shares.proofs.Values.{value-cons}

-- x times a polynomial is the polynomial with 0 in front
value_raised : (g : List ℕ) (x : ℕ) → value (0 ∷ g) x ≡ x ⊗ value g x
value_raised g x = value-cons 0 g x ∙ (0-⊕ (x ⊗ value g x) ∙ ⊗_mod x (value g x))

spread : (c x v w : ℕ) → (c ⊕ x ⊗ v) ⊗ w ≡ c ⊗ w ⊕ v ⊗ (x ⊗ w)
spread c x v w = simp ring

product_cons : (c : ℕ) (f g : List ℕ) (x : ℕ) → value (c ∷ f) x ⊗ value g x ≡ c ⊗ value g x ⊕ value f x ⊗ value (0 ∷ g) x
product_cons c f g x =
    ap (λ (v : ℕ). v ⊗ value g x) (value-cons c f x)
    ∙ (spread c x (value f x) (value g x)
    ∙ ap (λ (v : ℕ). c ⊗ value g x ⊕ value f x ⊗ v) (sym (value_raised g x)))

pub products_join : (k : ℕ) → k ≤ 15 → (f g : List ℕ) → length f + length g ≤ k + 1 → dot (weights k) (map (λ x. value f x ⊗ value g x) (members k)) ≡ value f 0 ⊗ value g 0
unfolding value
products_join k le [] g len =
    ap (λ (h : ℕ → ℕ). dot (weights k) (map h (members k))) (fun_ext (λ (x : ℕ). 0-⊗ (value g x)))
    ∙ (dot_zeros (weights k) (members k) ∙ sym (0-⊗ (value g 0)))
products_join k le (c ∷ f) g len =
    ap (λ (h : ℕ → ℕ). dot (weights k) (map h (members k))) (fun_ext (product_cons c f g))
    ∙ (dot_linear c (value g) (λ x. value f x ⊗ value (0 ∷ g) x) (weights k) (members k)
    ∙ (ap₂ (λ (a b : ℕ). c ⊗ a ⊕ b) (recombine k le g (omega arith)) (products_join k le f (0 ∷ g) (omega arith))
    ∙ sym (product_cons c f g 0)))
