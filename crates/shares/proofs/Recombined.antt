-- The weights give back the constant. For each k up to 15 and each exponent e below k, the weighted sum of the
-- e-th powers of 1 to k is the e-th power of 0: one table that the checker computes. Linearity does the rest.
use Rattle.std.proofs.Common.{◌≡◌, ℕ, zero, suc, ◌+◌, ◌<◌, ◌≤◌, Bool, true, eqb, List, [], ◌∷◌, map, length, sym, refl, ap, ◌∙◌, ap₂, arith}
use mathlib.Core.Path.{fun_ext}
use Rattle.std.proofs.lemmas.List.FromFn.{take-map-range_with_len}
use Rattle.std.proofs.lemmas.Bool.{eqb-true}
use Rattle.field.specs.Field.{p, ◌⊕◌, ◌⊗◌}
use Rattle.field.proofs.Ring.{ring, reduced, 1-⊗, ⊕-0, 0-⊗, ⊗-0}
use Rattle.field.proofs.Table.{every_below, at_place}
use Rattle.shares.specs.Circle.{m, members}
use Rattle.shares.specs.Laws.{Recombine, Shared}
use Rattle.shares.specs.Polynomial.{value}
use Rattle.shares.specs.Weights.{weight_among, weights, dot}
use Rattle.shares.proofs.Dots.{dot_zeros, dot_linear}
use Rattle.shares.proofs.Values.{value-cons, value-below}

unfoldable power : ℕ → ℕ → ℕ
power zero x = 1
power (suc e) x = x ⊗ power e x

powers : ℕ → ℕ → List ℕ
powers e k = map (power e) (members k)

recombines : ℕ → ℕ → Bool
recombines k e = eqb (dot (weights k) (powers e k)) (power e 0)

table_right : every_below (λ k. every_below (recombines k) k) 16 ≡ true
unfolding recombines powers power weight_among dot
table_right = refl

powers_join : (k e : ℕ) → k ≤ 15 → e < k → dot (weights k) (map (power e) (members k)) ≡ power e 0
unfolding recombines powers
powers_join k e le lt =
    eqb-true (dot (weights k) (powers e k)) (power e 0)
    (at_place (recombines k) k (at_place (λ k. every_below (recombines k) k) 16 table_right k (omega arith)) e lt)

spread : (q c x v : ℕ) → q ⊗ (c ⊕ x ⊗ v) ≡ c ⊗ q ⊕ x ⊗ q ⊗ v
spread q c x v = simp ring

power_cons : (e c : ℕ) (f : List ℕ) (x : ℕ) → power e x ⊗ value (c ∷ f) x ≡ c ⊗ power e x ⊕ power (suc e) x ⊗ value f x
unfolding power
power_cons e c f x = ap (λ (v : ℕ). power e x ⊗ v) (value-cons c f x) ∙ spread (power e x) c x (value f x)

times_join : (k e : ℕ) (f : List ℕ) → k ≤ 15 → e + length f ≤ k → dot (weights k) (map (λ x. power e x ⊗ value f x) (members k)) ≡ power e 0 ⊗ value f 0
unfolding value
times_join k e [] le lt =
    ap (λ (h : ℕ → ℕ). dot (weights k) (map h (members k))) (fun_ext (λ (x : ℕ). ⊗-0 (power e x)))
    ∙ (dot_zeros (weights k) (members k) ∙ sym (⊗-0 (power e 0)))
times_join k e (c ∷ f) le lt =
    ap (λ (h : ℕ → ℕ). dot (weights k) (map h (members k))) (fun_ext (power_cons e c f))
    ∙ (dot_linear c (power e) (λ x. power (suc e) x ⊗ value f x) (weights k) (members k)
    ∙ (ap₂ (λ (a b : ℕ). c ⊗ a ⊕ b) (powers_join k e le (omega arith)) (times_join k (suc e) f le (omega arith))
    ∙ sym (power_cons e c f 0)))

power_none : (f : List ℕ) (x : ℕ) → power 0 x ⊗ value f x ≡ value f x
unfolding power
power_none f x = 1-⊗ (value f x) ∙ reduced (value-below f x)

pub recombine : Recombine
recombine k le f len =
    sym (ap (λ (h : ℕ → ℕ). dot (weights k) (map h (members k))) (fun_ext (power_none f)))
    ∙ (times_join k 0 f le (omega arith) ∙ power_none f 0)

pub value_at_0 : (v : ℕ) (f : List ℕ) → v < p → value (v ∷ f) 0 ≡ v
value_at_0 v f lt = value-cons v f 0 ∙ (ap (λ (x : ℕ). v ⊕ x) (0-⊗ (value f 0)) ∙ (⊕-0 v ∙ reduced lt))

pub shared : Shared
shared z fits v lt coins len =
    ap (dot (weights (m z))) (take-map-range_with_len (value (v ∷ coins)) 1 z.n (m z) fits.0)
    ∙ (recombine (m z) (omega arith) (v ∷ coins) (omega arith) ∙ value_at_0 v coins lt)
