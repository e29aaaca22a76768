-- Rows of shares of a number: they lie on a polynomial of t + 1 coefficients whose constant is the number. Dealings,
-- sums, multiples and weighted sums of such rows are such rows, and a row joins to its number.
use Rattle.std.proofs.Common.{◌≡◌, ℕ, zero, suc, ◌+◌, ◌<◌, T, ltb, List, [], ◌∷◌, map, length, replicate, sym, refl, ap, ◌∙◌, subst, ap₂, arith, lit<, lt→ltb}
use mathlib.Core.Path.{fun_ext}
use Rattle.std.specs.List.{AllByRecursion as All}
use Rattle.std.proofs.lemmas.List.FromFn.{take-map-range_with_len}
use Rattle.std.proofs.lemmas.List.{length-map, length-replicate}
use Rattle.field.specs.Field.{p, ◌⊕◌, ◌⊗◌, below}
use Rattle.field.proofs.Below.{both_from}
use Rattle.field.proofs.Ring.{⊕-below, ⊗-below}
use Rattle.shares.specs.Circle.{Circle, m, Fits, members}
use Rattle.shares.specs.Polynomial.{value, share_of, added, scaled}
use Rattle.shares.specs.Weights.{weights, dot, joined}
use Rattle.shares.proofs.Linear.{value-added, value-scaled}
use Rattle.shares.proofs.Products.{products_join}
use Rattle.shares.proofs.Recombined.{recombine, value_at_0}
use Rattle.shares.proofs.Values.{value-below}

pub record Lies (z : Circle) (row : ℕ → ℕ) (v : ℕ) : Type 0 where
  pub coefficients : List ℕ
  pub count : length coefficients ≡ z.t + 1
  pub reduced : T (below coefficients)
  pub lies : (j : ℕ) → row j ≡ value coefficients j
  pub constant : value coefficients 0 ≡ v

length-added : (f g : List ℕ) → length g ≡ length f → length (added f g) ≡ length f
unfolding added
length-added [] g e = refl
length-added (c ∷ f) [] e = absurd (omega arith)
length-added (c ∷ f) (d ∷ g) e = ap suc (length-added f g (omega arith))

below-cons : (x : ℕ) (xs : List ℕ) → x < p → T (below xs) → T (below (x ∷ xs))
below-cons x xs lt t = both_from (ltb x p) (below xs) (lt→ltb x p lt) t

below-added : (f g : List ℕ) → T (below (added f g))
unfolding added
below-added [] g = tt
below-added (c ∷ f) [] = tt
below-added (c ∷ f) (d ∷ g) = below-cons (c ⊕ d) (added f g) (⊕-below c d) (below-added f g)

below-scaled : (k : ℕ) (f : List ℕ) → T (below (scaled k f))
below-scaled k [] = tt
below-scaled k (c ∷ f) = below-cons (k ⊗ c) (scaled k f) (⊗-below k c) (below-scaled k f)

below_zeros : (k : ℕ) → T (below (replicate k 0))
below_zeros zero = tt
below_zeros (suc k) = below-cons 0 (replicate k 0) (lit< tt) (below_zeros k)

pub value_zeros : (k x : ℕ) → value (replicate k 0) x ≡ 0
unfolding value
value_zeros zero x = refl
value_zeros (suc k) x = ap (λ (v : ℕ). 0 ⊕ x ⊗ v) (value_zeros k x) ∙ omega arith

module _ (z : Circle) where
  pub row_below : (f : ℕ → ℕ) (v : ℕ) → Lies z f v → (j : ℕ) → f j < p
  row_below f v h j = subst (λ (x : ℕ). x < p) (sym (h.lies j)) (value-below h.coefficients j)

  pub dealing-lies : (v : ℕ) (coins : List ℕ) → v < p → length coins ≡ z.t → T (below coins) → Lies z (share_of v coins) v
  dealing-lies v coins lt len t = record {
    coefficients = v ∷ coins;
    count = omega arith;
    reduced = below-cons v coins lt t;
    lies = λ j. refl;
    constant = value_at_0 v coins lt;
  }

  pub zeros_lie : Lies z (λ j. 0) 0
  zeros_lie = record {
    coefficients = replicate (z.t + 1) 0;
    count = length-replicate (z.t + 1) 0;
    reduced = below_zeros (z.t + 1);
    lies = λ j. sym (value_zeros (z.t + 1) j);
    constant = value_zeros (z.t + 1) 0;
  }

  pub sum_lies : (f g : ℕ → ℕ) (v w : ℕ) → Lies z f v → Lies z g w → Lies z (λ j. f j ⊕ g j) (v ⊕ w)
  sum_lies f g v w h k =
      let cs : List ℕ = h.coefficients in
      let ds : List ℕ = k.coefficients in
      let len : length ds ≡ length cs = k.count ∙ sym h.count in
      record {
        coefficients = added cs ds;
        count = length-added cs ds len ∙ h.count;
        reduced = below-added cs ds;
        lies = λ j. ap₂ (λ (x y : ℕ). x ⊕ y) (h.lies j) (k.lies j) ∙ sym (value-added cs ds j len);
        constant = value-added cs ds 0 len ∙ ap₂ (λ (x y : ℕ). x ⊕ y) h.constant k.constant;
      }

  pub multiple_lies : (c : ℕ) (f : ℕ → ℕ) (v : ℕ) → Lies z f v → Lies z (λ j. c ⊗ f j) (c ⊗ v)
  multiple_lies c f v h =
      let cs : List ℕ = h.coefficients in
      record {
        coefficients = scaled c cs;
        count = length-map cs (λ (x : ℕ). c ⊗ x) ∙ h.count;
        reduced = below-scaled c cs;
        lies = λ j. ap (λ (x : ℕ). c ⊗ x) (h.lies j) ∙ sym (value-scaled c cs j);
        constant = value-scaled c cs 0 ∙ ap (λ (x : ℕ). c ⊗ x) h.constant;
      }

  pub weighted_lies : (ws xs : List ℕ) (f : ℕ → ℕ → ℕ) (v : ℕ → ℕ) → All (λ i. Lies z (f i) (v i)) xs → Lies z (λ j. dot ws (map (λ i. f i j) xs)) (dot ws (map v xs))
  unfolding dot
  weighted_lies [] xs f v h = zeros_lie
  weighted_lies (w ∷ ws) [] f v h = zeros_lie
  weighted_lies (w ∷ ws) (x ∷ xs) f v h =
      sum_lies (λ j. w ⊗ f x j) (λ j. dot ws (map (λ i. f i j) xs)) (w ⊗ v x) (dot ws (map v xs)) (multiple_lies w (f x) (v x) h.0) (weighted_lies ws xs f v h.1)

  module _ (fits : Fits z) where
    -- only the first m count
    pub joined_first : (f : ℕ → ℕ) → joined (m z) (map f (members z.n)) ≡ dot (weights (m z)) (map f (members (m z)))
    joined_first f = ap (dot (weights (m z))) (take-map-range_with_len f 1 z.n (m z) fits.0)

    pub row_joins : (f : ℕ → ℕ) (v : ℕ) → Lies z f v → joined (m z) (map f (members z.n)) ≡ v
    row_joins f v h =
        joined_first f
        ∙ (ap (λ (g : ℕ → ℕ). dot (weights (m z)) (map g (members (m z)))) (fun_ext h.lies)
        ∙ (recombine (m z) (omega arith) h.coefficients (omega arith) ∙ h.constant))

    pub products_of_rows_join : (f g : ℕ → ℕ) (v w : ℕ) → Lies z f v → Lies z g w → dot (weights (m z)) (map (λ i. f i ⊗ g i) (members (m z))) ≡ v ⊗ w
    products_of_rows_join f g v w h k =
        ap (λ (e : ℕ → ℕ). dot (weights (m z)) (map e (members (m z)))) (fun_ext λ (i : ℕ). ap₂ (λ (x y : ℕ). x ⊗ y) (h.lies i) (k.lies i))
        ∙ (products_join (m z) (omega arith) h.coefficients k.coefficients (omega arith)
        ∙ ap₂ (λ (x y : ℕ). x ⊗ y) h.constant k.constant)
