-- The mask's coefficients, factor by factor.
use Rattle.std.proofs.Common.{◌≡◌, ℕ, zero, suc, ◌+◌, ◌-◌, ◌<◌, ◌≤◌, Bool, true, false, cond, List, [], ◌∷◌, get_or, replicate, filter, sym, refl, ap, ◌∙◌, subst, ap₂, arith}
use Rattle.std.proofs.lemmas.List.{get_or-replicate}
use Rattle.field.specs.Field.{p, ◌⊕◌, ◌⊗◌, neg, inv}
use Rattle.field.proofs.Ring.{plain, ⊕-below}
use Rattle.runs.specs.Pairing.{linear_product, mask}
use Rattle.runs.specs.Watching.{watches}
use Rattle.runs.proofs.Left.{from, from_more, from_all, watches_at}
use Rattle.masks.specs.Coefficients.{coefficient, Holds}

at_start : (k b : ℕ) → k ⊗ b ≡ 0 ⊕ k ⊗ b
at_start k b = simp plain

past_end : (k : ℕ) → 0 ≡ 0 ⊕ k ⊗ 0
past_end k = simp plain

-- each coefficient of the product, and zeros after the last
coefficient_times : (k b : ℕ) (f : List ℕ) (i : ℕ) → get_or (linear_product k b f) i 0 ≡ get_or f i 0 ⊕ k ⊗ get_or (b ∷ f) i 0
unfolding linear_product
coefficient_times k b [] zero = at_start k b
coefficient_times k b [] (suc i) = past_end k
coefficient_times k b (c ∷ f) zero = refl
coefficient_times k b (c ∷ f) (suc i) = coefficient_times k c f i

before_same : (xs f : List ℕ) → Holds xs f → (i : ℕ) → i < 8 → coefficient xs i ≡ coefficient f i
before_same xs f h zero lt = refl
before_same xs f h (suc i) lt = h i (omega arith)

-- all coefficients so far, each below p
pub record Masked (c : ℕ → Bool) (n i : ℕ) (xs : List ℕ) : Type 0 where
  pub small : (j : ℕ) → j < 8 → get_or xs j 0 < p
  pub holds : Holds xs (mask (filter c (from i n)))

one-small : (j : ℕ) → j < 8 → get_or {A = ℕ} (1 ∷ replicate 7 0) j 0 < p
one-small zero lt = omega arith
one-small (suc j) lt = let e = get_or-replicate {A = ℕ} 7 j 0 0 (omega arith) in omega (arith, e)

one_holds : Holds (1 ∷ replicate 7 0) (1 ∷ [])
one_holds zero lt = refl
one_holds (suc j) lt = get_or-replicate 7 j 0 0 (omega arith)

pub masked_none : (c : ℕ → Bool) (n i : ℕ) → n ≤ i → Masked c n i (1 ∷ replicate 7 0)
unfolding mask
masked_none c n i le = record {
  small = one-small;
  holds = subst (λ (ws : List ℕ). Holds (1 ∷ replicate 7 0) (mask (filter c ws))) (sym (from_all i n le)) one_holds;
}

taken : (b : Bool) (w : ℕ) (ws : List ℕ) → b ≡ true → cond b (w ∷ ws) ws ≡ w ∷ ws
taken b w ws e = ap (λ (x : Bool). cond x (w ∷ ws) ws) e

left : (b : Bool) (w : ℕ) (ws : List ℕ) → b ≡ false → cond b (w ∷ ws) ws ≡ ws
left b w ws e = ap (λ (x : Bool). cond x (w ∷ ws) ws) e

-- the loop counts down: member i is the next
module _ (flags : List Bool) (n at : ℕ) (some : 0 < at) (le : at ≤ n) where
  abbrev c : ℕ → Bool
  c = watches flags

  abbrev i : ℕ
  i = at - 1

  lt : i < n
  lt = omega arith

  here : at ≡ i + 1
  here = omega arith

  abbrev ws : List ℕ
  ws = filter c (from (i + 1) n)

  pub masked_skip : (xs : List ℕ) → get_or flags i false ≡ false → Masked c n at xs → Masked c n i xs
  masked_skip xs e h₀ =
      let h : Masked c n (i + 1) xs = subst (λ (k : ℕ). Masked c n k xs) here h₀ in
      let same : filter c (from i n) ≡ ws = ap (filter c) (from_more i n lt) ∙ left (c (i + 1)) (i + 1) ws (watches_at flags i ∙ e) in
      record { small = h.small; holds = subst (λ (vs : List ℕ). Holds xs (mask vs)) (sym same) h.holds }

  pub masked_more : (xs ys : List ℕ) (k : ℕ) → get_or flags i false ≡ true → k ≡ neg (inv at) → ((j : ℕ) → j < 8 → get_or ys j 0 ≡ get_or xs j 0 ⊕ k ⊗ coefficient xs j) → Masked c n at xs → Masked c n i ys
  unfolding mask
  masked_more xs ys k e is each h₀ =
      let h : Masked c n (i + 1) xs = subst (λ (k : ℕ). Masked c n k xs) here h₀ in
      let same : filter c (from i n) ≡ (i + 1) ∷ ws = ap (filter c) (from_more i n lt) ∙ taken (c (i + 1)) (i + 1) ws (watches_at flags i ∙ e) in
      let F : ℕ → ℕ → ℕ = λ a b. a ⊕ k ⊗ b in
      let product : Holds ys (linear_product k 0 (mask ws)) = λ j lj.
      each j lj ∙ (ap₂ F (h.holds j lj) (before_same xs (mask ws) h.holds j lj) ∙ sym (coefficient_times k 0 (mask ws) j)) in
      record {
        small = λ j lj. subst (λ (x : ℕ). x < p) (sym (each j lj)) (⊕-below (get_or xs j 0) (k ⊗ coefficient xs j));
        holds = subst (λ (vs : List ℕ). Holds ys (mask vs)) (sym same) (subst (λ (x : ℕ). Holds ys (linear_product x 0 (mask ws))) (is ∙ ap (λ (w : ℕ). neg (inv w)) here) product);
      }
