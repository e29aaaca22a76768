-- The weight of a member, one point after the other.
use Rattle.std.proofs.Common.{◌≡◌, ℕ, suc, ◌+◌, ◌-◌, ◌<◌, ◌≤◌, eqb, List, [], ◌∷◌, sym, ap, ◌∙◌, subst, arith, lit<}
use Rattle.std.specs.List.{range_with_len}
use Rattle.std.proofs.lemmas.Bool.{eq-eqb, ne_eqb, cond-true, cond-false, cond_both}
use Rattle.field.specs.Field.{p, ◌⊗◌}
use Rattle.field.proofs.Ring.{⊗_assoc, ⊗-1, 1-⊗, ⊗-below, reduced}
use Rattle.shares.specs.Circle.{members}
use Rattle.shares.specs.Weights.{ratio, weight_among}

pub weight_below : (ks : List ℕ) (i : ℕ) → weight_among ks i < p
unfolding weight_among
weight_below [] i = lit< tt
weight_below (k ∷ ks) i =
    cond_both (eqb k i) (weight_among ks i) (ratio i k ⊗ weight_among ks i) (λ w. w < p) (λ e. weight_below ks i) (λ e. ⊗-below (ratio i k) (weight_among ks i))

-- the points from k to m
abbrev pub from-to : ℕ → ℕ → List ℕ
from-to k m = range_with_len k (m + 1 - k)

from-to-cons : (k m : ℕ) → k < m + 1 → from-to k m ≡ k ∷ from-to (k + 1) m
from-to-cons k m lt =
    let e : m + 1 - k ≡ suc (m + 1 - (k + 1)) = omega arith in
    ap (range_with_len k) e

-- what the points from k on add to a weight w gives the weight of all
pub record Left (w k m i : ℕ) : Type 0 where
  pub small : w < p
  pub whole : w ⊗ weight_among (from-to k m) i ≡ weight_among (members m) i

pub left_none : (m i : ℕ) → Left 1 1 m i
left_none m i =
    let e : m + 1 - 1 ≡ m = omega arith in
    record {
      small = lit< tt;
      whole = 1-⊗ (weight_among (from-to 1 m) i) ∙ (reduced (weight_below (from-to 1 m) i) ∙ ap (λ (n : ℕ). weight_among (range_with_len 1 n) i) e);
    }

pub left_skip : (w k m i : ℕ) → k < m + 1 → k ≡ i → Left w k m i → Left w (k + 1) m i
unfolding weight_among
left_skip w k m i lt e h =
    let rest : ℕ = weight_among (from-to (k + 1) m) i in
    let same : w ⊗ weight_among (from-to k m) i ≡ w ⊗ rest =
    ap (λ (l : List ℕ). w ⊗ weight_among l i) (from-to-cons k m lt)
    ∙ ap (λ (x : ℕ). w ⊗ x) (cond-true (eqb k i) rest (ratio i k ⊗ rest) (eq-eqb k i e)) in
    record { small = h.small; whole = sym same ∙ h.whole }

pub left_more : (w v k m i : ℕ) → k < m + 1 → (k ≡ i → ⊥) → v ≡ w ⊗ ratio i k → Left w k m i → Left v (k + 1) m i
unfolding weight_among
left_more w v k m i lt ne e h =
    let rest : ℕ = weight_among (from-to (k + 1) m) i in
    let same : w ⊗ weight_among (from-to k m) i ≡ w ⊗ (ratio i k ⊗ rest) =
    ap (λ (l : List ℕ). w ⊗ weight_among l i) (from-to-cons k m lt)
    ∙ ap (λ (x : ℕ). w ⊗ x) (cond-false (eqb k i) rest (ratio i k ⊗ rest) (ne_eqb k i ne)) in
    record {
      small = subst (λ (x : ℕ). x < p) (sym e) (⊗-below w (ratio i k));
      whole = ap (λ (x : ℕ). x ⊗ rest) e ∙ (⊗_assoc w (ratio i k) rest ∙ (sym same ∙ h.whole));
    }

pub left_all : (w k m i : ℕ) → m + 1 ≤ k → Left w k m i → w ≡ weight_among (members m) i
unfolding weight_among
left_all w k m i le h =
    let e : m + 1 - k ≡ 0 = omega arith in
    sym (ap (λ (n : ℕ). w ⊗ weight_among (range_with_len k n) i) e ∙ (⊗-1 w ∙ reduced h.small)) ∙ h.whole
